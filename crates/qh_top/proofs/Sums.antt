-- How the run of a job gives its sums, or stops.
use Rattle.std.proofs.Common.{◌≡◌, ◌≢◌, ◌⊎◌, ℕ, ◌<◌, ◌≤◌, inl, inr, true, false, Bool, List, [], length, Option, Some, None, Result, Ok, Err, is_some, is_none, IfSome, IsSome, IsSomeAnd, IfOk, OnOk, IfErr, if◌then◌else◌, refl, sym, ap, subst, ◌∙◌, arith}
use Rattle.std.specs.Prelude.{option_map}
use Rattle.std.specs.List.{count_by, range_with_len}
use Rattle.std.proofs.lemmas.Bool.{false≢true}
use Rattle.std.proofs.lemmas.Nat.{mul-le}
use Rattle.std.proofs.lemmas.List.FromFn.{length-range_with_len}
use Rattle.std.proofs.lemmas.List.Sums.{count_by-le-length}
use Rattle.qh_ring.specs.declared.number.Omega.{Omega}
use Rattle.qh_limits.specs.Counts.{RoseBy}
use Rattle.qh_plan.specs.declared.verdict.Verdict.{Verdict}
use Rattle.qh_plan.specs.declared.verdict.Verdict.TheVariants.{Sum, Over as PathOver}
use Rattle.qh_plan.specs.Jobs.{Job, IsJob, prefixes, roots, ranges, ranges_of}
use Rattle.qh_plan.specs.Verdicts.{total}
use Rattle.qh_plan.proofs.PlanLemmas.{counted_job}
use Rattle.qh_plan.specs.Values.{range_value, run_value}
use Rattle.qh_plan.proofs.SlotLemmas.{total_same}
use Rattle.qh_disk.specs.Disk.{Face}
use Rattle.qh_slots.specs.Stands.{Slots, slot_at, nones}
use Rattle.qh_slots.specs.Layout.{head}
use Rattle.qh_slots.specs.Attaching.{first_refusal, head_refusal, slots_of, slots_by}
use Rattle.qh_slots.specs.declared.fault.AttachFault.{AttachFault}
use Rattle.qh_slots.specs.declared.fault.AttachFault.TheVariants.{Empty}
use Rattle.qh_slots.specs.Record.{Keeping, counted, values, slots_before, slots_after, IsFull, count_bare}
use Rattle.qh_slots.specs.Refusing.{RefusesJournal}
use Rattle.qh_slots.specs.Keeps.{KeepsJournal, IsWhole}
use Rattle.qh_slots.proofs.StillLemmas.{value_at, no_slot, values_extend}
use Rattle.qh_migrate.specs.Faults.{attach_of}
use Rattle.qh_run.specs.Ends.{answer_of, IsBounded, AcceptsOld, MayEnd}
use Rattle.qh_run.specs.declared.ended.RunEnd.{RunEnd}
use Rattle.qh_run.specs.declared.ended.RunEnd.TheVariants.{Sums, Over as RunOver, Disk, OldDisk, Refused as RunRefused, OldRefused, Memory as RunMemory}
use Rattle.qh_words.specs.declared.options.Options.{Options}
use Rattle.qh_request.specs.Jobs.{keeping}
use Rattle.qh_request.specs.Request.{IsRun}
use Rattle.qh_request.specs.Refusals.{JournalRefuses}
use Rattle.qh_request.specs.Parts.{JobMayStop}
use Rattle.qh_top.specs.Parts.{StopsWith, IsPrintable}
use Rattle.qh_request.specs.declared.stop.Stop.{Stop}
use Rattle.qh_request.specs.declared.stop.JournalRefusal.{JournalRefusal}
use Rattle.qh_request.specs.declared.stop.JournalRefusal.TheVariants.{OfJournal, OfOld}

some_same : {X : Type 0} (o : Option X) (x y : X) → o ≡ Some x → o ≡ Some y → x ≡ y
some_same o x y e f = cc

-- ---- a run has a range
some_range : (j : Job) → IsJob j → 0 < ranges j
some_range j is = by j.prefix
  where
    by : (o : Option ℕ) → 0 < ranges_of j o
    by None = let c = counted_job j is in let m = mul-le 1 1 (prefixes j) (roots j) c.some_prefix c.some_root in omega arith
    by (Some w) = (counted_job j is).some_root

-- ---- without a journal
values_full : (j : Job) → IsFull j (values j)
values_full j r low = ap is_some (value_at j r low)

values_total : (j : Job) → total j (slot_at (values j)) ≡ run_value j
unfolding run_value
values_total j = total_same j (slot_at (values j)) (λ i. Some (range_value j i)) (λ r low. value_at j r low)

-- at most all ranges are bare
few_bare : (j : Job) (s : Slots) → count_bare j s ≤ ranges j
few_bare j s =
    let few = count_by-le-length (λ r. is_none (slot_at s r)) (range_with_len 0 (ranges j)) in
    let count = length-range_with_len 0 (ranges j) in
    omega (arith, few, count)

-- a count that rose by so many rose by fewer
pub rose_by_fewer : (m before now : ℕ) → RoseBy m before now → (n : ℕ) → n ≤ m → RoseBy n before now
rose_by_fewer m before now rose n few = omega (arith, rose, few)

-- nothing is said of grants
pub any_granted : {X : Type 0} (o : Option X) → IfSome o (λ x. Unit {0})
any_granted None = tt
any_granted (Some x) = tt

unkept_run_by : (fresh taking : Bool) (j : Job) (old disk : Face) (Granted : ℕ → Type 0) (v : Verdict) → v ≡ run_value j → ((n : ℕ) → n ≤ ranges j → Granted n)
    → IsRun (record { kept = false; fresh = fresh; taking = taking }) j old disk disk Granted v
unkept_run_by fresh taking j old disk Granted v e rose = record {
  whole = record {
    safe = λ kept. absurd (false≢true kept);
    recorded = (values_extend j, values_full j);
    slots = values j;
    ended = refl;
    full = values_full j;
    total_is = values_total j ∙ sym e;
    exact = λ begins. e;
  };
  accepted = by;
  granted = rose (count_bare j (nones j)) (few_bare j (nones j));
  unkept = λ off. e;
}
  where
    by : (r : JournalRefusal) → JournalRefuses (λ known P. IsSomeAnd known P) (record { kept = false; fresh = fresh; taking = taking }) j disk old r → ⊥
    by (OfJournal r) h = false≢true h.0
    by (OfOld r) h = false≢true h.0

pub unkept_run : {D : Type 0} (face : D → Face) (disk after : D) → after ≡ disk → (k : Keeping) (j : Job) (old : Face) (Granted : ℕ → Type 0) (a : Option Verdict) (v : Verdict)
    → k.kept ≡ false → a ≡ Some v → IfSome a (λ answer. answer ≡ run_value j) → (IsSome a → (n : ℕ) → n ≤ ranges j → Granted n)
    → IsRun k j old (face disk) (face after) Granted v
unkept_run face disk after same k j old Granted a v off e value rose =
    subst (λ d. IsRun k j old (face disk) (face d) Granted v) (sym same)
    (subst (λ b. IsRun (record { kept = b; fresh = k.fresh; taking = k.taking }) j old (face disk) (face disk) Granted v) (sym off)
    (unkept_run_by k.fresh k.taking j old (face disk) Granted v
    (subst (λ a. IfSome a (λ answer. answer ≡ run_value j)) e value) (rose (ap is_some e))))

-- ---- with a journal
-- a journal that is refused has no slots
refused_slots : (j : Job) (f : List ℕ) (r : AttachFault) → first_refusal j f ≡ Some r → slots_of j f ≡ nones j
unfolding slots_of
refused_slots j f r e = ap (λ (o : Option AttachFault). if is_none o then slots_by (head j) j f else nones j) e

first_empty : (j : Job) → first_refusal j [] ≡ Some Empty
unfolding first_refusal head_refusal
first_empty j = refl

told_by : (o : Option (List ℕ)) (P : List ℕ → Type 0) → IsSomeAnd o P → (f : List ℕ) × (o ≡ Some f) × P f
told_by None P h = absurd h
told_by (Some f) P h = (f, refl, h)

bare : (j : Job) → IsSome (slot_at (nones j) 0) → ⊥
bare j some = false≢true (sym (ap is_some (no_slot j 0)) ∙ some)

-- a whole record is of a journal that is not refused
whole_not_refused : (k : Keeping) (j : Job) (old disk after : Face) (v : Verdict) → IsJob j → k.kept ≡ true → KeepsJournal k j old disk after → IsWhole k j old disk after v
    → (r : AttachFault) → RefusesJournal (λ known P. IsSomeAnd known P) k j disk r → ⊥
whole_not_refused k j old disk after v is kept keeps whole r h = by k.fresh refl
  where
    by : (fresh : Bool) → k.fresh ≡ fresh → ⊥
    by true e =
        let t = told_by disk.content _ h.first in
        let none : counted k t.0 ≡ [] = ap (λ (b : Bool). if b then [] else t.0) e in
        t.2.1 (some_same (first_refusal j []) r Empty (sym (ap (first_refusal j) none) ∙ t.2.0) (first_empty j))
    by false e =
        let t = told_by disk.content _ h.first in
        let same : counted k t.0 ≡ t.0 = ap (λ (b : Bool). if b then [] else t.0) e in
        let reads : after.content ≡ Some t.0 = (keeps.refused r e h).content ∙ t.1 in
        let end : slots_after k j after ≡ Some (slots_of j t.0) =
        ap (λ (b : Bool). if b then option_map (slots_of j) after.content else Some (values j)) kept ∙ ap (option_map (slots_of j)) reads in
        let slots : whole.slots ≡ nones j =
        subst (λ o. IfSome o (λ s1. whole.slots ≡ s1)) end whole.ended ∙ refused_slots j t.0 r (sym (ap (first_refusal j) same) ∙ t.2.0) in
        bare j (subst (λ s. IsSome (slot_at s 0)) slots (whole.full 0 (some_range j is)))

kept_run_by : (k : Keeping) (j : Job) (old disk after : Face) (Granted : ℕ → Type 0) (a : Option Verdict) (v : Verdict) → IsJob j → k.kept ≡ true → a ≡ Some v
    → KeepsJournal k j old disk after → IfSome a (IsWhole k j old disk after) → (IsSome a → AcceptsOld k j old disk)
    → (IsSome a → IfSome (slots_before k j disk old) (λ s0. Granted (count_bare j s0))) → IsRun k j old disk after Granted v
kept_run_by k j old disk after Granted a v is kept e keeps whole accepted granted =
    let all = subst (λ a. IfSome a (IsWhole k j old disk after)) e whole in
    record {
      whole = all;
      accepted = by all;
      granted = granted (ap is_some e);
      unkept = λ off. absurd (false≢true (sym off ∙ kept));
    }
  where
    by : IsWhole k j old disk after v → (r : JournalRefusal) → JournalRefuses (λ known P. IsSomeAnd known P) k j disk old r → ⊥
    by all (OfJournal r) h = whole_not_refused k j old disk after v is kept keeps all r h.1
    by all (OfOld r) h = accepted (ap is_some e) (attach_of r) h.1

pub kept_run : (k l : Keeping) → k ≡ l → (j : Job) (old disk after : Face) (Granted : ℕ → Type 0) (a : Option Verdict) (v : Verdict) → IsJob j → k.kept ≡ true → a ≡ Some v
    → KeepsJournal k j old disk after → IfSome a (IsWhole k j old disk after) → (IsSome a → AcceptsOld k j old disk)
    → (IsSome a → IfSome (slots_before k j disk old) (λ s0. Granted (count_bare j s0))) → IsRun l j old disk after Granted v
kept_run k l same j old disk after Granted a v is kept e keeps whole accepted granted =
    subst (λ k. IsRun k j old disk after Granted v) same (kept_run_by k j old disk after Granted a v is kept e keeps whole accepted granted)

-- the options that ask for a journal
pub kept_keeping : (o : Options) (taking : Bool) → is_some o.journal ≡ true → taking ≡ is_some o.from → record { kept = true; fresh = o.fresh; taking = taking } ≡ keeping o
kept_keeping o taking kept taken =
    ap (λ (b : Bool). let k : Keeping = record { kept = true; fresh = o.fresh; taking = b } in k) taken
    ∙ ap (λ (b : Bool). let k : Keeping = record { kept = b; fresh = o.fresh; taking = is_some o.from } in k) (sym kept)

-- ---- sums that can be printed
pub printable : (j : Job) (a : Option Verdict) (s : List Omega) → a ≡ Some (Sum s) → IfSome a (IsBounded j) → IsPrintable j s
printable j a s e bounded = let b = subst (λ a. IfSome a (IsBounded j)) e bounded in record { count = b.0; within = b.1 }

-- ---- stops
no_end : (end : RunEnd) → IsSome (answer_of end) ⊎ (end ≡ RunMemory) → answer_of end ≡ None → (end ≡ RunMemory → ⊥) → ⊥
no_end end (inl some) none not = false≢true (sym (ap is_some none) ∙ some)
no_end end (inr e) none not = not e

module _ (k : Keeping) (j : Job) (old old_after disk after : Face) (Granted : ℕ → Type 0) where
  pub unkept_by : (end : RunEnd) (stop : Stop) → StopsWith end stop → IsSome (answer_of end) ⊎ (end ≡ RunMemory)
      → ((path : ℕ) → answer_of end ≡ Some (PathOver path) → IsRun k j old disk after Granted (PathOver path))
      → JobMayStop k j disk after old old_after Granted stop
  unkept_by (Sums sums) stop with_stop ends over = absurd with_stop
  unkept_by (RunOver path) stop with_stop ends over = subst (JobMayStop k j disk after old old_after Granted) (sym with_stop) (over path refl)
  unkept_by Disk stop with_stop ends over = absurd (no_end Disk ends refl (λ e. cc))
  unkept_by OldDisk stop with_stop ends over = absurd (no_end OldDisk ends refl (λ e. cc))
  unkept_by (RunRefused why) stop with_stop ends over = absurd (no_end (RunRefused why) ends refl (λ e. cc))
  unkept_by (OldRefused why) stop with_stop ends over = absurd (no_end (OldRefused why) ends refl (λ e. cc))
  unkept_by RunMemory stop with_stop ends over = subst (JobMayStop k j disk after old old_after Granted) (sym with_stop) tt

  kept_by : (end : RunEnd) (stop : Stop) → k.kept ≡ true → StopsWith end stop → MayEnd k j old old_after disk after end
      → ((path : ℕ) → answer_of end ≡ Some (PathOver path) → IsRun k j old disk after Granted (PathOver path))
      → JobMayStop k j disk after old old_after Granted stop
  kept_by (Sums sums) stop kept with_stop may over = absurd with_stop
  kept_by (RunOver path) stop kept with_stop may over = subst (JobMayStop k j disk after old old_after Granted) (sym with_stop) (over path refl)
  kept_by Disk stop kept with_stop may over = subst (JobMayStop k j disk after old old_after Granted) (sym with_stop) (kept, inl may)
  kept_by OldDisk stop kept with_stop may over = subst (JobMayStop k j disk after old old_after Granted) (sym with_stop) (kept, inr may)
  kept_by (RunRefused why) stop kept with_stop may over = subst (JobMayStop k j disk after old old_after Granted) (sym with_stop) ((kept, may.0), may.1)
  kept_by (OldRefused why) stop kept with_stop may over = subst (JobMayStop k j disk after old old_after Granted) (sym with_stop) ((kept, may.0), may.1)
  kept_by RunMemory stop kept with_stop may over = subst (JobMayStop k j disk after old old_after Granted) (sym with_stop) tt

pub kept_stop : (k l : Keeping) → k ≡ l → (j : Job) (old old_after disk after : Face) (Granted : ℕ → Type 0) (end : RunEnd) (stop : Stop) → k.kept ≡ true
    → StopsWith end stop → MayEnd k j old old_after disk after end
    → ((path : ℕ) → answer_of end ≡ Some (PathOver path) → IsRun k j old disk after Granted (PathOver path))
    → JobMayStop l j disk after old old_after Granted stop
kept_stop k l same j old old_after disk after Granted end stop kept with_stop may over =
    subst (λ k. JobMayStop k j disk after old old_after Granted stop) same
    (kept_by k j old old_after disk after Granted end stop kept with_stop may over)

-- ---- what holds of each value, and of each error
pub ok_of : {V E : Type 0} (r : Result V E) (P Q : V → Type 0) → IfOk r P → ((v : V) → P v → Q v) → IfOk r Q
ok_of (Ok v) P Q h f = f v h
ok_of (Err e) P Q h f = tt

pub on_ok : {V E : Type 0} (r : Result V E) (P Q : Type 0) → OnOk r P → (P → Q) → OnOk r Q
on_ok (Ok v) P Q h f = f h
on_ok (Err e) P Q h f = tt

pub err_of : {V E : Type 0} (r : Result V E) (P Q : E → Type 0) → IfErr r P → ((e : E) → P e → Q e) → IfErr r Q
err_of (Ok v) P Q h f = tt
err_of (Err e) P Q h f = f e h
