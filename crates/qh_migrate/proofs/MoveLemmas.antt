-- Why a migration stops, and what it leaves.
use Rattle.std.proofs.Common.{◌≡◌, ◌<◌, inl, inr, ℕ, Bool, true, false, List, [], ◌∷◌, length, take, get_or, Option, Some, None, Result, Ok, Err, refl, sym, ap, subst, ◌∙◌, arith}
use Rattle.std.specs.Prelude.{if◌then◌else◌, IfOk, IfErr}
use Rattle.std.proofs.Math.Path.{ap₂}
use Rattle.qh_limits.proofs.Chains.{rose_before}
use Rattle.qh_plan.specs.declared.verdict.Verdict.{Verdict}
use Rattle.qh_plan.specs.Jobs.{Job, IsJob, ranges}
use Rattle.qh_disk.specs.Disk.{Face, IsSafe, IsImage, Reads}
use Rattle.qh_disk.specs.Looks.{Looks}
use Rattle.qh_disk.specs.Moments.{EachImage, EachImageSince, Runs, Lasts}
use Rattle.qh_disk.proofs.Moments.{runs_same, lasts_same, each_since_same, safe_each}
use Rattle.qh_disk.proofs.Looking.{looks_read}
use Rattle.qh_slots.specs.Layout.{old_head, place}
use Rattle.qh_slots.specs.Stands.{Slots, slot_at, nones, AreTrue, Stands, Stands1, Made, Made1, Holds}
use Rattle.qh_slots.specs.Attaching.{first_bad, first_refusal1, old_head_refusal, or_bad, slots1_of, Passes}
use Rattle.qh_slots.specs.declared.fault.AttachFault.{AttachFault}
use Rattle.qh_slots.specs.declared.fault.AttachFault.TheVariants.{DiskFault, Empty, Unbegun, OldJournal, NotAJournal, OtherJob, BadLength, BadSlot, Memory}
use Rattle.qh_slots.proofs.StandLemmas.{old_head_size, old_passes, old_refusal_taken, refused_early1, refused_slot1, one_map1, closed1}
use Rattle.qh_parts.specs.Reading.{FrontMayFail, SlotsMayFail}
use Rattle.qh_parts.specs.Laying.{IsUnbegun, IsFresh, Creates}
use Rattle.qh_parts.proofs.WipeLemmas.{zero_unbegun}
use Rattle.qh_parts.proofs.PartLemmas.{spares_same}
use Rattle.qh_parts.proofs.LayLemmas.{none_at}
use Rattle.qh_migrate.specs.Moving.{OldMayFail, MigrateMayFail, Leaves}
use Rattle.qh_migrate.specs.Faults.{migrate_of}
use Rattle.qh_migrate.specs.declared.fault.MigrateFault.{MigrateFault}

-- ---- what holds of a result
pub err_on : {T : Type 0} (result : Result T AttachFault) (A B : AttachFault → Type 0) → ((u : AttachFault) → A u → B u) → IfErr result A → IfErr result B
err_on (Ok x) A B f a = a
err_on (Err u) A B f a = f u a

pub ok_on : {T : Type 0} (result : Result T AttachFault) (A B : T → Type 0) → ((x : T) → A x → B x) → IfOk result A → IfOk result B
ok_on (Ok x) A B f a = f x a
ok_on (Err u) A B f a = a

-- ---- the refusals before the slots
OfHead : AttachFault → Type 0
OfHead DiskFault = ⊥
OfHead Memory = ⊥
OfHead OldJournal = ⊥
OfHead Empty = Unit {0}
OfHead Unbegun = Unit {0}
OfHead NotAJournal = Unit {0}
OfHead (OtherJob k) = Unit {0}
OfHead (BadLength k) = Unit {0}
OfHead (BadSlot k) = Unit {0}

step : (b : Bool) (x y : AttachFault) (o : Option AttachFault) → OfHead x → (o ≡ Some y → OfHead y) → (if b then Some x else o) ≡ Some y → OfHead y
step true x y o here later e = subst OfHead (let s : x ≡ y = cc in s) here
step false x y o here later e = later e

of_head : (h : List ℕ) (size count : ℕ) (front : List ℕ) (y : AttachFault) → old_head_refusal h size count front ≡ Some y → OfHead y
unfolding old_head_refusal OfHead
of_head h size count front y =
    step _ Empty y _ tt (step _ Unbegun y _ tt (step _ NotAJournal y _ tt (step _ (OtherJob _) y _ tt (step _ (BadLength _) y _ tt (λ e. absurd (none e))))))
  where
    none : None ≡ Some y → ⊥
    none e = cc

may_fail : (j : Job) (fault : AttachFault) (old new : Face) → OfHead fault → Reads old (λ f. first_refusal1 j f ≡ Some fault) → OldMayFail j fault old new
unfolding OfHead
may_fail j DiskFault old new of is = absurd of
may_fail j Memory old new of is = absurd of
may_fail j OldJournal old new of is = absurd of
may_fail j Empty old new of is = is
may_fail j Unbegun old new of is = is
may_fail j NotAJournal old new of is = is
may_fail j (OtherJob k) old new of is = is
may_fail j (BadLength k) old new of is = is
may_fail j (BadSlot k) old new of is = is

-- what is read before the slots
pub record IsFront (j : Job) (count : ℕ) (front f : List ℕ) : Type 0 where
  pub long : count ≡ length f
  pub read : front ≡ take (length (old_head j)) f

refusal_read : (j : Job) (size count : ℕ) (front f : List ℕ) → IsFront j count front f → old_head_refusal (old_head j) size count front ≡ old_head_refusal (old_head j) size (length f) f
refusal_read j size count front f is =
    ap₂ (λ (n : ℕ) (l : List ℕ). old_head_refusal (old_head j) size n l) is.long is.read ∙ old_refusal_taken (old_head j) size (length f) f (let s = old_head_size j in omega arith)

pub head_fault : (j : Job) (count : ℕ) (front : List ℕ) (fault : AttachFault) (old new : Face) → old_head_refusal (old_head j) (place (old_head j) j (ranges j)) count front ≡ Some fault → Reads old (IsFront j count front) → OldMayFail j fault old new
head_fault j count front fault old new e reads = may_fail j fault old new (of_head (old_head j) (place (old_head j) j (ranges j)) count front fault e)
    (λ f told. refused_early1 j f fault (sym (refusal_read j (place (old_head j) j (ranges j)) count front f (reads f told)) ∙ e))

pub head_pass : (j : Job) (count : ℕ) (front : List ℕ) (d : Face) → old_head_refusal (old_head j) (place (old_head j) j (ranges j)) count front ≡ None → Reads d (IsFront j count front) → Reads d (Passes (old_head j) (place (old_head j) j (ranges j)))
head_pass j count front d e reads f told = old_passes (old_head j) (place (old_head j) j (ranges j)) f (sym (refusal_read j (place (old_head j) j (ranges j)) count front f (reads f told)) ∙ e)

-- ---- why the parts stop
pub front_fault : (j : Job) (fault : AttachFault) (old mid new : Face) → Looks old mid → FrontMayFail fault mid new → OldMayFail j fault old new
front_fault j DiskFault old mid new first why = rose_before old.faults mid.faults new.faults first.runs.faults why
front_fault j Memory old mid new first why = why
front_fault j Empty old mid new first why = absurd why
front_fault j Unbegun old mid new first why = absurd why
front_fault j OldJournal old mid new first why = absurd why
front_fault j NotAJournal old mid new first why = absurd why
front_fault j (OtherJob k) old mid new first why = absurd why
front_fault j (BadLength k) old mid new first why = absurd why
front_fault j (BadSlot k) old mid new first why = absurd why

pub slots_fault : (j : Job) (fault : AttachFault) (old mid new : Face) → Looks old mid → Reads mid (Passes (old_head j) (place (old_head j) j (ranges j))) → SlotsMayFail (old_head j) j fault mid new → OldMayFail j fault old new
slots_fault j DiskFault old mid new first pass why = rose_before old.faults mid.faults new.faults first.runs.faults why
slots_fault j Memory old mid new first pass why = tt
slots_fault j Empty old mid new first pass why = absurd (let e = why.1 in cc)
slots_fault j Unbegun old mid new first pass why = absurd (let e = why.1 in cc)
slots_fault j OldJournal old mid new first pass why = absurd (let e = why.1 in cc)
slots_fault j NotAJournal old mid new first pass why = absurd (let e = why.1 in cc)
slots_fault j (OtherJob k) old mid new first pass why = absurd (let e = why.1 in cc)
slots_fault j (BadLength k) old mid new first pass why = absurd (let e = why.1 in cc)
slots_fault j (BadSlot k) old mid new first pass why =
    let same : why.0 ≡ k = (let e = why.1 in cc) in
    subst (λ (n : ℕ). Reads old (λ f. first_refusal1 j f ≡ Some (BadSlot n))) same
    (looks_read (λ f. first_refusal1 j f ≡ Some (BadSlot why.0)) old mid first (λ f told. refused_slot1 j f why.0 (pass f told) (why.2 f told)))

-- an old journal is never refused as one
bad_of : (bad : Option ℕ) (y : AttachFault) → or_bad None bad ≡ Some y → OfHead y
unfolding OfHead
bad_of None y e = absurd cc
bad_of (Some r) y e = subst OfHead (let s : BadSlot r ≡ y = cc in s) tt

any_of : (o : Option AttachFault) (bad : Option ℕ) (y : AttachFault) → (o ≡ Some y → OfHead y) → or_bad o bad ≡ Some y → OfHead y
any_of None bad y of e = bad_of bad y e
any_of (Some x) bad y of e = of e

refused_of : (j : Job) (f : List ℕ) (y : AttachFault) → first_refusal1 j f ≡ Some y → OfHead y
unfolding first_refusal1
refused_of j f y e = any_of (old_head_refusal (old_head j) (place (old_head j) j (ranges j)) (length f) f) (first_bad (old_head j) j f) y
    (of_head (old_head j) (place (old_head j) j (ranges j)) (length f) f y) e

never_old : (j : Job) (f : List ℕ) → first_refusal1 j f ≡ Some OldJournal → ⊥
unfolding OfHead
never_old j f e = refused_of j f OldJournal e

pub migrate_fault : {F D : Type 0} (old : F → Face) (new : D → Face) (j : Job) (fault : AttachFault) (f g : F) (d : D) → OldMayFail j fault (old f) (old g) → MigrateMayFail old new j (migrate_of fault) f g d d
migrate_fault old new j DiskFault f g d why = (why, refl)
migrate_fault old new j Memory f g d why = refl
migrate_fault old new j Empty f g d why = (why, refl)
migrate_fault old new j Unbegun f g d why = (why, refl)
migrate_fault old new j OldJournal f g d why = ((λ c told. absurd (never_old j c (why c told))), refl)
migrate_fault old new j NotAJournal f g d why = (why, refl)
migrate_fault old new j (OtherJob k) f g d why = (why, refl)
migrate_fault old new j (BadLength k) f g d why = (why, refl)
migrate_fault old new j (BadSlot k) f g d why = (why, refl)

-- ---- what is left
pub empty_unbegun : (d : Face) → EachImage d (λ f. f ≡ []) → EachImage d IsUnbegun
empty_unbegun d empty c is = zero_unbegun c (ap (λ (l : List ℕ). get_or l 0 0) (empty c is))

pub empty_reads : (d : Face) → Reads d (IsImage d) → EachImage d (λ f. f ≡ []) → Reads d (λ f. f ≡ [])
empty_reads d current empty f told = empty f (current f told)

-- no call
told_slots : Job → Option (List ℕ) → Slots
told_slots j None = nones j
told_slots j (Some f) = slots1_of j f

told_is : (j : Job) (o : Option (List ℕ)) (f : List ℕ) → o ≡ Some f → slots1_of j f ≡ told_slots j o
unfolding told_slots
told_is j None f e = absurd cc
told_is j (Some g) f e = ap (slots1_of j) (let s : f ≡ g = cc in s)

pub leaves_same : (j : Job) (was d : Face) → Reads d (IsImage d) → EachImage d (λ f. f ≡ []) → Leaves j was d d
leaves_same j was d current empty = record {
  slots = told_slots j was.content;
  are_old = λ f told. told_is j was.content f told;
  since = each_since_same (IsFresh j (told_slots j was.content)) d (λ c is. inl (empty_unbegun d empty c is));
  spares = spares_same j d;
  reads = λ f told. inl (empty_unbegun d empty f (current f told));
}

pub leaves_created : (j : Job) → IsJob j → (table : Slots) (was old new : Face) → Reads was (Stands1 j table) → EachImage old (λ f. f ≡ []) → Creates j table old new → Reads new (IsFresh j table) → Leaves j was old new
leaves_created j is table was old new stood empty creates fresh = record {
  slots = table;
  are_old = λ f told. one_map1 j is table f (stood f told);
  since = creates.since (empty_unbegun old empty);
  spares = record {
    runs = creates.runs;
    none = creates.none;
    begun = creates.begun (empty_unbegun old empty);
    stable = creates.stable (empty_unbegun old empty);
  };
  reads = fresh;
}

none_some : (v : Verdict) → None ≡ Some v → ⊥
none_some v e = cc

-- what runs of the job made in the old file, they made in the new one
true_slots : (j : Job) → IsJob j → (f : List ℕ) → Made1 j f → AreTrue j (slots1_of j f)
true_slots j is f (inl unbegun) r v held = absurd (none_some v (sym (none_at j r) ∙ ap (λ (s : Slots). slot_at s r) (sym (closed1 j f unbegun)) ∙ held))
true_slots j is f (inr stands) r v held = stands.true_slots r v (ap (λ (s : Slots). slot_at s r) (sym (one_map1 j is stands.slots f stands.stands)) ∙ held)

pub leaves_made : (j : Job) → IsJob j → (was old new : Face) → Leaves j was old new → (f : List ℕ) → was.content ≡ Some f → Made1 j f → EachImageSince old.clock new (Made j)
leaves_made j is was old new leaves f told made c image = made_fresh (leaves.since c image)
  where
    made_fresh : IsFresh j leaves.slots c → Made j c
    made_fresh (inl unbegun) = inl unbegun
    made_fresh (inr stands) = inr (record {
      slots = leaves.slots;
      stands = stands;
      true_slots = λ r v held. true_slots j is f made r v (ap (λ (s : Slots). slot_at s r) (leaves.are_old f told) ∙ held);
    })
