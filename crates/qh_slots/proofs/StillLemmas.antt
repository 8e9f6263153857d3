-- Where no call was made on a disk, what a run promises of it holds of any job.
use Rattle.std.proofs.Common.{◌≡◌, ◌≢◌, ℕ, ◌<◌, ◌≤◌, ◌⊎◌, inl, inr, Bool, true, false, List, [], ◌∷◌, length, map, Option, Some, None, refl, arith, sym, ap, subst, ◌∙◌, get_or}
use Rattle.std.specs.Prelude.{IfSome, IsSomeAnd, option_map, option_and_then, if◌then◌else◌}
use Rattle.std.specs.List.{range_with_len}
use Rattle.std.proofs.lemmas.Bool.{cases_lt}
use Rattle.std.proofs.lemmas.List.{length-replicate, get_or-replicate, get_or_past}
use Rattle.std.proofs.lemmas.List.FromFn.{get_or-map-range_with_len, length-map-range_with_len}
use Rattle.qh_plan.specs.declared.verdict.Verdict.{Verdict}
use Rattle.qh_plan.specs.Jobs.{Job, ranges}
use Rattle.qh_plan.specs.Values.{range_value}
use Rattle.qh_disk.specs.Disk.{Face, IsImage}
use Rattle.qh_disk.specs.Moments.{EachImageAt, EachImageSince, IsImageSince}
use Rattle.qh_disk.proofs.Moments.{runs_same}
use Rattle.qh_slots.specs.Layout.{mark}
use Rattle.qh_slots.specs.Stands.{Slots, slot_at, nones, Made, Holds}
use Rattle.qh_slots.specs.Attaching.{slots_of, slots1_of}
use Rattle.qh_slots.proofs.StandLemmas.{closed}
use Rattle.qh_slots.specs.Record.{Keeping, given, taken_over, counted, values, Extends, Migrates, Grows, IfTold, slots_before, slots_after, IsBare}
use Rattle.qh_slots.specs.Moments.{IsUnwritten, IsReadOnly, IsOldOrGoesOn, StaysStable}
use Rattle.qh_slots.specs.Keeps.{KeepsJournal}

-- ---- moments
-- an image since now is one now
image_now : (d : Face) (c : List ℕ) → IsImageSince d.clock d c → IsImage d c
image_now d c is =
    let now : is.moment ≡ d.clock = omega (arith, is.after, is.by_now) in
    subst (λ t. d.images_at t c) now is.image

pub unwritten_same : (d : Face) → IsUnwritten d d
unwritten_same d = record { content = refl; images = image_now d }

pub read_only_same : (d : Face) → IsReadOnly d d
read_only_same d = record {
  unwritten = unwritten_same d;
  kept = λ t c low high is. let now : d.clock ≡ t = omega (arith, low, high) in subst (λ t. d.images_at t c) now is;
}

stable_same : (j : Job) (t : ℕ) (d : Face) → d.clock ≤ t → StaysStable j t d
stable_same j t d late r v before now low on high each =
    let same : before ≡ now = omega (arith, late, low, on, high) in
    subst (λ s. EachImageAt s d (Holds j r v)) same each

-- ---- slots
pub no_slot : (j : Job) (r : ℕ) → slot_at (nones j) r ≡ None
no_slot j r = elim (cases_lt r (ranges j)) [
  | inl low ↦ get_or-replicate (ranges j) r None None low
  | inr past ↦ get_or_past (nones j) r None (let n = length-replicate {A = Option Verdict} (ranges j) None in omega arith)
]

some_none : {X : Type 0} (o : Option X) (x : X) → o ≡ Some x → o ≡ None → ⊥
some_none o x e f = cc

some_same : {X : Type 0} (x y : X) → Some x ≡ Some y → x ≡ y
some_same x y e = cc

pub value_at : (j : Job) (r : ℕ) → r < ranges j → slot_at (values j) r ≡ Some (range_value j r)
value_at j r low = get_or-map-range_with_len (λ r. Some (range_value j r)) 0 (ranges j) r r None low (omega arith)

extends_same : (j : Job) (s : Slots) → Extends j s s
extends_same j s = record { kept = λ r v e. e; added = λ r v no here. absurd (some_none (slot_at s r) v here no) }

-- the values go on from no slots
pub values_extend : (j : Job) → Extends j (nones j) (values j)
values_extend j = record { kept = λ r v e. absurd (some_none _ v e (no_slot j r)); added = λ r v no here. by r v here (cases_lt r (ranges j)) }
  where
    by : (r : ℕ) (v : Verdict) → slot_at (values j) r ≡ Some v → (r < ranges j) ⊎ (ranges j ≤ r) → v ≡ range_value j r
    by r v here (inl low) = some_same v (range_value j r) (sym here ∙ value_at j r low)
    by r v here (inr past) =
        let n = length-map-range_with_len (λ r. Some (range_value j r)) 0 (ranges j) in
        absurd (some_none (slot_at (values j) r) v here (get_or_past (values j) r None (omega arith)))

-- the empty file has no slot
empty_slots : (j : Job) → slots_of j [] ≡ nones j
empty_slots j = closed j [] (λ e. absurd (zero_mark e))
  where
    zero_mark : ◌≡◌ {A = ℕ} 0 mark → ⊥
    zero_mark e = omega arith

-- ---- the record of a journal that reads as before
told_grows : (k : Keeping) (j : Job) (disk : Face) (f : List ℕ) (old : Option (List ℕ)) → k.fresh ≡ false → disk.content ≡ Some f
    → IfSome (given k j (counted k f) old) (λ s0. Grows k j disk s0 (slots_of j f))
told_grows k j disk f old stale told = subst (λ g. IfSome (given k j g old) (λ s0. Grows k j disk s0 (slots_of j f))) (sym same) (by f refl)
  where
    same : counted k f ≡ f
    same = ap (λ (b : Bool). if b then [] else f) stale

    bare : f ≡ [] → IsBare (slots_of j f)
    bare e = subst IsBare (sym (ap (slots_of j) e ∙ empty_slots j)) (no_slot j)

    counts : f ≡ [] → IsSomeAnd disk.content (λ f. counted k f ≡ [])
    counts e = subst (λ c. IsSomeAnd c (λ f. counted k f ≡ [])) (sym told) (same ∙ e)

    by_old : (o : Option Slots) → f ≡ [] → k.taking ≡ true → IfSome o (λ s0. Grows k j disk s0 (slots_of j f))
    by_old None e t = tt
    by_old (Some s0) e t = inr ((t, counts e), bare e)

    by_taking : (taking : Bool) → k.taking ≡ taking → f ≡ []
        → IfSome (if taking then option_map (slots1_of j) old else Some (nones j)) (λ s0. Grows k j disk s0 (slots_of j f))
    by_taking true t e = by_old (option_map (slots1_of j) old) e t
    by_taking false t e = inl (subst (λ s. Extends j (nones j) s) (sym (ap (slots_of j) e ∙ empty_slots j)) (extends_same j (nones j)))

    by : (g : List ℕ) → f ≡ g → IfSome (given k j g old) (λ s0. Grows k j disk s0 (slots_of j f))
    by [] e = by_taking k.taking refl e
    by (b ∷ bs) e = inl (subst (λ g. Extends j (slots_of j g) (slots_of j f)) e (extends_same j (slots_of j f)))

still_grows : (k : Keeping) (j : Job) (disk old : Face) → k.fresh ≡ false → IfTold k j disk old disk (Grows k j disk)
still_grows k j disk old stale = by_kept k.kept
  where
    flip : (o : Option Slots) (s1 : Slots) → IfSome o (λ s0. Grows k j disk s0 s1) → IfSome o (λ s0. IfSome (Some s1) (λ s1. Grows k j disk s0 s1))
    flip None s1 h = tt
    flip (Some s0) s1 h = h

    by_content : (c : Option (List ℕ)) → disk.content ≡ c
        → IfSome (option_and_then (λ f. given k j (counted k f) old.content) c) (λ s0. IfSome (option_map (slots_of j) c) (λ s1. Grows k j disk s0 s1))
    by_content None told = tt
    by_content (Some f) told = flip (given k j (counted k f) old.content) (slots_of j f) (told_grows k j disk f old.content stale told)

    by_kept : (kept : Bool)
        → IfSome (if kept then option_and_then (λ f. given k j (counted k f) old.content) disk.content else Some (nones j))
        (λ s0. IfSome (if kept then option_map (slots_of j) disk.content else Some (values j)) (λ s1. Grows k j disk s0 s1))
    by_kept true = by_content disk.content refl
    by_kept false = inl (values_extend j)

-- ---- all of it
pub still_keeps : (k : Keeping) (j : Job) (old disk : Face) → KeepsJournal k j old disk disk
still_keeps k j old disk = record {
  runs = runs_same disk;
  made = λ made c is. made.journal c (image_now disk c is);
  renewed = λ fresh made c is. inl (image_now disk c is);
  begun = λ counts. begun_by (taken_over k j old.content);
  stable = λ fresh i is. stable_same i disk.clock disk (omega arith);
  stable_new = λ t late empty. stable_same j t disk late;
  grows = λ stale. still_grows k j disk old stale;
  finished = λ stale finished. unwritten_same disk;
  refused = λ r stale refused. unwritten_same disk;
  old_refused = λ r stale refused. unwritten_same disk;
}
  where
    begun_by : (o : Option Slots) → IfSome o (λ before. EachImageSince disk.clock disk (IsOldOrGoesOn j before disk))
    begun_by None = tt
    begun_by (Some s0) = λ c is. inl (image_now disk c is)
