-- What a create leaves, from what its calls do.
use Rattle.std.proofs.Common.{◌≡◌, inl, inr, ℕ, ◌≤◌, false, List, [], length, get_or, Option, Some, None, refl, sym, ap, subst, ◌∙◌, arith}
use Rattle.std.proofs.lemmas.List.{length-replicate}
use Rattle.qh_plan.specs.declared.verdict.Verdict.{Verdict}
use Rattle.qh_plan.specs.Jobs.{Job, IsJob, ranges}
use Rattle.qh_disk.specs.Disk.{Face, IsSafe, Reads}
use Rattle.qh_disk.specs.Moments.{EachImage, Lasts}
use Rattle.qh_disk.proofs.Moments.{runs_same, lasts_same, each_since_same}
use Rattle.qh_slots.specs.Stands.{Slots, slot_at, nones, Stands, Made, Holds}
use Rattle.qh_slots.specs.Attaching.{slots_of}
use Rattle.qh_slots.proofs.StandLemmas.{one_map, closed}
use Rattle.qh_slots.specs.Moments.{StandsFor}
use Rattle.qh_parts.specs.Sparing.{Spares}
use Rattle.qh_parts.specs.Laying.{IsUnbegun, IsFresh, Creates}
use Rattle.qh_parts.proofs.LayLemmas.{none_at}
use Rattle.qh_parts.proofs.WipeLemmas.{zero_unbegun}
use Rattle.qh_journal.specs.Calls.{IsCreated, IsJournal}

none_some : (v : Verdict) → None ≡ Some v → ⊥
none_some v e = cc

-- ---- a fresh file was made by runs of the job, and has no open slots
fresh_made : (j : Job) (f : List ℕ) → IsFresh j (nones j) f → Made j f
fresh_made j f (inl unbegun) = inl unbegun
fresh_made j f (inr stands) = inr (record { slots = nones j; stands = stands; true_slots = λ r v held. absurd (none_some v (sym (none_at j r) ∙ held)) })

fresh_slots : (j : Job) → IsJob j → (f : List ℕ) → IsFresh j (nones j) f → slots_of j f ≡ nones j
fresh_slots j is f (inl unbegun) = closed j f unbegun
fresh_slots j is f (inr stands) = one_map j is (nones j) f stands

-- ---- the moments of a create
empty_unbegun : (d : Face) → EachImage d (λ f. f ≡ []) → EachImage d IsUnbegun
empty_unbegun d empty c is = zero_unbegun c (ap (λ (l : List ℕ). get_or l 0 0) (empty c is))

creates_spares : (j : Job) (old new : Face) → Creates j (nones j) old new → EachImage old (λ f. f ≡ []) → Spares j old new
creates_spares j old new creates empty = record {
  runs = creates.runs;
  none = creates.none;
  begun = creates.begun (empty_unbegun old empty);
  stable = creates.stable (empty_unbegun old empty);
}

creates_made : (j : Job) (old new : Face) → Creates j (nones j) old new → EachImage old (λ f. f ≡ []) → Lasts (Made j) old new
creates_made j old new creates empty = record {
  each = λ t s low le most here c image. fresh_made j c (creates.since (empty_unbegun old empty) c (record { moment = s; after = omega arith; by_now = most; image = image }));
}

-- no call
pub creates_same : (j : Job) (d : Face) → Creates j (nones j) d d
creates_same j d = record {
  runs = runs_same d;
  none = lasts_same (λ _. ⊥) d;
  since = λ unbegun. each_since_same (IsFresh j (nones j)) d (λ c is. inl (unbegun c is));
  begun = λ unbegun. lasts_same (StandsFor j) d;
  stable = λ unbegun r v. lasts_same (Holds j r v) d;
}

pub empty_fresh : (j : Job) (d : Face) → Reads d (λ f. f ≡ []) → Reads d (IsFresh j (nones j))
empty_fresh j d empty f told = inl (zero_unbegun f (ap (λ (l : List ℕ). get_or l 0 0) (empty f told)))

pub is_created : {D : Type 0} (face : D → Face) (loans : D → List ℕ) (j : Job) (d e : D) → IsJob j → loans e ≡ loans d → Creates j (nones j) (face d) (face e) → Reads (face e) (IsFresh j (nones j)) → IsCreated face loans j d e
is_created face loans j d e is same creates fresh = record {
  same = same;
  runs = creates.runs;
  reads = λ f told. fresh_slots j is f (fresh f told);
  spares = creates_spares j (face d) (face e) creates;
  made = creates_made j (face d) (face e) creates;
}

some_is : {D : Type 0} (d e : D) → Some d ≡ Some e → d ≡ e
some_is d e same = cc

-- a journal that was just made
pub fresh_journal : {D : Type 0} (face : D → Face) (d : D) (j : Job) (t : Slots) → t ≡ nones j → IsSafe (face d) → Reads (face d) (Stands j (nones j)) → IsJournal face (record { disk = Some d; job = j; table = t; failed = false })
fresh_journal {D} face d j t is safe reads = record {
  count = ap (λ (l : Slots). length l) is ∙ length-replicate {A = Option Verdict} (ranges j) None;
  fits = record { each = λ r v held. absurd (closed r v held) };
  stable = λ e same r v held. absurd (closed r v held);
  safe = λ ready e same. subst (λ (x : D). IsSafe (face x)) (some_is d e same) safe;
  reads = λ ready e same. subst (λ (x : D). Reads (face x) (Stands j t)) (some_is d e same) (subst (λ (l : Slots). Reads (face d) (Stands j l)) (sym is) reads);
  unkept = λ e. refl;
}
  where
    closed : (r : ℕ) (v : Verdict) → slot_at t r ≡ Some v → ⊥
    closed r v held = none_some v (sym (none_at j r) ∙ ap (λ (l : Slots). slot_at l r) (sym is) ∙ held)
