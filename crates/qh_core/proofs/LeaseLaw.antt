-- The law of leases, over every list of events.
use Rattle.std.proofs.Common.{◌≡◌, ℕ, zero, suc, ◌≤◌, List, Option, Some, None, take, drop, get_or, replicate, refl, sym, ◌∙◌, subst}
use Rattle.std.specs.Prelude.{IfSome, slice_get}
use Rattle.std.proofs.lemmas.List.{take-append-drop}
use Rattle.std.proofs.lemmas.List.Sums.{fold-append}
use Rattle.qh_lease.specs.declared.lease.Lease.TheVariants.{Fresh, Acked}
use Rattle.qh_core.specs.declared.event.Event.{Event}
use Rattle.qh_core.specs.Machine.{start, next, after}
use Rattle.qh_core.specs.Law.{AckedAreStored, StoredStay, KeepsExactly, acknowledgements}
use Rattle.qh_core.proofs.Once.{at_most_once}
use Rattle.qh_core.proofs.Steps.{all_acked_are_stored, all_stored_stay, keeps_exactly}

get_or_replicate_same : {X : Type 0} (n i : ℕ) (x : X) → get_or (replicate n x) i x ≡ x
get_or_replicate_same zero i x = refl
get_or_replicate_same (suc n) zero x = refl
get_or_replicate_same (suc n) (suc i) x = get_or_replicate_same n i x

-- an acknowledged lease has a stored slot
pub acked_law : (ranges : ℕ) (events : List Event) → AckedAreStored (after ranges events)
acked_law ranges events =
    all_acked_are_stored events (start ranges) (λ range h. let no : Fresh ≡ Acked = sym (get_or_replicate_same ranges range Fresh) ∙ h in absurd cc)

-- a stored slot stays stored
pub stored_law : (ranges : ℕ) (events : List Event) (k : ℕ) → StoredStay (after ranges (take k events)) (after ranges events)
stored_law ranges events k =
    subst (λ all. StoredStay (after ranges (take k events)) (after ranges all)) (take-append-drop k events)
    (subst (StoredStay (after ranges (take k events))) (sym (fold-append next (start ranges) (take k events) (drop k events)))
    (all_stored_stay (drop k events) (after ranges (take k events))))

-- a range is acknowledged at most once
pub once_law : (ranges : ℕ) (events : List Event) (range : ℕ) → acknowledgements range (start ranges) events ≤ 1
once_law ranges events range = at_most_once range events (start ranges)

every_some : {X : Type 0} (P : X → Type 0) (o : Option X) → ((x : X) → P x) → IfSome o P
every_some P None h = tt
every_some P (Some x) h = h x

-- a crash or a start stores the kept slots, and no other
pub kept_law : (ranges : ℕ) (events : List Event) (k : ℕ) → IfSome (slice_get events k) (KeepsExactly (after ranges (take k events)))
kept_law ranges events k = every_some (KeepsExactly (after ranges (take k events))) (slice_get events k) (keeps_exactly (after ranges (take k events)))
