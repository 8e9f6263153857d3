-- The counts of a history with one more entry.
use Rattle.std.proofs.Common.{◌≡◌, ◌+◌, Bool, cond, List, [], ◌∷◌, ◌++◌}
use Rattle.std.specs.Prelude.{count_by}
use Rattle.std.proofs.lemmas.List.Sums.{sum_by-append}
use Rattle.qh_lease.specs.Tally.{together}
use Rattle.qh_core.specs.declared.noted.Noted.{Noted}
use Rattle.qh_core.specs.Noted.{is_grant, is_back, is_ack, counted}

count_by-push : (test : Noted → Bool) (history : List Noted) (note : Noted)
    → count_by test (history ++ note ∷ []) ≡ count_by test history + count_by test (note ∷ [])
count_by-push test history note = sum_by-append (λ x. cond (test x) 1 0) history (note ∷ [])

-- a history with one more entry counts what both count together
pub counted-push : (history : List Noted) (note : Noted) → counted (history ++ note ∷ []) ≡ together (counted history) (counted (note ∷ []))
counted-push history note = λ i. record {
  grants = count_by-push is_grant history note i;
  backs = count_by-push is_back history note i;
  acks = count_by-push is_ack history note i;
}
