-- The results of a group.
use Rattle.std.proofs.Common.{◌≡◌, ◌<◌, ◌≤◌, ℕ, List, [], ◌∷◌, ◌++◌, length, get_or, Option, Some, None, refl, ap, arith}
use Rattle.std.specs.Prelude.{remove}
use Rattle.qh_range.specs.Results.{RangeResult}
use Rattle.qh_board.specs.Groups.{results_in, AreResults}

pub results_in-push : (places : List (Option RangeResult)) (r : RangeResult) → results_in (places ++ Some r ∷ []) ≡ results_in places ++ r ∷ []
results_in-push [] r = refl
results_in-push (None ∷ places) r = results_in-push places r
results_in-push (Some q ∷ places) r = ap (λ rs. q ∷ rs) (results_in-push places r)

-- as many results as places at most
results_in-le : (places : List (Option RangeResult)) → length (results_in places) ≤ length places
results_in-le [] = omega arith
results_in-le (None ∷ places) = let le = results_in-le places in omega arith
results_in-le (Some r ∷ places) = let le = results_in-le places in omega arith

-- where each place has a result, so has the first, and so have the others
pub first_is : (places : List (Option RangeResult)) → AreResults places → 0 < length places → (r : RangeResult) × ((d : Option RangeResult) → get_or places 0 d ≡ Some r) × (results_in places ≡ r ∷ results_in (remove places 0)) × AreResults (remove places 0)
first_is [] are some = absurd (omega arith)
first_is (None ∷ places) are some = let le = results_in-le places in absurd (omega arith)
first_is (Some r ∷ places) are some = (r, (λ d. refl), refl, let same : length (results_in places) ≡ length places = omega arith in same)
