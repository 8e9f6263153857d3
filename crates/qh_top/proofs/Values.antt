-- The numbers of a state at some indices.
use Rattle.std.proofs.Common.{◌≡◌, ℕ, List, [], ◌∷◌, All, map, refl}
use Rattle.std.proofs.Math.Path.{ap₂}
use Rattle.std.proofs.lemmas.List.Elements.{All-head, All-tail}
use Rattle.qh_ring.specs.declared.number.Omega.{Omega}

-- functions that agree where P holds make one list
pub map_same : (P : ℕ → Type 0) (xs : List ℕ) (f g : ℕ → Omega) → All P xs → ((x : ℕ) → P x → f x ≡ g x) → map f xs ≡ map g xs
map_same P [] f g h e = refl
map_same P (x ∷ xs) f g h e = ap₂ (λ y ys. y ∷ ys) (e x (All-head P x xs h)) (map_same P xs f g (All-tail P x xs h) e)
