-- The rights that are left while the seats of a draw are made.
use Rattle.std.proofs.Common.{◌≡◌, ◌+◌, ◌-◌, ◌*◌, ◌<◌, ◌≤◌, ℕ, List, [], ◌∷◌, ◌++◌, All, sym, ap, subst, ◌∙◌, arith}
use Rattle.std.proofs.lemmas.List.Elements.{All-push}
use Rattle.std.proofs.lemmas.Nat.{mul-le}
use Rattle.atomic_table.specs.Seated.{TableId}
use Rattle.qh_draw.specs.Seats.{Seat, seat_of}

-- the rights left and those of the seats made are those of all seats
pub record Leaves (seats each made left : ℕ) : Type 0 where
  pub whole : left + made * each ≡ seats * each

one_more : (made each : ℕ) → (made + 1) * each ≡ made * each + each
one_more made each = grind arith

pub enough : (seats each made left : ℕ) → Leaves seats each made left → made < seats → each ≤ left
enough seats each made left h few = omega (arith, h.whole, one_more made each, mul-le (made + 1) each seats each (omega arith) (omega arith))

pub leaves_more : (seats each made left : ℕ) → Leaves seats each made left → made < seats → Leaves seats each (made + 1) (left - each)
leaves_more seats each made left h few = record { whole = omega (arith, h.whole, enough seats each made left h few, one_more made each) }

pub leaves_one : (seats each made left : ℕ) → Leaves seats each made left → seats ≡ made + 1 → left ≡ each
leaves_one seats each made left h e = omega (arith, h.whole, ap (λ n. n * each) e, one_more made each)

-- the seat that gives rights, and the one that gets them
pub gives : (t : TableId) (each : ℕ) (old new : Seat) → old ≡ seat_of t each old.left [] → new ≡ record old { left = old.left - old.each }
    → new ≡ seat_of t each (old.left - each) []
gives t each old new e p = p ∙ (λ i. record { of = (e i).of; each = (e i).each; left = old.left - (e i).each; drawn = (e i).drawn })

pub gets : (t : TableId) (each : ℕ) (old given : Seat) → old ≡ seat_of t each old.left [] → given ≡ seat_of old.of old.each old.each []
    → given ≡ seat_of t each each []
gets t each old given e p = p ∙ (λ i. seat_of (e i).of (e i).each (e i).each [])

-- one more of the same
pub all_more : (f s : Seat) (xs ys : List Seat) → All (λ x. x ≡ f) xs → s ≡ f → ys ≡ xs ++ s ∷ [] → All (λ x. x ≡ f) ys
all_more f s xs ys h e p = subst (All (λ (x : Seat). x ≡ f)) (sym p) (All-push (λ x. x ≡ f) xs s h e)
