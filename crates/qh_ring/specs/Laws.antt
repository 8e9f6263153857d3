-- What the short form of apply means in full.
use Rattle.std.specs.Prelude.{◌≡◌, ◌≢◌, ◌==◌, ℕ, ◌^◌, ◌<◌, List, [], ◌∷◌, if◌then◌else◌}
use Rattle.qh_ring.specs.declared.number.Omega.{Omega}
use Rattle.qh_ring.specs.Numbers.{product, nothing}
use Rattle.qh_ring.specs.States.{sum_below, place_on, with_bits, applied}

-- p is none of these qubits
abbrev pub NoneIs : ℕ → List ℕ → Type 0
NoneIs p [] = Unit {0}
NoneIs p (q ∷ qs) = (p ≢ q) × NoneIs p qs

-- no qubit stands twice
abbrev pub AreDistinct : List ℕ → Type 0
AreDistinct [] = Unit {0}
AreDistinct (q ∷ qs) = NoneIs q qs × AreDistinct qs

-- each qubit is below n
abbrev pub AllLess : ℕ → List ℕ → Type 0
AllLess n [] = Unit {0}
AllLess n (q ∷ qs) = (q < n) × AllLess n qs

-- the sum over all y that agree with x outside these qubits: both are one index once these qubits are 0
abbrev pub AppliedAgrees : Type 0
AppliedAgrees = (m : ℕ → ℕ → Omega) (qs : List ℕ) (v : ℕ → Omega) (n x : ℕ) → AreDistinct qs → AllLess n qs → x < 2 ^ n
    → applied m qs v x ≡ sum_below (2 ^ n) (λ y. if with_bits qs 0 y == with_bits qs 0 x then product (m (place_on qs x) (place_on qs y)) (v y) else nothing)
