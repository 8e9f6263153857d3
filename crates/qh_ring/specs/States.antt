-- A state gives a number for each index. Qubit q is bit q of an index.
use Rattle.std.specs.Prelude.{ℕ, zero, suc, ◌+◌, ◌-◌, ◌*◌, ◌^◌, List, [], ◌∷◌, length, map, slice_index_or}
use Rattle.std.specs.Int.{bit_at}
use Rattle.std.specs.List.{range_with_len}
use Rattle.qh_ring.specs.declared.number.Omega.{Omega}
use Rattle.qh_ring.specs.Numbers.{sum, product, nothing, one}

-- the sum of f over the numbers below n
abbrev pub sum_below : ℕ → (ℕ → Omega) → Omega
sum_below zero f = nothing
sum_below (suc n) f = sum (sum_below n f) (f n)

-- the bits of x at these qubits, the first the most significant
abbrev pub place_on : List ℕ → ℕ → ℕ
place_on [] x = 0
place_on (q ∷ qs) x = bit_at x q * 2 ^ length qs + place_on qs x

-- x with the bit b at qubit q
unfoldable pub with_bit : ℕ → ℕ → ℕ → ℕ
with_bit q b x = x - bit_at x q * 2 ^ q + b * 2 ^ q

-- x with the bits of c at these qubits, the first the most significant
abbrev pub with_bits : List ℕ → ℕ → ℕ → ℕ
with_bits [] c x = x
with_bits (q ∷ qs) c x = with_bit q (bit_at c (length qs)) (with_bits qs c x)

-- What a matrix on these qubits makes of a state: the new number at x is the sum over the settings c of
-- these qubits of M[x on them][c] times the number at x with these qubits set to c.
unfoldable pub applied : (ℕ → ℕ → Omega) → List ℕ → (ℕ → Omega) → ℕ → Omega
applied m qs v x = sum_below (2 ^ length qs) (λ c. product (m (place_on qs x) c) (v (with_bits qs c x)))

-- the state with all qubits 0: 1 at index 0
abbrev pub ground : ℕ → Omega
ground zero = one
ground (suc x) = nothing

-- ---- states and the lists that code keeps of them

-- the number at an index of a list, 0 past its end
abbrev pub at_index : List Omega → ℕ → Omega
at_index v x = slice_index_or v x nothing

-- the list of a state's 2^n numbers
unfoldable pub listed : ℕ → (ℕ → Omega) → List Omega
listed n v = map v (range_with_len 0 (2 ^ n))

-- what a matrix on these qubits makes of a list of numbers
unfoldable pub applied_list : (ℕ → ℕ → Omega) → List ℕ → List Omega → List Omega
applied_list m qs v = map (applied m qs (at_index v)) (range_with_len 0 (length v))
