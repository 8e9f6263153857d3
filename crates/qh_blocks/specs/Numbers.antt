-- The numbers of a list of blocks.
use Rattle.std.specs.Prelude.{ℕ, zero, suc, ◌*◌, ◌/◌, ◌%◌, ◌^◌, ℤ, List, length, map}
use Rattle.std.specs.List.{range_with_len}
use Rattle.qh_ring.specs.declared.number.Omega.{Omega}
use Rattle.qh_ring.specs.declared.matrix.Entry.{Entry}
use Rattle.qh_ring.specs.Numbers.{product}
use Rattle.qh_ring.specs.Matrices.{number_in}
use Rattle.qh_ring.specs.States.{at_index, sum_below}
use Rattle.qh_blocks.specs.declared.block.Block.{Block}
use Rattle.qh_blocks.specs.Blocks.{lane}

-- number r of block k
abbrev pub number_in_block : {V : Type 0} → (V → List ℤ) → List (Block V) → ℕ → ℕ → Omega
number_in_block lanes v k r = at_index (map (lane lanes r) v) k

-- number k is number k % 2^places of block k / 2^places
abbrev pub number_at : {V : Type 0} → (V → List ℤ) → ℕ → List (Block V) → ℕ → Omega
number_at lanes places v k = number_in_block lanes v (k / 2 ^ places) (k % 2 ^ places)

-- all numbers in order
unfoldable pub numbers : {V : Type 0} → (V → List ℤ) → ℕ → List (Block V) → List Omega
numbers lanes places v = map (number_at lanes places v) (range_with_len 0 (2 ^ places * length v))

-- the number of one of four columns
abbrev pub one_of_four : Omega → Omega → Omega → Omega → ℕ → Omega
one_of_four x y z t zero = x
one_of_four x y z t (suc zero) = y
one_of_four x y z t (suc (suc zero)) = z
one_of_four x y z t (suc (suc (suc c))) = t

-- what row number j makes of the numbers of four columns
abbrev pub row_of_four : List (List Entry) → ℕ → Omega → Omega → Omega → Omega → Omega
row_of_four rows j x y z t = sum_below 4 (λ c. product (number_in rows j c) (one_of_four x y z t c))
