-- What a pass of a matrix makes of blocks of vectors.
use Rattle.std.specs.Prelude.{◌≡◌, ℕ, ◌^◌, ◌<◌, ◌≤◌, ℤ, List, length, All}
use Rattle.qh_limits.specs.Limits.{max_part_qubits}
use Rattle.qh_ring.specs.declared.matrix.Entry.{Entry}
use Rattle.qh_ring.specs.Matrices.{number_in}
use Rattle.qh_ring.specs.States.{applied_list}
use Rattle.qh_blocks.specs.declared.block.Block.{Block}
use Rattle.qh_blocks.specs.Blocks.{IsBlock}
use Rattle.qh_blocks.specs.Numbers.{numbers}

-- 2^qubits blocks, of coefficients within so many bits, which the lanes have room to add
pub record AreBlocks {V : Type 0} (lanes : V → List ℤ) (places room qubits bits : ℕ) (v : List (Block V)) : Type 0 where
  pub few : qubits ≤ max_part_qubits
  pub len : length v ≡ 2 ^ qubits
  pub fit : bits < room
  pub bounded : All (IsBlock lanes (2 ^ places) bits) v

-- the matrix of these rows was applied on these qubits, and the coefficients are within so many bits
pub record IsPassed {V : Type 0} (lanes : V → List ℤ) (places : ℕ) (rows : List (List Entry)) (qs : List ℕ) (bits : ℕ) (old new : List (Block V)) : Type 0 where
  pub exact : numbers lanes places new ≡ applied_list (number_in rows) qs (numbers lanes places old)
  pub bounded : All (IsBlock lanes (2 ^ places) bits) new
  pub len : length new ≡ length old
