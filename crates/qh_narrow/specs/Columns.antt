-- Columns as contracts see them: the number of qubits and the list of numbers.
use Rattle.std.specs.Prelude.{◌≡◌, ℕ, ◌-◌, ◌≤◌, ◌<◌, ◌^◌, ℤ, List, length, All}
use Rattle.qh_limits.specs.Limits.{max_part_qubits}
use Rattle.qh_ring.specs.declared.number.Omega.{Omega}
use Rattle.qh_ring.specs.Numbers.{IsWithin, nothing}
use Rattle.qh_ring.specs.States.{listed}
use Rattle.qh_blocks.specs.declared.block.Block.{Block}
use Rattle.qh_blocks.specs.Blocks.{IsBlock}
use Rattle.qh_blocks.specs.Numbers.{number_at}

pub record Columns : Type 0 where
  pub qubits : ℕ
  pub numbers : List Omega

-- each coefficient's magnitude is below 2^62
abbrev pub narrow_bits : ℕ
narrow_bits = 62

-- in lanes of 32 bits it is below 2^30, in lanes of 16 bits below 2^14
abbrev pub narrow_bits32 : ℕ
narrow_bits32 = 30

abbrev pub narrow_bits16 : ℕ
narrow_bits16 = 14

-- at most 20 qubits, and 2^qubits numbers, each coefficient's magnitude below 2 ^ bits
pub record AreColumnsOf (bits : ℕ) (s : Columns) : Type 0 where
  pub few : s.qubits ≤ max_part_qubits
  pub len : length s.numbers ≡ 2 ^ s.qubits
  pub within : All (IsWithin bits) s.numbers

-- at most 20 qubits, and 2^qubits numbers, each of them narrow
abbrev pub AreColumns : Columns → Type 0
AreColumns s = AreColumnsOf narrow_bits s

-- 0 at each index
abbrev pub zeros : ℕ → Omega
zeros k = nothing

-- lanes of 64 bits: 2^3 to a vector, a magnitude has 63 bits
abbrev pub lanes64 : List ℤ → List ℤ
lanes64 v = v

abbrev pub places64 : ℕ
places64 = 3

abbrev pub room64 : ℕ
room64 = 63

-- lanes of 32 bits: 2^3 to a vector, a magnitude has 31 bits
abbrev pub lanes32 : List ℤ → List ℤ
lanes32 v = v

abbrev pub places32 : ℕ
places32 = 3

abbrev pub room32 : ℕ
room32 = 31

-- lanes of 16 bits: 2^4 to a vector, a magnitude has 15 bits
abbrev pub lanes16 : List ℤ → List ℤ
lanes16 v = v

abbrev pub places16 : ℕ
places16 = 4

abbrev pub room16 : ℕ
room16 = 15

-- the numbers of 2^qubits indices, the first that the blocks hold
abbrev pub first_numbers : {V : Type 0} → (V → List ℤ) → ℕ → ℕ → List (Block V) → List Omega
first_numbers lanes places qubits v = listed qubits (number_at lanes places v)

-- blocks for 2^qubits numbers: where these are fewer than a block has lanes, the others are 0
pub record AreBlocksOf {V : Type 0} (lanes : V → List ℤ) (places qubits : ℕ) (v : List (Block V)) : Type 0 where
  pub few : qubits ≤ max_part_qubits
  pub len : length v ≡ 2 ^ (qubits - places)
  pub others : (k : ℕ) → 2 ^ qubits ≤ k → number_at lanes places v k ≡ nothing

-- such blocks, whose coefficients are within the tracked bound, which is below the lanes' room
pub record AreKept {V : Type 0} (lanes : V → List ℤ) (places room qubits bits : ℕ) (v : List (Block V)) : Type 0 where
  pub blocks : AreBlocksOf lanes places qubits v
  pub room_left : bits < room
  pub bounded : All (IsBlock lanes (2 ^ places) bits) v

-- what the code keeps: such blocks, or none where each number is 0
pub record AreHeld {V : Type 0} (lanes : V → List ℤ) (places room qubits bits : ℕ) (v : List (Block V)) : Type 0 where
  pub few : qubits ≤ max_part_qubits
  pub kept : 0 < length v → AreKept lanes places room qubits bits v
