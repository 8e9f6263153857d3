-- Blocks whose numbers have a factor root^s in common.
use Rattle.std.specs.Prelude.{◌≡◌, ℕ, ◌<◌, ℤ, List, length}
use Rattle.qh_ring.specs.declared.number.Omega.{Omega}
use Rattle.qh_ring.specs.Numbers.{times_root}
use Rattle.qh_kernel.specs.Lanes.{IsEven}
use Rattle.qh_blocks.specs.declared.block.Block.{Block}
use Rattle.qh_blocks.specs.Blocks.{lane}
use Rattle.qh_blocks.specs.Numbers.{number_at}

-- each coefficient is even
pub record IsEvenNumber (z : Omega) : Type 0 where
  pub a : IsEven z.a
  pub b : IsEven z.b
  pub c : IsEven z.c
  pub d : IsEven z.d

-- the n numbers of a block, each times root^s, are even
pub record AreEven {V : Type 0} (lanes : V → List ℤ) (n s : ℕ) (x : Block V) : Type 0 where
  pub each : (r : ℕ) → r < n → IsEvenNumber (times_root s (lane lanes r x))

-- as many blocks, and each old number is root^s times the new one
pub record HasFactor {V : Type 0} (lanes : V → List ℤ) (places s : ℕ) (old new : List (Block V)) : Type 0 where
  pub len : length new ≡ length old
  pub numbers : (k : ℕ) → times_root s (number_at lanes places new k) ≡ number_at lanes places old k
