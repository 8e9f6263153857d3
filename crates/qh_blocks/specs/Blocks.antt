-- The numbers of a block, by what gives the lanes of a vector.
use Rattle.std.specs.Prelude.{ℕ, zero, suc, ℤ, List, neg_ℤ}
use Rattle.qh_ring.specs.declared.number.Omega.{Omega}
use Rattle.qh_kernel.specs.Lanes.{at_lane, AreBelow}
use Rattle.qh_blocks.specs.declared.block.Block.{Block}

-- number r of a block
abbrev pub lane : {V : Type 0} → (V → List ℤ) → ℕ → Block V → Omega
lane lanes r x = record { a = at_lane (lanes x.a) r; b = at_lane (lanes x.b) r; c = at_lane (lanes x.c) r; d = at_lane (lanes x.d) r }

-- the number with each coefficient negated
abbrev pub negative : Omega → Omega
negative z = record { a = neg_ℤ z.a; b = neg_ℤ z.b; c = neg_ℤ z.c; d = neg_ℤ z.d }

-- n numbers, each coefficient's magnitude below 2 ^ bits
pub record IsBlock {V : Type 0} (lanes : V → List ℤ) (n bits : ℕ) (x : Block V) : Type 0 where
  pub a : AreBelow n bits (lanes x.a)
  pub b : AreBelow n bits (lanes x.b)
  pub c : AreBelow n bits (lanes x.c)
  pub d : AreBelow n bits (lanes x.d)

-- one of four blocks
abbrev pub block_of : {V : Type 0} → (Block V × Block V × Block V × Block V) → ℕ → Block V
block_of q zero = q.0
block_of q (suc zero) = q.1
block_of q (suc (suc zero)) = q.2
block_of q (suc (suc (suc c))) = q.3

-- four blocks, each coefficient's magnitude below 2 ^ bits
pub record AreFour {V : Type 0} (lanes : V → List ℤ) (n bits : ℕ) (q : Block V × Block V × Block V × Block V) : Type 0 where
  pub first : IsBlock lanes n bits q.0
  pub second : IsBlock lanes n bits q.1
  pub third : IsBlock lanes n bits q.2
  pub fourth : IsBlock lanes n bits q.3
