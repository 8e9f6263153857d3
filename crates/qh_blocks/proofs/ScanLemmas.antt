-- The greatest magnitudes of a state so far.
use Rattle.std.proofs.Common.{◌≡◌, ℕ, ◌+◌, ◌<◌, ◌≤◌, ◌^◌, ℤ, pos, List, length, get_or, arith, inl, inr, replicate, unsigned_abs, ◌*◌, sym, subst, ◌∙◌}
use Rattle.std.proofs.Math.Path.{ap₂}
use Rattle.std.proofs.lemmas.List.{get_or-map, get_or_default}
use Rattle.std.specs.List.{All}
use Rattle.std.proofs.lemmas.Nat.{mul-le}
use Rattle.std.proofs.lemmas.Bool.{cases_eq}
use Rattle.qh_ring.specs.Numbers.{IsWithin, nothing}
use Rattle.qh_kernel.specs.Lanes.{at_lane, AreBelow}
use Rattle.qh_blocks.specs.declared.block.Block.{Block}
use Rattle.qh_blocks.specs.Blocks.{lane, IsBlock}
use Rattle.qh_blocks.specs.Numbers.{numbers, number_in_block}
use Rattle.qh_blocks.proofs.NumbersLemmas.{length_numbers, number_of_list, div_of, mod_of}
use Rattle.qh_blocks.proofs.GroundLemmas.{zeros_below}

-- the greatest magnitude of each lane in the blocks below n
pub record IsMostOf {V : Type 0} (lanes : V → List ℤ) (w room : ℕ) (v : List (Block V)) (n : ℕ) (most : List ℤ) : Type 0 where
  pub below : AreBelow w room most
  pub above : (b : ℕ) → AreBelow w b most → (k : ℕ) (d : Block V) → k < n → k < length v → IsBlock lanes w b (get_or v k d)
  pub least : (b : ℕ) → All (IsBlock lanes w b) v → AreBelow w b most

pub blocks_none : {V : Type 0} (lanes : V → List ℤ) (w room : ℕ) (v : List (Block V)) (most : List ℤ) → most ≡ replicate w (pos 0) → IsMostOf lanes w room v 0 most
blocks_none lanes w room v most e = record {
  below = zeros_below w room most e;
  above = λ b l k d m. absurd (omega arith);
  least = λ b h. zeros_below w b most e;
}

-- the larger magnitudes of two lists
pub record AreLarger (w : ℕ) (xs ys zs : List ℤ) : Type 0 where
  pub above : (b : ℕ) → AreBelow w b xs → AreBelow w b ys → AreBelow w b zs
  pub first : (b : ℕ) → AreBelow w b zs → AreBelow w b xs
  pub second : (b : ℕ) → AreBelow w b zs → AreBelow w b ys

pub blocks_next : {V : Type 0} (lanes : V → List ℤ) (w room : ℕ) (v : List (Block V)) (n : ℕ) (most one new : List ℤ) (x : Block V) → n < length v → All (IsBlock lanes w room) v → IsMostOf lanes w room v n most → x ≡ get_or v n x
    → ((b : ℕ) → IsBlock lanes w b x → AreBelow w b one) → ((b : ℕ) → AreBelow w b one → IsBlock lanes w b x) → AreLarger w most one new → IsMostOf lanes w room v (n + 1) new
blocks_next lanes w room v n most one new x l fits h ex ha hb larger = record {
  below = larger.above room h.below (ha room (here room fits));
  above = λ b k m d lm ll. elim (cases_eq m n) [
    | inl f ↦ rw f (subst (IsBlock lanes w b) (ex ∙ sym (get_or_default v n d x l)) (hb b (larger.second b k)))
    | inr ne ↦ h.above b (larger.first b k) m d (omega arith) ll
  ];
  least = λ b k. larger.above b (h.least b k) (ha b (here b k));
}
  where
    here : (b : ℕ) → All (IsBlock lanes w b) v → IsBlock lanes w b x
    here b k = subst (IsBlock lanes w b) (sym ex) (k n x l)

-- lanes by their greatest magnitude
pub lanes_below : (w room b most : ℕ) (v : List ℤ) → AreBelow w room v → ((r : ℕ) → r < w → unsigned_abs (at_lane v r) ≤ most) → most < 2 ^ b → AreBelow w b v
lanes_below w room b most v h e l = record { len = h.len; each = λ r m. let f = e r m in omega arith }

pub blocks_all : {V : Type 0} (lanes : V → List ℤ) (w room : ℕ) (v : List (Block V)) (n : ℕ) (most : List ℤ) (b : ℕ) → length v ≤ n → IsMostOf lanes w room v n most → AreBelow w b most → All (IsBlock lanes w b) v
blocks_all lanes w room v n most b e h l = λ k d m. h.above b l k d (omega arith) m

-- the bound of the numbers is that of the blocks
pub blocks_of_numbers : {V : Type 0} (lanes : V → List ℤ) (p bits b : ℕ) (v : List (Block V)) → All (IsBlock lanes (2 ^ p) bits) v → All (IsWithin b) (numbers lanes p v) → All (IsBlock lanes (2 ^ p) b) v
blocks_of_numbers {V} lanes p bits b v h g k d l =
    let o = h k d l in
    record {
      a = record { len = o.a.len; each = λ r m. (number_within r m).a };
      b = record { len = o.b.len; each = λ r m. (number_within r m).b };
      c = record { len = o.c.len; each = λ r m. (number_within r m).c };
      d = record { len = o.d.len; each = λ r m. (number_within r m).d };
    }
  where
    inside : (r n q s : ℕ) → r < q → s < n → r + s * q < q * n
    inside r n q s lr ls = let m : (s + 1) * q ≤ n * q = mul-le (s + 1) q n q (omega arith) (omega arith) in let c : q * n ≡ n * q = omega arith in let e : (s + 1) * q ≡ s * q + q = omega arith in omega arith

    number_within : (r : ℕ) → r < 2 ^ p → IsWithin b (lane lanes r (get_or v k d))
    number_within r m =
        let i : r + k * 2 ^ p < 2 ^ p * length v = inside r (length v) (2 ^ p) k m l in
        let n : r + k * 2 ^ p < length (numbers lanes p v) = subst (λ t. r + k * 2 ^ p < t) (sym (length_numbers lanes p v)) i in
        subst (IsWithin b) (number_of_list lanes p v (r + k * 2 ^ p) i ∙ ap₂ (λ s t. number_in_block lanes v t s) (mod_of k p r m) (div_of k p r m) ∙ get_or-map (lane lanes r) v k d nothing l) (g (r + k * 2 ^ p) nothing n)
