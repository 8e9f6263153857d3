-- The greatest magnitude so far.
use Rattle.std.proofs.Common.{◌≡◌, ℕ, ◌+◌, ◌<◌, ◌≤◌, ◌^◌, ℤ, List, arith, inl, inr, unsigned_abs, max, sym, ap, subst, ◌∙◌, map}
use Rattle.std.proofs.lemmas.Nat.{pow_pos}
use Rattle.std.proofs.lemmas.Bool.{cases_eq}
use Rattle.qh_kernel.specs.Lanes.{at_lane, AreBelow}
use Rattle.qh_kernel.proofs.WordLemmas.{back, word_back}
use mir.Syntax.{Width}
use mir.Val.{to_z, of_z, hbits}

pub record IsMost (n : ℕ) (v : List ℤ) (k most : ℕ) : Type 0 where
  pub above : (r : ℕ) → r < k → unsigned_abs (at_lane v r) ≤ most
  pub least : (b : ℕ) → AreBelow n b v → most < 2 ^ b

pub most_none : (n : ℕ) (v : List ℤ) → IsMost n v 0 0
most_none n v = record { above = λ r l. absurd (omega arith); least = λ b h. pow_pos b }

most_more : (n : ℕ) (v : List ℤ) (k most : ℕ) → k < n → IsMost n v k most → IsMost n v (k + 1) (max most (unsigned_abs (at_lane v k)))
most_more n v k most l h = record {
  above = λ r b. elim (cases_eq r k) [
    | inl e ↦ rw e (omega arith)
    | inr ne ↦ let a = h.above r (omega arith) in omega arith
  ];
  least = λ b e. let i = h.least b e in let j = e.each k l in omega arith;
}

-- one more lane, of a vector that was stored and read back
pub most_next : (w : Width) (n : ℕ) (v : List ℤ) (k most one new : ℕ) → k < n → AreBelow n (hbits w) v
    → one ≡ unsigned_abs (to_z w (of_z w (at_lane (map (to_z w) (map (of_z w) v)) k))) → new ≡ max most one
    → IsMost n v k most → IsMost n v (k + 1) new
most_next w n v k most one new l a e f h =
    let s : one ≡ unsigned_abs (at_lane v k) = e ∙ ap (λ u. unsigned_abs (to_z w (of_z w (at_lane u k)))) (back w n v a) ∙ ap unsigned_abs (word_back w (at_lane v k) (a.each k l)) in
    subst (IsMost n v (k + 1)) (sym (f ∙ ap (max most) s)) (most_more n v k most l h)
