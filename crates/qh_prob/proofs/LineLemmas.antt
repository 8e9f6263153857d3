-- A line is that of one bitstring and probability alone.
use Rattle.std.proofs.Common.{◌≡◌, ℕ, suc, ◌+◌, ◌^◌, ◌<◌, ◌≤◌, ℤ, pos, negsuc, ◌≤ℤ◌, List, [], ◌∷◌, ◌++◌, decimal, drop, arith, refl, sym, ap, subst, ◌∙◌, append_assoc, lit<}
use Rattle.std.specs.Prelude.{unsigned_abs}
use Rattle.std.specs.Fmt.{signed_decimal}
use Rattle.std.specs.Str.Parse.{AllDigits, digits_value}
use Rattle.std.proofs.lemmas.Int.{ints}
use Rattle.std.proofs.lemmas.Fmt.{decimal_is_IsNumeral_wide}
use Rattle.qh_text.specs.Bitstrings.{bits_text}
use Rattle.qh_text.proofs.CutLemmas.{cut_same, head_same, Without}
use Rattle.qh_text.proofs.BitLemmas.{bits_without, bits_injective}
use Rattle.qh_text.proofs.NumberLemmas.{decimal_without, signed_without}
use Rattle.qh_prob.specs.declared.prob.Prob.{Prob}
use Rattle.qh_prob.specs.Probability.{IsBounded}
use Rattle.qh_prob.specs.Forms.{prob_line}
use Rattle.qh_prob.specs.Laws.{AreSame}
use Rattle.qh_prob.proofs.TotalLemmas.{same_prob}

decimal_same : (m n : ℕ) → m < 10 ^ 64 → n < 10 ^ 64 → decimal m ≡ decimal n → m ≡ n
decimal_same m n p q e = sym (decimal_is_IsNumeral_wide m p).1 ∙ ap (digits_value 10) e ∙ (decimal_is_IsNumeral_wide n q).1

-- no number begins with a sign
unsigned : (n m : ℕ) → n < 10 ^ 64 → m < 10 ^ 64 → decimal n ≡ 45 ∷ decimal m → ⊥
unsigned n m p q e = head (decimal n) (decimal_without 45 n (lit< tt) p) e
  where
    head : (ds : List ℕ) → Without 45 ds → ds ≡ 45 ∷ decimal m → ⊥
    head ds none f = first (subst (Without 45) f none)
      where
        first : Without 45 (45 ∷ decimal m) → ⊥
        first h = h 0 0 (omega arith) refl

signed_same : (y z : ℤ) → unsigned_abs y < 10 ^ 64 → unsigned_abs z < 10 ^ 64 → signed_decimal y ≡ signed_decimal z → y ≡ z
signed_same (pos m) (pos n) p q e = ap pos (decimal_same m n p q e)
signed_same (pos m) (negsuc n) p q e = absurd (unsigned m (suc n) p q e)
signed_same (negsuc m) (pos n) p q e = absurd (unsigned n (suc m) q p (sym e))
signed_same (negsuc m) (negsuc n) p q e = ap negsuc (omega (arith, decimal_same (suc m) (suc n) p q (ap (drop 1) e)))

five : (p q r s t : List ℕ) → p ++ q ++ r ++ s ++ t ≡ p ++ (q ++ (r ++ (s ++ t)))
five p q r s t = simp append_assoc refl

line_is : (n i k : ℕ) (x : Prob) → prob_line n i x k ≡ bits_text n i ++ 32 ∷ (signed_decimal x.p ++ 32 ∷ (signed_decimal x.q ++ 32 ∷ (decimal k ++ 10 ∷ [])))
unfolding prob_line
line_is n i k x = five (bits_text n i) (32 ∷ signed_decimal x.p) (32 ∷ signed_decimal x.q) (32 ∷ decimal k) (10 ∷ [])

small : (x : Prob) → IsBounded x → (unsigned_abs x.p < 10 ^ 64) × (unsigned_abs x.q < 10 ^ 64)
small x h = let hp = h.p in let hq = h.q in (omega (arith, ints), omega (arith, ints))

pub one_reading : (n i j : ℕ) (x y : Prob) (k m : ℕ) → i < 2 ^ n → j < 2 ^ n → IsBounded x → IsBounded y → k ≤ 120 → m ≤ 120
    → prob_line n i x k ≡ prob_line n j y m → AreSame i j x y k m
one_reading n i j x y k m li lj bx by_ fk fm e =
    let sx = small x bx in
    let sy = small y by_ in
    let whole = sym (line_is n i k x) ∙ e ∙ line_is n j m y in
    let bits = cut_same 32 _ _ _ _ (bits_without 32 n i (lit< tt)) (bits_without 32 n j (lit< tt)) whole in
    let first = cut_same 32 _ _ _ _ (signed_without 32 x.p (lit< tt) sx.0) (signed_without 32 y.p (lit< tt) sy.0) bits.1 in
    let second = cut_same 32 _ _ _ _ (signed_without 32 x.q (lit< tt) sx.1) (signed_without 32 y.q (lit< tt) sy.1) first.1 in
    let third = cut_same 10 _ _ _ _ (decimal_without 10 k (lit< tt) (omega arith)) (decimal_without 10 m (lit< tt) (omega arith)) second.1 in
    record {
      index = bits_injective n i j li lj bits.0;
      prob = same_prob x y (signed_same x.p y.p sx.0 sy.0 first.0) (signed_same x.q y.q sx.1 sy.1 second.0);
      power = decimal_same k m (omega arith) (omega arith) third.0;
    }
