-- The first indices of a circuit.
use Rattle.std.proofs.Common.{◌≡◌, ℕ, zero, suc, ◌+◌, ◌^◌, ◌<◌, ◌≤◌, min, List, [], ◌∷◌, ◌++◌, length, get_or, sym, ap, subst, ◌∙◌, arith}
use Rattle.std.specs.List.{range_with_len}
use Rattle.std.proofs.lemmas.List.FromFn.{length-range_with_len, get_or-range_with_len}
use Rattle.qh_plan.specs.Plans.{AreBits}

range_more_from : (a n : ℕ) → range_with_len a (suc n) ≡ range_with_len a n ++ (a + n) ∷ []
range_more_from a zero = let e : a ≡ a + 0 = omega arith in ap (λ x. x ∷ []) e
range_more_from a (suc n) =
    let e : a + 1 + n ≡ a + suc n = omega arith in
    ap (λ (zs : List ℕ). a ∷ zs) (range_more_from (a + 1) n ∙ ap (λ x. range_with_len (a + 1) n ++ x ∷ []) e)

pub range_more : (n : ℕ) → range_with_len 0 (n + 1) ≡ range_with_len 0 n ++ n ∷ []
range_more n =
    let e : n + 1 ≡ suc n = omega arith in
    let f : 0 + n ≡ n = omega arith in
    ap (range_with_len 0) e ∙ range_more_from 0 n ∙ ap (λ x. range_with_len 0 n ++ x ∷ []) f

some_index : (q : ℕ) → 0 < 2 ^ q
some_index zero = omega arith
some_index (suc q) = let some = some_index q in let twice : 2 ^ suc q ≡ 2 ^ q + 2 ^ q = omega arith in omega (arith, some, twice)

pub first_bits : (q n : ℕ) → n ≡ min (2 ^ q) 8 → AreBits q (range_with_len 0 n)
first_bits q n e =
    let pos : 0 < 2 ^ q = some_index q in
    let len : length (range_with_len 0 n) ≡ n = length-range_with_len 0 n in
    let small : n ≤ 2 ^ q = omega (arith, e) in
    record {
      some = omega (arith, len, e, pos);
      few = omega (arith, len, e);
      below = λ i d l.
          let here : i < n = omega (arith, len, l) in
          let at : get_or (range_with_len 0 n) i d ≡ i = get_or-range_with_len 0 n i d here ∙ omega arith in
          subst (λ x. x < 2 ^ q) (sym at) (omega (arith, here, small));
    }
