-- Numbers divided by a common factor root^s.
use Rattle.std.proofs.Common.{◌≡◌, ℕ, zero, suc, ◌+◌, ◌-◌, ◌*◌, ◌/◌, ◌%◌, ◌^◌, ◌<◌, ◌≤◌, inl, inr, ℤ, ◌+ℤ◌, ◌-ℤ◌, neg_ℤ, List, length, set, length-set, get_or, map, arith, refl, sym, ap, subst, ◌∙◌}
use Rattle.std.specs.List.{All}
use Rattle.std.proofs.lemmas.Bool.{cases_eq, cases_lt}
use Rattle.std.proofs.lemmas.Int.{ints}
use Rattle.std.proofs.lemmas.List.{get_or-map, get_or_past, length-map, get_or-set_same, get_or-set_other, get_or_default}
use Rattle.std.proofs.lemmas.List.Elements.{All-set}
use Rattle.std.proofs.lemmas.Nat.{pow-add, pow_pos, mod_below}
use Rattle.qh_ring.specs.declared.number.Omega.{Omega}
use Rattle.qh_ring.specs.Numbers.{sum, product, nothing, root, times_root}
use Rattle.qh_ring.proofs.NumberLemmas.{same_number, product_comm, nothing_times, root_times, times_root_add, times_root_injective}
use Rattle.qh_kernel.specs.Lanes.{at_lane, AreBelow}
use Rattle.qh_blocks.specs.declared.block.Block.{Block}
use Rattle.qh_blocks.specs.Blocks.{lane, IsBlock}
use Rattle.qh_blocks.specs.Numbers.{number_at, number_in_block}
use Rattle.qh_blocks.specs.Factors.{IsEvenNumber, AreEven, HasFactor}

pub root_root : (x : Omega) → product root (product root x) ≡ sum x x
unfolding product
root_root x = same_number _ _ (omega (arith, ints)) (omega (arith, ints)) (omega (arith, ints)) (omega (arith, ints))

pub root_nothing : (s : ℕ) → times_root s nothing ≡ nothing
root_nothing zero = refl
root_nothing (suc s) = ap (product root) (root_nothing s) ∙ product_comm root nothing ∙ nothing_times root

-- ---- one number
pub root_lane : (roots : ℕ) (z x : Omega) → roots ≡ 1 → z.a ≡ x.b +ℤ neg_ℤ x.d → z.b ≡ x.a +ℤ x.c → z.c ≡ x.b +ℤ x.d → z.d ≡ x.c +ℤ neg_ℤ x.a → z ≡ times_root roots x
root_lane roots z x e ha hb hc hd =
    same_number z (record { a = x.b -ℤ x.d; b = x.a +ℤ x.c; c = x.b +ℤ x.d; d = x.c -ℤ x.a }) (omega (arith, ints)) hb hc (omega (arith, ints))
    ∙ sym (root_times x) ∙ ap (λ n. times_root n x) (sym e)

pub half_number : (q z : Omega) → q.a +ℤ q.a ≡ z.a → q.b +ℤ q.b ≡ z.b → q.c +ℤ q.c ≡ z.c → q.d +ℤ q.d ≡ z.d → times_root 2 q ≡ z
half_number q z ha hb hc hd = root_root q ∙ same_number (sum q q) z ha hb hc hd

-- half of a lane is below half of its bound
pub half_below : (n bits : ℕ) (v halves : List ℤ) → AreBelow n (bits + 1) v → AreBelow n (bits + 1) halves → ((r : ℕ) → r < n → at_lane halves r +ℤ at_lane halves r ≡ at_lane v r) → AreBelow n bits halves
half_below n bits v halves h k e = record {
  len = k.len;
  each = λ r l.
      let p : 2 ^ (bits + 1) ≡ 2 ^ bits * 2 = pow-add 2 bits 1 in
      let f = e r l in let g = h.each r l in
      omega (arith, ints);
}

-- twice the quotient is root^roots times the number, so it is root^(2 - roots) times the quotient
pub divided_by : (roots : ℕ) (q x : Omega) → roots ≤ 1 → times_root 2 q ≡ times_root roots x → times_root (2 - roots) q ≡ x
divided_by zero q x l e = e
divided_by (suc zero) q x l e = times_root_injective 1 (times_root 1 q) x e
divided_by (suc (suc n)) q x l e = absurd (omega arith)

-- ---- whether the blocks below n can be divided
pub record AreDivisible {V : Type 0} (lanes : V → List ℤ) (w roots : ℕ) (v : List (Block V)) (n : ℕ) : Type 0 where
  pub each : (k : ℕ) (d : Block V) → k < n → k < length v → AreEven lanes w roots (get_or v k d)

pub divisible_none : {V : Type 0} (lanes : V → List ℤ) (w roots : ℕ) (v : List (Block V)) → AreDivisible lanes w roots v 0
divisible_none lanes w roots v = record { each = λ k d m l. absurd (omega arith) }

pub divisible_more : {V : Type 0} (lanes : V → List ℤ) (w roots : ℕ) (v : List (Block V)) (n : ℕ) (x y : Block V) → n < length v → x ≡ get_or v n x
    → ((r : ℕ) → r < w → lane lanes r y ≡ times_root roots (lane lanes r x)) → AreEven lanes w 0 y → AreDivisible lanes w roots v n → AreDivisible lanes w roots v (n + 1)
divisible_more lanes w roots v n x y l e hy even h = record {
  each = λ k d m lk. elim (cases_eq k n) [
    | inl f ↦ rw f (subst (AreEven lanes w roots) (e ∙ sym (get_or_default v n d x l)) (record { each = λ r lr. subst IsEvenNumber (hy r lr) (even.each r lr) }))
    | inr ne ↦ h.each k d (omega arith) lk
  ];
}

pub divisible_all : {V : Type 0} (lanes : V → List ℤ) (w roots : ℕ) (v : List (Block V)) (n : ℕ) → length v ≤ n → AreDivisible lanes w roots v n → All (AreEven lanes w roots) v
divisible_all lanes w roots v n e h = λ k d l. h.each k d (omega arith) l

pub even_grown : {V : Type 0} (lanes : V → List ℤ) (w roots : ℕ) (x y : Block V) → ((r : ℕ) → r < w → lane lanes r y ≡ times_root roots (lane lanes r x)) → AreEven lanes w roots x → AreEven lanes w 0 y
even_grown lanes w roots x y hy even = record { each = λ r l. subst IsEvenNumber (sym (hy r l)) (even.each r l) }

-- ---- how far the blocks are divided: those below n
pub record IsDivided {V : Type 0} (lanes : V → List ℤ) (w roots bits : ℕ) (old v : List (Block V)) (n : ℕ) : Type 0 where
  pub len : length v ≡ length old
  pub done : (k r : ℕ) → k < n → k < length old → r < w → times_root (2 - roots) (number_in_block lanes v k r) ≡ number_in_block lanes old k r
  pub rest : (k : ℕ) (d : Block V) → n ≤ k → get_or v k d ≡ get_or old k d
  pub bounded : All (IsBlock lanes w bits) v

pub divided_none : {V : Type 0} (lanes : V → List ℤ) (w roots bits : ℕ) (v : List (Block V)) → All (IsBlock lanes w bits) v → IsDivided lanes w roots bits v v 0
divided_none lanes w roots bits v h = record { len = refl; done = λ k r lk lo lr. absurd (omega arith); rest = λ k d l. refl; bounded = h }

-- the block that is read is an old one
pub block_read : {V : Type 0} (lanes : V → List ℤ) (w roots bits : ℕ) (old v : List (Block V)) (n : ℕ) (x : Block V) (P : Block V → Type 0) → n < length old → IsDivided lanes w roots bits old v n → x ≡ get_or v n x → All P old → P x
block_read lanes w roots bits old v n x P l h e all =
    subst P (sym (e ∙ h.rest n x (omega arith))) (all n x l)

pub divided_more : {V : Type 0} (lanes : V → List ℤ) (w roots bits : ℕ) (old v : List (Block V)) (n : ℕ) (x y z : Block V) → roots ≤ 1 → n < length old → IsDivided lanes w roots bits old v n → x ≡ get_or v n x
    → ((r : ℕ) → r < w → lane lanes r y ≡ times_root roots (lane lanes r x)) → ((r : ℕ) → r < w → times_root 2 (lane lanes r z) ≡ lane lanes r y) → IsBlock lanes w bits z
    → IsDivided lanes w roots bits old (set v n z) (n + 1)
divided_more {V} lanes w roots bits old v n x y z few lo h e hy hz b =
    let len = h.len in
    let l : n < length v = omega arith in
    record {
      len = length-set v n z ∙ h.len;
      done = λ k r lk lb lr. elim (cases_eq k n) [
        | inl f ↦
            ap (times_root (2 - roots)) (ap (λ t. number_in_block lanes (set v n z) t r) f
            ∙ get_or-map (lane lanes r) (set v n z) n z nothing (subst (λ t. n < t) (sym (length-set v n z)) l) ∙ ap (lane lanes r) (get_or-set_same v n z z l))
            ∙ divided_by roots (lane lanes r z) (lane lanes r x) few (hz r lr ∙ hy r lr)
            ∙ ap (lane lanes r) (e ∙ h.rest n x (omega arith)) ∙ sym (get_or-map (lane lanes r) old n x nothing lo) ∙ ap (λ t. number_in_block lanes old t r) (sym f)
        | inr ne ↦
            let lv : k < length v = omega arith in
            let ls : k < length (set v n z) = subst (λ t. k < t) (sym (length-set v n z)) lv in
            ap (times_root (2 - roots)) (get_or-map (lane lanes r) (set v n z) k z nothing ls ∙ ap (lane lanes r) (get_or-set_other v n k z z ne) ∙ sym (get_or-map (lane lanes r) v k z nothing lv))
            ∙ h.done k r (omega arith) lb lr
      ];
      rest = λ k d m. get_or-set_other v n k z d (later k n m) ∙ h.rest k d (omega arith);
      bounded = All-set (IsBlock lanes w bits) _ _ _ b h.bounded;
    }
  where
    later : (k n : ℕ) → n + 1 ≤ k → k ≡ n → ⊥
    later k n m e = omega arith

pub divided_all : {V : Type 0} (lanes : V → List ℤ) (p roots bits : ℕ) (old v : List (Block V)) (n : ℕ) → length old ≤ n → IsDivided lanes (2 ^ p) roots bits old v n → HasFactor lanes p (2 - roots) old v
divided_all lanes p roots bits old v n end h = record {
  len = h.len;
  numbers = λ k.
      let r : k % 2 ^ p < 2 ^ p = mod_below k (2 ^ p) (pow_pos p) in
      let len = h.len in
      elim (cases_lt (k / 2 ^ p) (length old)) [
        | inl l ↦ h.done (k / 2 ^ p) (k % 2 ^ p) (omega arith) l r
        | inr past ↦
            ap (times_root (2 - roots)) (get_or_past (map (lane lanes (k % 2 ^ p)) v) (k / 2 ^ p) nothing (subst (λ t. t ≤ k / 2 ^ p) (sym (length-map v (lane lanes (k % 2 ^ p)) ∙ h.len)) past))
            ∙ root_nothing (2 - roots)
            ∙ sym (get_or_past (map (lane lanes (k % 2 ^ p)) old) (k / 2 ^ p) nothing (subst (λ t. t ≤ k / 2 ^ p) (sym (length-map old (lane lanes (k % 2 ^ p)))) past))
      ];
}

-- ---- one factor after another
pub factor_none : {V : Type 0} (lanes : V → List ℤ) (p : ℕ) (v : List (Block V)) → HasFactor lanes p 0 v v
factor_none lanes p v = record { len = refl; numbers = λ k. refl }

pub factor_more : {V : Type 0} (lanes : V → List ℤ) (p s t n : ℕ) (u v w : List (Block V)) → n ≡ s + t → HasFactor lanes p s u v → HasFactor lanes p t v w → HasFactor lanes p n u w
factor_more lanes p s t n u v w e h g = record {
  len = g.len ∙ h.len;
  numbers = λ k. ap (λ m. times_root m (number_at lanes p w k)) e ∙ times_root_add s t (number_at lanes p w k) ∙ ap (times_root s) (g.numbers k) ∙ h.numbers k;
}

pub factor_same : {V : Type 0} (lanes : V → List ℤ) (p s n : ℕ) (u v w : List (Block V)) → n ≡ s → w ≡ v → HasFactor lanes p s u v → HasFactor lanes p n u w
factor_same {V} lanes p s n u v w e f h = subst (λ (x : List (Block V)). HasFactor lanes p n u x) (sym f) (subst (λ m. HasFactor lanes p m u v) (sym e) h)

-- both of a step
pub record AreTaken {V : Type 0} (lanes : V → List ℤ) (p bits most : ℕ) (old v : List (Block V)) (count : ℕ) : Type 0 where
  pub few : count ≤ most
  pub factor : HasFactor lanes p (count + count) old v
  pub bounded : All (IsBlock lanes (2 ^ p) bits) v

pub taken_none : {V : Type 0} (lanes : V → List ℤ) (p bits most : ℕ) (v : List (Block V)) → All (IsBlock lanes (2 ^ p) bits) v → AreTaken lanes p bits most v v 0
taken_none lanes p bits most v h = record { few = omega arith; factor = factor_none lanes p v; bounded = h }

pub taken_more : {V : Type 0} (lanes : V → List ℤ) (p bits most : ℕ) (old v w : List (Block V)) (count : ℕ) → count < most → AreTaken lanes p bits most old v count → HasFactor lanes p 2 v w → All (IsBlock lanes (2 ^ p) bits) w
    → AreTaken lanes p bits most old w (count + 1)
taken_more lanes p bits most old v w count l h g b = record { few = omega arith; factor = factor_more lanes p (count + count) 2 (count + 1 + (count + 1)) old v w (omega arith) h.factor g; bounded = b }
