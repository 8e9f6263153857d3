-- The ground state in blocks.
use Rattle.std.proofs.Common.{◌≡◌, ◌≢◌, ℕ, zero, suc, ◌+◌, ◌*◌, ◌/◌, ◌%◌, ◌^◌, ◌<◌, ◌≤◌, inl, inr, ℤ, pos, List, length, set, replicate, length-set, arith, sym, ap, subst, ◌∙◌, refl}
use Rattle.std.specs.List.{All}
use Rattle.std.proofs.lemmas.Nat.{pow_pos, pow-add, mul-le, mod_below}
use Rattle.std.proofs.lemmas.Bool.{cases_eq}
use Rattle.std.proofs.lemmas.List.FromFn.{fill_by_all}
use Rattle.std.proofs.lemmas.List.{length-replicate, get_or-replicate, get_or-set_same, get_or-set_other, get_or-map}
use Rattle.std.proofs.lemmas.List.Elements.{All-set, All-replicate}
use Rattle.qh_ring.specs.Numbers.{IsBelow, nothing}
use Rattle.qh_ring.specs.States.{ground, listed}
use Rattle.qh_kernel.specs.Lanes.{AreBelow}
use Rattle.qh_blocks.specs.declared.block.Block.{Block}
use Rattle.qh_blocks.specs.Blocks.{lane, IsBlock}
use Rattle.qh_blocks.specs.Numbers.{number_at, number_in_block, numbers}
use Rattle.qh_blocks.proofs.NumbersLemmas.{length_numbers, numbers_at, parts_of, block_below}

pub zeros_below : (n bits : ℕ) (v : List ℤ) → v ≡ replicate n (pos 0) → AreBelow n bits v
zeros_below n bits v e = subst (AreBelow n bits) (sym e) (record {
  len = length-replicate n (pos 0);
  each = λ r l. subst (IsBelow bits) (sym (get_or-replicate n r (pos 0) (pos 0) l)) (pow_pos bits);
})

ground_after : (k : ℕ) → 0 < k → ground k ≡ nothing
ground_after zero l = absurd (omega arith)
ground_after (suc k) l = refl

-- one block of the ground state, and the others of 0
abbrev pub first_set : {V : Type 0} → ℕ → Block V → Block V → List (Block V)
first_set n zeros one = set (replicate n zeros) 0 one

at_each : {V : Type 0} (lanes : V → List ℤ) (b n k : ℕ) (zeros one : Block V) → ((r : ℕ) → r < 2 ^ b → lane lanes r zeros ≡ nothing) → ((r : ℕ) → r < 2 ^ b → lane lanes r one ≡ ground r)
    → 0 < n → k < 2 ^ b * n → number_at lanes b (first_set n zeros one) k ≡ ground k
at_each {V} lanes b n k zeros one hz ho some l =
    let m : k % 2 ^ b < 2 ^ b = mod_below k (2 ^ b) (pow_pos b) in
    let z : 0 < length (replicate n zeros) = subst (λ t. 0 < t) (sym (length-replicate n zeros)) some in
    let len : length (first_set n zeros one) ≡ n = length-set (replicate n zeros) 0 one ∙ length-replicate n zeros in
    let e = parts_of k b in
    let below = block_below k b n l in
    elim (cases_eq (k / 2 ^ b) 0) [
      | inl f ↦
          let r : k % 2 ^ b ≡ k = at_start k (k % 2 ^ b) (k / 2 ^ b) (2 ^ b) e f in
          ap (λ t. number_in_block lanes (first_set n zeros one) t (k % 2 ^ b)) f
          ∙ get_or-map (lane lanes (k % 2 ^ b)) (first_set n zeros one) 0 one nothing (subst (λ t. 0 < t) (sym len) some)
          ∙ ap (lane lanes (k % 2 ^ b)) (get_or-set_same (replicate n zeros) 0 one one z)
          ∙ ho (k % 2 ^ b) m ∙ ap ground r
      | inr ne ↦
          let p : 0 < k = later k (k % 2 ^ b) (k / 2 ^ b) (2 ^ b) e (pow_pos b) ne in
          get_or-map (lane lanes (k % 2 ^ b)) (first_set n zeros one) (k / 2 ^ b) zeros nothing (subst (λ t. k / 2 ^ b < t) (sym len) below)
          ∙ ap (lane lanes (k % 2 ^ b)) (get_or-set_other (replicate n zeros) 0 (k / 2 ^ b) one zeros ne ∙ get_or-replicate n (k / 2 ^ b) zeros zeros below)
          ∙ hz (k % 2 ^ b) m ∙ sym (ground_after k p)
    ]
  where
    at_start : (k r q w : ℕ) → k ≡ r + q * w → q ≡ 0 → r ≡ k
    at_start k r q w e f = let g : q * w ≡ 0 * w = ap (λ n. n * w) f in omega arith

    later : (k r q w : ℕ) → k ≡ r + q * w → 0 < w → q ≢ 0 → 0 < k
    later k r q w e p ne = let m : 1 * w ≤ q * w = mul-le 1 w q w (omega arith) (omega arith) in omega arith

pub ground_numbers : {V : Type 0} (lanes : V → List ℤ) (b high : ℕ) (v : List (Block V)) (zeros one : Block V) → ((r : ℕ) → r < 2 ^ b → lane lanes r zeros ≡ nothing) → ((r : ℕ) → r < 2 ^ b → lane lanes r one ≡ ground r)
    → v ≡ first_set (2 ^ high) zeros one → numbers lanes b v ≡ listed (high + b) ground
unfolding listed
ground_numbers {V} lanes b high v zeros one hz ho e =
    let w : 2 ^ (high + b) ≡ 2 ^ b * 2 ^ high = pow-add 2 high b ∙ commuted (2 ^ high) (2 ^ b) in
    let len : length v ≡ 2 ^ high = ap (λ (u : List (Block V)). length u) e ∙ length-set (replicate (2 ^ high) zeros) 0 one ∙ length-replicate (2 ^ high) zeros in
    let total : length (numbers lanes b v) ≡ 2 ^ (high + b) = length_numbers lanes b v ∙ ap (λ n. 2 ^ b * n) len ∙ sym w in
    fill_by_all ground (numbers lanes b v) (2 ^ (high + b)) nothing total
    (λ k l. let m : k < 2 ^ b * 2 ^ high = subst (λ t. k < t) w l in
    numbers_at lanes b v k ∙ ap (λ (u : List (Block V)). number_at lanes b u k) e ∙ at_each lanes b (2 ^ high) k zeros one hz ho (pow_pos high) m)
  where
    commuted : (x y : ℕ) → x * y ≡ y * x
    commuted x y = omega arith

pub ground_bounded : {V : Type 0} (lanes : V → List ℤ) (w n : ℕ) (v : List (Block V)) (zeros one : Block V) → IsBlock lanes w 1 zeros → IsBlock lanes w 1 one
    → v ≡ first_set n zeros one → All (IsBlock lanes w 1) v
ground_bounded lanes w n v zeros one hz ho e = subst (All (IsBlock lanes w 1)) (sym e) (All-set (IsBlock lanes w 1) _ _ _ ho (All-replicate (IsBlock lanes w 1) n zeros hz))
