-- A matrix on a qubit above a block's lanes acts on each lane's numbers alike; one on a qubit of the lanes acts within each block.
use Rattle.std.proofs.Common.{◌≡◌, ℕ, ◌+◌, ◌-◌, ◌*◌, ◌/◌, ◌%◌, ◌^◌, ◌<◌, ◌≤◌, inl, inr, ℤ, List, [], ◌∷◌, length, arith, sym, ap, subst, ◌∙◌, map}
use Rattle.std.proofs.Math.Path.{ap₂}
use Rattle.std.specs.Int.{bit_at}
use Rattle.std.proofs.lemmas.List.{length-map, get_or_past}
use Rattle.std.proofs.lemmas.List.FromFn.{fill_by_all, get_or-map-range_with_len, length-map-range_with_len}
use Rattle.std.proofs.Math.Nat.{div-div-eq-div-mul}
use Rattle.std.proofs.lemmas.Nat.{pow_pos, pow-add, div-mul-add, mod-mul-add, mod_below, div-add-mod', mul-le}
use Rattle.std.proofs.lemmas.Nat.Bits.{bit_at-lt}
use Rattle.std.proofs.lemmas.Bool.{cases_lt}
use Rattle.qh_ring.specs.declared.number.Omega.{Omega}
use Rattle.qh_ring.specs.Numbers.{product, nothing}
use Rattle.qh_ring.specs.States.{with_bit, applied, at_index, applied_list}
use Rattle.qh_ring.proofs.BitLemmas.{bit_weight, bit_low, with_low, with_bit_below}
use Rattle.qh_ring.proofs.SumLemmas.{sum_below_same}
use Rattle.qh_blocks.specs.declared.block.Block.{Block}
use Rattle.qh_blocks.specs.Blocks.{lane}
use Rattle.qh_blocks.specs.Numbers.{number_in_block, number_at, numbers}

-- ---- an index is a block's and a lane's
pub div_of : (a b y : ℕ) → y < 2 ^ b → (y + a * 2 ^ b) / 2 ^ b ≡ a
div_of a b y l = let c : y + a * 2 ^ b ≡ a * 2 ^ b + y = omega arith in ap (λ n. n / 2 ^ b) c ∙ div-mul-add a (2 ^ b) y l

pub mod_of : (a b y : ℕ) → y < 2 ^ b → (y + a * 2 ^ b) % 2 ^ b ≡ y
mod_of a b y l = let c : y + a * 2 ^ b ≡ a * 2 ^ b + y = omega arith in ap (λ n. n % 2 ^ b) c ∙ mod-mul-add a (2 ^ b) y l

pub parts_of : (k b : ℕ) → k ≡ k % 2 ^ b + k / 2 ^ b * 2 ^ b
parts_of k b = let e = div-add-mod' k (2 ^ b) in omega arith

pub block_below : (k b n : ℕ) → k < 2 ^ b * n → k / 2 ^ b < n
block_below k b n l = elim (cases_lt (k / 2 ^ b) n) [
  | inl h ↦ h
  | inr h ↦
      let m : n * 2 ^ b ≤ k / 2 ^ b * 2 ^ b = mul-le n (2 ^ b) (k / 2 ^ b) (2 ^ b) h (omega arith) in
      let e = parts_of k b in
      let c : 2 ^ b * n ≡ n * 2 ^ b = omega arith in
      absurd (omega arith)
]

block_past : (k b n : ℕ) → 2 ^ b * n ≤ k → n ≤ k / 2 ^ b
block_past k b n l = elim (cases_lt (k / 2 ^ b) n) [
  | inr h ↦ h
  | inl h ↦
      let m : (k / 2 ^ b + 1) * 2 ^ b ≤ n * 2 ^ b = mul-le (k / 2 ^ b + 1) (2 ^ b) n (2 ^ b) (omega arith) (omega arith) in
      let e = parts_of k b in
      let r : k % 2 ^ b < 2 ^ b = mod_below k (2 ^ b) (pow_pos b) in
      let c : 2 ^ b * n ≡ n * 2 ^ b = omega arith in
      absurd (omega arith)
]

-- a bit of an index above the lanes
pub high_bit : (b q k : ℕ) → bit_at k (q + b) ≡ bit_at (k / 2 ^ b) q
high_bit b q k =
    let e : 2 ^ (q + b) ≡ 2 ^ b * 2 ^ q = pow-add 2 q b ∙ commuted (2 ^ q) (2 ^ b) in
    ap (λ n. k / n % 2) e ∙ sym (ap (λ n. n % 2) (div-div-eq-div-mul k (2 ^ b) (2 ^ q)))
  where
    commuted : (x y : ℕ) → x * y ≡ y * x
    commuted x y = omega arith

pub high_set : (b q c k : ℕ) → with_bit (q + b) c k ≡ k % 2 ^ b + with_bit q c (k / 2 ^ b) * 2 ^ b
unfolding with_bit
high_set b q c k =
    ap (λ t. k - t * 2 ^ (q + b) + c * 2 ^ (q + b)) (high_bit b q k)
    ∙ step k (k % 2 ^ b) (k / 2 ^ b) (2 ^ b) (2 ^ q) (2 ^ (q + b)) (bit_at (k / 2 ^ b) q) c (parts_of k b) (pow-add 2 q b) (bit_weight (k / 2 ^ b) q)
  where
    summed : (y d s u p : ℕ) → y + (d + s) * p - s * p + u * p ≡ y + (d + u) * p
    summed y d s u p = let e : (d + s) * p ≡ d * p + s * p = omega arith in let f : (d + u) * p ≡ d * p + u * p = omega arith in omega arith

    associated : (x y z : ℕ) → x * (y * z) ≡ x * y * z
    associated x y z = omega arith

    step : (k y a p q d t c : ℕ) → k ≡ y + a * p → d ≡ q * p → t * q ≤ a → k - t * d + c * d ≡ y + (a - t * q + c * q) * p
    step k y a p q d t c e f h =
        let ea : a ≡ a - t * q + t * q = omega arith in
        let td : t * d ≡ t * q * p = ap (λ n. t * n) f ∙ associated t q p in
        let cd : c * d ≡ c * q * p = ap (λ n. c * n) f ∙ associated c q p in
        ap₂ (λ m n. m - t * d + n) (e ∙ ap (λ n. y + n * p) ea) cd ∙ ap (λ n. y + (a - t * q + t * q) * p - n + c * q * p) td
        ∙ summed y (a - t * q) (t * q) (c * q) p

pub length_numbers : {V : Type 0} (lanes : V → List ℤ) (b : ℕ) (v : List (Block V)) → length (numbers lanes b v) ≡ 2 ^ b * length v
unfolding numbers
length_numbers lanes b v = length-map-range_with_len (number_at lanes b v) 0 (2 ^ b * length v)

-- the list by its index
pub number_of_list : {V : Type 0} (lanes : V → List ℤ) (b : ℕ) (v : List (Block V)) (k : ℕ) → k < 2 ^ b * length v → at_index (numbers lanes b v) k ≡ number_at lanes b v k
unfolding numbers
number_of_list lanes b v k l = let z : 0 + k ≡ k = omega arith in get_or-map-range_with_len (number_at lanes b v) 0 (2 ^ b * length v) k k nothing l z

past_end : {V : Type 0} (lanes : V → List ℤ) (b : ℕ) (v : List (Block V)) (k : ℕ) → 2 ^ b * length v ≤ k → at_index (numbers lanes b v) k ≡ number_at lanes b v k
past_end lanes b v k l =
    let n : length (numbers lanes b v) ≤ k = subst (λ t. t ≤ k) (sym (length_numbers lanes b v)) l in
    let e = length-map v (lane lanes (k % 2 ^ b)) in
    let m : length (map (lane lanes (k % 2 ^ b)) v) ≤ k / 2 ^ b = subst (λ t. t ≤ k / 2 ^ b) (sym e) (block_past k b (length v) l) in
    get_or_past (numbers lanes b v) k nothing n ∙ sym (get_or_past (map (lane lanes (k % 2 ^ b)) v) (k / 2 ^ b) nothing m)

pub numbers_at : {V : Type 0} (lanes : V → List ℤ) (b : ℕ) (v : List (Block V)) (k : ℕ) → at_index (numbers lanes b v) k ≡ number_at lanes b v k
numbers_at lanes b v k = elim (cases_lt k (2 ^ b * length v)) [
  | inl l ↦ number_of_list lanes b v k l
  | inr g ↦ past_end lanes b v k g
]

-- number k after a matrix on qubit q + b, by that lane's numbers
applied_lane : {V : Type 0} (lanes : V → List ℤ) (m : ℕ → ℕ → Omega) (b q : ℕ) (v : List (Block V)) (k : ℕ)
    → applied m ((q + b) ∷ []) (at_index (numbers lanes b v)) k ≡ applied m (q ∷ []) (at_index (map (lane lanes (k % 2 ^ b)) v)) (k / 2 ^ b)
unfolding applied
applied_lane lanes m b q v k =
    let low : k % 2 ^ b < 2 ^ b = mod_below k (2 ^ b) (pow_pos b) in
    sum_below_same 2 _ _ (λ c l. ap₂ product
    (ap (λ t. m (t * 1 + 0) c) (high_bit b q k))
    (numbers_at lanes b v (with_bit (q + b) (bit_at c 0) k)
    ∙ ap (number_at lanes b v) (high_set b q (bit_at c 0) k)
    ∙ ap₂ (λ r n. number_in_block lanes v n r) (mod_of (with_bit q (bit_at c 0) (k / 2 ^ b)) b (k % 2 ^ b) low) (div_of (with_bit q (bit_at c 0) (k / 2 ^ b)) b (k % 2 ^ b) low)))

-- where each lane's numbers are those of the matrix, so are all
pub numbers_applied : {V : Type 0} (lanes : V → List ℤ) (m : ℕ → ℕ → Omega) (b q : ℕ) (v0 v : List (Block V)) → length v ≡ length v0
    → ((r : ℕ) → r < 2 ^ b → map (lane lanes r) v ≡ applied_list m (q ∷ []) (map (lane lanes r) v0)) → numbers lanes b v ≡ applied_list m ((q + b) ∷ []) (numbers lanes b v0)
unfolding applied_list
numbers_applied lanes m b q v0 v e h =
    fill_by_all (applied m ((q + b) ∷ []) (at_index (numbers lanes b v0))) (numbers lanes b v) (length (numbers lanes b v0)) nothing
    (length_numbers lanes b v ∙ ap (λ n. 2 ^ b * n) e ∙ sym (length_numbers lanes b v0))
    (λ k l.
    let lk : k < 2 ^ b * length v0 = subst (λ n. k < n) (length_numbers lanes b v0) l in
    let lr : k % 2 ^ b < 2 ^ b = mod_below k (2 ^ b) (pow_pos b) in
    let z : 0 + k / 2 ^ b ≡ k / 2 ^ b = omega arith in
    let lm : k / 2 ^ b < length (map (lane lanes (k % 2 ^ b)) v0) = subst (λ n. k / 2 ^ b < n) (sym (length-map v0 (lane lanes (k % 2 ^ b)))) (block_below k b (length v0) lk) in
    numbers_at lanes b v k
    ∙ ap (λ u. at_index u (k / 2 ^ b)) (h (k % 2 ^ b) lr)
    ∙ get_or-map-range_with_len (applied m (q ∷ []) (at_index (map (lane lanes (k % 2 ^ b)) v0))) 0 (length (map (lane lanes (k % 2 ^ b)) v0)) (k / 2 ^ b) (k / 2 ^ b) nothing lm z
    ∙ sym (applied_lane lanes m b q v0 k))

-- ---- a matrix on a qubit within a block
inner_lane : {V : Type 0} (lanes : V → List ℤ) (m : ℕ → ℕ → Omega) (b q : ℕ) (v : List (Block V)) (k : ℕ) → q < b
    → applied m (q ∷ []) (at_index (numbers lanes b v)) k ≡ applied m (q ∷ []) (number_in_block lanes v (k / 2 ^ b)) (k % 2 ^ b)
unfolding applied
inner_lane lanes m b q v k l =
    let e = parts_of k b in
    let low : k % 2 ^ b < 2 ^ b = mod_below k (2 ^ b) (pow_pos b) in
    sum_below_same 2 _ _ (λ c d.
    let within : with_bit q (bit_at c 0) (k % 2 ^ b) < 2 ^ b = with_bit_below q b (bit_at c 0) (k % 2 ^ b) (bit_at-lt c 0) l low in
    ap₂ product
    (ap (λ t. m (t * 1 + 0) c) (ap (λ n. bit_at n q) e ∙ bit_low q b (k / 2 ^ b) (k % 2 ^ b) l))
    (numbers_at lanes b v (with_bit q (bit_at c 0) k)
    ∙ ap (number_at lanes b v) (ap (with_bit q (bit_at c 0)) e ∙ with_low q b (k / 2 ^ b) (bit_at c 0) (k % 2 ^ b) l)
    ∙ ap₂ (λ r n. number_in_block lanes v n r) (mod_of (k / 2 ^ b) b (with_bit q (bit_at c 0) (k % 2 ^ b)) within) (div_of (k / 2 ^ b) b (with_bit q (bit_at c 0) (k % 2 ^ b)) within)))

-- where each block's numbers are those of the matrix, so are all
pub numbers_inner : {V : Type 0} (lanes : V → List ℤ) (m : ℕ → ℕ → Omega) (b q : ℕ) (v0 v : List (Block V)) → q < b → length v ≡ length v0
    → ((n : ℕ) → n < length v0 → (r : ℕ) → r < 2 ^ b → number_in_block lanes v n r ≡ applied m (q ∷ []) (number_in_block lanes v0 n) r)
    → numbers lanes b v ≡ applied_list m (q ∷ []) (numbers lanes b v0)
unfolding applied_list
numbers_inner lanes m b q v0 v small e h =
    fill_by_all (applied m (q ∷ []) (at_index (numbers lanes b v0))) (numbers lanes b v) (length (numbers lanes b v0)) nothing
    (length_numbers lanes b v ∙ ap (λ n. 2 ^ b * n) e ∙ sym (length_numbers lanes b v0))
    (λ k l.
    let lk : k < 2 ^ b * length v0 = subst (λ n. k < n) (length_numbers lanes b v0) l in
    let lr : k % 2 ^ b < 2 ^ b = mod_below k (2 ^ b) (pow_pos b) in
    numbers_at lanes b v k ∙ h (k / 2 ^ b) (block_below k b (length v0) lk) (k % 2 ^ b) lr ∙ sym (inner_lane lanes m b q v0 k small))
