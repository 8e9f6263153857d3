-- Whether the numbers that a matrix makes are within a bound: the groups of blocks below p are.
use Rattle.std.proofs.Common.{◌≡◌, ◌≢◌, ℕ, ◌+◌, ◌*◌, ◌/◌, ◌%◌, ◌^◌, ◌<◌, ◌≤◌, inl, inr, ℤ, List, [], ◌∷◌, length, get_or, arith, sym, ap, subst, ◌∙◌}
use Rattle.std.specs.List.{All}
use Rattle.std.proofs.lemmas.Bool.{cases_eq}
use Rattle.std.proofs.lemmas.List.{get_or-map}
use Rattle.std.proofs.lemmas.List.FromFn.{get_or-map-range_with_len, length-map-range_with_len}
use Rattle.std.proofs.lemmas.Nat.{pow_pos, mod_below, mul-le}
use Rattle.qh_ring.specs.declared.number.Omega.{Omega}
use Rattle.qh_ring.specs.Numbers.{nothing, IsWithin}
use Rattle.qh_ring.specs.States.{place_on, applied, at_index, applied_list}
use Rattle.qh_ring.proofs.StateLemmas.{place_below}
use Rattle.qh_ring.proofs.AgreeLemmas.{back}
use Rattle.qh_kernel.proofs.PlaceLemmas.{rank, below_two}
use Rattle.qh_kernel.proofs.GroupLemmas.{one_qubit, IsPairAt}
use Rattle.qh_blocks.specs.declared.block.Block.{Block}
use Rattle.qh_blocks.specs.Blocks.{lane, IsBlock}
use Rattle.qh_blocks.specs.Numbers.{number_at, numbers}
use Rattle.qh_blocks.proofs.NumbersLemmas.{parts_of, block_below, length_numbers}
use Rattle.qh_blocks.proofs.PartLemmas.{number_there, applied_at}

pub record AreFit {V : Type 0} (lanes : V → List ℤ) (b : ℕ) (m : ℕ → ℕ → Omega) (qs : List ℕ) (number : ℕ → ℕ) (limit : ℕ) (v : List (Block V)) (p : ℕ) : Type 0 where
  pub each : (k r : ℕ) → k < length v → r < 2 ^ b → number k < p → IsWithin limit (applied m qs (number_at lanes b v) (r + k * 2 ^ b))

pub fit_none : {V : Type 0} (lanes : V → List ℤ) (b : ℕ) (m : ℕ → ℕ → Omega) (qs : List ℕ) (number : ℕ → ℕ) (limit : ℕ) (v : List (Block V)) → AreFit lanes b m qs number limit v 0
fit_none lanes b m qs number limit v = record { each = λ k r lk lr lp. absurd (omega arith) }

pub fit_all : {V : Type 0} (lanes : V → List ℤ) (b : ℕ) (m : ℕ → ℕ → Omega) (qs : List ℕ) (number : ℕ → ℕ) (limit : ℕ) (v : List (Block V)) (p : ℕ) → ((k : ℕ) → k < length v → number k < p)
    → AreFit lanes b m qs number limit v p → All (IsWithin limit) (applied_list m qs (numbers lanes b v))
unfolding applied_list
fit_all lanes b m qs number limit v p all h i d l =
    let n = length (numbers lanes b v) in
    let f = applied m qs (at_index (numbers lanes b v)) in
    let li : i < n = subst (λ t. i < t) (length-map-range_with_len f 0 n) l in
    let lv : i < 2 ^ b * length v = subst (λ t. i < t) (length_numbers lanes b v) li in
    let lk : i / 2 ^ b < length v = block_below i b (length v) lv in
    let z : 0 + i ≡ i = omega arith in
    subst (IsWithin limit)
    (ap (applied m qs (number_at lanes b v)) (sym (parts_of i b)) ∙ applied_at lanes b m qs v i ∙ sym (get_or-map-range_with_len f 0 n i i d li z))
    (h.each (i / 2 ^ b) (i % 2 ^ b) lk (mod_below i (2 ^ b) (pow_pos b)) (all (i / 2 ^ b) lk))

inside : (r n q s : ℕ) → r < q → s < n → r + s * q < q * n
inside r n q s lr ls = let m : (s + 1) * q ≤ n * q = mul-le (s + 1) q n q (omega arith) (omega arith) in let c : q * n ≡ n * q = omega arith in let e : (s + 1) * q ≡ s * q + q = omega arith in omega arith

-- where all are within the bound, so is each
pub fit_each : {V : Type 0} (lanes : V → List ℤ) (b : ℕ) (m : ℕ → ℕ → Omega) (qs : List ℕ) (limit : ℕ) (v : List (Block V)) (k r : ℕ) → k < length v → r < 2 ^ b
    → All (IsWithin limit) (applied_list m qs (numbers lanes b v)) → IsWithin limit (applied m qs (number_at lanes b v) (r + k * 2 ^ b))
unfolding applied_list
fit_each lanes b m qs limit v k r lk lr all =
    let n = length (numbers lanes b v) in
    let f = applied m qs (at_index (numbers lanes b v)) in
    let i = r + k * 2 ^ b in
    let li : i < n = subst (λ t. i < t) (sym (length_numbers lanes b v)) (inside r (length v) (2 ^ b) k lr lk) in
    let z : 0 + i ≡ i = omega arith in
    subst (IsWithin limit) (get_or-map-range_with_len f 0 n i i nothing li z ∙ sym (applied_at lanes b m qs v i))
    (all i nothing (subst (λ t. i < t) (sym (length-map-range_with_len f 0 n)) li))

-- a block by its lanes
pub block_of_lanes : {V : Type 0} (lanes : V → List ℤ) (w limit bits : ℕ) (x : Block V) → IsBlock lanes w bits x → ((r : ℕ) → r < w → IsWithin limit (lane lanes r x)) → IsBlock lanes w limit x
block_of_lanes lanes w limit bits x h each = record {
  a = record { len = h.a.len; each = λ r l. (each r l).a };
  b = record { len = h.b.len; each = λ r l. (each r l).b };
  c = record { len = h.c.len; each = λ r l. (each r l).c };
  d = record { len = h.d.len; each = λ r l. (each r l).d };
}

pub lane_is_within : {V : Type 0} (lanes : V → List ℤ) (w limit : ℕ) (x : Block V) (r : ℕ) → r < w → IsBlock lanes w limit x → IsWithin limit (lane lanes r x)
lane_is_within lanes w limit x r l h = record { a = h.a.each r l; b = h.b.each r l; c = h.c.each r l; d = h.d.each r l }

-- the numbers of a block that is read
pub read_number : {V : Type 0} (lanes : V → List ℤ) (b : ℕ) (v : List (Block V)) (k : ℕ) (x : Block V) → k < length v → x ≡ get_or v k x → (r : ℕ) → r < 2 ^ b → lane lanes r x ≡ number_at lanes b v (r + k * 2 ^ b)
read_number lanes b v k x l e r lr = ap (lane lanes r) e ∙ sym (get_or-map (lane lanes r) v k x nothing l) ∙ sym (number_there lanes b v k r lr)

pub read_block : {V : Type 0} (lanes : V → List ℤ) (b bits : ℕ) (v : List (Block V)) (k : ℕ) (x : Block V) → k < length v → All (IsBlock lanes (2 ^ b) bits) v → x ≡ get_or v k x → IsBlock lanes (2 ^ b) bits x
read_block lanes b bits v k x l h e = subst (IsBlock lanes (2 ^ b) bits) (sym e) (h k x l)

-- one more block, where each is a group of its own
pub fit_one : {V : Type 0} (lanes : V → List ℤ) (b : ℕ) (m : ℕ → ℕ → Omega) (qs : List ℕ) (limit : ℕ) (v : List (Block V)) (n : ℕ) → AreFit lanes b m qs (λ k. k) limit v n
    → ((r : ℕ) → r < 2 ^ b → IsWithin limit (applied m qs (number_at lanes b v) (r + n * 2 ^ b))) → AreFit lanes b m qs (λ k. k) limit v (n + 1)
fit_one lanes b m qs limit v n h new = record {
  each = λ k r lk lr lp. elim (cases_eq k n) [
    | inl e ↦ rw e (new r lr)
    | inr ne ↦ h.each k r lk lr (omega arith)
  ];
}

-- one more pair
pub fit_pair : {V : Type 0} (lanes : V → List ℤ) (b : ℕ) (m : ℕ → ℕ → Omega) (qs : List ℕ) (qubits q limit : ℕ) (v : List (Block V)) (p low high : ℕ) → q < qubits → length v ≡ 2 ^ qubits → IsPairAt qubits q p low high
    → AreFit lanes b m qs (rank q) limit v p → ((r : ℕ) → r < 2 ^ b → IsWithin limit (applied m qs (number_at lanes b v) (r + low * 2 ^ b)))
    → ((r : ℕ) → r < 2 ^ b → IsWithin limit (applied m qs (number_at lanes b v) (r + high * 2 ^ b))) → AreFit lanes b m qs (rank q) limit v (p + 1)
fit_pair lanes b m qs qubits q limit v p low high l e at h nl nh = record {
  each = λ k r lk lr lp. elim (cases_eq (rank q k) p) [
    | inl f ↦
        let hq = one_qubit qubits q l in
        let j = place_on (q ∷ []) k in
        let lj : j < 2 = place_below (q ∷ []) k in
        let g : k ≡ get_or (low ∷ high ∷ []) j 0 = back m (q ∷ []) (number_at lanes b v) qubits low hq.distinct hq.less at.low_below k (at.group.here k f ∙ sym at.group.base) ∙ at.places j lj in
        subst (λ i. IsWithin limit (applied m qs (number_at lanes b v) (r + i * 2 ^ b))) (sym g)
        (below_two (λ j. IsWithin limit (applied m qs (number_at lanes b v) (r + get_or (low ∷ high ∷ []) j 0 * 2 ^ b))) (nl r lr) (nh r lr) j lj)
    | inr ne ↦ h.each k r lk lr (below_next (rank q k) p lp ne)
  ];
}
  where
    below_next : (r p : ℕ) → r < p + 1 → r ≢ p → r < p
    below_next r p l ne = omega arith
