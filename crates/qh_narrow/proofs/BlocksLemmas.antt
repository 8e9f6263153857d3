-- A state of any number of qubits in blocks: its numbers come first, and what follows them is 0.
use Rattle.std.proofs.Common.{◌≡◌, ℕ, zero, suc, ◌+◌, ◌-◌, ◌*◌, ◌^◌, ◌<◌, ◌≤◌, inl, inr, ℤ, List, length, arith, refl, sym, ap, subst, ◌∙◌}
use Rattle.std.proofs.Math.Pow.{pow_mono}
use Rattle.std.proofs.lemmas.Nat.{pow_pos, pow-add}
use Rattle.std.proofs.lemmas.Bool.{cases_lt}
use Rattle.std.proofs.lemmas.List.{get_or_past}
use Rattle.std.proofs.lemmas.List.FromFn.{get_or-map-range_with_len}
use Rattle.qh_limits.specs.Limits.{max_part_qubits}
use Rattle.qh_ring.specs.declared.number.Omega.{Omega}
use Rattle.qh_ring.specs.Numbers.{product, nothing}
use Rattle.qh_ring.specs.States.{place_on, with_bits, applied, at_index, applied_list, ground, listed}
use Rattle.qh_ring.proofs.SumLemmas.{sum_below_none, product_nothing}
use Rattle.qh_ring.proofs.AgreeLemmas.{bits_below, bits_twice, back}
use Rattle.qh_ring.proofs.ListedLemmas.{length-listed, at_listed, listed_same, applied_listed}
use Rattle.qh_kernel.proofs.DoneLemmas.{AreQubits}
use Rattle.qh_blocks.specs.declared.block.Block.{Block}
use Rattle.qh_blocks.specs.Numbers.{number_at, numbers}
use Rattle.qh_blocks.proofs.NumbersLemmas.{length_numbers, numbers_at}
use Rattle.qh_blocks.proofs.PartLemmas.{applied_at}
use Rattle.qh_narrow.specs.Columns.{first_numbers, AreBlocksOf}

commuted : (x y : ℕ) → x * y ≡ y * x
commuted x y = omega arith

two_parts : (high b : ℕ) → 2 ^ (high + b) ≡ 2 ^ b * 2 ^ high
two_parts high b = pow-add 2 high b ∙ commuted (2 ^ high) (2 ^ b)

padded : (q b : ℕ) → q ≤ q - b + b
padded q b = omega arith

pub room_for : (q b : ℕ) → 2 ^ q ≤ 2 ^ b * 2 ^ (q - b)
room_for q b = let l : 2 ^ q ≤ 2 ^ (q - b + b) = pow_mono (padded q b) in subst (λ t. 2 ^ q ≤ t) (two_parts (q - b) b) l

-- the blocks have all its numbers
pub room_of : {V : Type 0} (lanes : V → List ℤ) (b q : ℕ) (v : List (Block V)) → AreBlocksOf lanes b q v → 2 ^ q ≤ 2 ^ b * length v
room_of lanes b q v h = subst (λ n. 2 ^ q ≤ 2 ^ b * n) (sym h.len) (room_for q b)

below_room : (k m n : ℕ) → k < m → m ≤ n → k < n
below_room k m n l h = omega arith

not_both : (x n : ℕ) → n ≤ x → ¬ (x < n)
not_both x n h l = omega arith

-- ---- what follows them stays 0
bits_above : (n c : ℕ) (qs : List ℕ) (x : ℕ) → AreQubits n qs → 2 ^ n ≤ x → 2 ^ n ≤ with_bits qs c x
bits_above n c qs x are h =
    let y = with_bits qs c x in
    elim (cases_lt y (2 ^ n)) [
      | inl s ↦
          let e : x ≡ with_bits qs (place_on qs x) y = back (λ i j. nothing) qs (λ i. nothing) n y are.distinct are.less s x (sym (bits_twice qs 0 c x)) in
          absurd (not_both x (2 ^ n) h (subst (λ t. t < 2 ^ n) (sym e) (bits_below n (place_on qs x) qs y are.less s)))
      | inr g ↦ g
    ]

pub applied_above : (n : ℕ) (m : ℕ → ℕ → Omega) (qs : List ℕ) (f : ℕ → Omega) (k : ℕ) → AreQubits n qs → ((x : ℕ) → 2 ^ n ≤ x → f x ≡ nothing) → 2 ^ n ≤ k
    → applied m qs f k ≡ nothing
unfolding applied
applied_above n m qs f k are h g =
    sum_below_none (2 ^ length qs) _ (λ c b. ap (product (m (place_on qs k) c)) (h (with_bits qs c k) (bits_above n c qs k are g)) ∙ product_nothing (m (place_on qs k) c))

-- ---- a matrix on all that the blocks hold
after_at : {V : Type 0} (lanes : V → List ℤ) (b : ℕ) (m : ℕ → ℕ → Omega) (qs : List ℕ) (v w : List (Block V)) (k : ℕ)
    → numbers lanes b w ≡ applied_list m qs (numbers lanes b v) → k < 2 ^ b * length v → number_at lanes b w k ≡ applied m qs (number_at lanes b v) k
unfolding applied_list
after_at lanes b m qs v w k e l =
    let n = length (numbers lanes b v) in
    let ln : k < n = subst (λ t. k < t) (sym (length_numbers lanes b v)) l in
    let z : 0 + k ≡ k = omega arith in
    sym (numbers_at lanes b w k) ∙ ap (λ u. at_index u k) e
    ∙ get_or-map-range_with_len (applied m qs (at_index (numbers lanes b v))) 0 n k k nothing ln z
    ∙ sym (applied_at lanes b m qs v k)

pub past_end : {V : Type 0} (lanes : V → List ℤ) (b : ℕ) (v : List (Block V)) (k : ℕ) → 2 ^ b * length v ≤ k → number_at lanes b v k ≡ nothing
past_end lanes b v k l = sym (numbers_at lanes b v k) ∙ get_or_past (numbers lanes b v) k nothing (subst (λ t. t ≤ k) (sym (length_numbers lanes b v)) l)

-- is that matrix on the state
pub first_applied : {V : Type 0} (lanes : V → List ℤ) (b q : ℕ) (m : ℕ → ℕ → Omega) (qs : List ℕ) (v w : List (Block V)) → AreQubits q qs → AreBlocksOf lanes b q v
    → numbers lanes b w ≡ applied_list m qs (numbers lanes b v) → first_numbers lanes b q w ≡ applied_list m qs (first_numbers lanes b q v)
first_applied lanes b q m qs v w are h e =
    listed_same q (number_at lanes b w) (applied m qs (number_at lanes b v)) (λ k l. after_at lanes b m qs v w k e (below_room k (2 ^ q) (2 ^ b * length v) l (room_of lanes b q v h)))
    ∙ sym (applied_listed q m qs (number_at lanes b v) are.less)

pub blocks_applied : {V : Type 0} (lanes : V → List ℤ) (b q : ℕ) (m : ℕ → ℕ → Omega) (qs : List ℕ) (v w : List (Block V)) → AreQubits q qs → AreBlocksOf lanes b q v
    → length w ≡ length v → numbers lanes b w ≡ applied_list m qs (numbers lanes b v) → AreBlocksOf lanes b q w
blocks_applied lanes b q m qs v w are h len e = record {
  few = h.few;
  len = len ∙ h.len;
  others = λ k g. elim (cases_lt k (2 ^ b * length v)) [
    | inl l ↦ after_at lanes b m qs v w k e l ∙ applied_above q m qs (number_at lanes b v) k are h.others g
    | inr past ↦ past_end lanes b w k (subst (λ n. 2 ^ b * n ≤ k) (sym len) past)
  ];
}

-- ---- the ground state
ground_after : (k : ℕ) → 0 < k → ground k ≡ nothing
ground_after zero l = absurd (omega arith)
ground_after (suc k) l = refl

some_before : (k n : ℕ) → 0 < n → n ≤ k → 0 < k
some_before k n p l = omega arith

pub first_ground : {V : Type 0} (lanes : V → List ℤ) (b q : ℕ) (v : List (Block V)) → numbers lanes b v ≡ listed (q - b + b) ground → first_numbers lanes b q v ≡ listed q ground
first_ground lanes b q v e = listed_same q (number_at lanes b v) ground (λ k l.
    sym (numbers_at lanes b v k) ∙ ap (λ u. at_index u k) e ∙ at_listed (q - b + b) ground k (below_room k (2 ^ q) (2 ^ (q - b + b)) l (pow_mono (padded q b))))

pub blocks_ground : {V : Type 0} (lanes : V → List ℤ) (b q : ℕ) (v : List (Block V)) → q ≤ max_part_qubits → length v ≡ 2 ^ (q - b) → numbers lanes b v ≡ listed (q - b + b) ground
    → AreBlocksOf lanes b q v
blocks_ground lanes b q v few len e = record {
  few = few;
  len = len;
  others = λ k g. elim (cases_lt k (2 ^ (q - b + b))) [
    | inl l ↦ sym (numbers_at lanes b v k) ∙ ap (λ u. at_index u k) e ∙ at_listed (q - b + b) ground k l ∙ ground_after k (some_before k (2 ^ q) (pow_pos q) g)
    | inr past ↦ sym (numbers_at lanes b v k) ∙ ap (λ u. at_index u k) e
        ∙ get_or_past (listed (q - b + b) ground) k nothing (subst (λ n. n ≤ k) (sym (length-listed (q - b + b) ground)) past)
  ];
}
