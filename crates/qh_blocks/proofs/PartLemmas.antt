-- How far a matrix has been applied to the numbers of blocks: the groups of blocks below p are done.
use Rattle.std.proofs.Common.{◌≡◌, ◌≢◌, ℕ, ◌+◌, ◌*◌, ◌/◌, ◌%◌, ◌^◌, ◌<◌, ◌≤◌, inl, inr, ℤ, List, length, set, length-set, get_or, arith, refl, sym, ap, subst, ◌∙◌}
use Rattle.std.proofs.Math.Path.{ap₂}
use Rattle.std.specs.List.{All}
use Rattle.std.proofs.lemmas.Bool.{cases_eq}
use Rattle.std.proofs.lemmas.List.{get_or-map, get_or-set_same, get_or-set_other}
use Rattle.std.proofs.lemmas.List.Elements.{All-set}
use Rattle.std.proofs.lemmas.List.FromFn.{fill_by_all}
use Rattle.std.proofs.lemmas.Nat.{pow_pos, mod_below}
use Rattle.qh_ring.specs.declared.number.Omega.{Omega}
use Rattle.qh_ring.specs.Numbers.{product, nothing}
use Rattle.qh_ring.specs.States.{place_on, with_bits, applied, at_index, applied_list}
use Rattle.qh_ring.proofs.SumLemmas.{sum_below_same}
use Rattle.qh_ring.proofs.StateLemmas.{place_below}
use Rattle.qh_ring.proofs.AgreeLemmas.{bits_below, bits_twice, place_bits, back}
use Rattle.std.proofs.Math.Nat.{mod-eq_of_lt}
use Rattle.qh_kernel.proofs.PlaceLemmas.{IsGroup, HasPlacesOf}
use Rattle.qh_kernel.proofs.DoneLemmas.{AreQubits}
use Rattle.qh_kernel.proofs.BoundLemmas.{below_more}
use Rattle.qh_blocks.specs.declared.block.Block.{Block}
use Rattle.qh_blocks.specs.Blocks.{lane, IsBlock}
use Rattle.qh_blocks.specs.Numbers.{number_in_block, number_at, numbers}
use Rattle.qh_blocks.proofs.PutLemmas.{set_all, length_set_all, set_all_other, set_all_here, all_set_all}
use Rattle.qh_blocks.proofs.NumbersLemmas.{div_of, mod_of, parts_of, block_below, length_numbers, numbers_at}

pub block_more : {V : Type 0} (lanes : V → List ℤ) (w b m : ℕ) (x : Block V) → b ≤ m → IsBlock lanes w b x → IsBlock lanes w m x
block_more lanes w b m x l h = record {
  a = below_more w b m (lanes x.a) l h.a;
  b = below_more w b m (lanes x.b) l h.b;
  c = below_more w b m (lanes x.c) l h.c;
  d = below_more w b m (lanes x.d) l h.d;
}

pub blocks_more : {V : Type 0} (lanes : V → List ℤ) (w b m : ℕ) (v : List (Block V)) → b ≤ m → All (IsBlock lanes w b) v → All (IsBlock lanes w m) v
blocks_more lanes w b m v l h i d k = block_more lanes w b m (get_or v i d) l (h i d k)

-- number r of block k in the list of all
pub number_there : {V : Type 0} (lanes : V → List ℤ) (b : ℕ) (v : List (Block V)) (k r : ℕ) → r < 2 ^ b → number_at lanes b v (r + k * 2 ^ b) ≡ number_in_block lanes v k r
number_there lanes b v k r l = ap₂ (λ s t. number_in_block lanes v s t) (div_of k b r l) (mod_of k b r l)

-- how far a matrix on the qubits qs has been applied, where blocks are numbered by their groups
pub record IsPart {V : Type 0} (lanes : V → List ℤ) (b : ℕ) (m : ℕ → ℕ → Omega) (qs : List ℕ) (number : ℕ → ℕ) (out : ℕ) (v0 v : List (Block V)) (p : ℕ) : Type 0 where
  pub same_length : length v ≡ length v0
  pub done : (k r : ℕ) → k < length v0 → r < 2 ^ b → number k < p → number_in_block lanes v k r ≡ applied m qs (number_at lanes b v0) (r + k * 2 ^ b)
  pub rest : (k : ℕ) (d : Block V) → p ≤ number k → get_or v k d ≡ get_or v0 k d
  pub bounded : All (IsBlock lanes (2 ^ b) out) v

pub part_none : {V : Type 0} (lanes : V → List ℤ) (b : ℕ) (m : ℕ → ℕ → Omega) (qs : List ℕ) (number : ℕ → ℕ) (bits out : ℕ) (v : List (Block V)) → bits ≤ out → All (IsBlock lanes (2 ^ b) bits) v
    → IsPart lanes b m qs number out v v 0
part_none lanes b m qs number bits out v l h = record {
  same_length = refl;
  done = λ k r lk lr lp. absurd (omega arith);
  rest = λ k d lp. refl;
  bounded = blocks_more lanes (2 ^ b) bits out v l h;
}

-- the matrix reads the list by its index
pub applied_at : {V : Type 0} (lanes : V → List ℤ) (b : ℕ) (m : ℕ → ℕ → Omega) (qs : List ℕ) (v : List (Block V)) (k : ℕ) → applied m qs (number_at lanes b v) k ≡ applied m qs (at_index (numbers lanes b v)) k
unfolding applied
applied_at lanes b m qs v k = sum_below_same (2 ^ length qs) _ _ (λ c l. ap (product (m (place_on qs k) c)) (sym (numbers_at lanes b v (with_bits qs c k))))

pub part_all : {V : Type 0} (lanes : V → List ℤ) (b : ℕ) (m : ℕ → ℕ → Omega) (qs : List ℕ) (number : ℕ → ℕ) (out : ℕ) (v0 v : List (Block V)) (p : ℕ) → ((k : ℕ) → k < length v0 → number k < p)
    → IsPart lanes b m qs number out v0 v p → numbers lanes b v ≡ applied_list m qs (numbers lanes b v0)
unfolding applied_list
part_all lanes b m qs number out v0 v p all h =
    fill_by_all (applied m qs (at_index (numbers lanes b v0))) (numbers lanes b v) (length (numbers lanes b v0)) nothing
    (length_numbers lanes b v ∙ ap (λ n. 2 ^ b * n) h.same_length ∙ sym (length_numbers lanes b v0))
    (λ k l.
    let lk : k < 2 ^ b * length v0 = subst (λ n. k < n) (length_numbers lanes b v0) l in
    let lb : k / 2 ^ b < length v0 = block_below k b (length v0) lk in
    numbers_at lanes b v k
    ∙ h.done (k / 2 ^ b) (k % 2 ^ b) lb (mod_below k (2 ^ b) (pow_pos b)) (all (k / 2 ^ b) lb)
    ∙ ap (applied m qs (number_at lanes b v0)) (sym (parts_of k b))
    ∙ applied_at lanes b m qs v0 k)

-- a block that was read from a group that is not done
pub old_number : {V : Type 0} (lanes : V → List ℤ) (b : ℕ) (m : ℕ → ℕ → Omega) (qs : List ℕ) (number : ℕ → ℕ) (out : ℕ) (v0 v : List (Block V)) (p k : ℕ) (x : Block V) → k < length v0 → p ≤ number k
    → IsPart lanes b m qs number out v0 v p → x ≡ get_or v k x → (r : ℕ) → r < 2 ^ b → lane lanes r x ≡ number_at lanes b v0 (r + k * 2 ^ b)
old_number lanes b m qs number out v0 v p k x lk lp h e r lr =
    ap (lane lanes r) (e ∙ h.rest k x lp) ∙ sym (get_or-map (lane lanes r) v0 k x nothing lk) ∙ sym (number_there lanes b v0 k r lr)

pub old_block : {V : Type 0} (lanes : V → List ℤ) (b : ℕ) (m : ℕ → ℕ → Omega) (qs : List ℕ) (number : ℕ → ℕ) (bits out : ℕ) (v0 v : List (Block V)) (p k : ℕ) (x : Block V) → k < length v0 → p ≤ number k
    → All (IsBlock lanes (2 ^ b) bits) v0 → IsPart lanes b m qs number out v0 v p → x ≡ get_or v k x → IsBlock lanes (2 ^ b) bits x
old_block lanes b m qs number bits out v0 v p k x lk lp all h e = subst (IsBlock lanes (2 ^ b) bits) (sym (e ∙ h.rest k x lp)) (all k x lk)

-- one more group of blocks is done
pub part_more : {V : Type 0} (lanes : V → List ℤ) (b : ℕ) (m : ℕ → ℕ → Omega) (qs : List ℕ) (number : ℕ → ℕ) (out : ℕ) (v0 v : List (Block V)) (p : ℕ)
    (high : List ℕ) (n x : ℕ) (places : List ℕ) (blocks : List (Block V)) (one : Block V)
    → AreQubits n high → length v0 ≡ 2 ^ n → x < 2 ^ n → IsGroup high number x p → HasPlacesOf high x places → IsPart lanes b m qs number out v0 v p
    → ((j r : ℕ) → j < 2 ^ length high → r < 2 ^ b → lane lanes r (get_or blocks j one) ≡ applied m qs (number_at lanes b v0) (r + get_or places j 0 * 2 ^ b))
    → ((j : ℕ) → j < 2 ^ length high → IsBlock lanes (2 ^ b) out (get_or blocks j one))
    → IsPart lanes b m qs number out v0 (set_all (2 ^ length high) (λ j. get_or places j 0) (λ j. get_or blocks j one) v) (p + 1)
part_more {V} lanes b m qs number out v0 v p high n x places blocks one hq len lx g at h value bounded = record {
  same_length = length_set_all size w z v ∙ h.same_length;
  done = λ k r lk lr lp. elim (cases_eq (number k) p) [
    | inl e ↦
        let j = place_on high k in
        let lj : j < 2 ^ length high = place_below high k in
        let f : k ≡ get_or places j 0 = back m high (number_at lanes b v0) n x hq.distinct hq.less lx k (g.here k e ∙ sym g.base) ∙ at j lj in
        get_or-map (lane lanes r) new k one nothing (within_new k lk)
        ∙ ap (λ i. lane lanes r (get_or new i one)) f
        ∙ ap (lane lanes r) (set_all_here size w z v one apart within j lj)
        ∙ value j r lj lr
        ∙ ap (λ i. applied m qs (number_at lanes b v0) (r + i * 2 ^ b)) (sym f)
    | inr ne ↦
        let lv : k < length v = subst (λ t. k < t) (sym h.same_length) lk in
        get_or-map (lane lanes r) new k one nothing (within_new k lk)
        ∙ ap (lane lanes r) (set_all_other size w z v k one (λ j lj e. ne (number_of_place k j lj e)))
        ∙ sym (get_or-map (lane lanes r) v k one nothing lv)
        ∙ h.done k r lk lr (below_next (number k) p lp ne)
  ];
  rest = λ k d lp. set_all_other size w z v k d (λ j lj e. above (number k) p lp (number_of_place k j lj e)) ∙ h.rest k d (before (number k) p lp);
  bounded = all_set_all (IsBlock lanes (2 ^ b) out) size w z v h.bounded bounded;
}
  where
    size : ℕ
    size = 2 ^ length high

    w : ℕ → ℕ
    w j = get_or places j 0

    z : ℕ → Block V
    z j = get_or blocks j one

    new : List (Block V)
    new = set_all size w z v

    within_new : (k : ℕ) → k < length v0 → k < length new
    within_new k l = subst (λ t. k < t) (sym (length_set_all size w z v ∙ h.same_length)) l

    within : (j : ℕ) → j < size → w j < length v
    within j l = subst (λ k. k < length v) (at j l) (subst (λ t. with_bits high j x < t) (sym (h.same_length ∙ len)) (bits_below n j high x hq.less lx))

    apart : (i j : ℕ) → i < size → j < size → w i ≡ w j → i ≡ j
    apart i j li lj f =
        sym (mod-eq_of_lt li) ∙ sym (place_bits high i x hq.distinct) ∙ ap (place_on high) (at i li ∙ f ∙ sym (at j lj)) ∙ place_bits high j x hq.distinct ∙ mod-eq_of_lt lj

    number_of_place : (k j : ℕ) → j < 2 ^ length high → k ≡ get_or places j 0 → number k ≡ p
    number_of_place k j lj e = g.there k (ap (with_bits high 0) (e ∙ sym (at j lj)) ∙ bits_twice high 0 j x ∙ g.base)

    below_next : (r p : ℕ) → r < p + 1 → r ≢ p → r < p
    below_next r p l ne = omega arith

    above : (r p : ℕ) → p + 1 ≤ r → r ≡ p → ⊥
    above r p l e = omega arith

    before : (r p : ℕ) → p + 1 ≤ r → p ≤ r
    before r p l = omega arith

-- one more block is done, where each is a group of its own
pub part_one : {V : Type 0} (lanes : V → List ℤ) (b : ℕ) (m : ℕ → ℕ → Omega) (qs : List ℕ) (out : ℕ) (v0 v : List (Block V)) (n : ℕ) (x : Block V) → n < length v0 → IsPart lanes b m qs (λ k. k) out v0 v n
    → ((r : ℕ) → r < 2 ^ b → lane lanes r x ≡ applied m qs (number_at lanes b v0) (r + n * 2 ^ b)) → IsBlock lanes (2 ^ b) out x → IsPart lanes b m qs (λ k. k) out v0 (set v n x) (n + 1)
part_one {V} lanes b m qs out v0 v n x l h value bounded = record {
  same_length = length-set v n x ∙ h.same_length;
  done = λ k r lk lr lp. elim (cases_eq k n) [
    | inl e ↦
        get_or-map (lane lanes r) (set v n x) k x nothing (within_new k lk)
        ∙ ap (λ i. lane lanes r (get_or (set v n x) i x)) e
        ∙ ap (lane lanes r) (get_or-set_same v n x x (subst (λ t. n < t) (sym h.same_length) l))
        ∙ value r lr
        ∙ ap (λ i. applied m qs (number_at lanes b v0) (r + i * 2 ^ b)) (sym e)
    | inr ne ↦
        let lv : k < length v = subst (λ t. k < t) (sym h.same_length) lk in
        get_or-map (lane lanes r) (set v n x) k x nothing (within_new k lk)
        ∙ ap (lane lanes r) (get_or-set_other v n k x x ne)
        ∙ sym (get_or-map (lane lanes r) v k x nothing lv)
        ∙ h.done k r lk lr (omega arith)
  ];
  rest = λ k d lp. get_or-set_other v n k x d (λ e. absurd (omega arith)) ∙ h.rest k d (omega arith);
  bounded = All-set (IsBlock lanes (2 ^ b) out) _ _ _ bounded h.bounded;
}
  where
    within_new : (k : ℕ) → k < length v0 → k < length (set v n x)
    within_new k m = subst (λ t. k < t) (sym (length-set v n x ∙ h.same_length)) m

-- what a step on a group that is not done may rest on
pub record IsGroupReady {V : Type 0} (lanes : V → List ℤ) (b bits : ℕ) (high places : List ℕ) (v0 v : List (Block V)) : Type 0 where
  pub below : (j : ℕ) → j < 2 ^ length high → get_or places j 0 < length v
  pub block : (j : ℕ) (d : Block V) → j < 2 ^ length high → d ≡ get_or v (get_or places j 0) d → IsBlock lanes (2 ^ b) bits d
  pub number : (j : ℕ) (d : Block V) → j < 2 ^ length high → d ≡ get_or v (get_or places j 0) d → (r : ℕ) → r < 2 ^ b → lane lanes r d ≡ number_at lanes b v0 (r + get_or places j 0 * 2 ^ b)

pub group_ready : {V : Type 0} (lanes : V → List ℤ) (b : ℕ) (m : ℕ → ℕ → Omega) (qs : List ℕ) (number : ℕ → ℕ) (bits out : ℕ) (v0 v : List (Block V)) (p : ℕ) (high : List ℕ) (n x : ℕ) (places : List ℕ)
    → AreQubits n high → length v0 ≡ 2 ^ n → x < 2 ^ n → IsGroup high number x p → HasPlacesOf high x places → All (IsBlock lanes (2 ^ b) bits) v0 → IsPart lanes b m qs number out v0 v p
    → IsGroupReady lanes b bits high places v0 v
group_ready {V} lanes b m qs number bits out v0 v p high n x places hq len lx g at all h = record {
  below = λ j l. subst (λ k. get_or places j 0 < k) (sym h.same_length) (within j l);
  block = λ j d l e. old_block lanes b m qs number bits out v0 v p (get_or places j 0) d (within j l) (not_done j l) all h e;
  number = λ j d l e r lr. old_number lanes b m qs number out v0 v p (get_or places j 0) d (within j l) (not_done j l) h e r lr;
}
  where
    within : (j : ℕ) → j < 2 ^ length high → get_or places j 0 < length v0
    within j l = subst (λ k. k < length v0) (at j l) (subst (λ t. with_bits high j x < t) (sym len) (bits_below n j high x hq.less lx))

    exactly : (p r : ℕ) → r ≡ p → p ≤ r
    exactly p r e = omega arith

    not_done : (j : ℕ) → j < 2 ^ length high → p ≤ number (get_or places j 0)
    not_done j l = exactly p (number (get_or places j 0)) (g.there (get_or places j 0) (ap (with_bits high 0) (sym (at j l)) ∙ bits_twice high 0 j x ∙ g.base))
