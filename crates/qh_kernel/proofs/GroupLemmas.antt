-- The groups as the code numbers them.
use Rattle.std.proofs.Common.{◌≡◌, ◌≢◌, ℕ, ◌+◌, ◌-◌, ◌*◌, ◌/◌, ◌^◌, ◌<◌, ◌≤◌, inl, inr, [], ◌∷◌, arith, sym, ap, subst, ◌∙◌, min, max}
use Rattle.std.proofs.Math.Pow.{pow_mono}
use Rattle.std.proofs.lemmas.Bool.{cases_lt}
use Rattle.qh_kernel.specs.Places.{with_gap}
use Rattle.qh_kernel.proofs.PlaceLemmas.{IsGroup, HasPlacesOf, AreBoth, rank, rank2, one_group, two_group, pair_places, quad_places, gap_within, rank_within, rank2_within, power_twice}
use Rattle.qh_kernel.proofs.DoneLemmas.{AreQubits}

pub one_qubit : (n q : ℕ) → q < n → AreQubits n (q ∷ [])
one_qubit n q l = record { distinct = (tt, tt); less = (l, tt) }

pub two_qubits : (n p q : ℕ) → p < n → q < n → p ≢ q → AreQubits n (p ∷ q ∷ [])
two_qubits n p q l m ne = record { distinct = ((ne, tt), (tt, tt)); less = (l, (m, tt)) }

pub few_numbers : (n k : ℕ) → n ≤ 20 → k < 2 ^ n → k < 2 ^ 20
few_numbers n k l h = let m : 2 ^ n ≤ 2 ^ 20 = pow_mono l in omega arith

-- pair number p of the qubit q
pub record IsPairAt (n q p low high : ℕ) : Type 0 where
  pub group : IsGroup (q ∷ []) (rank q) low p
  pub places : HasPlacesOf (q ∷ []) low (low ∷ high ∷ [])
  pub low_below : low < 2 ^ n
  pub high_below : high < 2 ^ n

pub pair_at : (n q p low stride len : ℕ) → q < n → len ≡ 2 ^ n → p < len / 2 → low ≡ with_gap q p → stride ≡ 2 ^ q → IsPairAt n q p low (low + stride)
pair_at n q p low stride len l e h f g =
    let small : 2 * p < 2 ^ n = omega arith in
    let fit = gap_within n q p l small in
    let group : IsGroup (q ∷ []) (rank q) low p = subst (λ x. IsGroup (q ∷ []) (rank q) x p) (sym f) (one_group q p) in
    record {
      group = group;
      places = subst (λ s. HasPlacesOf (q ∷ []) low (low ∷ (low + s) ∷ [])) (sym g) (pair_places q low group.base);
      low_below = omega arith;
      high_below = omega arith;
    }

-- all pairs are done
pub all_pairs : (n q p len k : ℕ) → q < n → len ≡ 2 ^ n → len / 2 ≤ p → k < len → rank q k < p
all_pairs n q p len k l e h b = let t = power_twice n (omega arith) in let r : 2 * rank q k < 2 ^ n = rank_within n q k l (omega arith) in omega arith

-- quad number p of the qubits q0 and q1
pub record IsQuadAt (n q0 q1 near far p x low high : ℕ) : Type 0 where
  pub group : IsGroup (q0 ∷ q1 ∷ []) (rank2 near far) x p
  pub places : HasPlacesOf (q0 ∷ q1 ∷ []) x (x ∷ (x + low) ∷ (x + high) ∷ (x + high + low) ∷ [])
  pub below : x < 2 ^ n

pub are_both : (q0 q1 near far : ℕ) → q0 ≢ q1 → near ≡ min q0 q1 → far ≡ max q0 q1 → AreBoth q0 q1 near far
are_both q0 q1 near far ne e f = record {
  order = omega arith;
  which = elim (cases_lt q0 q1) [
    | inl l ↦ inl (omega arith, omega arith)
    | inr l ↦ inr (omega arith, omega arith)
  ];
}

-- the lower gap
pub inner_gap : (n near far p len : ℕ) → near < far → far < n → len ≡ 2 ^ n → p < len / 4 → 2 * with_gap near p < 2 ^ n
inner_gap n near far p len o m e h =
    let t = power_twice n (omega arith) in
    let fit : with_gap near p + 2 ^ near < 2 ^ (n - 1) = gap_within (n - 1) near p (omega arith) (omega arith) in
    omega arith

pub quad_at : (n q0 q1 near far p y x low high len : ℕ) → q0 ≢ q1 → q0 < n → q1 < n → len ≡ 2 ^ n → p < len / 4 → near ≡ min q0 q1 → far ≡ max q0 q1
    → y ≡ with_gap near p → x ≡ with_gap far y → low ≡ 2 ^ q1 → high ≡ 2 ^ q0 → IsQuadAt n q0 q1 near far p x low high
quad_at n q0 q1 near far p y x low high len ne l m e h en ef ey ex el eh =
    let both = are_both q0 q1 near far ne en ef in
    let o : near < far = both.order in
    let top : far < n = omega arith in
    let inner = inner_gap n near far p len o top e h in
    let small : 2 * y < 2 ^ n = omega arith in
    let fit = gap_within n far y top small in
    let is : x ≡ with_gap far (with_gap near p) = ex ∙ ap (with_gap far) ey in
    let group : IsGroup (q0 ∷ q1 ∷ []) (rank2 near far) x p = subst (λ k. IsGroup (q0 ∷ q1 ∷ []) (rank2 near far) k p) (sym is) (two_group q0 q1 near far p both) in
    record {
      group = group;
      places = subst (λ s. HasPlacesOf (q0 ∷ q1 ∷ []) x (x ∷ (x + s) ∷ (x + high) ∷ (x + high + s) ∷ [])) (sym el)
          (subst (λ t. HasPlacesOf (q0 ∷ q1 ∷ []) x (x ∷ (x + 2 ^ q1) ∷ (x + t) ∷ (x + t + 2 ^ q1) ∷ [])) (sym eh) (quad_places q0 q1 x ne group.base));
      below = omega arith;
    }

pub all_quads : (n q0 q1 near far p len k : ℕ) → q0 ≢ q1 → q0 < n → q1 < n → len ≡ 2 ^ n → len / 4 ≤ p → near ≡ min q0 q1 → far ≡ max q0 q1 → k < len → rank2 near far k < p
all_quads n q0 q1 near far p len k ne l m e h en ef b =
    let both = are_both q0 q1 near far ne en ef in
    let o : near < far = both.order in
    let t = power_twice n (omega arith) in
    let u = power_twice (n - 1) (omega arith) in
    let r : 4 * rank2 near far k < 2 ^ n = rank2_within n near far k o (omega arith) (omega arith) in
    omega arith
