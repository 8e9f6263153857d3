-- What the ranges of a run answer, and what its job asks.
use Rattle.std.proofs.Common.{◌≡◌, ℕ, zero, suc, ◌+◌, ◌-◌, ◌*◌, ◌^◌, ◌<◌, ◌≤◌, inl, inr, Bool, true, false, cond, eqb, List, [], ◌∷◌, length, map, drop, Option, Some, None, arith, refl, sym, ap, subst, ◌∙◌}
use Rattle.std.proofs.Math.Path.{ap₂}
use Rattle.std.specs.List.{All, list_all}
use Rattle.std.proofs.lemmas.List.Elements.{All-head, All-tail, All-cons, All-nil}
use Rattle.std.proofs.lemmas.Bool.{and_parts, cases_Bool, false≢true}
use Rattle.qh_ring.specs.declared.number.Omega.{Omega}
use Rattle.qh_ring.specs.Numbers.{sum, IsWithin}
use Rattle.qh_ring.specs.States.{sum_below}
use Rattle.qh_gates.specs.declared.gate.Gate.{Gate}
use Rattle.qh_gates.specs.declared.kind.Kind.{Kind}
use Rattle.qh_gates.specs.Tables.{qubits_of, matrix_of}
use Rattle.qh_plan.specs.Paths.{differ, path_count}
use Rattle.qh_plan.specs.Jobs.{Job, IsJob, in_one, job_radices, prefixes, roots, per_range, digits_of, ranges_of, ranges, earlier, first_path}
use Rattle.qh_plan.specs.declared.verdict.Verdict.{Verdict}
use Rattle.qh_plan.specs.declared.verdict.Verdict.TheVariants.{Sum}
use Rattle.qh_plan.specs.Verdicts.{added, merged_slot, total_below}
use Rattle.qh_plan.specs.PathValues.{path_state}
use Rattle.qh_plan.specs.Halves.{half_one, half_two, contribution}
use Rattle.qh_plan.specs.Asked.{asked_under, asked}
use Rattle.qh_plan.specs.MeaningLimits.{are_narrow, path_fits}
use Rattle.qh_plan.specs.Values.{or_here, first_failing, over_or_sum, sums_of, value_of, range_value, run_value}
use Rattle.qh_ring.proofs.SumLemmas.{sum_below_same, sum_below_blocks}
use Rattle.qh_plan.proofs.PathLemmas.{path_count_split}
use Rattle.qh_plan.proofs.PlanLemmas.{counted_job}
use Rattle.qh_plan.proofs.RunLemmas.{few_in_run}
use Rattle.qh_gates.specs.Circuits.{Fits}
use Rattle.qh_plan.proofs.PathValueLemmas.{IsCut, sum_of_paths}
use Rattle.qh_plan.proofs.HalfLemmas.{LiesIn, path_is_product}
use Rattle.qh_plan.proofs.LimitLemmas.{IsAtMost, sum_below_at_most, within_126, narrow_product}

-- what the laws take of a job
pub record HasCut (j : Job) : Type 0 where
  pub lies : All (LiesIn j.circuit.qubits) j.circuit.gates
  pub cut : All (IsCut (in_one j)) j.circuit.gates
  pub below : All (λ b. b < 2 ^ j.circuit.qubits) j.bits

two_qubits : (kind : Kind) → (qubits_of kind ≡ 1 → ⊥) → qubits_of kind ≡ 2
two_qubits kind h = elim (cases_Bool (eqb (length (matrix_of kind)) 2)) [
  | inl e ↦ absurd (h (ap (λ t. cond t 1 2) e))
  | inr e ↦ ap (λ t. cond t 1 2) e
]

differ_same : (a : Bool) → differ a a ≡ false
differ_same true = refl
differ_same false = refl

-- a gate that crosses a cut is not on one qubit
cut_gate : (one : ℕ → Bool) (n : ℕ) (g : Gate) → Fits n g → IsCut one g
unfolding IsCut
cut_gate one n g h e = two_qubits g.kind (λ s. false≢true (sym (differ_same (one g.q0)) ∙ ap (λ q. differ (one g.q0) (one q)) (sym (h.one s)) ∙ e))

cut_gates : (one : ℕ → Bool) (n : ℕ) (gs : List Gate) → All (Fits n) gs → All (IsCut one) gs
cut_gates one n [] h = All-nil (IsCut one)
cut_gates one n (g ∷ gs) h = All-cons (IsCut one) g gs (cut_gate one n g (All-head (Fits n) g gs h)) (cut_gates one n gs (All-tail (Fits n) g gs h))

lying_gates : (n : ℕ) (gs : List Gate) → All (Fits n) gs → All (LiesIn n) gs
lying_gates n [] h = All-nil (LiesIn n)
lying_gates n (g ∷ gs) h =
    let here : Fits n g = All-head (Fits n) g gs h in
    All-cons (LiesIn n) g gs (record { first = here.first; second = here.second }) (lying_gates n gs (All-tail (Fits n) g gs h))

pub has_cut : (j : Job) → IsJob j → HasCut j
has_cut j h = record {
  lies = lying_gates j.circuit.qubits j.circuit.gates h.valid.fit;
  cut = cut_gates (in_one j) j.circuit.qubits j.circuit.gates h.valid.fit;
  below = h.bits_below;
}

-- the ranges under one prefix hold its paths
under_prefix : (j : Job) → roots j * per_range j ≡ path_count (drop j.p (job_radices j))
under_prefix j = path_count_split j.r (drop j.p (job_radices j))

all_ranges : (j : Job) → prefixes j * roots j * per_range j ≡ path_count (job_radices j)
all_ranges j = regroup (prefixes j) (roots j) (per_range j) _ _ (under_prefix j) (path_count_split j.p (job_radices j))
  where
    regroup : (p r n s t : ℕ) → r * n ≡ s → p * s ≡ t → p * r * n ≡ t
    regroup p r n s t e f = rw (← f, ← e) (omega arith)

-- the contribution of a path at an index of the circuit is its path's number there
pub contribution_is : (j : Job) → HasCut j → (k b : ℕ) → b < 2 ^ j.circuit.qubits → contribution j k b ≡ path_state (in_one j) j.circuit.gates (digits_of j k) b
contribution_is j h k b l = sym (path_is_product (in_one j) j.circuit.qubits j.circuit.gates (digits_of j k) b h.lies l)

-- the sums of all ranges
unfoldable pub sum_of_run : Job → ℕ → Omega
sum_of_run j b = sum_below (ranges j) (λ i. sum_below (per_range j) (λ k. contribution j (first_path j i + k) b))

blocks_from : (s r n : ℕ) (f : ℕ → Omega) → sum_below r (λ i. sum_below n (λ k. f ((s * r + i) * n + k))) ≡ sum_below (r * n) (λ k. f (s * (r * n) + k))
blocks_from s r n f =
    sum_below_same r _ _ (λ i l. sum_below_same n _ _ (λ k m. ap f (place s r n i k)))
    ∙ sym (sum_below_blocks r n (λ k. f (s * (r * n) + k)))
  where
    place : (s r n i k : ℕ) → (s * r + i) * n + k ≡ s * (r * n) + (i * n + k)
    place s r n i k = omega arith

run_under : (j : Job) → HasCut j → (prefix : Option ℕ) (b : ℕ) → b < 2 ^ j.circuit.qubits
    → sum_below (ranges_of j prefix) (λ i. sum_below (per_range j) (λ k. contribution j ((earlier j prefix + i) * per_range j + k) b)) ≡ asked_under j prefix b
run_under j h None b l =
    let f = λ (k : ℕ). path_state (in_one j) j.circuit.gates (digits_of j k) b in
    let n = per_range j in
    let r = prefixes j * roots j in
    sum_below_same r _ _ (λ i a. sum_below_same n _ _ (λ k c. contribution_is j h ((0 + i) * n + k) b l ∙ ap f (none_before i n k)))
    ∙ sym (sum_below_blocks r n f)
    ∙ ap (λ t. sum_below t f) (all_ranges j)
    ∙ sum_of_paths (in_one j) j.circuit.gates b h.cut
  where
    none_before : (i n k : ℕ) → (0 + i) * n + k ≡ i * n + k
    none_before i n k = omega arith
run_under j h (Some w) b l =
    let f = λ (k : ℕ). path_state (in_one j) j.circuit.gates (digits_of j k) b in
    let n = per_range j in
    let r = roots j in
    sum_below_same r _ _ (λ i a. sum_below_same n _ _ (λ k c. contribution_is j h ((w * r + i) * n + k) b l))
    ∙ blocks_from w r n f
    ∙ ap (λ t. sum_below t (λ k. f (w * t + k))) (under_prefix j)

pub sum_of_run_is : (j : Job) → HasCut j → (b : ℕ) → b < 2 ^ j.circuit.qubits → sum_of_run j b ≡ asked j b
unfolding sum_of_run
sum_of_run_is j h b l = run_under j h j.prefix b l

-- ---- values
pub first_failing_none : (n : ℕ) (p : ℕ → Bool) → ((k : ℕ) → k < n → p k ≡ true) → first_failing n p ≡ None
first_failing_none zero p h = refl
first_failing_none (suc n) p h = ap₂ (λ o t. or_here o t n) (first_failing_none n p (λ k l. h k (omega arith))) (h n (omega arith))

-- paths of which none is over answer their sums
pub value_sum : (j : Job) (first count : ℕ) → ((k : ℕ) → k < count → path_fits j (first + k) ≡ true) → value_of j first count ≡ Sum (sums_of j first count)
value_sum j first count h = ap (λ o. over_or_sum first o (sums_of j first count)) (first_failing_none count (λ k. path_fits j (first + k)) h)

pub added_map : (bits : List ℕ) (f g : ℕ → Omega) → added (map f bits) (map g bits) ≡ map (λ b. sum (f b) (g b)) bits
added_map [] f g = refl
added_map (b ∷ bits) f g = ap (λ t. sum (f b) (g b) ∷ t) (added_map bits f g)

pub total_sums : (bits : List ℕ) (slots : ℕ → Option Verdict) (f : ℕ → ℕ → Omega) (n : ℕ) → ((i : ℕ) → i < n → slots i ≡ Some (Sum (map (f i) bits)))
    → total_below bits slots n ≡ Sum (map (λ b. sum_below n (λ i. f i b)) bits)
total_sums bits slots f zero h = refl
total_sums bits slots f (suc n) h =
    ap₂ merged_slot (total_sums bits slots f n (λ i l. h i (omega arith))) (h n (omega arith))
    ∙ ap Sum (added_map bits (λ b. sum_below n (λ i. f i b)) (f n))

pub map_same : (P : ℕ → Type 0) (bits : List ℕ) (f g : ℕ → Omega) → All P bits → ((b : ℕ) → P b → f b ≡ g b) → map f bits ≡ map g bits
map_same P [] f g h e = refl
map_same P (b ∷ bits) f g h e = ap₂ (λ x xs. x ∷ xs) (e b (All-head P b bits h)) (map_same P bits f g (All-tail P b bits h) e)

-- no path of any range is over
abbrev pub AllFit : Job → Type 0
AllFit j = (i k : ℕ) → i < ranges j → k < per_range j → path_fits j (first_path j i + k) ≡ true

-- where no path of the run is over, the run answers what is asked
pub run_value_is : (j : Job) → HasCut j → AllFit j → run_value j ≡ Sum (map (asked j) j.bits)
unfolding sum_of_run run_value range_value
run_value_is j h fit =
    total_sums j.bits (λ i. Some (range_value j i)) (λ i b. sum_below (per_range j) (λ k. contribution j (first_path j i + k) b)) (ranges j)
    (λ i l. ap Some (value_sum j (first_path j i) (per_range j) (λ k m. fit i k l m)))
    ∙ ap Sum (map_same (λ b. b < 2 ^ j.circuit.qubits) j.bits (sum_of_run j) (asked j) h.below (sum_of_run_is j h))

-- ---- a run's sums
pub narrow_of_fits : (j : Job) (k : ℕ) → path_fits j k ≡ true → list_all (λ b. are_narrow (half_one j k b) (half_two j k b)) j.bits ≡ true
unfolding path_fits
narrow_of_fits j k e = (and_parts _ _ (and_parts _ _ e).1).1

-- a fact that each test shows of each element
pub each_passes : (I : Type 0) (test : I → ℕ → Bool) (f : ℕ → Omega) (Q : Omega → Type 0) (bits : List ℕ)
    → ((i : I) → list_all (test i) bits ≡ true) → ((b : ℕ) → ((i : I) → test i b ≡ true) → Q (f b)) → All Q (map f bits)
each_passes I test f Q [] h g = All-nil Q
each_passes I test f Q (b ∷ bits) h g =
    All-cons Q (f b) (map f bits) (g b (λ i. (and_parts _ _ (h i)).0)) (each_passes I test f Q bits (λ i. (and_parts _ _ (h i)).1) g)

-- the sums of paths of which none is over
pub sums_at_most : (j : Job) (first count : ℕ) → ((k : ℕ) → k < count → path_fits j (first + k) ≡ true)
    → All (IsAtMost (count * (4 * (2 ^ 92 - 1)))) (sums_of j first count)
sums_at_most j first count fit =
    each_passes ((k : ℕ) × (k < count)) (λ t b. are_narrow (half_one j (first + t.0) b) (half_two j (first + t.0) b))
    (λ b. sum_below count (λ k. contribution j (first + k) b)) (IsAtMost (count * (4 * (2 ^ 92 - 1)))) j.bits
    (λ t. narrow_of_fits j (first + t.0) (fit t.0 t.1))
    (λ b n. sum_below_at_most count (4 * (2 ^ 92 - 1)) (λ k. contribution j (first + k) b) (λ k l. narrow_product _ _ (n (k, l))))

pub sums_within : (j : Job) (first count : ℕ) → count ≤ 2 ^ 32 → ((k : ℕ) → k < count → path_fits j (first + k) ≡ true)
    → All (IsWithin 126) (sums_of j first count)
sums_within j first count few fit =
    λ i d l. within_126 (count * (4 * (2 ^ 92 - 1))) _ (few_terms count few) (sums_at_most j first count fit i d l)
  where
    few_terms : (n : ℕ) → n ≤ 2 ^ 32 → n * (4 * (2 ^ 92 - 1)) < 2 ^ 126
    few_terms n l = omega arith

run_at_most : (j : Job) (b : ℕ)
    → ((i k : ℕ) → i < ranges j → k < per_range j → are_narrow (half_one j (first_path j i + k) b) (half_two j (first_path j i + k) b) ≡ true)
    → IsAtMost (ranges j * (per_range j * (4 * (2 ^ 92 - 1)))) (sum_of_run j b)
unfolding sum_of_run
run_at_most j b h =
    sum_below_at_most (ranges j) (per_range j * (4 * (2 ^ 92 - 1))) _ (λ i l.
    sum_below_at_most (per_range j) (4 * (2 ^ 92 - 1)) _ (λ k m. narrow_product _ _ (h i k l m)))

few_paths : (r n : ℕ) → r * n ≤ 2 ^ 32 → r * (n * (4 * (2 ^ 92 - 1))) < 2 ^ 126
few_paths r n h = omega arith

-- and each asked sum is within 126 bits
pub run_within : (j : Job) → HasCut j → ranges j * per_range j ≤ 2 ^ 32 → AllFit j → All (IsWithin 126) (map (asked j) j.bits)
run_within j h few fit =
    subst (All (IsWithin 126)) (map_same (λ b. b < 2 ^ j.circuit.qubits) j.bits (sum_of_run j) (asked j) h.below (sum_of_run_is j h))
    (each_passes ((i : ℕ) × (k : ℕ) × (i < ranges j) × (k < per_range j))
    (λ t b. are_narrow (half_one j (first_path j t.0 + t.1) b) (half_two j (first_path j t.0 + t.1) b))
    (sum_of_run j) (IsWithin 126) j.bits
    (λ t. narrow_of_fits j (first_path j t.0 + t.1) (fit t.0 t.1 t.2 t.3))
    (λ b n. within_126 _ _ (few_paths (ranges j) (per_range j) few) (run_at_most j b (λ i k l m. n (i, k, l, m)))))

-- the paths of a run are at most those of the circuit
pub few_run : (j : Job) → IsJob j → ranges j * per_range j ≤ 2 ^ 32
few_run j h = few_in_run j h (counted_job j h)
