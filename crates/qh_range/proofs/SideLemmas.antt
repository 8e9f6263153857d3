-- A part's half at the root of a range and along a path, from its placed gates.
use Rattle.std.proofs.Common.{◌≡◌, ℕ, ◌<◌, List, [], ◌∷◌, ◌++◌, length, count_by, Option, Some, refl, sym, ap, subst, ◌∙◌}
use Rattle.std.proofs.Math.Path.{ap₂, subst₂}
use Rattle.std.specs.List.{All, AllZip}
use Rattle.std.proofs.lemmas.List.Sums.{fold-append}
use Rattle.qh_ring.specs.declared.number.Omega.{Omega}
use Rattle.qh_ring.specs.States.{ground}
use Rattle.qh_plan.specs.Jobs.{Job, IsJob, job_radices, ranges, digits_of}
use Rattle.qh_plan.specs.Ranges.{IsInRange, prefix_of}
use Rattle.qh_half.specs.Halves.{Half}
use Rattle.qh_plan.specs.Halves.{half_operations}
use Rattle.qh_plan.specs.Traces.{half_step, half_after, HoldsHalf}
use Rattle.qh_plan.proofs.PrefixLemmas.{length-path_digits}
use Rattle.qh_prefix.specs.declared.part.Part.{Part}
use Rattle.qh_prefix.specs.declared.stage.Stage.TheVariants.{Prefix, Root, Suffix}
use Rattle.qh_prefix.specs.Parts.{in_part, width, acts_in}
use Rattle.qh_prefix.specs.declared.place.Placed.{Placed}
use Rattle.qh_prefix.specs.Places.{IsPlacedIn, operations, term_counts}
use Rattle.qh_prefix.specs.Runs.{IsAfter}
use Rattle.qh_prefix.specs.Stages.{stage_gates, stage_radices, stretch}
use Rattle.qh_prefix.proofs.PlaceLemmas.{operations_placed, length_placed}
use Rattle.qh_prefix.proofs.StageLemmas.{stage_takes, stage_operations, by_stages}
use Rattle.qh_prefix.specs.Checkpoints.{IsAtPrefix, prefix_operations}
use Rattle.qh_range.specs.declared.side.Side.{Side}
use Rattle.qh_range.specs.Sides.{IsSide, IsAtRoot, path_end, root_digits, root_operations}
use Rattle.qh_range.proofs.RootLemmas.{prefix_same, root_same}

-- where a path ends, and that without gates it ends where it began
pub end_at_root : (gates : List Placed) (root half : Half) → gates ≡ [] → path_end gates root half ≡ root
end_at_root gates root half none = ap (λ gs. path_end gs root half) none

pub end_at_half : (gates : List Placed) (root half : Half) → (gates ≡ [] → ⊥) → path_end gates root half ≡ half
end_at_half [] root half some = absurd (some refl)
end_at_half (g ∷ gates) root half some = refl

pub after_none : (n : ℕ) (gates : List Placed) (ds : List ℕ) (root half : Half) → gates ≡ []
    → IsAfter n (operations gates ds) root.numbers (path_end gates root half).numbers
after_none n gates ds root half none =
    subst (λ gs. IsAfter n (operations gs ds) root.numbers (path_end gs root half).numbers) (sym none) (record { step = λ state holds. holds })

-- the operations of a path are those of its range, and those of its suffix
module _ (part : Part) (j : Job) (valid : IsJob j) (range path : ℕ) (within : range < ranges j) (here : IsInRange j range path) where
  all_operations : half_operations (in_part part j) j.circuit.gates (digits_of j path)
      ≡ prefix_operations part j (prefix_of j range) ++ (root_operations part j range ++ stage_operations part Suffix j (digits_of j path))
  all_operations =
      by_stages part j (digits_of j path) valid (length-path_digits (job_radices j) path)
      ∙ ap₂ (λ ds es. half_operations (in_part part j) (stage_gates Prefix j) ds ++ (half_operations (in_part part j) (stage_gates Root j) es ++ stage_operations part Suffix j (digits_of j path)))
      (prefix_same j valid range path within here) (root_same j valid range path within here)

  all_after : (n : ℕ) → half_after n (Some ground) (half_operations (in_part part j) j.circuit.gates (digits_of j path))
      ≡ half_after n (half_after n (half_after n (Some ground) (prefix_operations part j (prefix_of j range))) (root_operations part j range)) (stage_operations part Suffix j (digits_of j path))
  all_after n =
      let ps = prefix_operations part j (prefix_of j range) in
      let rs = root_operations part j range in
      let ss = stage_operations part Suffix j (digits_of j path) in
      ap (half_after n (Some ground)) all_operations
      ∙ fold-append (half_step n) (Some ground) ps (rs ++ ss)
      ∙ fold-append (half_step n) (half_after n (Some ground) ps) rs ss

module _ (part : Part) (j : Job) (s : Side) (side : IsSide part j s) where
  pub root_all_fit : All (IsPlacedIn s.root.qubits) s.root_gates.items
  root_all_fit = subst (λ n. All (IsPlacedIn n) s.root_gates.items) (sym side.root_size) side.root_fit

  pub all_fit : All (IsPlacedIn s.half.qubits) s.gates.items
  all_fit = subst (λ n. All (IsPlacedIn n) s.gates.items) (sym side.size) side.fit

  pub takes_root : (ds : List ℕ) → IsJob j → AllZip (λ d r. d < r) ds (stage_radices Root j) → AllZip (λ d r. d < r) ds (term_counts s.root_gates.items)
  takes_root ds valid h = subst (λ ps. AllZip (λ d r. d < r) ds (term_counts ps)) (sym side.root_gates) (stage_takes part j Root ds valid h)

  pub takes_suffix : (ds : List ℕ) → IsJob j → AllZip (λ d r. d < r) ds (stage_radices Suffix j) → AllZip (λ d r. d < r) ds (term_counts s.gates.items)
  takes_suffix ds valid h = subst (λ ps. AllZip (λ d r. d < r) ds (term_counts ps)) (sym side.gates) (stage_takes part j Suffix ds valid h)

  pub at_root : (range : ℕ) (h : Half) (ds : List ℕ) (numbers : Option (List Omega)) → IsAtPrefix part j (prefix_of j range) h → ds ≡ root_digits j range
      → IsAfter s.root.qubits (operations s.root_gates.items ds) h.numbers numbers → IsAtRoot part j range numbers
  at_root range h ds numbers from e after =
      let os : operations s.root_gates.items ds ≡ root_operations part j range =
      ap (λ ps. operations ps ds) side.root_gates ∙ operations_placed (in_part part j) (stage_gates Root j) ds
      ∙ ap (λ es. half_operations (in_part part j) (stage_gates Root j) es) e in
      let here : IsAfter (width part j) (root_operations part j range) h.numbers numbers = subst₂ (λ n os. IsAfter n os h.numbers numbers) side.root_size os after in
      here.step (half_after (width part j) (Some ground) (prefix_operations part j (prefix_of j range))) from.holds

  pub holds : (range path : ℕ) (ds : List ℕ) (numbers : Option (List Omega)) → IsJob j → range < ranges j → IsInRange j range path
      → IsAtRoot part j range s.root.numbers → ds ≡ stretch Suffix j (digits_of j path)
      → IsAfter s.half.qubits (operations s.gates.items ds) s.root.numbers numbers
      → HoldsHalf (width part j) (half_after (width part j) (Some ground) (half_operations (in_part part j) j.circuit.gates (digits_of j path))) numbers
  holds range path ds numbers valid within here root e after =
      let n = width part j in
      let os : operations s.gates.items ds ≡ stage_operations part Suffix j (digits_of j path) =
      ap (λ ps. operations ps ds) side.gates ∙ operations_placed (in_part part j) (stage_gates Suffix j) ds
      ∙ ap (λ es. half_operations (in_part part j) (stage_gates Suffix j) es) e in
      let there : IsAfter n (stage_operations part Suffix j (digits_of j path)) s.root.numbers numbers = subst₂ (λ n os. IsAfter n os s.root.numbers numbers) side.size os after in
      subst (λ o. HoldsHalf n o numbers) (sym (all_after part j valid range path within here n))
      (there.step (half_after n (half_after n (Some ground) (prefix_operations part j (prefix_of j range))) (root_operations part j range)) root)

  pub root_steps : length s.root_gates.items ≡ count_by (acts_in (in_part part j)) (stage_gates Root j)
  root_steps = ap length side.root_gates ∙ length_placed (in_part part j) (stage_gates Root j)

  pub suffix_steps : length s.gates.items ≡ count_by (acts_in (in_part part j)) (stage_gates Suffix j)
  suffix_steps = ap length side.gates ∙ length_placed (in_part part j) (stage_gates Suffix j)

  pub half_stays : (t : Side) → t ≡ record s { half = t.half } → t.half.qubits ≡ s.half.qubits → IsSide part j t
  half_stays t e q = subst (IsSide part j) (sym e) (record {
    root_gates = side.root_gates;
    root_fit = side.root_fit;
    gates = side.gates;
    fit = side.fit;
    root_size = side.root_size;
    size = q ∙ side.size;
    indices = side.indices;
  })

  pub root_stays : (t : Side) → t ≡ record s { root = t.root } → t.root.qubits ≡ s.root.qubits → IsSide part j t
  root_stays t e q = subst (IsSide part j) (sym e) (record {
    root_gates = side.root_gates;
    root_fit = side.root_fit;
    gates = side.gates;
    fit = side.fit;
    root_size = q ∙ side.root_size;
    size = side.size;
    indices = side.indices;
  })
