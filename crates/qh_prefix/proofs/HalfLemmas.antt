-- The halves of a checkpoint, from the gates placed in each part.
use Rattle.std.proofs.Common.{◌≡◌, ℕ, ◌+◌, ◌<◌, List, All, length, count_by, Option, Some, refl, sym, ap, subst, ◌∙◌}
use Rattle.std.proofs.Math.Path.{subst₂}
use Rattle.std.specs.List.{AllZip}
use Rattle.qh_ring.specs.declared.number.Omega.{Omega}
use Rattle.qh_ring.specs.States.{ground}
use Rattle.qh_plan.specs.Jobs.{Job, IsJob}
use Rattle.qh_half.specs.Halves.{Half}
use Rattle.qh_plan.specs.Halves.{half_operations}
use Rattle.qh_prefix.specs.declared.part.Part.{Part}
use Rattle.qh_prefix.specs.declared.stage.Stage.TheVariants.{Prefix}
use Rattle.qh_prefix.specs.declared.place.Placed.{Placed}
use Rattle.qh_prefix.specs.Parts.{in_part, width, acts_in}
use Rattle.qh_prefix.specs.Places.{IsPlacedIn, operations, term_counts}
use Rattle.qh_prefix.specs.Runs.{IsAfter}
use Rattle.qh_prefix.specs.Stages.{stage_gates, stage_radices}
use Rattle.qh_prefix.proofs.PlaceLemmas.{operations_placed, length_placed}
use Rattle.qh_prefix.proofs.StageLemmas.{stage_takes}
use Rattle.qh_prefix.specs.declared.checkpoint.Start.{Start}
use Rattle.qh_prefix.specs.Checkpoints.{IsAtPrefix, prefix_digits, prefix_operations}
use Rattle.qh_prefix.specs.Starts.{IsStart}

module _ (part : Part) (j : Job) (s : Start) (start : IsStart part j s) where
  pub start_size : s.half.qubits ≡ width part j
  start_size = ap (λ (h : Half). h.qubits) start.half

  pub start_fits : All (IsPlacedIn s.half.qubits) s.gates.items
  start_fits = subst (λ n. All (IsPlacedIn n) s.gates.items) (sym start_size) start.fit

  pub start_takes : (ds : List ℕ) → IsJob j → AllZip (λ d r. d < r) ds (stage_radices Prefix j) → AllZip (λ d r. d < r) ds (term_counts s.gates.items)
  start_takes ds valid h = subst (λ ps. AllZip (λ d r. d < r) ds (term_counts ps)) (sym start.gates) (stage_takes part j Prefix ds valid h)

  pub at_prefix : (w : ℕ) (gs : List Placed) (ds : List ℕ) (h : Half) → gs ≡ s.gates.items → ds ≡ prefix_digits j w → h.qubits ≡ s.half.qubits
      → IsAfter s.half.qubits (operations gs ds) s.half.numbers h.numbers → IsAtPrefix part j w h
  at_prefix w gs ds h g e size after =
      let os : operations gs ds ≡ prefix_operations part j w =
      ap (λ ps. operations ps ds) (g ∙ start.gates) ∙ operations_placed (in_part part j) (stage_gates Prefix j) ds
      ∙ ap (λ es. half_operations (in_part part j) (stage_gates Prefix j) es) e in
      let here : IsAfter (width part j) (prefix_operations part j w) s.half.numbers h.numbers =
      subst₂ (λ n os. IsAfter n os s.half.numbers h.numbers) start_size os after in
      record { size = size ∙ start_size; holds = here.step (Some ground) (ap (λ (h : Half). h.numbers) start.half) }

  pub start_steps : length s.gates.items ≡ count_by (acts_in (in_part part j)) (stage_gates Prefix j)
  start_steps = ap length start.gates ∙ length_placed (in_part part j) (stage_gates Prefix j)
