-- One part before its first gate.
use Rattle.std.specs.Prelude.{◌≡◌, All, Some}
use Rattle.qh_ring.specs.States.{listed, ground}
use Rattle.qh_plan.specs.Jobs.{Job}
use Rattle.qh_prefix.specs.declared.part.Part.{Part}
use Rattle.qh_prefix.specs.declared.stage.Stage.TheVariants.{Prefix}
use Rattle.qh_prefix.specs.Parts.{in_part, width}
use Rattle.qh_prefix.specs.Places.{IsPlacedIn, placed}
use Rattle.qh_prefix.specs.Stages.{stage_gates}
use Rattle.qh_prefix.specs.declared.checkpoint.Start.{Start}

-- the gates of the prefix that act in the part, and its half with all qubits 0
pub record IsStart (part : Part) (j : Job) (s : Start) : Type 0 where
  pub gates : s.gates.items ≡ placed (in_part part j) (stage_gates Prefix j)
  pub fit : All (IsPlacedIn (width part j)) s.gates.items
  pub half : s.half ≡ record { qubits = width part j; numbers = Some (listed (width part j) ground) }
