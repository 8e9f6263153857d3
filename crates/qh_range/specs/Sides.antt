-- What an evaluation keeps of one part.
use Rattle.std.specs.Prelude.{◌≡◌, ℕ, ◌+◌, ◌%◌, List, [], ◌∷◌, All, map, Option, Some, None}
use Rattle.qh_ring.specs.declared.number.Omega.{Omega}
use Rattle.qh_ring.specs.Numbers.{nothing}
use Rattle.qh_ring.specs.States.{ground, at_index}
use Rattle.qh_plan.specs.Parts.{local_index}
use Rattle.qh_gates.specs.Evolution.{Operation}
use Rattle.qh_plan.specs.Jobs.{Job, roots, earlier}
use Rattle.qh_plan.specs.Paths.{path_digits}
use Rattle.qh_plan.specs.Ranges.{prefix_of}
use Rattle.qh_plan.specs.Halves.{half_operations}
use Rattle.qh_plan.specs.Traces.{half_after, HoldsHalf}
use Rattle.qh_prefix.specs.declared.part.Part.{Part}
use Rattle.qh_prefix.specs.Parts.{in_part, width}
use Rattle.qh_prefix.specs.declared.place.Placed.{Placed}
use Rattle.qh_prefix.specs.Places.{IsPlacedIn, placed}
use Rattle.qh_prefix.specs.declared.stage.Stage.TheVariants.{Root, Suffix}
use Rattle.qh_prefix.specs.Stages.{stage_gates, stage_radices}
use Rattle.qh_prefix.specs.Checkpoints.{prefix_operations}
use Rattle.qh_half.specs.Halves.{Half}
use Rattle.qh_range.specs.declared.side.Side.{Side}

-- the gates of the root and of the suffix that act in the part, two halves of as many qubits, and the asked indices within the part
pub record IsSide (part : Part) (j : Job) (s : Side) : Type 0 where
  pub root_gates : s.root_gates.items ≡ placed (in_part part j) (stage_gates Root j)
  pub root_fit : All (IsPlacedIn (width part j)) s.root_gates.items
  pub gates : s.gates.items ≡ placed (in_part part j) (stage_gates Suffix j)
  pub fit : All (IsPlacedIn (width part j)) s.gates.items
  pub root_size : s.root.qubits ≡ width part j
  pub size : s.half.qubits ≡ width part j
  pub indices : s.indices.items ≡ map (local_index (in_part part j) j.circuit.qubits) j.bits

-- the root value of a range, and its digits
abbrev pub root_of : Job → ℕ → ℕ
root_of j range = (earlier j j.prefix + range) % roots j

abbrev pub root_digits : Job → ℕ → List ℕ
root_digits j range = path_digits (stage_radices Root j) (root_of j range)

-- what the gates before crossing gate p + r do to a part along the paths of a range: those of its prefix, and those of its root
abbrev pub root_operations : Part → Job → ℕ → List Operation
root_operations part j range = half_operations (in_part part j) (stage_gates Root j) (root_digits j range)

-- the half of a part after them, with which each path of the range begins
abbrev pub IsAtRoot : Part → Job → ℕ → Option (List Omega) → Type 0
IsAtRoot part j range numbers =
    HoldsHalf (width part j)
    (half_after (width part j) (half_after (width part j) (Some ground) (prefix_operations part j (prefix_of j range))) (root_operations part j range)) numbers

-- where a path ends in a part: with the half at the root where no gate of the suffix acts in the part, and else with the half that ran
abbrev pub path_end : List Placed → Half → Half → Half
path_end [] root half = root
path_end (g ∷ gates) root half = half

abbrev pub end_of : Side → Half
end_of s = path_end s.gates.items s.root s.half

-- the number that a half holds at an index
abbrev pub at_half : Option (List Omega) → ℕ → Omega
at_half None i = nothing
at_half (Some v) i = at_index v i

-- the number of a part's half at an asked index
abbrev pub number_at : Part → Job → Option (List Omega) → ℕ → Omega
number_at part j numbers b = at_half numbers (local_index (in_part part j) j.circuit.qubits b)
