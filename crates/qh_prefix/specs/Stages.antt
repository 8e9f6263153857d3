-- The stages of a path. Crossing gates are counted from 0 in the order of the circuit: the prefix are the gates before
-- crossing gate p, the root those from there to before crossing gate p + r, the suffix those from there on.
use Rattle.std.specs.Prelude.{ℕ, zero, suc, ◌+◌, Bool, if◌then◌else◌, count_by, List, [], ◌∷◌, take, drop}
use Rattle.qh_gates.specs.declared.gate.Gate.{Gate}
use Rattle.qh_plan.specs.Paths.{crosses}
use Rattle.qh_plan.specs.Jobs.{Job, in_one, job_radices}
use Rattle.qh_prefix.specs.declared.part.Part.TheVariants.{One, Two}
use Rattle.qh_prefix.specs.declared.stage.Stage.{Stage}
use Rattle.qh_prefix.specs.declared.stage.Stage.TheVariants.{Prefix, Root, Suffix}
use Rattle.qh_prefix.specs.Parts.{in_part, acts_in}

-- how many gates stand before crossing gate k: all where there is no such gate
abbrev pub gates_before : (ℕ → Bool) → ℕ → List Gate → ℕ
gates_before one k [] = 0
gates_before one zero (g ∷ gs) = if crosses one g then 0 else suc (gates_before one zero gs)
gates_before one (suc k) (g ∷ gs) = suc (gates_before one (if crosses one g then k else suc k) gs)

-- the gates before crossing gate k, and those from there on
abbrev pub before : (ℕ → Bool) → ℕ → List Gate → List Gate
before one k gates = take (gates_before one k gates) gates

abbrev pub from_crossing : (ℕ → Bool) → ℕ → List Gate → List Gate
from_crossing one k gates = drop (gates_before one k gates) gates

-- the gates of a stage. Crossing gate p + r of the circuit is crossing gate r of those from crossing gate p on.
abbrev pub stage_gates : Stage → Job → List Gate
stage_gates Prefix j = before (in_one j) j.p j.circuit.gates
stage_gates Root j = before (in_one j) j.r (from_crossing (in_one j) j.p j.circuit.gates)
stage_gates Suffix j = from_crossing (in_one j) j.r (from_crossing (in_one j) j.p j.circuit.gates)

-- of a list with an item for each crossing gate, those of the stage
abbrev pub stretch : Stage → Job → List ℕ → List ℕ
stretch Prefix j items = take j.p items
stretch Root j items = take j.r (drop j.p items)
stretch Suffix j items = drop j.r (drop j.p items)

-- how many terms the crossing gates of the stage have
abbrev pub stage_radices : Stage → Job → List ℕ
stage_radices stage j = stretch stage j (job_radices j)

-- the steps of a stage: one for each gate in each part that it acts in. A crossing gate acts in both.
abbrev pub stage_steps : Stage → Job → ℕ
stage_steps stage j = count_by (acts_in (in_part One j)) (stage_gates stage j) + count_by (acts_in (in_part Two j)) (stage_gates stage j)
