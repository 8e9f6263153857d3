-- What the union of finished journals means.
use Rattle.std.specs.Prelude.{ℕ, List, [], ◌∷◌, ⊤, map}
use Rattle.std.specs.Option.{IsSomeAnd}
use Rattle.qh_gates.specs.Circuits.{total_weight}
use Rattle.qh_gates.specs.Evolution.{uncut}
use Rattle.qh_plan.specs.Jobs.{Job, IsJob}
use Rattle.qh_plan.specs.Laws.{IsLeastOver, NoneOver}
use Rattle.qh_print.specs.Output.{IsText}
use Rattle.qh_disk.specs.Disk.{Face}
use Rattle.qh_slots.specs.Stands.{AreTrue, Made, Slots, Stands}
use Rattle.qh_merge.specs.declared.merging.Merged.{Merged}
use Rattle.qh_merge.specs.declared.merging.Merged.TheVariants.{Lines, Overflow}
use Rattle.qh_parts.specs.Naming.{Names}
use Rattle.qh_merge.specs.Inputs.{AreRead, Input}
use Rattle.qh_merge.specs.Union.{AreTaken, whole}
use Rattle.qh_merge.specs.Merging.{AreComplete, IsAnswer, IsFamily}

-- each slot holds its range's value
abbrev pub AreAllTrue : List Input → Type 0
AreAllTrue [] = Unit {0}
AreAllTrue (x ∷ earlier) = AreTrue x.job x.slots × AreAllTrue earlier

-- the answer of the whole circuit: no path is over, and these are the lines of the uncut state, or this is the least
-- path that is over
abbrev pub IsUncut : Job → Merged → Type 0
IsUncut j (Lines text) = NoneOver (whole j) × IsText j.circuit.qubits (total_weight j.circuit.gates) j.bits (map (uncut j.circuit.gates) j.bits) text
IsUncut j (Overflow path) = IsLeastOver (whole j) path

-- the answer of true journals of all prefix values is that of the whole circuit
abbrev pub UncutLaw : Type 0
UncutLaw = (j : Job) (inputs : List Input) (answer : Merged) → IsJob j → IsFamily j inputs → AreTaken inputs → AreComplete j inputs → AreAllTrue inputs
    → IsAnswer j inputs answer → IsUncut j answer

-- a file that was made by runs of the job, and stands for it with some slots, has true slots
abbrev pub MadeLaw : Type 0
MadeLaw = (j : Job) (s : Slots) (f : List ℕ) → IsJob j → Made j f → Stands j s f → AreTrue j s

-- each disk tells what it reads as, and this was made by runs of the job that it names
abbrev pub AllMade : {D : Type 0} → (D → Face) → List D → Type 0
AllMade face [] = ⊤
AllMade face (d ∷ disks) = IsSomeAnd (face d).content (λ f. (j : Job) → Names j f → Made j f) × AllMade face disks

-- the disks hold journals of the family of a job, and this is the answer of its whole circuit
pub record IsExact {D : Type 0} (face : D → Face) (disks : List D) (answer : Merged) : Type 0 where
  pub job : Job
  pub inputs : List Input
  pub read : AreRead face disks inputs
  pub family : IsFamily job inputs
  pub uncut : IsUncut job answer
