-- The text that is asked for, by basis indices: what the parts of the call answer.
use Rattle.std.specs.Prelude.{◌≡◌, ℕ, ◌≤◌, List, ◌++◌, map, Bool, true, false, Option, Some, None}
use Rattle.qh_ring.specs.declared.number.Omega.{Omega}
use Rattle.qh_gates.specs.Circuits.{Circuit, total_weight}
use Rattle.qh_gates.specs.Evolution.{uncut, NeverOver}
use Rattle.qh_plan.specs.declared.verdict.Verdict.TheVariants.{Sum}
use Rattle.qh_plan.specs.Jobs.{Job, IsJob, crossing, ranges}
use Rattle.qh_disk.specs.Disk.{Face}
use Rattle.qh_print.specs.Output.{IsText}
use Rattle.qh_prob.specs.Texts.{AreProbLines}
use Rattle.qh_words.specs.declared.options.Options.{Options}
use Rattle.qh_words.specs.declared.size.GenSize.{GenSize}
use Rattle.qh_limits.specs.Limits.{max_uncut_qubits, max_weight}
use Rattle.qh_request.specs.Answer.{head_text}
use Rattle.qh_request.specs.Jobs.{IsPlannedJob, keeping}
use Rattle.qh_request.specs.Request.{IsRun}

pub record IsUncutText (generated : Option GenSize) (c : Circuit) (xs text : List ℕ) : Type 0 where
  pub narrow : c.qubits ≤ max_uncut_qubits
  pub never : NeverOver c
  pub lines : List ℕ
  pub are_lines : IsText c.qubits (total_weight c.gates) xs (map (uncut c.gates) xs) lines
  pub text_is : text ≡ head_text generated c 0 0 ++ lines

pub record IsProbText (generated : Option GenSize) (c : Circuit) (xs text : List ℕ) : Type 0 where
  pub narrow : c.qubits ≤ max_uncut_qubits
  pub shallow : total_weight c.gates ≤ max_weight
  pub lines : List ℕ
  pub are_lines : AreProbLines c xs lines
  pub text_is : text ≡ head_text generated c 0 0 ++ lines

abbrev pub IsWholeText : Bool → Option GenSize → Circuit → List ℕ → List ℕ → Type 0
IsWholeText true generated c xs text = IsProbText generated c xs text
IsWholeText false generated c xs text = IsUncutText generated c xs text

-- the lines of these sums of a job, behind the first line where the circuit is generated
pub record IsSumsText (generated : Option GenSize) (j : Job) (sums : List Omega) (text : List ℕ) : Type 0 where
  pub lines : List ℕ
  pub are_lines : IsText j.circuit.qubits (total_weight j.circuit.gates) j.bits sums lines
  pub text_is : text ≡ head_text generated j.circuit (crossing j) (ranges j) ++ lines

-- the sums of the whole run of the planned job
pub record IsCutText (o : Options) (disk after old : Face) (Granted : ℕ → Type 0) (part : List ℕ) (c : Circuit) (xs text : List ℕ) : Type 0 where
  pub job : Job
  pub planned : IsPlannedJob o part c xs job
  pub valid : IsJob job
  pub sums : List Omega
  pub run : IsRun (keeping o) job old disk after Granted (Sum sums)
  pub text_is : IsSumsText o.generated job sums text

abbrev pub IsIndexedBy : Option (List ℕ) → Options → Face → Face → Face → (ℕ → Type 0) → Circuit → List ℕ → List ℕ → Type 0
IsIndexedBy None o disk after old Granted c xs text = IsWholeText o.prob o.generated c xs text
IsIndexedBy (Some part) o disk after old Granted c xs text = IsCutText o disk after old Granted part c xs text
