-- What the parts of the call stop with.
use Rattle.std.specs.Prelude.{◌≡◌, ℕ, ◌<◌, ◌≤◌, Bool, true, false, List, length, IfSome, IsSome, Option, Some, None}
use Rattle.qh_limits.specs.Limits.{max_uncut_qubits, max_weight, max_circuit_bytes, max_bits_bytes}
use Rattle.qh_gates.specs.Circuits.{Circuit, total_weight}
use Rattle.qh_gates.specs.Evolution.{IsUncutOver}
use Rattle.qh_plan.specs.Jobs.{Job}
use Rattle.qh_plan.specs.declared.fault.PlanFault.{PlanFault}
use Rattle.qh_plan.specs.declared.fault.PlanFault.TheVariants.{UncutTooWide as Wide}
use Rattle.qh_plan.specs.declared.verdict.Verdict.TheVariants.{Over}
use Rattle.qh_disk.specs.Disk.{Face}
use Rattle.qh_disk.specs.Moments.{Runs}
use Rattle.qh_slots.specs.Record.{Keeping}
use Rattle.qh_slots.specs.Moments.{IsUnwritten, IsReadOnly}
use Rattle.qh_slots.specs.Keeps.{KeepsJournal}
use Rattle.qh_words.specs.declared.options.Options.{Options}
use Rattle.qh_words.specs.declared.size.GenSize.{GenSize}
use Rattle.qh_request.specs.Seen.{Seen, Rises}
use Rattle.qh_request.specs.Chosen.{is_auto, NoneAllowed}
use Rattle.qh_request.specs.Inputs.{IsCircuitFile, IsFaultyCircuit, AreFaultyBits}
use Rattle.qh_request.specs.Jobs.{IsPlannedJob, Takes, keeping}
use Rattle.qh_request.specs.Refusals.{PlanRefusesBy, JournalRefuses, DisksRise}
use Rattle.qh_request.specs.Request.{IsRun, RunIsWhole, EndsWholeBy}
use Rattle.qh_request.specs.declared.stop.Refusal.TheVariants.{CircuitTooLong, CircuitLine, BitsTooLong, BitsLine, Plan, ProbTooDeep, NoCut}
use Rattle.qh_request.specs.declared.stop.Input.TheVariants.{OfCircuit, OfBits}
use Rattle.qh_request.specs.declared.stop.Stop.{Stop}
use Rattle.qh_request.specs.declared.stop.Stop.TheVariants.{Refused, OverflowGate, OverflowPath, ReadFault, DiskFault, Memory, Journal}

-- what a call that reads the circuit stops with
abbrev pub CircuitMayStop : ℕ → Option (List ℕ) → Type 0 → Stop → Type 0
CircuitMayStop T circuit rose (Refused CircuitTooLong) = IfSome circuit (λ bytes. max_circuit_bytes < length bytes)
CircuitMayStop T circuit rose (Refused (CircuitLine line why)) = IfSome circuit (IsFaultyCircuit T line why)
CircuitMayStop T circuit rose (ReadFault OfCircuit) = rose
CircuitMayStop T circuit rose Memory = Unit {0}
CircuitMayStop T circuit rose _ = ⊥

-- one that reads the bitstrings
abbrev pub BitsMayStop : Circuit → Option (List ℕ) → Type 0 → Stop → Type 0
BitsMayStop c bits rose (Refused BitsTooLong) = IfSome bits (λ bytes. max_bits_bytes < length bytes)
BitsMayStop c bits rose (Refused (BitsLine line why)) = IfSome bits (AreFaultyBits c line why)
BitsMayStop c bits rose (ReadFault OfBits) = rose
BitsMayStop c bits rose Memory = Unit {0}
BitsMayStop c bits rose _ = ⊥

-- one that reads both
abbrev pub FilesMayStop : ℕ → Seen → Seen → Stop → Type 0
FilesMayStop T circuit bits (Refused CircuitTooLong) = IfSome circuit.before (λ bytes. max_circuit_bytes < length bytes)
FilesMayStop T circuit bits (Refused (CircuitLine line why)) = IfSome circuit.before (IsFaultyCircuit T line why)
FilesMayStop T circuit bits (Refused BitsTooLong) = IfSome circuit.before (λ text. (c : Circuit) × IsCircuitFile T c text × IfSome bits.before (λ bytes. max_bits_bytes < length bytes))
FilesMayStop T circuit bits (Refused (BitsLine line why)) = IfSome circuit.before (λ text. (c : Circuit) × IsCircuitFile T c text × IfSome bits.before (AreFaultyBits c line why))
FilesMayStop T circuit bits (ReadFault OfCircuit) = Rises circuit
FilesMayStop T circuit bits (ReadFault OfBits) = Rises bits × IfSome circuit.before (λ text. (c : Circuit) × IsCircuitFile T c text)
FilesMayStop T circuit bits Memory = Unit {0}
FilesMayStop T circuit bits _ = ⊥

-- one that takes its input from the files, or generates it
abbrev pub InputMayStop : Option GenSize → ℕ → Seen → Seen → Stop → Type 0
InputMayStop None T circuit bits stop = FilesMayStop T circuit bits stop
InputMayStop (Some size) T circuit bits stop = stop ≡ Memory

-- one that evolves a circuit whole, for its probabilities or its amplitudes
abbrev pub UncutMayStop : Bool → Circuit → Stop → Type 0
UncutMayStop prob c (Refused (Plan fault)) = (fault ≡ Wide c.qubits) × (max_uncut_qubits < c.qubits)
UncutMayStop prob c (Refused (ProbTooDeep weight)) = (prob ≡ true) × (c.qubits ≤ max_uncut_qubits) × (weight ≡ total_weight c.gates) × (max_weight < weight)
UncutMayStop prob c (OverflowGate gate) = (prob ≡ false) × (c.qubits ≤ max_uncut_qubits) × IsUncutOver c gate
UncutMayStop prob c Memory = Unit {0}
UncutMayStop prob c _ = ⊥

-- one that plans a job, where P says which refusals hold, and whether no cut is allowed
abbrev pub PlanMayStop : (PlanFault → Type 0) → Type 0 → Stop → Type 0
PlanMayStop P none (Refused (Plan fault)) = P fault
PlanMayStop P none (Refused NoCut) = none
PlanMayStop P none Memory = Unit {0}
PlanMayStop P none _ = ⊥

-- one that runs a job: its answer is over, or a disk failed, or a journal is refused, which leaves it as it was where it is not to be emptied
abbrev pub JobMayStop : Keeping → Job → Face → Face → Face → Face → (ℕ → Type 0) → Stop → Type 0
JobMayStop k j disk after old old_after Granted (OverflowPath path) = IsRun k j old disk after Granted (Over path)
JobMayStop k j disk after old old_after Granted DiskFault = DisksRise k disk after old old_after
JobMayStop k j disk after old old_after Granted Memory = Unit {0}
JobMayStop k j disk after old old_after Granted (Journal r) =
    JournalRefuses (λ known P. IfSome known P) k j disk old r × (k.fresh ≡ false → IsUnwritten disk after)
JobMayStop k j disk after old old_after Granted _ = ⊥

-- one that plans a job and runs it
pub record PlannedMayStop (o : Options) (part : List ℕ) (c : Circuit) (xs : List ℕ) (disk after old old_after : Face) (Granted : ℕ → Type 0) (stop : Stop) : Type 0 where
  pub job : Job
  pub planned : IsPlannedJob o part c xs job
  pub stops : JobMayStop (keeping o) job disk after old old_after Granted stop

abbrev pub CutMayStop : Options → List ℕ → Circuit → List ℕ → Face → Face → Face → Face → (ℕ → Type 0) → Stop → Type 0
CutMayStop o part c xs disk after old old_after Granted (Refused (Plan fault)) = PlanRefusesBy (Some part) o c xs fault
CutMayStop o part c xs disk after old old_after Granted (Refused NoCut) = (is_auto part ≡ true) × NoneAllowed o c xs
CutMayStop o part c xs disk after old old_after Granted Memory = Unit {0}
CutMayStop o part c xs disk after old old_after Granted stop = PlannedMayStop o part c xs disk after old old_after Granted stop

-- one that answers of a circuit and basis indices
abbrev pub AnswerMayStop : Option (List ℕ) → Options → Circuit → List ℕ → Face → Face → Face → Face → (ℕ → Type 0) → Stop → Type 0
AnswerMayStop None o c xs disk after old old_after Granted stop = UncutMayStop o.prob c stop
AnswerMayStop (Some part) o c xs disk after old old_after Granted stop = CutMayStop o part c xs disk after old old_after Granted stop

-- ---- what the parts do to the disks, where they call on one: what a run of the planned job does
pub record JobMoves (k : Keeping) (j : Job) (disk after old old_after : Face) : Type 0 where
  pub kept : k.kept ≡ true
  pub keeps : KeepsJournal k j old disk after
  pub reading : IsReadOnly old old_after
  pub old_runs : Runs old old_after

pub record PlannedMoves (o : Options) (part : List ℕ) (c : Circuit) (xs : List ℕ) (disk after old old_after : Face) : Type 0 where
  pub job : Job
  pub planned : IsPlannedJob o part c xs job
  pub moves : JobMoves (keeping o) job disk after old old_after

abbrev pub AnswerMoves : Option (List ℕ) → Options → Circuit → List ℕ → Face → Face → Face → Face → Type 0
AnswerMoves None o c xs disk after old old_after = ⊥
AnswerMoves (Some part) o c xs disk after old old_after = PlannedMoves o part c xs disk after old old_after

-- the call came to a job that keeps a journal, and did to the disks what a run of that job does
pub record Moves (o : Options) (circuit bits : Seen) (disk after old old_after : Face) : Type 0 where
  pub job : Job
  pub taken : Takes o circuit bits job
  pub moves : JobMoves (keeping o) job disk after old old_after

-- what a call with this status left beside its text and its stop: of a job, a whole run or none; and no write where a journal was refused
pub record Ended (o : Options) (circuit bits out : Seen) (disk after old : Face) (Granted : ℕ → Type 0) (status : ℕ) : Type 0 where
  pub whole : RunIsWhole status → IsSome o.part → EndsWholeBy o circuit bits out disk after old Granted status
  pub unwritten : status ≡ 8 → o.fresh ≡ false → IsUnwritten disk after
