-- The text that is asked for.
use Rattle.std.specs.Prelude.{◌≡◌, ℕ, ◌≤◌, List, [], ◌∷◌, ◌++◌, length, map, codes, decimal, Bool, true, false, Option, Some, None}
use Rattle.qh_gates.specs.Circuits.{Circuit, total_weight}
use Rattle.qh_gates.specs.Evolution.{uncut, NeverOver}
use Rattle.qh_ring.specs.declared.number.Omega.{Omega}
use Rattle.qh_plan.specs.declared.verdict.Verdict.TheVariants.{Sum}
use Rattle.qh_plan.specs.Jobs.{Job, crossing, ranges}
use Rattle.qh_plan.specs.Verdicts.{total}
use Rattle.qh_plan.specs.Asked.{asked}
use Rattle.qh_plan.specs.Laws.{NoneOver}
use Rattle.qh_text.specs.Bitstrings.{index_of}
use Rattle.qh_text.specs.Words.{word_of}
use Rattle.qh_disk.specs.Disk.{Face}
use Rattle.qh_slots.specs.Stands.{Slots, slot_at}
use Rattle.qh_slots.specs.Record.{IsEnd, IsFull}
use Rattle.qh_words.specs.declared.options.Options.{Options}
use Rattle.qh_words.specs.declared.size.GenSize.{GenSize}
use Rattle.qh_limits.specs.Limits.{max_uncut_qubits, max_weight}
use Rattle.qh_request.specs.Lines.{AreLines, AreProbabilities}
use Rattle.qh_request.specs.Jobs.{IsPlannedJob, keeping}

-- gen n g K c r: the numbers of qubits, gates, scaled gates, crossing gates and ranges
unfoldable pub gen_line : Circuit → ℕ → ℕ → List ℕ
gen_line c crossing_gates range_count =
    codes "gen" ++ word_of (decimal c.qubits) ++ word_of (decimal (length c.gates)) ++ word_of (decimal (total_weight c.gates))
    ++ word_of (decimal crossing_gates) ++ word_of (decimal range_count) ++ 10 ∷ []

-- this line stands first where the circuit is generated
abbrev pub head_text : Option GenSize → Circuit → ℕ → ℕ → List ℕ
head_text None c crossing_gates range_count = []
head_text (Some size) c crossing_gates range_count = gen_line c crossing_gates range_count

-- the amplitudes of an uncut circuit of at most 16 qubits, none of whose coefficients reaches 2^126: one for each string
pub record IsUncutAnswer (generated : Option GenSize) (c : Circuit) (strings : List (List ℕ)) (text : List ℕ) : Type 0 where
  pub narrow : c.qubits ≤ max_uncut_qubits
  pub never : NeverOver c
  pub lines : List ℕ
  pub are_lines : AreLines (total_weight c.gates) strings (map (λ s. uncut c.gates (index_of s)) strings) lines
  pub text_is : text ≡ head_text generated c 0 0 ++ lines

-- the probabilities of an uncut circuit of at most 16 qubits and a weight of at most 120: one for each string
pub record IsProbAnswer (generated : Option GenSize) (c : Circuit) (strings : List (List ℕ)) (text : List ℕ) : Type 0 where
  pub narrow : c.qubits ≤ max_uncut_qubits
  pub shallow : total_weight c.gates ≤ max_weight
  pub lines : List ℕ
  pub are_lines : AreProbabilities c strings lines
  pub text_is : text ≡ head_text generated c 0 0 ++ lines

-- probabilities where they are asked for, and else amplitudes
abbrev pub IsWholeAnswer : Bool → Option GenSize → Circuit → List (List ℕ) → List ℕ → Type 0
IsWholeAnswer true generated c strings text = IsProbAnswer generated c strings text
IsWholeAnswer false generated c strings text = IsUncutAnswer generated c strings text

-- the lines of these values of a job at these strings, behind the first line where the circuit is generated
pub record IsValuesText (generated : Option GenSize) (j : Job) (strings : List (List ℕ)) (values : List Omega) (text : List ℕ) : Type 0 where
  pub lines : List ℕ
  pub are_lines : AreLines (total_weight j.circuit.gates) strings values lines
  pub text_is : text ≡ head_text generated j.circuit (crossing j) (ranges j) ++ lines

-- the amplitudes that a job asks for at these strings; no path of it is over
pub record IsJobText (generated : Option GenSize) (j : Job) (strings : List (List ℕ)) (text : List ℕ) : Type 0 where
  pub none : NoneOver j
  pub values : IsValuesText generated j strings (map (λ s. asked j (index_of s)) strings) text

-- what the slots of a job add up to, which is a sum
pub record IsTotalText (generated : Option GenSize) (j : Job) (s : Slots) (strings : List (List ℕ)) (text : List ℕ) : Type 0 where
  pub sums : List Omega
  pub total_is : total j (slot_at s) ≡ Sum sums
  pub values : IsValuesText generated j strings sums text

-- the text of the job that is planned, by the slots that the call ends with; where no journal is kept, what the job asks for
pub record IsCutAnswer (o : Options) (after : Face) (part : List ℕ) (c : Circuit) (strings : List (List ℕ)) (text : List ℕ) : Type 0 where
  pub job : Job
  pub planned : IsPlannedJob o part c (map index_of strings) job
  pub slots : Slots
  pub ended : IsEnd (keeping o) job after slots
  pub full : IsFull job slots
  pub text_is : IsTotalText o.generated job slots strings text
  pub unkept : o.journal ≡ None → IsJobText o.generated job strings text

-- with a part 1 the circuit is cut, and else it is not
abbrev pub IsAnswerBy : Option (List ℕ) → Options → Face → Circuit → List (List ℕ) → List ℕ → Type 0
IsAnswerBy None o after c strings text = IsWholeAnswer o.prob o.generated c strings text
IsAnswerBy (Some part) o after c strings text = IsCutAnswer o after part c strings text

-- the text that the options ask for of a circuit at these strings; `after` is the disk of the journal when the call ends
abbrev pub IsAnswer : Options → Face → Circuit → List (List ℕ) → List ℕ → Type 0
IsAnswer o after c strings text = IsAnswerBy o.part o after c strings text
