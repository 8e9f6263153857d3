-- Consecutive cuts: part 1 is the qubits below m.
use Rattle.std.specs.Prelude.{◌≡◌, ◌≢◌, ℕ, ◌+◌, ◌-◌, ◌*◌, ◌^◌, ◌<◌, ◌≤◌, List, [], ◌∷◌, length, Option, Some, None}
use Rattle.std.specs.List.{range_with_len}
use Rattle.qh_gates.specs.Circuits.{Circuit}
use Rattle.qh_plan.specs.declared.fault.PlanFault.{PlanFault}
use Rattle.qh_plan.specs.Jobs.{Job, paths}
use Rattle.qh_plan.specs.Plans.{first_fault, job_of}
use Rattle.qh_planner.specs.declared.row.CutAnswer.{CutAnswer}
use Rattle.qh_planner.specs.declared.row.CutAnswer.TheVariants.{Allowed, Refused}
use Rattle.qh_planner.specs.declared.row.CutRow.{CutRow}

-- what is asked, but for the cut: a circuit, how many crossing gates are prefix and how many root, a prefix value if
-- one is given, and basis indices
pub record Asked : Type 0 where
  pub circuit : Circuit
  pub p : ℕ
  pub r : ℕ
  pub prefix : Option ℕ
  pub bits : List ℕ

-- the qubits below m
abbrev pub first_qubits : ℕ → List ℕ
first_qubits m = range_with_len 0 m

-- the first refusal of the plan whose part 1 is the qubits below m
abbrev pub refusal : Asked → ℕ → Option PlanFault
refusal a m = first_fault a.circuit (first_qubits m) a.p a.r a.prefix a.bits

-- the job of this cut
abbrev pub cut_job : Asked → ℕ → Job
cut_job a m = job_of a.circuit (first_qubits m) a.p a.r a.prefix a.bits

-- a step on each number of both halves for each path
unfoldable pub cost : Asked → ℕ → ℕ
cost a m = paths (cut_job a m) * (2 ^ m + 2 ^ (a.circuit.qubits - m))

-- the answer for a cut is its first refusal, or its number of paths, 2^log2, and its cost
abbrev pub IsAnswer : Asked → ℕ → CutAnswer → Type 0
IsAnswer a m (Allowed log2 units) = (refusal a m ≡ None) × (paths (cut_job a m) ≡ 2 ^ log2) × (units ≡ cost a m)
IsAnswer a m (Refused fault) = refusal a m ≡ Some fault

pub record IsRow (a : Asked) (m : ℕ) (row : CutRow) : Type 0 where
  pub size : row.size ≡ m
  pub answer : IsAnswer a m row.answer

-- a row for each m, from the given one on
abbrev pub AreRows : Asked → ℕ → List CutRow → Type 0
AreRows a m [] = Unit {0}
AreRows a m (row ∷ rows) = IsRow a m row × AreRows a (m + 1) rows

-- a row for each m from 1 on that leaves both parts a qubit
pub record IsTable (a : Asked) (rows : List CutRow) : Type 0 where
  pub count : length rows ≡ a.circuit.qubits - 1
  pub each : AreRows a 1 rows
