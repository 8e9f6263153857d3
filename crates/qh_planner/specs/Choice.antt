-- The cheapest row of a table, and what it says of the cuts.
use Rattle.std.specs.Prelude.{◌≡◌, ◌≢◌, ℕ, ◌<◌, ◌≤◌, List, ◌∷◌, ◌++◌, All, Option, Some, None}
use Rattle.std.specs.Option.{ForSome}
use Rattle.qh_planner.specs.declared.row.CutAnswer.{CutAnswer}
use Rattle.qh_planner.specs.declared.row.CutAnswer.TheVariants.{Allowed, Refused}
use Rattle.qh_planner.specs.declared.row.CutRow.{CutRow}
use Rattle.qh_planner.specs.Cuts.{Asked, refusal, cost, IsTable}

-- the cost of a row whose cut is allowed
abbrev pub cost_of : CutAnswer → Option ℕ
cost_of (Allowed log2 units) = Some units
cost_of (Refused fault) = None

abbrev pub IsRefused : CutRow → Type 0
IsRefused row = cost_of row.answer ≡ None

-- the row costs more than this, if its cut is allowed
abbrev pub IsDearer : ℕ → CutRow → Type 0
IsDearer units row = ForSome (cost_of row.answer) (λ other. units < other)

-- the row does not cost less than this, if its cut is allowed
abbrev pub IsNoCheaper : ℕ → CutRow → Type 0
IsNoCheaper units row = ForSome (cost_of row.answer) (λ other. units ≤ other)

-- the first row of least cost has this size and cost
pub record IsCheapest (rows : List CutRow) (size units : ℕ) : Type 0 where
  pub before : List CutRow
  pub row : CutRow
  pub after : List CutRow
  pub is : rows ≡ before ++ row ∷ after
  pub size_is : row.size ≡ size
  pub allowed : cost_of row.answer ≡ Some units
  pub dearer : All (IsDearer units) before
  pub no_cheaper : All (IsNoCheaper units) after

-- ---- the law of the choice

-- cut m is allowed, each allowed cut costs at least as much, and each of fewer qubits more
pub record IsBestCut (a : Asked) (m : ℕ) : Type 0 where
  pub some_in_one : 1 ≤ m
  pub some_in_two : m < a.circuit.qubits
  pub allowed : refusal a m ≡ None
  pub least : (k : ℕ) → 1 ≤ k → k < a.circuit.qubits → refusal a k ≡ None → cost a m ≤ cost a k
  pub first : (k : ℕ) → 1 ≤ k → k < m → refusal a k ≡ None → cost a m < cost a k

abbrev pub ChosenIsBest : Type 0
ChosenIsBest = (a : Asked) (rows : List CutRow) (m units : ℕ) → IsTable a rows → IsCheapest rows m units → IsBestCut a m

abbrev pub NoneIsAllowed : Type 0
NoneIsAllowed = (a : Asked) (rows : List CutRow) (k : ℕ) → IsTable a rows → All IsRefused rows
    → 1 ≤ k → k < a.circuit.qubits → refusal a k ≢ None
