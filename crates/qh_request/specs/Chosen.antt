-- Part 1 of a cut: the qubits that a text lists, or those of the cheapest cut.
use Rattle.std.specs.Prelude.{◌≡◌, ◌≢◌, ℕ, ◌<◌, ◌≤◌, Bool, true, false, List, [], codes, bytes_eq, Option, Some, None}
use Rattle.qh_gates.specs.Circuits.{Circuit}
use Rattle.qh_plan.specs.Items.{items_of, AreNumbers}
use Rattle.qh_planner.specs.Cuts.{Asked, refusal, first_qubits, IsTable}
use Rattle.qh_planner.specs.Choice.{IsBestCut}
use Rattle.qh_planner.specs.declared.row.CutRow.{CutRow}
use Rattle.qh_words.specs.declared.options.Options.{Options}

-- the text that asks for the cheapest cut
abbrev pub is_auto : List ℕ → Bool
is_auto part = bytes_eq part (codes "auto")

abbrev pub asks_auto : Option (List ℕ) → Bool
asks_auto None = false
asks_auto (Some part) = is_auto part

-- what the table of cuts is made of
abbrev pub cut_asked : Options → Circuit → List ℕ → Asked
cut_asked o c xs = record { circuit = c; p = o.p; r = o.r; prefix = o.w; bits = xs }

-- the qubits below m, where this is the cheapest cut, or else the numbers that the text lists
abbrev pub IsPartBy : Bool → Options → List ℕ → Circuit → List ℕ → List ℕ → Type 0
IsPartBy true o part c xs items = (m : ℕ) × IsBestCut (cut_asked o c xs) m × (items ≡ first_qubits m)
IsPartBy false o part c xs items = AreNumbers (items_of part) items

abbrev pub IsPart : Options → List ℕ → Circuit → List ℕ → List ℕ → Type 0
IsPart o part c xs items = IsPartBy (is_auto part) o part c xs items

-- no cut into the qubits below m and the others is allowed
abbrev pub NoneAllowed : Options → Circuit → List ℕ → Type 0
NoneAllowed o c xs = (m : ℕ) → 1 ≤ m → m < c.qubits → refusal (cut_asked o c xs) m ≢ None

-- the cheapest cut is asked for, and there is none
pub record HasNoCut (o : Options) (c : Circuit) (xs : List ℕ) : Type 0 where
  pub auto : asks_auto o.part ≡ true
  pub none : NoneAllowed o c xs

-- the table of all cuts where the cheapest is asked for, and else no row
abbrev pub IsTableBy : Bool → Options → Circuit → List ℕ → List CutRow → Type 0
IsTableBy true o c xs rows = IsTable (cut_asked o c xs) rows
IsTableBy false o c xs rows = rows ≡ []
