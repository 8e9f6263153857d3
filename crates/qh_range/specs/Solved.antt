-- What a whole run answers.
use Rattle.std.specs.Prelude.{◌≡◌, ℕ, List, map}
use Rattle.qh_gates.specs.Circuits.{total_weight}
use Rattle.qh_plan.specs.declared.verdict.Verdict.TheVariants.{Over as OverPath}
use Rattle.qh_plan.specs.Jobs.{Job}
use Rattle.qh_plan.specs.Asked.{asked}
use Rattle.qh_plan.specs.Values.{run_value}
use Rattle.qh_plan.specs.Laws.{NoneOver}
use Rattle.qh_print.specs.Output.{IsText}
use Rattle.qh_range.specs.declared.solving.Solved.{Solved}
use Rattle.qh_range.specs.declared.solving.Solved.TheVariants.{Lines, Overflow}

-- the text has a line for each asked index, with the number that is asked for it
abbrev pub IsAskedText : Job → List ℕ → Type 0
IsAskedText j text = IsText j.circuit.qubits (total_weight j.circuit.gates) j.bits (map (asked j) j.bits) text

-- no path of the run is over and these are the asked lines, or the run's value names this path
abbrev pub IsSolved : Job → Solved → Type 0
IsSolved j (Lines text) = NoneOver j × IsAskedText j text
IsSolved j (Overflow path) = run_value j ≡ OverPath path
