-- The total of the ranges below one.
use Rattle.std.specs.Prelude.{ℕ, Option, Some}
use Rattle.qh_plan.specs.declared.verdict.Verdict.{Verdict}
use Rattle.qh_plan.specs.Jobs.{Job}
use Rattle.qh_plan.specs.Verdicts.{total_below}
use Rattle.qh_plan.specs.Values.{range_value}

-- what each range answers
abbrev pub range_slots : Job → ℕ → Option Verdict
range_slots j i = Some (range_value j i)

-- the total of what the ranges below n answer
abbrev pub total_of : Job → ℕ → Verdict
total_of j n = total_below j.bits (range_slots j) n
