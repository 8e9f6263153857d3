-- How the slots of a table are laid, one after the other.
use Rattle.std.specs.Prelude.{ℕ, ◌-◌, ◌++◌, length, take, replicate, set, Option, Some, None}
use Rattle.qh_plan.specs.declared.verdict.Verdict.{Verdict}
use Rattle.qh_slots.specs.Stands.{Slots}

-- the slots with that of range r, if it is open
abbrev pub put : Slots → ℕ → Option Verdict → Slots
put s r None = s
put s r (Some v) = set s r (Some v)

-- the slots of the first r ranges; the others are closed
abbrev pub front_of : ℕ → Slots → Slots
front_of r table = take r table ++ replicate (length table - r) None
