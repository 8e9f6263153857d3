-- The best of the rows that were looked at. No public contract speaks of it.
use Rattle.std.specs.Prelude.{List, All, Option, Some, None}
use Rattle.qh_planner.specs.declared.row.CutRow.{CutRow}
use Rattle.qh_planner.specs.declared.choice.Choice.{Choice}
use Rattle.qh_planner.specs.Choice.{IsCheapest, IsRefused}

-- none of the rows is allowed, or this is the first of least cost
abbrev pub IsBest : List CutRow → Option Choice → Type 0
IsBest rows None = All IsRefused rows
IsBest rows (Some best) = IsCheapest rows best.size best.cost
