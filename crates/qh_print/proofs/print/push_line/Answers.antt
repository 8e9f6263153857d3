use Rattle.std.proofs.Common.{rules, append_assoc}
use Rattle.qh_print.specs.Output.{value_line}
use Rattle.qh_print.proofs.print.push_line.Goals as goal

pub returns : goal.returns
unfolding value_line
returns c = search (rules, append_assoc)
