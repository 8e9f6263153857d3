use Rattle.std.proofs.Common.{rules, append_assoc}
use Rattle.qh_prob.specs.Forms.{prob_line}
use Rattle.qh_prob.proofs.print.push_line.Goals as goal

pub returns : goal.returns
unfolding prob_line
returns c = search (rules, append_assoc)
