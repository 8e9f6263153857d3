use Rattle.std.proofs.Common.{sym, ◌∙◌}
use Rattle.qh_gen.proofs.PairLemmas.{is_lower_along, is_lower_across}
use Rattle.qh_gen.proofs.grid.Grid.is_lower.Goals as goal

pub returns-then-pattern-eq0 : goal.returns-then-pattern-eq0
returns-then-pattern-eq0 c = c.starts_at.ensures ∙ sym (is_lower_along c.args.self.now.rows c.args.self.now.cols c.args.pattern c.args.qubit c.if-pattern-eq0.true)

pub returns-else-pattern-eq0 : goal.returns-else-pattern-eq0
returns-else-pattern-eq0 c = c.starts_at-else-pattern-eq0.ensures ∙ sym (is_lower_across c.args.self.now.rows c.args.self.now.cols c.args.pattern c.args.qubit c.if-pattern-eq0.false)
