use Rattle.std.proofs.Common.{sym, subst}
use Rattle.qh_ring.specs.Numbers.{IsBelow}
use Rattle.qh_prob.proofs.TotalLemmas.{read_product, product_below}
use Rattle.qh_prob.proofs.prob.times.Goals as goal

pub returns-clause-value : goal.returns-clause-value
returns-clause-value c = read_product c.args.x c.args.y c.requires.x c.requires.y

pub returns-clause-small : goal.returns-clause-small
returns-clause-small c =
    subst (IsBelow 122) (sym (read_product c.args.x c.args.y c.requires.x c.requires.y)) (product_below c.args.x c.args.y c.requires.x c.requires.y)
