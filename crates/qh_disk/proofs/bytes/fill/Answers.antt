use Rattle.std.proofs.Common.{rules, arith}
use Rattle.std.proofs.lemmas.List.{places, same_lists}
use Rattle.qh_disk.proofs.bytes.fill.Goals as goal

pub returns-then-at-end-clause-items : goal.returns-then-at-end-clause-items
returns-then-at-end-clause-items c = same_lists _ _ (search (rules, places)) (λ k d h. grind (arith, places))
