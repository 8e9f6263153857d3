use Rattle.std.proofs.Common.{List, subst, sym}
use Rattle.qh_passes.specs.declared.turn.Turn.{Turn}
use Rattle.qh_half.specs.Halves.{AfterTurns}
use Rattle.qh_prefix.proofs.run.make_room.Goals as goal

pub returns-clause-after : goal.returns-clause-after
returns-clause-after g c = λ n h.
    subst (λ t. AfterTurns c.args.piece.now.items c.args.half.now.numbers t) (sym (subst (λ (ts : List Turn). AfterTurns ts c.apply_run.new.self.numbers n) c.clear.ensures h))
    (subst (λ (ts : List Turn). AfterTurns ts c.args.half.now.numbers c.apply_run.new.self.numbers) c.deref.ensures.0 c.apply_run.ensures.numbers)
