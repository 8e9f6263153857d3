use Rattle.std.proofs.Common.{◌≤◌, ◌<◌, arith, subst, sym, ◌∙◌}
use Rattle.qh_ring.specs.declared.number.Omega.{Omega}
use Rattle.qh_ring.specs.Numbers.{IsWithin, times_root}
use Rattle.qh_narrow.specs.Factor.{with_factor}
use Rattle.qh_half.proofs.FormLemmas.{spread_all, within_more}
use Rattle.qh_half.proofs.RootLemmas.{fits_at}
use Rattle.qh_half.proofs.wide.write_all.Goals as goal

pub returns : goal.returns
returns c =
    let v = with_factor c.args.roots c.args.columns.now.numbers in
    spread_all v c.loop-index.list c.loop-index.index (c.loop-index.auto.list ∙ c.requires.room ∙ sym c.requires.vector.len)
    (subst (λ n. n ≤ c.loop-index.index) (sym c.loop-index.auto.list) c.loop-index-test.false) c.loop-index.invariant

pub scaled-requires-clause-here : goal.scaled-requires-clause-here
scaled-requires-clause-here c = within_more 62 126 c.at.result (omega arith) c.at.ensures.within

pub scaled-requires-clause-fits : goal.scaled-requires-clause-fits
scaled-requires-clause-fits c =
    subst (λ (t : Omega). IsWithin 126 (times_root c.args.roots t)) (sym c.at.ensures.value)
    (fits_at c.args.columns.now.qubits c.args.roots c.args.columns.now.numbers c.loop-index.index c.requires.vector
    (subst (λ n. c.loop-index.index < n) c.requires.room c.loop-index-test.true))
