use Rattle.qh_half.specs.Forms.{held}
use Rattle.qh_half.proofs.RunsLemmas.{way_more}
use Rattle.qh_half.proofs.runs.turn_all.Goals as goal

pub loop-done-preserved : goal.loop-done-preserved
loop-done-preserved c =
    way_more c.args.qubits c.args.run.now c.loop-done.done c.turn_some-next.result.1 (held c.args.form c.args.places.now) c.loop-done.form c.turn_some-next.result.0 c.loop-done.places
    c.turn_some-next.new.places c.loop-done.invariant c.turn_some-next.ensures.few c.turn_some-next.ensures.kept c.turn_some-next.ensures.numbers
