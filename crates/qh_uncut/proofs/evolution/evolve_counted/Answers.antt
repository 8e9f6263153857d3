use Rattle.qh_uncut.proofs.StateLemmas.{done_none, done_more, done_over}
use Rattle.qh_uncut.proofs.BoundLemmas.{short_never}
use Rattle.qh_uncut.proofs.evolution.evolve_counted.Goals as goal

pub loop-i-init : goal.loop-i-init
loop-i-init g c = done_none c.args.circuit.now _ c.in-Ok.state c.qubits.ensures.value c.in-Ok.ensures

pub returns-in_default-apply_gate-clause-cause : goal.returns-in_default-apply_gate-clause-cause
returns-in_default-apply_gate-clause-cause g c =
    done_over c.args.circuit.now c.gates-gate-items.result.now c.loop-i.i _ c.gates-gate-items.ensures.value c.gates-gate-items.ensures.valid c.loop-i-test.true
    c.loop-i.state c.apply_gate.new.state c.loop-i.invariant c.in_default-apply_gate.ensures.numbers c.in_default-apply_gate.ensures.over

pub returns-in_default-apply_gate-clause-short : goal.returns-in_default-apply_gate-clause-short
returns-in_default-apply_gate-clause-short g c short =
    absurd (short_never c.args.circuit.now c.loop-i.i short
    (done_over c.args.circuit.now c.gates-gate-items.result.now c.loop-i.i _ c.gates-gate-items.ensures.value c.gates-gate-items.ensures.valid c.loop-i-test.true
    c.loop-i.state c.apply_gate.new.state c.loop-i.invariant c.in_default-apply_gate.ensures.numbers c.in_default-apply_gate.ensures.over))

pub loop-i-preserved : goal.loop-i-preserved
loop-i-preserved g c =
    done_more c.args.circuit.now c.gates-gate-items.result.now c.loop-i.i _ c.gates-gate-items.ensures.value c.gates-gate-items.ensures.valid c.loop-i-test.true
    c.loop-i.state c.apply_gate.new.state c.loop-i.invariant c.in-Ok-apply_gate.ensures.qubits c.in-Ok-apply_gate.ensures.numbers c.in-Ok-apply_gate.ensures.ok
