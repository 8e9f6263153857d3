use Rattle.std.proofs.Common.{refl}
use Rattle.qh_uncut.proofs.StateLemmas.{done_none, done_more, done_over}
use Rattle.qh_uncut.proofs.narrow.evolve_narrow.Goals as goal

pub loop-i-init : goal.loop-i-init
loop-i-init g c = done_none c.args.circuit.now c.args.circuit.now.qubits c.args.state.now refl c.requires

pub returns-in_default-clause-cause : goal.returns-in_default-clause-cause
returns-in_default-clause-cause g c =
    done_over c.args.circuit.now c.gates-gates.result.now c.loop-i.i _ c.gates-gates.ensures.value c.gates-gates.ensures.valid c.loop-i-test.true
    c.loop-i.state c.apply_gate.new.state c.loop-i.invariant c.in_default.ensures.numbers c.in_default.ensures.over

pub loop-i-preserved : goal.loop-i-preserved
loop-i-preserved g c =
    done_more c.args.circuit.now c.gates-gates.result.now c.loop-i.i _ c.gates-gates.ensures.value c.gates-gates.ensures.valid c.loop-i-test.true
    c.loop-i.state c.apply_gate.new.state c.loop-i.invariant c.in-Ok.ensures.qubits c.in-Ok.ensures.numbers c.in-Ok.ensures.ok
