use Rattle.std.proofs.Common.{◌≡◌, ℕ, subst, sym, ◌∙◌}
use Rattle.qh_gates.specs.declared.kind.Kind.TheVariants.{H}
use Rattle.qh_prefix.specs.declared.place.Placed.{Placed}
use Rattle.qh_prefix.specs.declared.place.Placed.TheVariants.{OnOne}
use Rattle.qh_passes.specs.Turns.{IsTurnIn}
use Rattle.qh_prefix.proofs.RunLemmas.{has_term, gathering_room, gathering_more}
use Rattle.qh_prefix.proofs.run.run_placed.Goals as goal

abbrev no_gate : Placed
no_gate = OnOne H 0

pub turn_of-requires-clause-term : goal.turn_of-requires-clause-term
turn_of-requires-clause-term g c =
    has_term _ c.args.gates.now c.args.digits.now c.loop-gate.gate-index c.loop-gate.used _ _ _ c.next_digit.result _ _ _ no_gate
    c.requires.path c.loop-gate-test.true c.loop-gate.invariant c.next_digit.ensures

pub loop-gate-preserved : goal.loop-gate-preserved
loop-gate-preserved g c =
    let m = c.args.half.now.qubits in
    let room = gathering_room m c.args.gates.now c.args.digits.now c.loop-gate.gate-index c.loop-gate.used c.loop-gate.half.qubits c.make_room.new.half.qubits c.args.steps.now c.loop-gate.steps c.make_room.new.steps c.args.half.now.numbers
    c.loop-gate.half.numbers c.make_room.new.half.numbers c.loop-gate.piece.items c.make_room.new.piece.items c.loop-gate.invariant c.make_room.ensures.size c.make_room.ensures.steps c.make_room.ensures.fit c.make_room.ensures.after in
    gathering_more m c.args.gates.now c.args.digits.now c.loop-gate.gate-index c.loop-gate.used c.digits_taken-used.result c.make_room.new.half.qubits c.args.steps.now c.make_room.new.steps c.next_digit.result c.args.half.now.numbers
    c.make_room.new.half.numbers c.make_room.new.piece.items c.push.new.self.items c.turn_of.result no_gate c.loop-gate-test.true room c.next_digit.ensures c.digits_taken-used.ensures
    (subst (λ (n : ℕ). IsTurnIn n c.turn_of.result) c.qubits-qubits.ensures.value c.turn_of.ensures.fits) c.turn_of.ensures.operation c.push.ensures.items
