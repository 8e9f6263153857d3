use Rattle.std.proofs.Common.{◌^◌, ◌∙◌, ℕ, sym, ap, length}
use Rattle.qh_ring.specs.States.{ground}
use Rattle.qh_ring.proofs.ListedLemmas.{length-listed}
use Rattle.qh_uncut.proofs.EvolutionLemmas.{running_numbers, running_within, gate_done, gate_over}
use Rattle.qh_uncut.proofs.chunks.go_on.Goals as goal

pub returns-then-done-gates-clause-within : goal.returns-then-done-gates-clause-within
returns-then-done-gates-clause-within g c =
    running_within c.args.circuit.now c.args.done c.args.v.items (record { now = c.requires.numbers; fits = c.requires.never })

pub loop-i-init : goal.loop-i-init
loop-i-init g c = record {
  running = record { now = c.requires.numbers; fits = c.requires.never };
  spare = ap length c.in-Ok.ensures.value ∙ length-listed c.qubits-qubits.result ground;
}

pub renew-requires-clause-numbers : goal.renew-requires-clause-numbers
renew-requires-clause-numbers g c loans lives =
    running_numbers c.args.circuit.now c.loop-i.i c.loop-i.v.items c.loop-i.invariant.running ∙ ap (λ (n : ℕ). 2 ^ n) (sym c.qubits-qubits.ensures.value)

pub renew-requires-clause-bounded : goal.renew-requires-clause-bounded
renew-requires-clause-bounded g c loans lives = running_within c.args.circuit.now c.loop-i.i c.loop-i.v.items c.loop-i.invariant.running

pub returns-in_default-renew-clause-cause : goal.returns-in_default-renew-clause-cause
returns-in_default-renew-clause-cause g c =
    gate_over c.args.circuit.now c.gates-gates.result.now c.loop-i.i _ c.loop-i.v.items c.gates-gates.ensures.value c.gates-gates.ensures.valid c.loop-i-test.true
    c.loop-i.invariant.running c.in_default-renew.ensures.over

pub loop-i-preserved : goal.loop-i-preserved
loop-i-preserved g c = record {
  running = gate_done c.args.circuit.now c.gates-gates.result.now c.loop-i.i _ c.loop-i.v.items c.renew.new.v.items c.gates-gates.ensures.value c.gates-gates.ensures.valid
      c.loop-i-test.true c.loop-i.invariant.running c.in-Ok-renew.ensures.exact c.in-Ok-renew.ensures.bounded;
  spare = c.renew.ensures.places;
}

pub returns-clause-within : goal.returns-clause-within
returns-clause-within g c = running_within c.args.circuit.now c.loop-i.i c.loop-i.v.items c.loop-i.invariant.running
