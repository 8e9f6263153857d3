use Rattle.std.proofs.Common.{◌∙◌, sym, ap, ◌+◌, ◌-◌, ◌/◌, ◌%◌, ◌++◌, append_assoc, ◌∷◌, []}
use Rattle.qh_text.specs.Bitstrings.{bits_text}
use Rattle.qh_text.proofs.BitLemmas.{bits_step}
use Rattle.qh_text.proofs.bitstring.push_bits.Goals as goal

pub loop-q-preserved : goal.loop-q-preserved
loop-q-preserved c =
    let step = bits_step c.args.qubits c.loop-q.q c.loop-q.rest c.loop-q-test.true in
    let digit = (48 + c.loop-q.rest % 2) ∷ [] in
    let back = c.loop-q.invariant.extends in
    record {
      spelled = ap (λ t. t ++ bits_text (c.args.qubits - (c.loop-q.q + 1)) (c.loop-q.rest / 2)) c.in_ok-push.ensures.items
          ∙ append_assoc c.loop-q.text.items digit (bits_text (c.args.qubits - (c.loop-q.q + 1)) (c.loop-q.rest / 2))
          ∙ ap (λ t. c.loop-q.text.items ++ t) (sym step) ∙ c.loop-q.invariant.spelled;
      extends = (back.0 ++ digit, c.in_ok-push.ensures.items ∙ ap (λ t. t ++ digit) back.1 ∙ append_assoc c.args.text.now.items back.0 digit);
    }
