use Rattle.std.proofs.Common.{ap, ◌++◌, ◌∙◌}
use Rattle.qh_circuit.proofs.SpellingLemmas.{gate_written}
use Rattle.qh_circuit.proofs.print.push_gate.Goals as goal

pub returns : goal.returns
returns c =
    gate_written _ _ _ _ _ _ _ c.args.gate.now c.in_ok-push_number.ensures.ok c.in_ok-push.ensures.items
    (c.in_ok-extend_from_slice.ensures.items ∙ ap (λ n. c.push.new.self.items ++ n) (c.as_bytes.ensures.value ∙ c.name_of.ensures))
    c.in_ok-push_word.ensures.ok c.in_ok-push_second.ensures c.in_ok-push-2.ensures.items
