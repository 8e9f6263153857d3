use Rattle.qh_plan.proofs.TextLemmas.{job_whole}
use Rattle.qh_plan.proofs.text.job_text.Goals as goal

pub returns : goal.returns
returns c =
    job_whole (record { circuit = c.args.circuit.now; part = c.args.part.now; p = c.args.p; r = c.args.r; prefix = c.args.prefix; bits = c.args.bits.now }) _ _ _ _ _ _ _ _ _
    c.in_ok-text.ensures.items c.in_ok-push_words.ensures c.in_ok-extend_from_slice.ensures.items c.in_ok-push_word.ensures.ok c.in_ok-push_word-2.ensures.ok
    c.in_ok-push.ensures.items c.in_ok-push_prefix.ensures c.in_ok-push-2.ensures.items c.in_ok-push_asked.ensures
