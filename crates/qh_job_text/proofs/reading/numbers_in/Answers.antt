use Rattle.qh_job_text.proofs.ReadLemmas.{left_next, left_end}
use Rattle.qh_job_text.proofs.reading.numbers_in.Goals as goal

pub loop-number-preserved : goal.loop-number-preserved
loop-number-preserved c = λ head numbers without small e.
    left_next numbers c.loop-number.numbers.items c.loop-number.rest.now c.in-Some.more.now c.push.new.self.items c.in-Some.number
    (c.loop-number.invariant head numbers without small e) small c.in-Some.ensures.only (λ h. let none = c.in-Some.ensures.none h in cc) c.in_ok-push.ensures.items

pub returns : goal.returns
returns c = λ head numbers without small e.
    left_end numbers c.loop-number.numbers.items c.loop-number.rest.now (c.loop-number.invariant head numbers without small e) small c.in_default.ensures.only
