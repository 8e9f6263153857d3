use Rattle.qh_endure.proofs.Calls.{ends, is_made, each_now}
use Rattle.qh_endure.proofs.enduring.call.Goals as goal

pub returns-clause-proceeds : goal.returns-clause-proceeds
returns-clause-proceeds c = record {
  made = λ o j asks.
      let each = each_now _ _ _ c.args.disk.now c.requires.made o j asks in
      c.qsimh_alone.ensures.journal o j asks (is_made o j c.args.disk.now c.in_ok-none.none (c.requires.journal o asks.request_is) each);
  moments = c.qsimh_alone.ensures.moments.0;
  later = c.qsimh_alone.ensures.counts.2;
}

pub returns-clause-ends : goal.returns-clause-ends
returns-clause-ends c =
    ends _ _ _ _ _ c.args.disk.now c.qsimh_alone.new.disk c.in_ok-none.none c.qsimh_alone.new.old c.args.out.now c.qsimh_alone.new.out c.in_ok-timer.timer.granted
    c.qsimh_alone.new.timer.granted _ _ c.requires.journal c.requires.made c.qsimh_alone.ensures.usage c.qsimh_alone.ensures.usage_only c.qsimh_alone.ensures.refused
    c.qsimh_alone.ensures.stopped c.qsimh_alone.ensures.whole c.qsimh_alone.ensures.unwritten
