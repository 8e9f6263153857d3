use Rattle.std.proofs.Common.{inl, arith}
use Rattle.qh_slots.specs.Stands.{nones}
use Rattle.qh_slots.specs.Layout.{head}
use Rattle.qh_plan.specs.Jobs.{ranges}
use Rattle.qh_slots.proofs.StandLemmas.{head_size}
use Rattle.qh_slots.proofs.PlaceLemmas.{place_start}
use Rattle.qh_parts.proofs.PartLemmas.{on_ok}
use Rattle.qh_parts.proofs.LayLemmas.{creates_closed, creates_on}
use Rattle.qh_parts.proofs.laying.lay_all.Goals as goal

pub returns-in_err-lay-clause-fresh : goal.returns-in_err-lay-clause-fresh
returns-in_err-lay-clause-fresh g c f told = inl (c.lay.ensures.unbegun f told)

pub returns-in_err-lay-clause-creates : goal.returns-in_err-lay-clause-creates
returns-in_err-lay-clause-creates g c = creates_closed _ _ _ _ c.lay.ensures.closed

pub begin-requires : goal.begin-requires
begin-requires g c = record {
  some = λ f told.
      let s = (c.in_ok-lay.ensures.laid f told).size in let p = place_start (head c.args.job.now) c.args.job.now (ranges c.args.job.now) in let n = head_size c.args.job.now in omega arith;
}

pub returns-clause-stands : goal.returns-clause-stands
returns-clause-stands g c = on_ok c.begin.result _ _ (λ stands. stands (nones c.args.job.now) c.in_ok-lay.ensures.laid) c.begin.ensures.stands

pub returns-clause-fresh : goal.returns-clause-fresh
returns-clause-fresh g c = c.begin.ensures.fresh (nones c.args.job.now) c.in_ok-lay.ensures.laid

pub returns-clause-creates : goal.returns-clause-creates
returns-clause-creates g c = creates_on _ _ _ _ _ c.lay.ensures.closed (c.begin.ensures.creates (nones c.args.job.now) c.in_ok-lay.ensures.laid)
