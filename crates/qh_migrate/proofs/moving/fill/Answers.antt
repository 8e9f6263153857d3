use Rattle.std.proofs.Common.{◌≡◌, ◌≤◌, ℕ, List, length, inl, ap, sym, ◌∙◌, arith, rules}
use Rattle.qh_plan.specs.Jobs.{Job, ranges}
use Rattle.qh_slots.specs.Layout.{head, place, slot_size}
use Rattle.qh_slots.proofs.StandLemmas.{head_size}
use Rattle.qh_slots.proofs.PlaceLemmas.{place_start}
use Rattle.qh_parts.proofs.PlaceLemmas.{at_place}
use Rattle.qh_parts.proofs.LayLemmas.{closed_on, creates_closed, creates_on}
use Rattle.qh_migrate.proofs.moving.fill.Goals as goal

pub lay-requires-clause-long : goal.lay-requires-clause-long
lay-requires-clause-long g c = let s = head_size c.args.job.now in let e = ap (λ (l : List ℕ). length l) c.requires.wanted in omega arith

pub lay-requires-clause-size : goal.lay-requires-clause-size
lay-requires-clause-size g c =
    at_place c.args.job.now (length c.args.wanted.now) c.from.result c.slot_size.result (ranges c.args.job.now)
    (ap (λ (l : List ℕ). length l) c.requires.wanted) (c.from.ensures ∙ c.ranges-2.ensures.value) c.slot_size.ensures

pub returns-in_err-lay-clause-fresh : goal.returns-in_err-lay-clause-fresh
returns-in_err-lay-clause-fresh g c f told = inl (c.lay.ensures.unbegun f told)

pub returns-in_err-lay-clause-creates : goal.returns-in_err-lay-clause-creates
returns-in_err-lay-clause-creates g c = creates_closed _ _ _ _ c.lay.ensures.closed

pub put_all-requires-clause-start : goal.put_all-requires-clause-start
put_all-requires-clause-start g c = ap (λ (l : List ℕ). length l) c.requires.wanted

pub returns-in_err-moved-clause-fresh : goal.returns-in_err-moved-clause-fresh
returns-in_err-moved-clause-fresh g c f told = inl (c.put_all.ensures.unbegun f told)

pub returns-in_err-moved-clause-creates : goal.returns-in_err-moved-clause-creates
returns-in_err-moved-clause-creates g c = creates_closed _ _ _ _ (closed_on _ _ _ c.lay.ensures.closed c.put_all.ensures.closed)

pub begin-requires : goal.begin-requires
begin-requires g c = record {
  some = λ f told.
      let s = (c.in_ok-moved.ensures.laid f told).size in
      let p = place_start (head c.args.job.now) c.args.job.now (ranges c.args.job.now) in
      let n = head_size c.args.job.now in
      omega arith;
}

pub returns-in_err-begin-clause-fresh : goal.returns-in_err-begin-clause-fresh
returns-in_err-begin-clause-fresh g c = c.begin.ensures.fresh c.args.table.now c.in_ok-moved.ensures.laid

pub returns-in_err-begin-clause-creates : goal.returns-in_err-begin-clause-creates
returns-in_err-begin-clause-creates g c = creates_on _ _ _ _ _ (closed_on _ _ _ c.lay.ensures.closed c.put_all.ensures.closed) (c.begin.ensures.creates c.args.table.now c.in_ok-moved.ensures.laid)

pub returns-clause-stands : goal.returns-clause-stands
returns-clause-stands g c = c.in_ok-begin.ensures.stands c.args.table.now c.in_ok-moved.ensures.laid

pub returns-clause-fresh : goal.returns-clause-fresh
returns-clause-fresh g c = c.begin.ensures.fresh c.args.table.now c.in_ok-moved.ensures.laid

pub returns-clause-creates : goal.returns-clause-creates
returns-clause-creates g c = creates_on _ _ _ _ _ (closed_on _ _ _ c.lay.ensures.closed c.put_all.ensures.closed) (c.begin.ensures.creates c.args.table.now c.in_ok-moved.ensures.laid)
