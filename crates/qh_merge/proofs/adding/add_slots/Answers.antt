use Rattle.std.proofs.Common.{◌≡◌, ◌+◌, List, length, drop, arith, rules, refl, ap, ◌∙◌}
use Rattle.qh_ring.specs.declared.number.Omega.{Omega}
use Rattle.qh_slots.specs.Layout.{place}
use Rattle.qh_parts.proofs.ReadingLemmas.{only_reads_on, slot_fault}
use Rattle.qh_merge.specs.Union.{added_slot}
use Rattle.qh_merge.proofs.AddingLemmas.{AreRead, added_more, read_more, written_back}
use Rattle.qh_merge.proofs.adding.add_slots.Goals as goal

pub read_one-requires-clause-at : goal.read_one-requires-clause-at
unfolding place
read_one-requires-clause-at g c =
    let at : c.from.result ≡ c.loop-range.range = search rules in
    rw (at, c.slot_size-size.ensures) refl

pub returns-in-Err-clause-fault : goal.returns-in-Err-clause-fault
returns-in-Err-clause-fault g c =
    slot_fault c.args.head.now c.args.job.now c.ranges-range-end.ensures.valid c.loop-range.invariant.added.slots c.loop-range.range c.in-Err.fault (g.D.Disk.face c.args.disk.now) (g.D.Disk.face c.loop-range.disk) (g.D.Disk.face c.read_one.new.disk)
    (search (rules, arith)) c.loop-range.invariant.reading.looks
    (λ f told q low. c.loop-range.invariant.added.are q low f told)
    c.in-Err.ensures.fault

pub loop-range-preserved : goal.loop-range-preserved
loop-range-preserved g c =
    let added = c.loop-range.invariant.added in
    record {
      added = added_more c.args.job.now c.loop-range.range (AreRead c.args.head.now c.args.job.now (g.D.Disk.face c.loop-range.disk) c.loop-range.range)
          (AreRead c.args.head.now c.args.job.now (g.D.Disk.face c.read_one.new.disk) (c.loop-range.range + 1)) c.in-Ok.verdict c.args.total.sums.items c.loop-range.total.sums.items _ c.args.total.over c.loop-range.total.over _
          added (search (rules, arith)) (search (rules, arith)) c.in-Ok.ensures.fits
          (written_back c.loop-range.total.sums.len c.add_slot.new.sums (drop (length c.add_slot.new.sums) c.loop-range.total.sums.items) (c.add_slot.auto.sums ∙ c.as_mut_slice.ensures.len)
          ∙ c.add_slot.ensures ∙ ap (λ (z : List Omega). added_slot z c.in-Ok.verdict) c.as_mut_slice.ensures.value)
          c.lesser_path-total.ensures
          (read_more c.args.head.now c.args.job.now c.loop-range.range added.slots c.in-Ok.verdict (g.D.Disk.face c.loop-range.disk) (g.D.Disk.face c.read_one.new.disk) added.count c.read_one.ensures.reading.looks added.are c.in-Ok.ensures.slot);
      size = search (rules, arith);
      reading = only_reads_on _ _ _ c.loop-range.invariant.reading c.read_one.ensures.reading;
      same = c.read_one.ensures.same ∙ c.loop-range.invariant.same;
    }
