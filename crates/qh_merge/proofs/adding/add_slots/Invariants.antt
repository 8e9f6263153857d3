use Rattle.std.proofs.Common.{◌≡◌}
use Rattle.std.specs.Prelude.{vec_len}
use Rattle.qh_slots.specs.Layout.{slot_size}
use Rattle.qh_parts.specs.Reading.{OnlyReads}
use Rattle.qh_merge.specs.Adding.{AreAddedUp}
use Rattle.qh_merge.proofs.AddingLemmas.{AreRead}
use Rattle.qh_merge.proofs.adding.add_slots.Given as goal

abbrev pub invariant-loop-range : goal.invariant-loop-range
invariant-loop-range g l = record {
  added : AreAddedUp l.job l.range (AreRead l.head l.job (g.D.Disk.face l.disk) l.range) l.fn.total.sums.items l.total.sums.items l.fn.total.over l.total.over;
  size : vec_len l.slot ≡ slot_size l.job;
  reading : OnlyReads (g.D.Disk.face l.fn.disk) (g.D.Disk.face l.disk);
  same : g.D.Disk.loans l.disk ≡ g.D.Disk.loans l.fn.disk;
}
