use Rattle.std.proofs.Common.{◌≡◌, ℕ, length, take}
use Rattle.qh_disk.specs.Disk.{Reads}
use Rattle.qh_slots.specs.Layout.{slot_size}
use Rattle.qh_parts.specs.Laying.{IsLaid, IsUnbegun, StaysClosed}
use Rattle.qh_migrate.specs.Laid.{front_of}
use Rattle.qh_migrate.specs.Moving.{count_open}
use Rattle.qh_migrate.proofs.moving.put_all.Given as goal

abbrev pub invariant-loop-range : goal.invariant-loop-range
invariant-loop-range g l = record {
  space : length l.bytes ≡ slot_size l.job;
  laid : Reads (g.D.Disk.face l.disk) (IsLaid l.job (front_of l.range l.table));
  count : l.moved ≡ count_open (take l.range l.table);
  closed : StaysClosed (g.D.Disk.face l.fn.disk) (g.D.Disk.face l.disk);
  same : g.D.Disk.loans l.disk ≡ g.D.Disk.loans l.fn.disk;
}
