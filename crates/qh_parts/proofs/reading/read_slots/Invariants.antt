use Rattle.std.proofs.Common.{◌≡◌, ◌<◌, ℕ}
use Rattle.std.specs.Prelude.{vec_len}
use Rattle.qh_disk.specs.Disk.{Reads}
use Rattle.qh_slots.specs.Layout.{slot_size}
use Rattle.qh_slots.specs.Slots.{SlotIs}
use Rattle.qh_slots.specs.Stands.{slot_at, AllFit}
use Rattle.qh_parts.specs.Reading.{OnlyReads}
use Rattle.qh_parts.proofs.reading.read_slots.Given as goal

abbrev pub invariant-loop-range : goal.invariant-loop-range
invariant-loop-range g l = record {
  count : vec_len l.table ≡ l.range;
  size : vec_len l.slot ≡ slot_size l.job;
  slots : (q : ℕ) → q < l.range → Reads (g.D.Disk.face l.disk) (λ f. SlotIs l.head l.job q f (slot_at l.table.items q));
  fits : AllFit l.job l.table.items;
  reading : OnlyReads (g.D.Disk.face l.fn.disk) (g.D.Disk.face l.disk);
  same : g.D.Disk.loans l.disk ≡ g.D.Disk.loans l.fn.disk;
}
