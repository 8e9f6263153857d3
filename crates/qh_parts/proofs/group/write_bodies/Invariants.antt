use Rattle.std.proofs.Common.{◌≡◌, ◌<◌, ℕ, length}
use Rattle.qh_disk.specs.Disk.{Reads}
use Rattle.qh_disk.specs.Moments.{EachImage, Lasts}
use Rattle.qh_slots.specs.Layout.{body_size}
use Rattle.qh_slots.specs.Stands.{Slots, Stands, Made, Shut, Behind}
use Rattle.qh_slots.specs.Moments.{GoesOn}
use Rattle.qh_parts.specs.Sparing.{Spares}
use Rattle.qh_parts.specs.Groups.{range_of, member_of}
use Rattle.qh_parts.proofs.group.write_bodies.Given as goal

abbrev pub invariant-loop-member : goal.invariant-loop-member
invariant-loop-member g l = record {
  body : length l.body ≡ body_size l.job;
  shut : (k : ℕ) → k < length l.group → EachImage (g.D.Disk.face l.disk) (Shut l.job (range_of l.group k));
  behind : (k : ℕ) → k < l.member-index → Reads (g.D.Disk.face l.disk) (Behind l.job (range_of l.group k) (member_of l.group k));
  kept : (s : Slots) → Reads (g.D.Disk.face l.fn.disk) (Stands l.job s) → Reads (g.D.Disk.face l.disk) (Stands l.job s);
  spares : Spares l.job (g.D.Disk.face l.fn.disk) (g.D.Disk.face l.disk);
  made : Lasts (Made l.job) (g.D.Disk.face l.fn.disk) (g.D.Disk.face l.disk);
  goes_on : (s : Slots) → Lasts (GoesOn l.job s) (g.D.Disk.face l.fn.disk) (g.D.Disk.face l.disk);
  same : g.D.Disk.loans l.disk ≡ g.D.Disk.loans l.fn.disk;
}
