use Rattle.std.proofs.Common.{◌≡◌, ◌<◌, ◌≤◌, ℕ, length, take}
use Rattle.qh_disk.specs.Disk.{Reads}
use Rattle.qh_disk.specs.Moments.{EachImage, Lasts}
use Rattle.qh_plan.specs.declared.verdict.Verdict.{Verdict}
use Rattle.qh_slots.specs.Stands.{Slots, Stands, Made, Holds, Behind}
use Rattle.qh_slots.specs.Moments.{GoesOn}
use Rattle.qh_parts.specs.Sparing.{Spares}
use Rattle.qh_parts.specs.Groups.{AreValues, filled, range_of, member_of}
use Rattle.qh_parts.proofs.group.open_gates.Given as goal

abbrev pub invariant-loop-member : goal.invariant-loop-member
invariant-loop-member g l = record {
  behind : (k : ℕ) → l.member-index ≤ k → k < length l.group → EachImage (g.D.Disk.face l.disk) (Behind l.job (range_of l.group k) (member_of l.group k));
  stored : (k : ℕ) → k < l.member-index → Reads (g.D.Disk.face l.disk) (Holds l.job (range_of l.group k) (member_of l.group k));
  held : (q : ℕ) (w : Verdict) → Reads (g.D.Disk.face l.fn.disk) (Holds l.job q w) → Reads (g.D.Disk.face l.disk) (Holds l.job q w);
  filled : (s : Slots) → Reads (g.D.Disk.face l.fn.disk) (Stands l.job s) → Reads (g.D.Disk.face l.disk) (Stands l.job (filled s (take l.member-index l.group)));
  spares : Spares l.job (g.D.Disk.face l.fn.disk) (g.D.Disk.face l.disk);
  made : AreValues l.job l.group → Lasts (Made l.job) (g.D.Disk.face l.fn.disk) (g.D.Disk.face l.disk);
  goes_on : AreValues l.job l.group → (s : Slots) → Lasts (GoesOn l.job s) (g.D.Disk.face l.fn.disk) (g.D.Disk.face l.disk);
  same : g.D.Disk.loans l.disk ≡ g.D.Disk.loans l.fn.disk;
}
