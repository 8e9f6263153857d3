use Rattle.qh_merge.specs.Inputs.{AllLook}
use Rattle.qh_merge.specs.Gathered.{state_of}
use Rattle.qh_merge.specs.Parts.{IsProgress}
use Rattle.qh_merge.proofs.merging.take_all.Given as goal

abbrev pub invariant-loop-place : goal.invariant-loop-place
invariant-loop-place g l = record {
  kept : IsProgress g.D.Disk.face l.disks l.place (state_of l.gathered);
  looks : AllLook g.D.Disk.face g.D.Disk.loans l.fn.disks l.disks;
}
