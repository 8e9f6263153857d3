use Rattle.std.proofs.Common.{rules, sym, subst}
use Rattle.qh_merge.specs.declared.fault.MergeFault.{MergeFault}
use Rattle.qh_merge.specs.Gathered.{state_of}
use Rattle.qh_merge.specs.Inputs.{IsLookedAt}
use Rattle.qh_merge.specs.Merging.{MergeMayFail}
use Rattle.qh_merge.proofs.AddingLemmas.{progress_added, progress_on, takes_new}
use Rattle.qh_merge.proofs.ListLemmas.{all_on, err_at, good_on, looked_on}
use Rattle.qh_merge.proofs.MergeLemmas.{read_fails}
use Rattle.qh_merge.proofs.TakeLemmas.{fails_before}
use Rattle.qh_merge.proofs.merging.take_input.Goals as goal

pub add_at-requires-clause-takes : goal.add_at-requires-clause-takes
add_at-requires-clause-takes g c = takes_new g.D.Disk.face c.args.disks.now c.args.place (state_of c.args.gathered.now) c.requires.kept

pub returns-in-Err-clause-fault : goal.returns-in-Err-clause-fault
returns-in-Err-clause-fault g c =
    subst (λ (u : MergeFault). MergeMayFail g.D.Disk.face u c.args.disks.now c.add_at.new.disks) (sym c.fault_at.ensures)
    (read_fails g.D.Disk.face c.args.disks.now c.add_at.new.disks c.args.place c.in-Err.fault c.requires.kept.inputs
    (good_on g.D.Disk.face g.D.Disk.loans c.args.disks.now c.add_at.new.disks c.args.place c.requires.kept.inputs c.add_at.ensures.looks c.requires.kept.good) c.in-Err.ensures.fault)

pub returns-then-added-clause-kept : goal.returns-then-added-clause-kept
returns-then-added-clause-kept g c =
    progress_added g.D.Disk.face g.D.Disk.loans c.args.disks.now c.add_at.new.disks c.args.place (state_of c.args.gathered.now) (state_of c.add_at.new.gathered) c.requires.kept c.add_at.ensures.looks c.requires.behind
    (c.in-Ok.ensures.added (search rules))

pub take_known-requires-clause-kept : goal.take_known-requires-clause-kept
take_known-requires-clause-kept g c =
    progress_on g.D.Disk.face g.D.Disk.loans c.args.disks.now c.add_at.new.disks c.args.place (state_of c.args.gathered.now) (state_of c.add_at.new.gathered) c.requires.kept c.add_at.ensures.looks
    (c.in-Ok.ensures.unchanged (search rules))

pub returns-clause-fault : goal.returns-clause-fault
returns-clause-fault g c =
    err_at c.take_known.result _ _
    (λ u p. fails_before g.D.Disk.face g.D.Disk.loans c.args.disks.now c.add_at.new.disks c.take_known.new.disks u c.add_at.ensures.looks p) c.take_known.ensures.fault

pub returns-clause-looks : goal.returns-clause-looks
returns-clause-looks g c =
    all_on (IsLookedAt g.D.Disk.face g.D.Disk.loans) (looked_on g.D.Disk.face g.D.Disk.loans) c.args.disks.now c.add_at.new.disks c.take_known.new.disks c.add_at.ensures.looks c.take_known.ensures.looks
