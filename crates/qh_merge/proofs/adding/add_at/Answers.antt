use Rattle.std.proofs.Common.{get_or}
use Rattle.std.proofs.lemmas.Option.{slice_get-get_or}
use Rattle.qh_merge.specs.Adding.{IsAdded}
use Rattle.qh_merge.specs.Gathered.{state_of}
use Rattle.qh_merge.specs.Inputs.{IsLookedAt}
use Rattle.qh_merge.proofs.ListLemmas.{all_set, at_some, err_at, fault_set, get_set, looked_same, ok_at}
use Rattle.qh_merge.proofs.adding.add_at.Goals as goal

pub returns-clause-added : goal.returns-clause-added
returns-clause-added g c =
    ok_at c.add_input.result _ _
    (λ b p t. get_set (λ d. IsAdded (g.D.Disk.face d) (state_of c.args.gathered.now) (state_of c.add_input.new.gathered)) c.args.disks.now c.args.place c.add_input.new.disk c.requires.place (p t))
    c.add_input.ensures.added

pub returns-clause-fault : goal.returns-clause-fault
returns-clause-fault g c =
    err_at c.add_input.result _ _
    (λ u p. fault_set g.D.Disk.face u c.args.disks.now c.args.place (get_or c.args.disks.now c.args.place c.index-disks-place.result) c.add_input.new.disk c.requires.place
    (slice_get-get_or c.args.disks.now c.args.place c.index-disks-place.result c.requires.place) p) c.add_input.ensures.fault

pub returns-clause-looks : goal.returns-clause-looks
returns-clause-looks g c =
    all_set (IsLookedAt g.D.Disk.face g.D.Disk.loans) (looked_same g.D.Disk.face g.D.Disk.loans) c.args.disks.now c.args.place c.add_input.new.disk
    (at_some _ c.args.disks.now c.args.place (get_or c.args.disks.now c.args.place c.index-disks-place.result)
    (slice_get-get_or c.args.disks.now c.args.place c.index-disks-place.result c.requires.place)
    (record { same = c.add_input.ensures.same; looks = c.add_input.ensures.looks }))
