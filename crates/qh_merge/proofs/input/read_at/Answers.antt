use Rattle.std.proofs.Common.{get_or}
use Rattle.std.proofs.lemmas.Option.{slice_get-get_or}
use Rattle.qh_merge.specs.Inputs.{IsLookedAt, IsRead}
use Rattle.qh_merge.specs.Parts.{input_of}
use Rattle.qh_merge.proofs.ListLemmas.{all_set, at_some, err_at, fault_set, get_set, looked_same, ok_at}
use Rattle.qh_merge.proofs.input.read_at.Goals as goal

pub returns-clause-read : goal.returns-clause-read
returns-clause-read g c =
    ok_at c.read_input.result _ _ (λ t p. get_set (λ d. IsRead (input_of t) (g.D.Disk.face d)) c.args.disks.now c.args.place c.read_input.new.disk c.requires p) c.read_input.ensures.read

pub returns-clause-fault : goal.returns-clause-fault
returns-clause-fault g c =
    err_at c.read_input.result _ _
    (λ u p. fault_set g.D.Disk.face u c.args.disks.now c.args.place (get_or c.args.disks.now c.args.place c.index-disks-place.result) c.read_input.new.disk c.requires
    (slice_get-get_or c.args.disks.now c.args.place c.index-disks-place.result c.requires) p) c.read_input.ensures.fault

pub returns-clause-looks : goal.returns-clause-looks
returns-clause-looks g c =
    all_set (IsLookedAt g.D.Disk.face g.D.Disk.loans) (looked_same g.D.Disk.face g.D.Disk.loans) c.args.disks.now c.args.place c.read_input.new.disk
    (at_some _ c.args.disks.now c.args.place (get_or c.args.disks.now c.args.place c.index-disks-place.result)
    (slice_get-get_or c.args.disks.now c.args.place c.index-disks-place.result c.requires)
    (record { same = c.read_input.ensures.same; looks = c.read_input.ensures.looks }))
