use Rattle.std.proofs.Common.{◌≡◌, ℕ, length, subst, arith}
use Rattle.qh_merge.specs.Inputs.{IsLookedAt}
use Rattle.qh_merge.specs.Gathered.{state_of}
use Rattle.qh_merge.specs.Parts.{IsProgress}
use Rattle.qh_merge.proofs.ListLemmas.{all_on, length_all, looked_on}
use Rattle.qh_merge.proofs.TakeLemmas.{fails_before}
use Rattle.qh_merge.proofs.merging.take_all.Goals as goal

pub begin-requires : goal.begin-requires
begin-requires g c = c.requires.some

pub returns-in-Err-clause-fault : goal.returns-in-Err-clause-fault
returns-in-Err-clause-fault g c = c.in-Err.ensures.fault

pub returns-in-Err-clause-looks : goal.returns-in-Err-clause-looks
returns-in-Err-clause-looks g c = c.begin.ensures.looks

pub loop-place-init : goal.loop-place-init
loop-place-init g c = record { kept = c.in-Ok.ensures.kept; looks = c.begin.ensures.looks }

pub take_input-requires-clause-place : goal.take_input-requires-clause-place
take_input-requires-clause-place g c =
    let l = length_all (IsLookedAt g.D.Disk.face g.D.Disk.loans) c.args.disks.now c.loop-place.disks c.loop-place.invariant.looks in
    omega (arith, c.loop-place-test.true)

pub take_input-requires-clause-behind : goal.take_input-requires-clause-behind
take_input-requires-clause-behind g c = omega (arith, c.loop-place.auto.place)

pub take_input-requires-clause-few : goal.take_input-requires-clause-few
take_input-requires-clause-few g c =
    let l = length_all (IsLookedAt g.D.Disk.face g.D.Disk.loans) c.args.disks.now c.loop-place.disks c.loop-place.invariant.looks in
    omega (arith, c.requires.few)

pub take_input-requires-clause-kept : goal.take_input-requires-clause-kept
take_input-requires-clause-kept g c = c.loop-place.invariant.kept

pub returns-in-Err-take_input-clause-fault : goal.returns-in-Err-take_input-clause-fault
returns-in-Err-take_input-clause-fault g c =
    fails_before g.D.Disk.face g.D.Disk.loans c.args.disks.now c.loop-place.disks c.take_input.new.disks c.in-Err-take_input.fault c.loop-place.invariant.looks c.in-Err-take_input.ensures.fault

pub returns-in-Err-take_input-clause-looks : goal.returns-in-Err-take_input-clause-looks
returns-in-Err-take_input-clause-looks g c =
    all_on (IsLookedAt g.D.Disk.face g.D.Disk.loans) (looked_on g.D.Disk.face g.D.Disk.loans) c.args.disks.now c.loop-place.disks c.take_input.new.disks c.loop-place.invariant.looks c.take_input.ensures.looks

pub loop-place-preserved : goal.loop-place-preserved
loop-place-preserved g c = record {
  kept = c.in-Ok-take_input.ensures.kept;
  looks = all_on (IsLookedAt g.D.Disk.face g.D.Disk.loans) (looked_on g.D.Disk.face g.D.Disk.loans) c.args.disks.now c.loop-place.disks c.take_input.new.disks c.loop-place.invariant.looks c.take_input.ensures.looks;
}

pub returns-clause-kept : goal.returns-clause-kept
returns-clause-kept g c =
    let l = length_all (IsLookedAt g.D.Disk.face g.D.Disk.loans) c.args.disks.now c.loop-place.disks c.loop-place.invariant.looks in
    let e : c.loop-place.place ≡ length c.loop-place.disks = omega (arith, c.loop-place-test.false, c.requires.some) in
    subst (λ (n : ℕ). IsProgress g.D.Disk.face c.loop-place.disks n (state_of c.loop-place.gathered)) e c.loop-place.invariant.kept

pub returns-clause-looks : goal.returns-clause-looks
returns-clause-looks g c = c.loop-place.invariant.looks
