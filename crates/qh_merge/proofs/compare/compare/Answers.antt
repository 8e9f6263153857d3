use Rattle.std.proofs.Common.{ℕ, sym, subst, arith}
use Rattle.qh_merge.specs.declared.fault.MergeFault.{MergeFault}
use Rattle.qh_merge.specs.Parts.{Goes, RereadMayFail, input_of}
use Rattle.qh_merge.proofs.MergeLemmas.{known_at}
use Rattle.qh_merge.proofs.CompareLemmas.{as_many, changed_fails, difference_on, few_slots, finished_slots, misses_not, other_not, repeated_on, reread_fails}
use Rattle.qh_merge.proofs.compare.compare.Goals as goal

pub read_at-requires : goal.read_at-requires
read_at-requires g c = c.requires.place

pub overflow_cast-place : goal.overflow_cast-place
overflow_cast-place g c = omega (arith, c.requires.place, c.requires.few)

pub returns-in-Err-clause-fault : goal.returns-in-Err-clause-fault
returns-in-Err-clause-fault g c =
    subst (λ (u : MergeFault). RereadMayFail g.D.Disk.face c.args.family.now c.args.place c.args.prefix (input_of c.args.input) u c.args.disks.now c.read_at.new.disks) (sym c.fault_at.ensures)
    (reread_fails g.D.Disk.face c.args.family.now c.args.place c.args.prefix (input_of c.args.input) c.in-Err.fault c.args.disks.now c.read_at.new.disks c.in-Err.ensures.fault)

pub returns-in-Err-clause-looks : goal.returns-in-Err-clause-looks
returns-in-Err-clause-looks g c = c.read_at.ensures.looks

pub overflow_cast-place-2 : goal.overflow_cast-place-2
overflow_cast-place-2 g c = omega (arith, c.requires.place, c.requires.few)

pub check-requires-clause-count : goal.check-requires-clause-count
check-requires-clause-count g c = (known_at g.D.Disk.face (input_of c.in-Ok.other) _ c.in-Ok.ensures.read).count

pub check-requires-clause-few : goal.check-requires-clause-few
check-requires-clause-few g c = (known_at g.D.Disk.face (input_of c.in-Ok.other) _ c.in-Ok.ensures.read).planned.valid.few_ranges

pub overflow_cast-result : goal.overflow_cast-result
overflow_cast-result g c = omega (arith, c.requires.place, c.requires.few)

pub returns-in-Err-check-clause-fault : goal.returns-in-Err-check-clause-fault
returns-in-Err-check-clause-fault g c =
    changed_fails g.D.Disk.face c.args.family.now c.args.place c.args.prefix (input_of c.args.input) (input_of c.in-Ok.other) c.args.disks.now c.read_at.new.disks c.in-Ok.ensures.read
    (misses_not c.args.family.now (input_of c.in-Ok.other) c.args.place c.args.prefix c.in-Err-check.field-0 c.in-Err-check.ensures.fault)

pub returns-in-Err-check-clause-looks : goal.returns-in-Err-check-clause-looks
returns-in-Err-check-clause-looks g c = c.read_at.ensures.looks

pub overflow_cast-result-then-again-prefix : goal.overflow_cast-result-then-again-prefix
overflow_cast-result-then-again-prefix g c = omega (arith, c.requires.place, c.requires.few)

pub returns-then-again-prefix-clause-fault : goal.returns-then-again-prefix-clause-fault
returns-then-again-prefix-clause-fault g c =
    changed_fails g.D.Disk.face c.args.family.now c.args.place c.args.prefix (input_of c.args.input) (input_of c.in-Ok.other) c.args.disks.now c.read_at.new.disks c.in-Ok.ensures.read
    (other_not c.args.family.now (input_of c.in-Ok.other) c.in-Ok-check.again c.args.prefix c.in-Ok-check.ensures.goes c.if-again-prefix.true)

pub returns-then-again-prefix-clause-looks : goal.returns-then-again-prefix-clause-looks
returns-then-again-prefix-clause-looks g c = c.read_at.ensures.looks

pub unequal-requires-clause-even : goal.unequal-requires-clause-even
unequal-requires-clause-even g c =
    as_many c.args.family.now (input_of c.in-Ok.other) (input_of c.args.input) c.args.prefix
    (subst (λ (w : ℕ). Goes c.args.family.now (input_of c.in-Ok.other) w) c.if-again-prefix.false c.in-Ok-check.ensures.goes) c.requires.goes
    (known_at g.D.Disk.face (input_of c.in-Ok.other) _ c.in-Ok.ensures.read).count c.requires.count

pub unequal-requires-clause-few : goal.unequal-requires-clause-few
unequal-requires-clause-few g c = few_slots (input_of c.in-Ok.other) (known_at g.D.Disk.face (input_of c.in-Ok.other) _ c.in-Ok.ensures.read)

pub unequal-requires-clause-one : goal.unequal-requires-clause-one
unequal-requires-clause-one g c =
    finished_slots c.args.family.now (input_of c.in-Ok.other) c.args.prefix
    (subst (λ (w : ℕ). Goes c.args.family.now (input_of c.in-Ok.other) w) c.if-again-prefix.false c.in-Ok-check.ensures.goes)
    (known_at g.D.Disk.face (input_of c.in-Ok.other) _ c.in-Ok.ensures.read).count

pub unequal-requires-clause-two : goal.unequal-requires-clause-two
unequal-requires-clause-two g c = finished_slots c.args.family.now (input_of c.args.input) c.args.prefix c.requires.goes c.requires.count

pub returns-clause-same : goal.returns-clause-same
returns-clause-same g c =
    repeated_on g.D.Disk.face c.read_at.new.disks c.args.place c.args.family.now c.args.prefix (input_of c.args.input) (input_of c.in-Ok.other) _ c.unequal.result
    (record { read = c.in-Ok.ensures.read; goes = subst (λ (w : ℕ). Goes c.args.family.now (input_of c.in-Ok.other) w) c.if-again-prefix.false c.in-Ok-check.ensures.goes })
    c.unequal.ensures.equal

pub returns-clause-fault : goal.returns-clause-fault
returns-clause-fault g c =
    difference_on g.D.Disk.face c.args.disks.now c.read_at.new.disks c.args.place c.args.family.now c.args.prefix (input_of c.args.input) (input_of c.in-Ok.other) _ c.unequal.result
    (record { read = c.in-Ok.ensures.read; goes = subst (λ (w : ℕ). Goes c.args.family.now (input_of c.in-Ok.other) w) c.if-again-prefix.false c.in-Ok-check.ensures.goes })
    c.unequal.ensures.unequal

pub returns-clause-looks : goal.returns-clause-looks
returns-clause-looks g c = c.read_at.ensures.looks
