use Rattle.std.proofs.Common.{◌≡◌, ◌+◌, ◌*◌, ℕ, List, length, take, subst, sym, ap, ◌∙◌, arith, refl}
use Rattle.std.specs.Prelude.{IfOk, IfErr}
use Rattle.qh_plan.specs.Jobs.{Job, ranges}
use Rattle.qh_disk.specs.Disk.{Face, Reads}
use Rattle.qh_disk.proofs.Looking.{looks_on, looks_read, looks_reads}
use Rattle.qh_slots.specs.Layout.{old_head, place, slot_size}
use Rattle.qh_slots.specs.Stands.{StandsBy}
use Rattle.qh_slots.specs.Attaching.{old_head_refusal, Passes}
use Rattle.qh_slots.proofs.StandLemmas.{old_head_size}
use Rattle.qh_parts.specs.Reading.{SlotsMayFail}
use Rattle.qh_parts.proofs.ReadingLemmas.{only_reads_on}
use Rattle.qh_migrate.proofs.MoveLemmas.{IsFront, err_on, ok_on, front_fault, head_fault, head_pass, slots_fault}
use Rattle.qh_migrate.proofs.moving.look_through.Goals as goal

pub old_head_refusal-requires-clause-long : goal.old_head_refusal-requires-clause-long
old_head_refusal-requires-clause-long g c = let s = old_head_size c.args.job.now in let e = ap (λ (l : List ℕ). length l) c.requires.head in omega arith

-- the call is that of the definition
same_call : (j : Job) (h front items : List ℕ) (n size count : ℕ) → h ≡ old_head j → n ≡ ranges j → size ≡ slot_size j → front ≡ items
    → old_head_refusal h (length h + n * size) count front ≡ old_head_refusal (old_head j) (place (old_head j) j (ranges j)) count items
unfolding place
same_call j h front items n size count eh en es ef = rw (eh, en, es, ef) refl

passed : (j : Job) (h : List ℕ) (d : Face) → h ≡ old_head j → Reads d (Passes (old_head j) (place (old_head j) j (ranges j))) → Reads d (Passes h (place h j (ranges j)))
passed j h d is reads = subst (λ (k : List ℕ). Reads d (Passes k (place k j (ranges j)))) (sym is) reads

pub returns-in-Some-clause-fault : goal.returns-in-Some-clause-fault
returns-in-Some-clause-fault g c =
    head_fault c.args.job.now c.in_ok-size.size c.in-Ok.front.items c.in-Some.fault (g.D.Disk.face c.args.disk.now) (g.D.Disk.face c.read_front.new.disk)
    (sym (same_call c.args.job.now c.args.wanted.now c.as_slice.result.now c.in-Ok.front.items c.from.result c.slot_size.result c.in_ok-size.size c.requires.head (c.from.ensures ∙ c.ranges-2.ensures.value) c.slot_size.ensures c.as_slice.ensures.value)
    ∙ sym c.old_head_refusal.ensures ∙ c.in-Some.is)
    (λ f told.
    let before = c.count.ensures.reading.looks.content ∙ told in
    record { long = c.in_ok-size.ensures.count f before; read = c.in-Ok.ensures.front f before ∙ ap (λ (l : List ℕ). take (length l) f) c.requires.head })

pub read_slots-requires-clause-passes : goal.read_slots-requires-clause-passes
read_slots-requires-clause-passes g c =
    passed c.args.job.now c.args.wanted.now (g.D.Disk.face c.read_front.new.disk) c.requires.head
    (head_pass c.args.job.now c.in_ok-size.size c.in-Ok.front.items (g.D.Disk.face c.read_front.new.disk)
    (sym (same_call c.args.job.now c.args.wanted.now c.as_slice.result.now c.in-Ok.front.items c.from.result c.slot_size.result c.in_ok-size.size c.requires.head (c.from.ensures ∙ c.ranges-2.ensures.value) c.slot_size.ensures c.as_slice.ensures.value)
    ∙ sym c.old_head_refusal.ensures ∙ c.in_default.is)
    (λ f told.
    let before = sym c.read_front.ensures.reading.looks.content ∙ told in
    record { long = c.in_ok-size.ensures.count f before; read = c.in-Ok.ensures.front f before ∙ ap (λ (l : List ℕ). take (length l) f) c.requires.head }))

pub returns-in-Some-clause-reading : goal.returns-in-Some-clause-reading
returns-in-Some-clause-reading g c = only_reads_on _ _ _ c.count.ensures.reading c.read_front.ensures.reading

pub returns-clause-fault : goal.returns-clause-fault
returns-clause-fault g c =
    err_on c.read_slots.result (λ u. SlotsMayFail (old_head c.args.job.now) c.args.job.now u (g.D.Disk.face c.read_front.new.disk) (g.D.Disk.face c.read_slots.new.disk)) _
    (λ u. slots_fault c.args.job.now u (g.D.Disk.face c.args.disk.now) (g.D.Disk.face c.read_front.new.disk) (g.D.Disk.face c.read_slots.new.disk)
    (looks_on _ _ _ c.count.ensures.reading.looks c.read_front.ensures.reading.looks)
    (head_pass c.args.job.now c.in_ok-size.size c.in-Ok.front.items (g.D.Disk.face c.read_front.new.disk)
    (sym (same_call c.args.job.now c.args.wanted.now c.as_slice.result.now c.in-Ok.front.items c.from.result c.slot_size.result c.in_ok-size.size c.requires.head (c.from.ensures ∙ c.ranges-2.ensures.value) c.slot_size.ensures c.as_slice.ensures.value)
    ∙ sym c.old_head_refusal.ensures ∙ c.in_default.is)
    (λ f told.
    let before = sym c.read_front.ensures.reading.looks.content ∙ told in
    record { long = c.in_ok-size.ensures.count f before; read = c.in-Ok.ensures.front f before ∙ ap (λ (l : List ℕ). take (length l) f) c.requires.head })))
    (subst (λ (h : List ℕ). IfErr c.read_slots.result (λ u. SlotsMayFail h c.args.job.now u (g.D.Disk.face c.read_front.new.disk) (g.D.Disk.face c.read_slots.new.disk))) c.requires.head c.read_slots.ensures.fault)

pub returns-clause-reading : goal.returns-clause-reading
returns-clause-reading g c = only_reads_on _ _ _ (only_reads_on _ _ _ c.count.ensures.reading c.read_front.ensures.reading) c.read_slots.ensures.reading
