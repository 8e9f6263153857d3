use Rattle.std.proofs.Common.{◌≡◌, ◌+◌, ◌*◌, ℕ, List, length, take, subst, sym, ap, ◌∙◌, arith, refl}
use Rattle.qh_plan.specs.Jobs.{Job, ranges}
use Rattle.std.specs.Prelude.{IfOk, IfErr}
use Rattle.qh_disk.specs.Disk.{Face, Reads}
use Rattle.qh_disk.proofs.Looking.{looks_on}
use Rattle.qh_parts.specs.Reading.{SlotsMayFail}
use Rattle.qh_slots.specs.Stands.{StandsBy}
use Rattle.qh_slots.specs.Layout.{head, place, slot_size}
use Rattle.qh_slots.specs.Attaching.{head_refusal, Passes}
use Rattle.qh_slots.proofs.StandLemmas.{head_size}
use Rattle.qh_journal.proofs.AttachLemmas.{err_on, ok_always, front_fault, head_fault, head_pass, slots_fault}
use Rattle.qh_journal.proofs.kept.examine.Goals as goal

pub head_refusal-requires-clause-long : goal.head_refusal-requires-clause-long
head_refusal-requires-clause-long g c = let s = head_size c.args.job.now in let e = ap (λ (l : List ℕ). length l) c.requires.head in omega arith

-- the call is that of the definition
same_call : (j : Job) (h front items : List ℕ) (n size count : ℕ) → h ≡ head j → n ≡ ranges j → size ≡ slot_size j → front ≡ items
    → head_refusal h (length h + n * size) count front ≡ head_refusal (head j) (place (head j) j (ranges j)) count items
unfolding place
same_call j h front items n size count eh en es ef = rw (eh, en, es, ef) refl

pub returns-in-Some-clause-fault : goal.returns-in-Some-clause-fault
returns-in-Some-clause-fault g c =
    head_fault c.args.job.now c.in_ok-count.count c.in-Ok.front.items c.in-Some.fault (g.D.Disk.face c.args.disk.now) (g.D.Disk.face c.read_front.new.disk)
    (c.read_front.ensures.reading.looks.safe c.in_ok-count.ensures.safe)
    (sym (same_call c.args.job.now c.args.wanted.now c.as_slice.result.now c.in-Ok.front.items c.from.result c.slot_size.result c.in_ok-count.count c.requires.head (c.from.ensures ∙ c.ranges-2.ensures.value) c.slot_size.ensures c.as_slice.ensures.value)
    ∙ sym c.head_refusal.ensures ∙ c.in-Some.is)
    (λ f told.
    let before = sym c.read_front.ensures.reading.looks.content ∙ told in
    record { long = c.in_ok-count.ensures.count f before; read = c.in-Ok.ensures.front f before ∙ ap (λ (l : List ℕ). take (length l) f) c.requires.head })

passed : (j : Job) (h : List ℕ) (d : Face) → h ≡ head j → Reads d (Passes (head j) (place (head j) j (ranges j))) → Reads d (Passes h (place h j (ranges j)))
passed j h d is reads = subst (λ (k : List ℕ). Reads d (Passes k (place k j (ranges j)))) (sym is) reads

pub read_slots-requires-clause-passes : goal.read_slots-requires-clause-passes
read_slots-requires-clause-passes g c =
    passed c.args.job.now c.args.wanted.now (g.D.Disk.face c.read_front.new.disk) c.requires.head
    (head_pass c.args.job.now c.in_ok-count.count c.in-Ok.front.items (g.D.Disk.face c.read_front.new.disk)
    (sym (same_call c.args.job.now c.args.wanted.now c.as_slice.result.now c.in-Ok.front.items c.from.result c.slot_size.result c.in_ok-count.count c.requires.head (c.from.ensures ∙ c.ranges-2.ensures.value) c.slot_size.ensures c.as_slice.ensures.value)
    ∙ sym c.head_refusal.ensures ∙ c.in_default.is)
    (λ f told.
    let before = sym c.read_front.ensures.reading.looks.content ∙ told in
    record { long = c.in_ok-count.ensures.count f before; read = c.in-Ok.ensures.front f before ∙ ap (λ (l : List ℕ). take (length l) f) c.requires.head }))

pub returns-in-Err-clause-fault : goal.returns-in-Err-clause-fault
returns-in-Err-clause-fault g c = front_fault c.args.job.now c.in-Err.fault _ _ _ c.barrier.ensures.looks c.in-Err.ensures.fault

pub returns-in-Err-clause-looks : goal.returns-in-Err-clause-looks
returns-in-Err-clause-looks g c = looks_on _ _ _ c.barrier.ensures.looks c.read_front.ensures.reading.looks

pub returns-in-Some-clause-looks : goal.returns-in-Some-clause-looks
returns-in-Some-clause-looks g c = looks_on _ _ _ c.barrier.ensures.looks c.read_front.ensures.reading.looks

pub returns-clause-slots : goal.returns-clause-slots
returns-clause-slots g c = subst (λ (h : List ℕ). IfOk c.read_slots.result (λ t. Reads (g.D.Disk.face c.read_slots.new.disk) (StandsBy h c.args.job.now t.items))) c.requires.head c.read_slots.ensures.slots

pub returns-clause-safe : goal.returns-clause-safe
returns-clause-safe g c = ok_always c.read_slots.result _ (c.read_slots.ensures.reading.looks.safe (c.read_front.ensures.reading.looks.safe c.in_ok-count.ensures.safe))

pub returns-clause-fault : goal.returns-clause-fault
returns-clause-fault g c =
    err_on c.read_slots.result (λ u. SlotsMayFail (head c.args.job.now) c.args.job.now u (g.D.Disk.face c.read_front.new.disk) (g.D.Disk.face c.read_slots.new.disk)) _
    (λ u. slots_fault c.args.job.now u (g.D.Disk.face c.args.disk.now) (g.D.Disk.face c.read_front.new.disk) (g.D.Disk.face c.read_slots.new.disk)
    (looks_on _ _ _ c.barrier.ensures.looks c.read_front.ensures.reading.looks) c.read_slots.ensures.reading.looks (c.read_front.ensures.reading.looks.safe c.in_ok-count.ensures.safe)
    (head_pass c.args.job.now c.in_ok-count.count c.in-Ok.front.items (g.D.Disk.face c.read_front.new.disk)
    (sym (same_call c.args.job.now c.args.wanted.now c.as_slice.result.now c.in-Ok.front.items c.from.result c.slot_size.result c.in_ok-count.count c.requires.head (c.from.ensures ∙ c.ranges-2.ensures.value) c.slot_size.ensures c.as_slice.ensures.value)
    ∙ sym c.head_refusal.ensures ∙ c.in_default.is)
    (λ f told.
    let before = sym c.read_front.ensures.reading.looks.content ∙ told in
    record { long = c.in_ok-count.ensures.count f before; read = c.in-Ok.ensures.front f before ∙ ap (λ (l : List ℕ). take (length l) f) c.requires.head })))
    (subst (λ (h : List ℕ). IfErr c.read_slots.result (λ u. SlotsMayFail h c.args.job.now u (g.D.Disk.face c.read_front.new.disk) (g.D.Disk.face c.read_slots.new.disk))) c.requires.head c.read_slots.ensures.fault)

pub returns-clause-looks : goal.returns-clause-looks
returns-clause-looks g c = looks_on _ _ _ (looks_on _ _ _ c.barrier.ensures.looks c.read_front.ensures.reading.looks) c.read_slots.ensures.reading.looks
