use Rattle.std.proofs.Common.{◌≡◌, ◌+◌, ◌*◌, ℕ, List, length, refl, sym, ◌∙◌, arith}
use Rattle.qh_plan.specs.Jobs.{Job, ranges}
use Rattle.qh_disk.proofs.Looking.{looks_reads}
use Rattle.qh_slots.specs.Layout.{head, place, slot_size}
use Rattle.qh_parts.specs.Naming.{Names}
use Rattle.qh_merge.proofs.ReadLemmas.{long_fails, long_passes}
use Rattle.qh_merge.proofs.input.head_of.Goals as goal

-- the size that the code computes is the journal's
size_is : (j : Job) (items : List ℕ) (l n size : ℕ) → l ≡ length items → items ≡ head j → n ≡ ranges j → size ≡ slot_size j → l + n * size ≡ place (head j) j (ranges j)
unfolding place
size_is j items l n size el eh en es = rw (el, eh, en, es) refl

pub returns-then-size-len-clause-fault : goal.returns-then-size-len-clause-fault
returns-then-size-len-clause-fault g c =
    let e = size_is c.args.job.now c.in-Ok.wanted.items c.len.result c.from.result c.slot_size.result (omega (arith, c.len.ensures, c.in-Ok.wanted.ok.0)) c.in-Ok.ensures.head
    (c.from.ensures ∙ c.ranges-2.ensures.value) c.slot_size.ensures in
    long_fails c.args.job.now c.in-Ok-count.size (g.D.Disk.face c.count.new.disk) (c.count.ensures.reading.looks.safe c.requires.safe)
    (looks_reads (Names c.args.job.now) (g.D.Disk.face c.args.disk.now) (g.D.Disk.face c.count.new.disk) c.count.ensures.reading.looks c.requires.names)
    c.in-Ok-count.ensures.count (λ s. c.if-size-len.true (s ∙ sym e))

pub returns-clause-passes : goal.returns-clause-passes
returns-clause-passes g c =
    let e = size_is c.args.job.now c.in-Ok.wanted.items c.len.result c.from.result c.slot_size.result (omega (arith, c.len.ensures, c.in-Ok.wanted.ok.0)) c.in-Ok.ensures.head
    (c.from.ensures ∙ c.ranges-2.ensures.value) c.slot_size.ensures in
    long_passes c.args.job.now c.in-Ok-count.size (g.D.Disk.face c.count.new.disk)
    (looks_reads (Names c.args.job.now) (g.D.Disk.face c.args.disk.now) (g.D.Disk.face c.count.new.disk) c.count.ensures.reading.looks c.requires.names)
    c.in-Ok-count.ensures.count (c.if-size-len.false ∙ e)
