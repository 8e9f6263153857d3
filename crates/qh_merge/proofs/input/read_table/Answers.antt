use Rattle.std.proofs.Common.{◌<◌, ◌^◌, ℕ, List, sym, subst, ◌∙◌}
use Rattle.qh_plan.specs.Jobs.{ranges}
use Rattle.qh_disk.proofs.Looking.{looks_reads}
use Rattle.qh_slots.specs.Layout.{place}
use Rattle.qh_parts.specs.Reading.{SlotsMayFail}
use Rattle.qh_parts.specs.Naming.{Names}
use Rattle.qh_merge.specs.declared.input.ReadFault.{ReadFault}
use Rattle.qh_merge.specs.Parts.{ReadMayFail}
use Rattle.qh_merge.proofs.ReadLemmas.{passed, slots_fail}
use Rattle.qh_merge.proofs.input.read_table.Goals as goal

pub read_slots-requires-clause-passes : goal.read_slots-requires-clause-passes
read_slots-requires-clause-passes g c =
    passed c.args.job.now c.as_slice.result.now (g.D.Disk.face c.head_of.new.disk) (c.as_slice.ensures.value ∙ c.in-Ok.ensures.head) c.in-Ok.ensures.passes

pub read_slots-requires-clause-room : goal.read_slots-requires-clause-room
read_slots-requires-clause-room g c =
    subst (λ (h : List ℕ). place h c.args.job.now (ranges c.args.job.now) < 2 ^ 64) (sym (c.as_slice.ensures.value ∙ c.in-Ok.ensures.head)) c.in-Ok.ensures.room

pub returns-clause-fault : goal.returns-clause-fault
returns-clause-fault g c =
    subst (λ (u : ReadFault). ReadMayFail u (g.D.Disk.face c.args.disk.now) (g.D.Disk.face c.read_slots.new.disk)) (sym c.of_slots.ensures)
    (slots_fail c.args.job.now c.in-Err-read_slots.fault (g.D.Disk.face c.args.disk.now) (g.D.Disk.face c.head_of.new.disk) (g.D.Disk.face c.read_slots.new.disk)
    c.head_of.ensures.looks c.read_slots.ensures.reading.looks (c.head_of.ensures.looks.safe c.requires.safe)
    (looks_reads (Names c.args.job.now) (g.D.Disk.face c.args.disk.now) (g.D.Disk.face c.head_of.new.disk) c.head_of.ensures.looks c.requires.names)
    c.in-Ok.ensures.passes
    (subst (λ (h : List ℕ). SlotsMayFail h c.args.job.now c.in-Err-read_slots.fault (g.D.Disk.face c.head_of.new.disk) (g.D.Disk.face c.read_slots.new.disk))
    (c.as_slice.ensures.value ∙ c.in-Ok.ensures.head) c.in-Err-read_slots.ensures.fault))
