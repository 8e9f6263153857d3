use Rattle.qh_disk.specs.Disk.{Reads}
use Rattle.qh_disk.proofs.Looking.{looks_reads}
use Rattle.qh_disk.proofs.Moments.{runs_on}
use Rattle.qh_slots.specs.Stands.{Slots, Stands}
use Rattle.qh_parts.specs.Laying.{IsLaid}
use Rattle.qh_parts.proofs.PartLemmas.{on_ok}
use Rattle.qh_parts.proofs.LayLemmas.{closed_looks, creates_closed, creates_on, laid_reads}
use Rattle.qh_parts.proofs.laying.begin.Goals as goal

pub returns-in_err-settle-clause-fresh : goal.returns-in_err-settle-clause-fresh
returns-in_err-settle-clause-fresh g c s reads = laid_reads c.args.job.now s (g.D.Disk.face c.settle.new.disk) (looks_reads (IsLaid c.args.job.now s) _ _ c.settle.ensures.looks reads)

pub returns-in_err-settle-clause-creates : goal.returns-in_err-settle-clause-creates
returns-in_err-settle-clause-creates g c s reads = creates_closed _ _ _ _ (closed_looks _ _ c.settle.ensures.looks)

pub returns-clause-stands : goal.returns-clause-stands
returns-clause-stands g c =
    on_ok c.lay_mark.result ((s : Slots) → Reads (g.D.Disk.face c.settle.new.disk) (IsLaid c.args.job.now s) → Reads (g.D.Disk.face c.lay_mark.new.disk) (Stands c.args.job.now s))
    ((s : Slots) → Reads (g.D.Disk.face c.args.disk.now) (IsLaid c.args.job.now s) → Reads (g.D.Disk.face c.lay_mark.new.disk) (Stands c.args.job.now s))
    (λ stands s reads. stands s (looks_reads (IsLaid c.args.job.now s) _ _ c.settle.ensures.looks reads)) c.lay_mark.ensures.stands

pub returns-clause-fresh : goal.returns-clause-fresh
returns-clause-fresh g c s reads = c.lay_mark.ensures.fresh s (looks_reads (IsLaid c.args.job.now s) _ _ c.settle.ensures.looks reads)

pub returns-clause-creates : goal.returns-clause-creates
returns-clause-creates g c s reads = creates_on _ _ _ _ _ (closed_looks _ _ c.settle.ensures.looks) (c.lay_mark.ensures.creates s (looks_reads (IsLaid c.args.job.now s) _ _ c.settle.ensures.looks reads))

pub returns-clause-runs : goal.returns-clause-runs
returns-clause-runs g c = runs_on _ _ _ c.settle.ensures.looks.runs c.lay_mark.ensures.runs
