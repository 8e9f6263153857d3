use Rattle.std.proofs.Common.{refl, sym, subst, ◌∙◌}
use Rattle.qh_disk.proofs.Looking.{looks_on, looks_reads}
use Rattle.qh_parts.specs.Naming.{Names}
use Rattle.qh_merge.specs.Parts.{ReadMayFail}
use Rattle.qh_merge.proofs.ReadLemmas.{job_fails, table_fails}
use Rattle.qh_merge.specs.declared.input.ReadFault.{ReadFault}
use Rattle.qh_merge.proofs.input.read_input.Goals as goal

pub returns-in-Err-clause-fault : goal.returns-in-Err-clause-fault
returns-in-Err-clause-fault g c =
    subst (λ (u : ReadFault). ReadMayFail u (g.D.Disk.face c.args.disk.now) (g.D.Disk.face c.read_job.new.disk)) (sym c.of_job.ensures)
    (job_fails c.in-Err.fault (g.D.Disk.face c.args.disk.now) (g.D.Disk.face c.read_job.new.disk) c.in-Err.ensures.fault)

pub returns-in-Err-clause-looks : goal.returns-in-Err-clause-looks
returns-in-Err-clause-looks g c = c.read_job.ensures.looks

pub returns-in-Err-clause-same : goal.returns-in-Err-clause-same
returns-in-Err-clause-same g c = c.read_job.ensures.same

pub same-job : goal.same-job
same-job g c = refl

pub returns-in-Ok-read_table-clause-read : goal.returns-in-Ok-read_table-clause-read
returns-in-Ok-read_table-clause-read g c = record {
  planned = c.in-Ok.ensures.planned;
  count = sym c.in-Ok-read_table.table.ok.0 ∙ c.in-Ok-read_table.ensures.count;
  fits = c.in-Ok-read_table.ensures.fits;
  safe = c.read_table.ensures.looks.safe c.in-Ok.ensures.safe;
  names = looks_reads (Names c.in-Ok.job) (g.D.Disk.face c.read_job.new.disk) (g.D.Disk.face c.read_table.new.disk) c.read_table.ensures.looks c.in-Ok.ensures.job;
  stands = c.in-Ok-read_table.ensures.slots;
}

pub returns-in-Ok-read_table-clause-looks : goal.returns-in-Ok-read_table-clause-looks
returns-in-Ok-read_table-clause-looks g c = looks_on _ _ _ c.read_job.ensures.looks c.read_table.ensures.looks

pub returns-in-Ok-read_table-clause-same : goal.returns-in-Ok-read_table-clause-same
returns-in-Ok-read_table-clause-same g c = c.read_table.ensures.same ∙ c.read_job.ensures.same

pub returns-in-Err-read_table-clause-fault : goal.returns-in-Err-read_table-clause-fault
returns-in-Err-read_table-clause-fault g c =
    table_fails c.in-Err-read_table.fault (g.D.Disk.face c.args.disk.now) (g.D.Disk.face c.read_job.new.disk) (g.D.Disk.face c.read_table.new.disk)
    c.read_job.ensures.looks c.in-Err-read_table.ensures.fault

pub returns-in-Err-read_table-clause-looks : goal.returns-in-Err-read_table-clause-looks
returns-in-Err-read_table-clause-looks g c = looks_on _ _ _ c.read_job.ensures.looks c.read_table.ensures.looks

pub returns-in-Err-read_table-clause-same : goal.returns-in-Err-read_table-clause-same
returns-in-Err-read_table-clause-same g c = c.read_table.ensures.same ∙ c.read_job.ensures.same
