use Rattle.std.proofs.Common.{sym, subst}
use Rattle.qh_merge.specs.Parts.{ReadMayFail}
use Rattle.qh_merge.specs.declared.input.ReadFault.{ReadFault}
use Rattle.qh_merge.proofs.ReadLemmas.{job_fails}
use Rattle.qh_merge.proofs.adding.add_input.Goals as goal

pub returns-in-Err-clause-fault : goal.returns-in-Err-clause-fault
returns-in-Err-clause-fault g c =
    subst (λ (u : ReadFault). ReadMayFail u (g.D.Disk.face c.args.disk.now) (g.D.Disk.face c.read_job.new.disk)) (sym c.of_job.ensures)
    (job_fails c.in-Err.fault (g.D.Disk.face c.args.disk.now) (g.D.Disk.face c.read_job.new.disk) c.in-Err.ensures.fault)
