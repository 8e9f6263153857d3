use Rattle.std.proofs.Common.{◌≡◌, ℕ, ◌+◌, List, take, sym, ap, subst, ◌∙◌, arith, Result}
use Rattle.std.specs.Prelude.{IfOk, IfErr}
use Rattle.qh_plan.specs.Jobs.{Job}
use Rattle.qh_disk.specs.Disk.{Reads}
use Rattle.qh_slots.specs.Layout.{head}
use Rattle.qh_parts.specs.declared.job_fault.JobFault.{JobFault}
use Rattle.qh_parts.specs.Naming.{BytesRefuse, FrontRefuses, Tells}
use Rattle.qh_parts.proofs.HeadLemmas.{front_may_fail, names_on, bytes_fail_on}
use Rattle.qh_parts.proofs.job.read_named.Goals as goal

pub returns-in-Err-clause-fault : goal.returns-in-Err-clause-fault
returns-in-Err-clause-fault g c =
    front_may_fail c.in-Err.fault c.args.start.now.size c.args.start.now.front.items _ _ c.requires.safe c.requires.start
    (subst (λ (l : List ℕ). FrontRefuses c.in-Err.fault c.args.start.now.size l) c.as_slice.ensures.value c.in-Err.ensures.fault)

pub returns-clause-job : goal.returns-clause-job
returns-clause-job g c =
    names_on c.args.start.now.size c.in-Ok.told c.args.start.now.front.items c.in-Ok-read_front.bytes.items _ _ c.job_of.result c.read_front.ensures.reading.looks
    (λ f told. record {
      start = c.requires.start f told;
      tells = subst (λ (l : List ℕ). Tells c.args.start.now.size l c.in-Ok.told) c.as_slice.ensures.value c.in-Ok.ensures.told;
      read = c.in-Ok-read_front.ensures.front f told;
    })
    (subst (λ (l : List ℕ). IfOk c.job_of.result (λ (j : Job). l ≡ head j)) c.as_slice-2.ensures.value c.job_of.ensures.found) c.job_of.ensures.planned

pub returns-clause-fault : goal.returns-clause-fault
returns-clause-fault g c =
    bytes_fail_on c.args.start.now.size c.in-Ok.told c.args.start.now.front.items c.in-Ok-read_front.bytes.items _ _ _ c.job_of.result c.read_front.ensures.reading.looks c.requires.safe
    (λ f told. record {
      start = c.requires.start f told;
      tells = subst (λ (l : List ℕ). Tells c.args.start.now.size l c.in-Ok.told) c.as_slice.ensures.value c.in-Ok.ensures.told;
      read = c.in-Ok-read_front.ensures.front f told;
    })
    (subst (λ (l : List ℕ). IfErr c.job_of.result (λ (u : JobFault). BytesRefuse u l)) c.as_slice-2.ensures.value c.job_of.ensures.fault)
