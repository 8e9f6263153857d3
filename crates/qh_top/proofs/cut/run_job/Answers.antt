use Rattle.std.proofs.Common.{refl, sym, ap, subst, ◌∙◌}
use Rattle.qh_plan.specs.declared.verdict.Verdict.TheVariants.{Sum, Over}
use Rattle.qh_run.specs.Ends.{answer_of}
use Rattle.qh_request.specs.Jobs.{keeping}
use Rattle.qh_top.proofs.Sums.{on_ok, err_of, rose_by_fewer, unkept_run, kept_run, printable, unkept_by, kept_keeping, kept_stop}
use Rattle.qh_top.proofs.cut.run_job.Goals as goal

pub returns-then-is_none-clause-run : goal.returns-then-is_none-clause-run
returns-then-is_none-clause-run g c =
    let ran = c.run_unkept-ran in
    on_ok c.sums_into.result _ _ c.sums_into.ensures.sums (λ e.
    unkept_run g.D.Disk.face c.args.disk ran.result.disk ran.ensures.disk (keeping c.args.options.now) _ _ _ (answer_of ran.result.end) _
    c.if-is_none.ensures (ap answer_of e) ran.ensures.whole (λ some n few. rose_by_fewer _ _ _ (ran.ensures.granted some) n few))

pub returns-then-is_none-clause-printable : goal.returns-then-is_none-clause-printable
returns-then-is_none-clause-printable g c =
    let ran = c.run_unkept-ran in
    on_ok c.sums_into.result _ _ c.sums_into.ensures.sums
    (λ e. printable _ (answer_of ran.result.end) _ (ap answer_of e) ran.ensures.bounded)

pub returns-then-is_none-clause-cause : goal.returns-then-is_none-clause-cause
returns-then-is_none-clause-cause g c =
    let ran = c.run_unkept-ran in
    err_of c.sums_into.result _ _ c.sums_into.ensures.stop (λ stop h.
    unkept_by (keeping c.args.options.now) _ (g.F.Disk.face c.args.old.now) (g.F.Disk.face c.args.old.now) (g.D.Disk.face c.args.disk) (g.D.Disk.face ran.result.disk) _ ran.result.end stop h ran.ensures.ends (λ path e.
    unkept_run g.D.Disk.face c.args.disk ran.result.disk ran.ensures.disk (keeping c.args.options.now) _ (g.F.Disk.face c.args.old.now) _ (answer_of ran.result.end) (Over path)
    c.if-is_none.ensures e ran.ensures.whole (λ some n few. rose_by_fewer _ _ _ (ran.ensures.granted some) n few)))

pub returns-clause-run : goal.returns-clause-run
returns-clause-run g c =
    let ran = c.run_kept-ran in
    on_ok c.sums_into-2.result _ _ c.sums_into-2.ensures.sums (λ e.
    kept_run _ (keeping c.args.options.now) (kept_keeping c.args.options.now c.is_some-taking.result c.if-is_none.ensures c.is_some-taking.ensures) _
    (g.F.Disk.face c.args.old.now) (g.D.Disk.face c.args.disk) (g.D.Disk.face ran.result.disk) _ (answer_of ran.result.end) _
    c.requires.valid refl (ap answer_of e) ran.ensures.keeps ran.ensures.whole ran.ensures.accepted ran.ensures.granted)

pub returns-clause-cause : goal.returns-clause-cause
returns-clause-cause g c =
    let ran = c.run_kept-ran in
    err_of c.sums_into-2.result _ _ c.sums_into-2.ensures.stop (λ stop h.
    kept_stop _ (keeping c.args.options.now) (kept_keeping c.args.options.now c.is_some-taking.result c.if-is_none.ensures c.is_some-taking.ensures) _
    (g.F.Disk.face c.args.old.now) (g.F.Disk.face ran.new.old) (g.D.Disk.face c.args.disk) (g.D.Disk.face ran.result.disk) _ ran.result.end stop
    refl h ran.ensures.fault (λ path e.
    kept_run _ _ refl _ (g.F.Disk.face c.args.old.now) (g.D.Disk.face c.args.disk) (g.D.Disk.face ran.result.disk) _ (answer_of ran.result.end) (Over path)
    c.requires.valid refl e ran.ensures.keeps ran.ensures.whole ran.ensures.accepted ran.ensures.granted))

pub returns-clause-printable : goal.returns-clause-printable
returns-clause-printable g c =
    let ran = c.run_kept-ran in
    on_ok c.sums_into-2.result _ _ c.sums_into-2.ensures.sums (λ e. printable _ (answer_of ran.result.end) _ (ap answer_of e) ran.ensures.bounded)
