use Rattle.std.proofs.Common.{◌≡◌, List, ℕ, Option, sym, ap, subst, ◌∙◌}
use Rattle.std.specs.Arc.{arc_value}
use Rattle.qh_migrate.specs.Opening.{Opens, keeping}
use Rattle.qh_migrate.proofs.OptionLemmas.{Has, and_has, has_is_some}
use Rattle.qh_run.specs.Opened.{RunsOn}
use Rattle.qh_run.proofs.KeptLemmas.{opened_keeps, opened_loans, opened_ends, opened_complete, opened_whole, unopened_none, unopened_some, unopened_ends, unopened_complete}
use Rattle.qh_run_shared.proofs.run.run_kept_shared.Goals as goal

pub run_open-requires-clause-kept : goal.run_open-requires-clause-kept
run_open-requires-clause-kept g c κs within =
    let has = and_has c.in-Ok.journal.disk _ c.in-Ok.ensures.opened in
    has_is_some c.in-Ok.journal.disk has.value has.is

pub returns-in-Ok-clause-whole : goal.returns-in-Ok-clause-whole
returns-in-Ok-clause-whole g c =
    let k = c.in-Ok.journal in
    let has = and_has k.disk _ c.in-Ok.ensures.opened in
    opened_whole g.D.Disk.face g.D.Disk.loans c.args.fresh c.args.taking (arc_value c.args.job) (g.F.Disk.face c.args.old.now) c.args.disk has.value c.run_open.result.disk k.table
    c.run_open.result.end has.holds (c.run_open.ensures.runs has.value has.is)
    ((g.met.D.Disk g.world.𝓛 g.world.𝓜 g.world.𝓡 ((λ s h. h), (λ h. h), (λ h. h), (λ h. h))).current c.args.disk)
    (g.met.F.Disk.current c.args.old.now)

pub returns-in-Ok-clause-fault : goal.returns-in-Ok-clause-fault
returns-in-Ok-clause-fault g c =
    let k = c.in-Ok.journal in
    let has = and_has k.disk _ c.in-Ok.ensures.opened in
    opened_ends g.D.Disk.face g.D.Disk.loans c.args.fresh c.args.taking (arc_value c.args.job) (g.F.Disk.face c.args.old.now) c.args.disk has.value c.run_open.result.disk k.table
    c.run_open.result.end has.holds (c.run_open.ensures.runs has.value has.is) (g.F.Disk.face c.open_journal.new.old)

pub returns-in-Ok-clause-complete : goal.returns-in-Ok-clause-complete
returns-in-Ok-clause-complete g c quiet old_quiet =
    let k = c.in-Ok.journal in
    let has = and_has k.disk _ c.in-Ok.ensures.opened in
    opened_complete g.D.Disk.face g.D.Disk.loans c.args.fresh c.args.taking (arc_value c.args.job) (g.F.Disk.face c.args.old.now) c.args.disk has.value c.run_open.result.disk k.table
    c.run_open.result.end has.holds (c.run_open.ensures.runs has.value has.is) quiet

pub returns-in-Ok-clause-keeps : goal.returns-in-Ok-clause-keeps
returns-in-Ok-clause-keeps g c =
    let k = c.in-Ok.journal in
    let has = and_has k.disk _ c.in-Ok.ensures.opened in
    opened_keeps g.D.Disk.face g.D.Disk.loans c.args.fresh c.args.taking (arc_value c.args.job) (g.F.Disk.face c.args.old.now) c.args.disk has.value c.run_open.result.disk k.table
    c.run_open.result.end has.holds (c.run_open.ensures.runs has.value has.is)

pub returns-in-Ok-clause-loans : goal.returns-in-Ok-clause-loans
returns-in-Ok-clause-loans g c =
    let k = c.in-Ok.journal in
    let has = and_has k.disk _ c.in-Ok.ensures.opened in
    opened_loans g.D.Disk.face g.D.Disk.loans c.args.fresh c.args.taking (arc_value c.args.job) (g.F.Disk.face c.args.old.now) c.args.disk has.value c.run_open.result.disk k.table
    c.run_open.result.end has.holds (c.run_open.ensures.runs has.value has.is)

pub returns-in-Err-clause-whole : goal.returns-in-Err-clause-whole
returns-in-Err-clause-whole g c = unopened_none c.in-Err.field-0.fault c.end_of.result _ c.end_of.ensures

pub returns-in-Err-clause-bounded : goal.returns-in-Err-clause-bounded
returns-in-Err-clause-bounded g c = unopened_none c.in-Err.field-0.fault c.end_of.result _ c.end_of.ensures

pub returns-in-Err-clause-fault : goal.returns-in-Err-clause-fault
returns-in-Err-clause-fault g c =
    unopened_ends c.args.fresh c.args.taking (arc_value c.args.job) (g.F.Disk.face c.args.old.now) (g.F.Disk.face c.open_journal.new.old) (g.D.Disk.face c.args.disk) (g.D.Disk.face c.in-Err.field-0.disk)
    c.in-Err.field-0.fault c.end_of.result c.end_of.ensures c.in-Err.ensures.fault

pub returns-in-Err-clause-complete : goal.returns-in-Err-clause-complete
returns-in-Err-clause-complete g c quiet old_quiet =
    unopened_complete c.args.fresh c.args.taking (arc_value c.args.job) (g.F.Disk.face c.args.old.now) (g.F.Disk.face c.open_journal.new.old) (g.D.Disk.face c.args.disk) (g.D.Disk.face c.in-Err.field-0.disk)
    c.in-Err.field-0.fault c.end_of.result c.end_of.ensures c.in-Err.ensures.fault quiet old_quiet

pub returns-in-Ok-clause-accepted : goal.returns-in-Ok-clause-accepted
returns-in-Ok-clause-accepted g c some = (and_has c.in-Ok.journal.disk _ c.in-Ok.ensures.opened).holds.opened.old_accepted

pub returns-in-Err-clause-accepted : goal.returns-in-Err-clause-accepted
returns-in-Err-clause-accepted g c some = unopened_some c.in-Err.field-0.fault c.end_of.result _ c.end_of.ensures some
