use Rattle.std.proofs.Common.{ℕ, List, length, take, ◌<◌, refl, subst}
use Rattle.std.specs.Io.KnownBytes.{Appends}
use Rattle.qh_request.specs.Request.{AnyGrants}
use Rattle.qh_request.proofs.Causes.{answer_cause}
use Rattle.qh_request.proofs.Runs.{answered_prints, moves_or_stays, breaks_off, written, broken, stopped_ends}
use Rattle.std.proofs.Common.{[]}
use Rattle.qh_planner.specs.Spelling.{table_text}
use Rattle.qh_request.specs.declared.stop.Stop.TheVariants.{Memory}
use Rattle.qh_request.specs.Chosen.{asks_auto, IsTableBy}
use Rattle.qh_request.proofs.Runs.{memory_ends}
use Rattle.qh_request.proofs.Tables.{input_before, unsaid, unsaid_memory, table_is, table_told, answer_before}
use Rattle.qh_top.proofs.shared_call.run_with_shared.Goals as goal

pub returns-in-Err-answer_shared-clause-cause : goal.returns-in-Err-answer_shared-clause-cause
returns-in-Err-answer_shared-clause-cause g c =
    answer_cause c.args.options.now _ _ _ _ _ _ _ _ c.in-Ok.input.0 c.in-Ok.input.1.items c.in-Ok.ensures.input c.args.options.now.part refl c.in-Err-answer_shared.stop c.in-Err-answer_shared.ensures.cause

pub returns-in-Err-answer_shared-clause-ended_by : goal.returns-in-Err-answer_shared-clause-ended_by
returns-in-Err-answer_shared-clause-ended_by g c =
    stopped_ends c.args.options.now _ _ _ _ _ _ c.in-Ok.input.0 c.in-Ok.input.1.items c.in-Ok.ensures.input _ _ c.args.options.now.part refl c.in-Err-answer_shared.stop c.in-Err-answer_shared.ensures.cause

pub returns-clause-cause : goal.returns-clause-cause
returns-clause-cause g c =
    breaks_off c.args.options.now _ _ (g.D.Disk.face c.args.disk.now) (g.D.Disk.face c.answer_shared.new.disk) (g.F.Disk.face c.args.old.now) _ c.in-Ok.input.0 c.in-Ok.input.1.items c.in-Ok.ensures.input
    _ _ c.in-Ok-answer_shared.text.items c.in-Ok.ensures.indices.below c.in-Ok-answer_shared.ensures.answer c.in-Err-write_all_of.ensures.cause
    (subst (λ t. Appends (g.O.Sink.held c.args.out.now) (g.O.Sink.held c.write_all_of.new.sink) (take c.in-Err-write_all_of.fault.written t)) c.deref-3.ensures.value c.in-Err-write_all_of.ensures.part.1)
    (subst (λ (t : List ℕ). c.in-Err-write_all_of.fault.written < length t) c.deref-3.ensures.value c.in-Err-write_all_of.ensures.part.0)

pub returns-clause-ended_by : goal.returns-clause-ended_by
returns-clause-ended_by g c =
    broken c.args.options.now _ _ _ _ _ _ c.in-Ok.input.0 c.in-Ok.input.1.items c.in-Ok.ensures.input _ c.in-Err-write_all_of.fault.written c.in-Ok-answer_shared.text.items c.in-Ok-answer_shared.ensures.answer
    (subst (λ t. Appends (g.O.Sink.held c.args.out.now) (g.O.Sink.held c.write_all_of.new.sink) (take c.in-Err-write_all_of.fault.written t)) c.deref-3.ensures.value c.in-Err-write_all_of.ensures.part.1)

pub returns-in-Ok-write_all_of-clause-printed : goal.returns-in-Ok-write_all_of-clause-printed
returns-in-Ok-write_all_of-clause-printed g c =
    answered_prints c.args.options.now _ _ (g.D.Disk.face c.args.disk.now) (g.D.Disk.face c.answer_shared.new.disk) (g.F.Disk.face c.args.old.now) _ c.in-Ok.input.0 c.in-Ok.input.1.items c.in-Ok.ensures.input
    _ _ c.in-Ok-answer_shared.text.items c.in-Ok.ensures.indices.below c.in-Ok-answer_shared.ensures.answer
    (subst (Appends (g.O.Sink.held c.args.out.now) (g.O.Sink.held c.write_all_of.new.sink)) c.deref-3.ensures.value c.in-Ok-write_all_of.ensures.whole)

pub returns-in-Ok-write_all_of-clause-ended : goal.returns-in-Ok-write_all_of-clause-ended
returns-in-Ok-write_all_of-clause-ended g c =
    written c.args.options.now _ _ _ _ _ _ c.in-Ok.input.0 c.in-Ok.input.1.items c.in-Ok.ensures.input _ c.in-Ok-answer_shared.text.items c.in-Ok-answer_shared.ensures.answer
    (subst (Appends (g.O.Sink.held c.args.out.now) (g.O.Sink.held c.write_all_of.new.sink)) c.deref-3.ensures.value c.in-Ok-write_all_of.ensures.whole)

pub returns-in-Err-answer_shared-clause-moves : goal.returns-in-Err-answer_shared-clause-moves
returns-in-Err-answer_shared-clause-moves g c =
    moves_or_stays c.args.options.now _ _ _ _ _ AnyGrants c.in-Ok.input.0 c.in-Ok.input.1.items c.in-Ok.ensures.input _ _ c.answer_shared.ensures.moves

pub returns-clause-moves : goal.returns-clause-moves
returns-clause-moves g c =
    moves_or_stays c.args.options.now _ _ _ _ _ AnyGrants c.in-Ok.input.0 c.in-Ok.input.1.items c.in-Ok.ensures.input _ _ c.answer_shared.ensures.moves

pub returns-in-Ok-write_all_of-clause-moves : goal.returns-in-Ok-write_all_of-clause-moves
returns-in-Ok-write_all_of-clause-moves g c =
    moves_or_stays c.args.options.now _ _ _ _ _ AnyGrants c.in-Ok.input.0 c.in-Ok.input.1.items c.in-Ok.ensures.input _ _ c.answer_shared.ensures.moves

pub returns-in-Err-clause-said : goal.returns-in-Err-clause-said
returns-in-Err-clause-said g c = (
  [],
  input_before c.args.options.now c.args.options.now.max_time _ _ c.args.options.now.generated c.in-Err.stop c.in-Err.ensures.cause,
  unsaid g.E.Sink.held g.E.Sink.faults c.args.err.now c.args.whole.now c.requires.still,
)

pub returns-in-Err-tell_table-clause-said : goal.returns-in-Err-tell_table-clause-said
returns-in-Err-tell_table-clause-said g c =
    let u = c.in-Err-tell_table.ensures.unsaid in
    unsaid_memory g.E.Sink.held g.E.Sink.faults _ _ _ u.0 u.1 c.args.options.now _ _ Memory refl

pub returns-in-Err-tell_table-clause-ended_by : goal.returns-in-Err-tell_table-clause-ended_by
returns-in-Err-tell_table-clause-ended_by g c = memory_ends c.args.options.now _ _ _ _ _ _

pub returns-in-Err-answer_shared-clause-said : goal.returns-in-Err-answer_shared-clause-said
returns-in-Err-answer_shared-clause-said g c = (
  table_text c.in-Ok-tell_table.rows.items,
  answer_before c.args.options.now _ _ c.in-Ok.input.0 c.in-Ok.input.1.items c.in-Ok.ensures.input c.in-Ok-tell_table.rows.items c.args.options.now.part _ _ _ _ _
      (subst (λ xs. IsTableBy (asks_auto c.args.options.now.part) c.args.options.now c.in-Ok.input.0 xs c.in-Ok-tell_table.rows.items) c.deref.ensures.value c.in-Ok-tell_table.ensures.table) c.in-Err-answer_shared.stop c.in-Err-answer_shared.ensures.cause,
  c.in-Ok-tell_table.ensures.said,
)

pub returns-clause-said : goal.returns-clause-said
returns-clause-said g c = (
  table_text c.in-Ok-tell_table.rows.items,
  table_is c.args.options.now _ _ c.in-Ok.input.0 c.in-Ok.input.1.items c.in-Ok.ensures.input c.in-Ok-tell_table.rows.items (subst (λ xs. IsTableBy (asks_auto c.args.options.now.part) c.args.options.now c.in-Ok.input.0 xs c.in-Ok-tell_table.rows.items) c.deref.ensures.value c.in-Ok-tell_table.ensures.table),
  c.in-Ok-tell_table.ensures.said,
)

pub returns-in-Ok-write_all_of-clause-tabled : goal.returns-in-Ok-write_all_of-clause-tabled
returns-in-Ok-write_all_of-clause-tabled g c =
    table_told c.args.options.now _ _ c.in-Ok.input.0 c.in-Ok.input.1.items c.in-Ok.ensures.input c.in-Ok-tell_table.rows.items _ (subst (λ xs. IsTableBy (asks_auto c.args.options.now.part) c.args.options.now c.in-Ok.input.0 xs c.in-Ok-tell_table.rows.items) c.deref.ensures.value c.in-Ok-tell_table.ensures.table) c.in-Ok-tell_table.ensures.said.says
