use Rattle.std.proofs.Common.{◌≡◌, ◌<◌, ◌≤◌, ℕ, Bool, List, length, Option, Some, None, subst, sym, ap, ◌∙◌, refl, arith, rules}
use Rattle.std.proofs.lemmas.Bool.{false≢true}
use Rattle.std.specs.Arc.{arc_value}
use Rattle.std.specs.Option.{ForSome}
use Rattle.qh_limits.specs.Limits.{max_journal_bytes}
use Rattle.qh_plan.specs.Jobs.{Job, IsJob, ranges}
use Rattle.qh_disk.specs.Disk.{Reads}
use Rattle.qh_disk.specs.Moments.{EachImage}
use Rattle.qh_slots.specs.Layout.{head, place}
use Rattle.qh_slots.specs.Stands.{Slots, Stands, Holds, Shut, slot_at}
use Rattle.qh_parts.specs.Sparing.{Spares}
use Rattle.qh_parts.specs.declared.member.Member.{Member}
use Rattle.qh_parts.specs.Groups.{AreShut, IsGroup, StandsPartly, filled, range_of, member_of}
use Rattle.qh_journal.specs.Calls.{JournalView, IsJournal, Went, Same}
use Rattle.qh_journal.proofs.KeptLemmas.{partly_same, shut_from, kept_failed, kept_group, went_apply, went_some}
use Rattle.qh_journal.proofs.journal.Journal.store_group.Goals as goal

pub write_group-answer-requires-clause-valid : goal.write_group-answer-requires-clause-valid
write_group-answer-requires-clause-valid g c = subst (λ (j : Job). IsJob j) (sym c.deref.ensures) c.self.invariant.1.valid

pub write_group-answer-requires-clause-start : goal.write_group-answer-requires-clause-start
write_group-answer-requires-clause-start g c = c.self.invariant.1.begins ∙ ap (λ (j : Job). length (head j)) (sym c.deref.ensures)

pub write_group-answer-requires-clause-short : goal.write_group-answer-requires-clause-short
write_group-answer-requires-clause-short g c = subst (λ (j : Job). place (head j) j (ranges j) ≤ max_journal_bytes) (sym c.deref.ensures) c.self.invariant.1.short

pub write_group-answer-requires-clause-group : goal.write_group-answer-requires-clause-group
write_group-answer-requires-clause-group g c =
    subst (λ (l : List Member). IsGroup c.deref.result.now l) (sym c.as_slice.ensures.value)
    (subst (λ (j : Job). IsGroup j c.args.group.items) (sym c.deref.ensures) (subst (λ (v : JournalView g.row.D.Denot). IsGroup v.job c.args.group.items) (sym c.self.view_is) c.requires.group))

pub write_group-answer-requires-clause-shut : goal.write_group-answer-requires-clause-shut
write_group-answer-requires-clause-shut g c d is k low =
    let ready = ap (λ (v : JournalView g.row.D.Denot). v.failed) c.self.view_is ∙ c.requires.ready in
    let shut = subst (λ (v : JournalView g.row.D.Denot). AreShut v.table c.args.group.items) (sym c.self.view_is) c.requires.shut in
    subst (λ (l : List Member). EachImage (g.D.Disk.face d) (Shut c.deref.result.now (range_of l k))) (sym c.as_slice.ensures.value)
    (subst (λ (j : Job). EachImage (g.D.Disk.face d) (Shut j (range_of c.args.group.items k))) (sym c.deref.ensures)
    (shut_from (arc_value c.self.inside.job) c.self.inside.table.items (range_of c.args.group.items k) (g.D.Disk.face d) (c.self.invariant.0.safe ready d is) (c.self.invariant.0.reads ready d is)
    (shut.each k (subst (λ (l : List Member). k < length l) c.as_slice.ensures.value low))))

pub invariant_of-self : goal.invariant_of-self
invariant_of-self g c =
    let went = subst (λ (j : Job). Went (λ d e. Same g.D.Disk.face g.D.Disk.loans d e × Spares j (g.D.Disk.face d) (g.D.Disk.face e)) c.self.inside.disk c.write_group-answer.new.disk) c.deref.ensures c.write_group-answer.ensures.went in (
      kept_failed g.D.Disk.face g.D.Disk.loans (record { disk = c.self.inside.disk; job = arc_value c.self.inside.job; table = c.self.inside.table.items; failed = c.self.inside.failed })
          c.write_group-answer.new.disk c.self.invariant.0 went (λ none. false≢true (c.in-Err.ensures.unkept none)),
      c.self.invariant.1,
    )

pub invariant_of-self-2 : goal.invariant_of-self-2
invariant_of-self-2 g c =
    let j = arc_value c.self.inside.job in
    let ready = ap (λ (v : JournalView g.row.D.Denot). v.failed) c.self.view_is ∙ c.requires.ready in
    let group = subst (λ (v : JournalView g.row.D.Denot). IsGroup v.job c.args.group.items) (sym c.self.view_is) c.requires.group in
    let went = subst (λ (j : Job). Went (λ d e. Same g.D.Disk.face g.D.Disk.loans d e × Spares j (g.D.Disk.face d) (g.D.Disk.face e)) c.self.inside.disk c.write_group-answer.new.disk) c.deref.ensures c.write_group-answer.ensures.went in
    let stored = subst (λ (l : List Member). ForSome c.write_group-answer.new.disk (λ e. (k : ℕ) → k < length l → EachImage (g.D.Disk.face e) (Holds j (range_of l k) (member_of l k)))) c.as_slice.ensures.value
    (subst (λ (j : Job). ForSome c.write_group-answer.new.disk (λ e. (k : ℕ) → k < length c.as_slice.result.now → EachImage (g.D.Disk.face e) (Holds j (range_of c.as_slice.result.now k) (member_of c.as_slice.result.now k)))) c.deref.ensures c.in_default.ensures.stored) in
    let full = subst (λ (l : List Member). (s : Slots) → Went (λ d e. Reads (g.D.Disk.face d) (Stands j s) → Reads (g.D.Disk.face e) (Stands j (filled s l))) c.self.inside.disk c.write_group-answer.new.disk) c.as_slice.ensures.value
    (subst (λ (j : Job). (s : Slots) → Went (λ d e. Reads (g.D.Disk.face d) (Stands j s) → Reads (g.D.Disk.face e) (Stands j (filled s c.as_slice.result.now))) c.self.inside.disk c.write_group-answer.new.disk) c.deref.ensures c.in_default.ensures.filled) in (
      subst (λ (t : Slots). IsJournal g.D.Disk.face (record { disk = c.write_group-answer.new.disk; job = j; table = t; failed = c.self.inside.failed })) (sym c.fill.ensures)
          (subst (λ (b : Bool). IsJournal g.D.Disk.face (record { disk = c.write_group-answer.new.disk; job = j; table = filled c.self.inside.table.items c.args.group.items; failed = b })) (sym ready)
          (kept_group g.D.Disk.face g.D.Disk.loans (record { disk = c.self.inside.disk; job = arc_value c.self.inside.job; table = c.self.inside.table.items; failed = c.self.inside.failed })
          c.write_group-answer.new.disk c.args.group.items c.self.invariant.0 group went stored c.in_default.ensures.safe
          (went_some (λ d e. Reads (g.D.Disk.face d) (Stands j c.self.inside.table.items) → Reads (g.D.Disk.face e) (Stands j (filled c.self.inside.table.items c.args.group.items)))
          (λ d. Reads (g.D.Disk.face d) (Stands j c.self.inside.table.items)) (λ e. Reads (g.D.Disk.face e) (Stands j (filled c.self.inside.table.items c.args.group.items)))
          c.self.inside.disk c.write_group-answer.new.disk (full c.self.inside.table.items) (λ d e p a. p a) (c.self.invariant.0.reads ready)))),
      c.self.invariant.1,
    )

pub returns-in-Err-clause-reads : goal.returns-in-Err-clause-reads
returns-in-Err-clause-reads g c =
    let ready = ap (λ (v : JournalView g.row.D.Denot). v.failed) c.self.view_is ∙ c.requires.ready in
    let partly = subst (λ (l : List Member). (s : Slots) → Went (λ d e. Reads (g.D.Disk.face d) (Stands (arc_value c.self.inside.job) s) → Reads (g.D.Disk.face e) (StandsPartly (arc_value c.self.inside.job) s l)) c.self.inside.disk c.write_group-answer.new.disk) c.as_slice.ensures.value
    (subst (λ (j : Job). (s : Slots) → Went (λ d e. Reads (g.D.Disk.face d) (Stands j s) → Reads (g.D.Disk.face e) (StandsPartly j s c.as_slice.result.now)) c.self.inside.disk c.write_group-answer.new.disk) c.deref.ensures c.write_group-answer.ensures.partly) in
    subst (λ (v : JournalView g.row.D.Denot). Went (λ d e. Reads (g.D.Disk.face e) (StandsPartly v.job v.table c.args.group.items)) v.disk c.write_group-answer.new.disk) c.self.view_is
    (went_apply _ _ c.self.inside.disk c.write_group-answer.new.disk (partly c.self.inside.table.items) (c.self.invariant.0.reads ready))

pub returns-clause-reads : goal.returns-clause-reads
returns-clause-reads g c =
    let ready = ap (λ (v : JournalView g.row.D.Denot). v.failed) c.self.view_is ∙ c.requires.ready in
    let partly = subst (λ (l : List Member). (s : Slots) → Went (λ d e. Reads (g.D.Disk.face d) (Stands (arc_value c.self.inside.job) s) → Reads (g.D.Disk.face e) (StandsPartly (arc_value c.self.inside.job) s l)) c.self.inside.disk c.write_group-answer.new.disk) c.as_slice.ensures.value
    (subst (λ (j : Job). (s : Slots) → Went (λ d e. Reads (g.D.Disk.face d) (Stands j s) → Reads (g.D.Disk.face e) (StandsPartly j s c.as_slice.result.now)) c.self.inside.disk c.write_group-answer.new.disk) c.deref.ensures c.write_group-answer.ensures.partly) in
    subst (λ (v : JournalView g.row.D.Denot). Went (λ d e. Reads (g.D.Disk.face e) (StandsPartly v.job v.table c.args.group.items)) v.disk c.write_group-answer.new.disk) c.self.view_is
    (went_apply _ _ c.self.inside.disk c.write_group-answer.new.disk (partly c.self.inside.table.items) (c.self.invariant.0.reads ready))

pub returns-then-is_empty-clause-reads : goal.returns-then-is_empty-clause-reads
returns-then-is_empty-clause-reads g c =
    let ready = ap (λ (v : JournalView g.row.D.Denot). v.failed) c.self.view_is ∙ c.requires.ready in
    subst (λ (v : JournalView g.row.D.Denot). Went (λ d e. Reads (g.D.Disk.face e) (StandsPartly v.job v.table c.args.group.items)) v.disk v.disk) c.self.view_is
    (partly_same g.D.Disk.face (arc_value c.self.inside.job) c.self.inside.table.items c.args.group.items c.self.inside.disk (c.self.invariant.0.reads ready))
