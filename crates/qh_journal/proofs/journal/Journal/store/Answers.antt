use Rattle.std.proofs.Common.{◌≡◌, ◌+◌, ◌*◌, ◌<◌, ◌⊎◌, Bool, arith, rules, set, Some, None, subst, sym, ap, ◌∙◌, refl}
use Rattle.std.proofs.lemmas.Bool.{false≢true}
use Rattle.std.specs.Arc.{arc_value}
use Rattle.std.specs.Option.{ForSome}
use Rattle.qh_plan.specs.Jobs.{Job, IsJob, ranges}
use Rattle.qh_disk.specs.Disk.{Reads}
use Rattle.qh_disk.specs.Moments.{EachImage}
use Rattle.qh_slots.specs.Layout.{head, place, slot_size}
use Rattle.qh_slots.specs.Stands.{Slots, Stands, Holds, Shut, slot_at}
use Rattle.qh_journal.specs.Calls.{JournalView, IsJournal, Went, Same}
use Rattle.qh_parts.specs.Sparing.{Spares}
use Rattle.qh_plan.specs.Ranges.{Fits}
use Rattle.qh_parts.proofs.PlaceLemmas.{at_place, below_room}
use Rattle.qh_journal.proofs.KeptLemmas.{shut_from, kept_failed, kept_stored, went_apply, went_some}
use Rattle.qh_journal.proofs.journal.Journal.store.Goals as goal

pub overflow_add-at : goal.overflow_add-at
overflow_add-at g c =
    let low = subst (λ (k : JournalView g.row.D.Denot). c.args.range < ranges k.job) (sym c.self.view_is) c.requires.range in
    let at = at_place (arc_value c.self.inside.job) c.self.inside.start c.from.result c.slot_size.result c.args.range c.self.invariant.1.begins c.from.ensures (c.slot_size.ensures ∙ ap (λ (j : Job). slot_size j) c.deref-2.ensures) in
    let most = below_room (arc_value c.self.inside.job) c.args.range low c.self.invariant.1.short in
    search (rules, arith)

pub write-answer-requires-clause-at : goal.write-answer-requires-clause-at
write-answer-requires-clause-at g c =
    subst (λ (j : Job). c.self.inside.start + c.from.result * c.slot_size.result ≡ place (head j) j c.args.range) (sym c.deref-3.ensures)
    (at_place (arc_value c.self.inside.job) c.self.inside.start c.from.result c.slot_size.result c.args.range c.self.invariant.1.begins c.from.ensures (c.slot_size.ensures ∙ ap (λ (j : Job). slot_size j) c.deref-2.ensures))

pub write-answer-requires-clause-valid : goal.write-answer-requires-clause-valid
write-answer-requires-clause-valid g c = subst (λ (j : Job). IsJob j) (sym c.deref-3.ensures) c.self.invariant.1.valid

pub write-answer-requires-clause-room : goal.write-answer-requires-clause-room
write-answer-requires-clause-room g c =
    let low = subst (λ (k : JournalView g.row.D.Denot). c.args.range < ranges k.job) (sym c.self.view_is) c.requires.range in
    let at = at_place (arc_value c.self.inside.job) c.self.inside.start c.from.result c.slot_size.result c.args.range c.self.invariant.1.begins c.from.ensures (c.slot_size.ensures ∙ ap (λ (j : Job). slot_size j) c.deref-2.ensures) in
    let most = below_room (arc_value c.self.inside.job) c.args.range low c.self.invariant.1.short in
    omega arith

pub write-answer-requires-clause-shut : goal.write-answer-requires-clause-shut
write-answer-requires-clause-shut g c d is =
    let ready = ap (λ (k : JournalView g.row.D.Denot). k.failed) c.self.view_is ∙ c.requires.ready in
    subst (λ (j : Job). EachImage (g.D.Disk.face d) (Shut j c.args.range)) (sym c.deref-3.ensures)
    (shut_from (arc_value c.self.inside.job) c.self.inside.table.items c.args.range (g.D.Disk.face d) (c.self.invariant.0.safe ready d is) (c.self.invariant.0.reads ready d is)
    (subst (λ (k : JournalView g.row.D.Denot). slot_at k.table c.args.range ≡ None) (sym c.self.view_is) c.requires.shut))

pub invariant_of-self : goal.invariant_of-self
invariant_of-self g c =
    let went = subst (λ (j : Job). Went (λ d e. Same g.D.Disk.face g.D.Disk.loans d e × Spares j (g.D.Disk.face d) (g.D.Disk.face e)) c.self.inside.disk c.write-answer.new.disk) c.deref-3.ensures c.write-answer.ensures.went in (
      kept_failed g.D.Disk.face g.D.Disk.loans (record { disk = c.self.inside.disk; job = arc_value c.self.inside.job; table = c.self.inside.table.items; failed = c.self.inside.failed })
          c.write-answer.new.disk c.self.invariant.0 went (λ none. false≢true (c.in-Err.ensures.unkept none)),
      c.self.invariant.1,
    )

pub returns-in-Err-clause-reads : goal.returns-in-Err-clause-reads
returns-in-Err-clause-reads g c =
    let ready = ap (λ (k : JournalView g.row.D.Denot). k.failed) c.self.view_is ∙ c.requires.ready in
    let either = subst (λ (j : Job). (s : Slots) → Went (λ d e. Reads (g.D.Disk.face d) (Stands j s) → Reads (g.D.Disk.face e) (λ f. Stands j s f ⊎ Stands j (set s c.args.range (Some c.args.verdict)) f)) c.self.inside.disk c.write-answer.new.disk) c.deref-3.ensures c.write-answer.ensures.either in
    subst (λ (k : JournalView g.row.D.Denot). Went (λ d e. Reads (g.D.Disk.face e) (λ f. Stands k.job k.table f ⊎ Stands k.job (set k.table c.args.range (Some c.args.verdict)) f)) k.disk c.write-answer.new.disk) c.self.view_is
    (went_apply _ _ c.self.inside.disk c.write-answer.new.disk (either c.self.inside.table.items) (c.self.invariant.0.reads ready))

pub invariant_of-self-2 : goal.invariant_of-self-2
invariant_of-self-2 g c =
    let j = arc_value c.self.inside.job in
    let ready = ap (λ (k : JournalView g.row.D.Denot). k.failed) c.self.view_is ∙ c.requires.ready in
    let low = subst (λ (k : JournalView g.row.D.Denot). c.args.range < ranges k.job) (sym c.self.view_is) c.requires.range in
    let fits = subst (λ (k : JournalView g.row.D.Denot). Fits k.job c.args.range c.args.verdict) (sym c.self.view_is) c.requires.fits in
    let went = subst (λ (j : Job). Went (λ d e. Same g.D.Disk.face g.D.Disk.loans d e × Spares j (g.D.Disk.face d) (g.D.Disk.face e)) c.self.inside.disk c.write-answer.new.disk) c.deref-3.ensures c.write-answer.ensures.went in
    let stored = subst (λ (j : Job). ForSome c.write-answer.new.disk (λ e. EachImage (g.D.Disk.face e) (Holds j c.args.range c.args.verdict))) c.deref-3.ensures c.in_default.ensures.stored in
    let opened = subst (λ (j : Job). (s : Slots) → Went (λ d e. Reads (g.D.Disk.face d) (Stands j s) → Reads (g.D.Disk.face e) (Stands j (set s c.args.range (Some c.args.verdict)))) c.self.inside.disk c.write-answer.new.disk) c.deref-3.ensures c.in_default.ensures.opened in (
      subst (λ (b : Bool). IsJournal g.D.Disk.face (record { disk = c.write-answer.new.disk; job = arc_value c.self.inside.job; table = set c.self.inside.table.items c.args.range (Some c.args.verdict); failed = b })) (sym ready)
          (kept_stored g.D.Disk.face g.D.Disk.loans (record { disk = c.self.inside.disk; job = arc_value c.self.inside.job; table = c.self.inside.table.items; failed = c.self.inside.failed })
          c.write-answer.new.disk c.args.range c.args.verdict c.self.invariant.0 low fits went stored c.in_default.ensures.safe
          (went_some (λ d e. Reads (g.D.Disk.face d) (Stands j c.self.inside.table.items) → Reads (g.D.Disk.face e) (Stands j (set c.self.inside.table.items c.args.range (Some c.args.verdict))))
          (λ d. Reads (g.D.Disk.face d) (Stands j c.self.inside.table.items)) (λ e. Reads (g.D.Disk.face e) (Stands j (set c.self.inside.table.items c.args.range (Some c.args.verdict))))
          c.self.inside.disk c.write-answer.new.disk (opened c.self.inside.table.items) (λ d e p a. p a) (c.self.invariant.0.reads ready))),
      c.self.invariant.1,
    )

pub returns-clause-reads : goal.returns-clause-reads
returns-clause-reads g c =
    let ready = ap (λ (k : JournalView g.row.D.Denot). k.failed) c.self.view_is ∙ c.requires.ready in
    let either = subst (λ (j : Job). (s : Slots) → Went (λ d e. Reads (g.D.Disk.face d) (Stands j s) → Reads (g.D.Disk.face e) (λ f. Stands j s f ⊎ Stands j (set s c.args.range (Some c.args.verdict)) f)) c.self.inside.disk c.write-answer.new.disk) c.deref-3.ensures c.write-answer.ensures.either in
    subst (λ (k : JournalView g.row.D.Denot). Went (λ d e. Reads (g.D.Disk.face e) (λ f. Stands k.job k.table f ⊎ Stands k.job (set k.table c.args.range (Some c.args.verdict)) f)) k.disk c.write-answer.new.disk) c.self.view_is
    (went_apply _ _ c.self.inside.disk c.write-answer.new.disk (either c.self.inside.table.items) (c.self.invariant.0.reads ready))
