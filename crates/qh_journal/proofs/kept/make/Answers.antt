use Rattle.std.proofs.Common.{ℕ, List, length, sym, ap, subst, ◌∙◌, arith}
use Rattle.std.specs.Arc.{arc_value}
use Rattle.qh_plan.specs.Jobs.{Job, ranges}
use Rattle.qh_disk.specs.Disk.{Reads}
use Rattle.qh_slots.specs.Layout.{head, slot_size}
use Rattle.qh_slots.specs.Stands.{Stands, nones}
use Rattle.qh_slots.proofs.StandLemmas.{head_size}
use Rattle.qh_parts.proofs.PlaceLemmas.{at_place}
use Rattle.qh_journal.proofs.kept.make.Goals as goal

pub lay_all-requires-clause-long : goal.lay_all-requires-clause-long
lay_all-requires-clause-long g c =
    let s = head_size c.deref-2.result.now in
    let e = ap (λ (l : List ℕ). length l) (c.as_slice.ensures.value ∙ c.in_ok-wanted.ensures.head) in
    omega arith

pub lay_all-requires-clause-size : goal.lay_all-requires-clause-size
lay_all-requires-clause-size g c =
    at_place c.deref-6.result.now c.len-start.result c.from.result c.slot_size.result (ranges c.deref-6.result.now)
    (c.len-start.ensures ∙ (c.in_ok-wanted.wanted.ok.0 ∙ (ap (λ (l : List ℕ). length l) c.in_ok-wanted.ensures.head ∙ ap (λ (j : Job). length (head j)) (c.deref-2.ensures ∙ sym c.deref-6.ensures))))
    (c.from.ensures ∙ (c.ranges-3.ensures.value ∙ ap (λ (j : Job). ranges j) (c.deref-4.ensures ∙ sym c.deref-6.ensures)))
    (c.slot_size.ensures ∙ ap (λ (j : Job). slot_size j) (c.deref-5.ensures ∙ sym c.deref-6.ensures))

pub returns-in-Ok-clause-stands : goal.returns-in-Ok-clause-stands
returns-in-Ok-clause-stands g c = subst (λ (j : Job). Reads (g.D.Disk.face c.lay_all.new.disk) (Stands j (nones j))) c.deref-6.ensures c.in-Ok.ensures.stands
