use Rattle.std.proofs.Common.{◌≡◌, ◌∷◌, ◌++◌, [], false, List, refl, subst, sym}
use Rattle.std.proofs.lemmas.Bool.{false≢true}
use Rattle.std.specs.Prelude.{nat_eq}
use Rattle.std.specs.List.{list_any}
use Rattle.qh_parts.specs.declared.member.Member.{Member}
use Rattle.qh_lease.specs.Lease.{lease_at, is_acked}
use Rattle.qh_board.specs.declared.picking.Entry.{Entry}
use Rattle.qh_board.specs.Picking.{member_for}
use Rattle.qh_board.proofs.PickLemmas.{IsPicking, picking_more, picking_less}
use Rattle.qh_board.proofs.picking.pick.Goals as goal

pub loop-outcome-preserved-then-is_picked : goal.loop-outcome-preserved-then-is_picked
loop-outcome-preserved-then-is_picked c =
    let first : c.loop-outcome.group ≡ c.in-Some.outcome ∷ c.take_first.new.self = c.in-Some.ensures.some in
    let both = c.if-is_picked.ensures.0 refl in
    let none = subst (λ (l : List Entry). list_any (λ e. nat_eq e.range c.in-Some.outcome.range) l ≡ false) c.as_slice.ensures.value both.1 in
    let more = picking_more c.args.job.now c.args.course.now.leases c.args.group c.loop-outcome.group c.take_first.new.self c.loop-outcome.picked.members.items c.loop-outcome.picked.entries.items c.in-Some.outcome
    c.requires.count first c.loop-outcome.invariant c.add.ensures.valid both.0 none in
    subst (λ (l : List Member). IsPicking c.args.job.now c.args.course.now.leases c.args.group c.take_first.new.self l c.add.new.picked.entries.items) (sym c.add.ensures.members)
    (subst (λ (l : List Entry). IsPicking c.args.job.now c.args.course.now.leases c.args.group c.take_first.new.self (c.loop-outcome.picked.members.items ++ member_for c.in-Some.outcome ∷ []) l) (sym c.add.ensures.entries) more)

pub loop-outcome-preserved-else-is_picked : goal.loop-outcome-preserved-else-is_picked
loop-outcome-preserved-else-is_picked c =
    let first : c.loop-outcome.group ≡ c.in-Some.outcome ∷ c.take_first.new.self = c.in-Some.ensures.some in
    picking_less c.args.job.now c.args.course.now.leases c.args.group c.loop-outcome.group c.take_first.new.self c.loop-outcome.picked.members.items c.loop-outcome.picked.entries.items c.in-Some.outcome
    c.requires.count first c.loop-outcome.invariant
    (λ both. false≢true (c.if-is_picked.ensures.1 (both.0, subst (λ (l : List Entry). list_any (λ e. nat_eq e.range c.in-Some.outcome.range) l ≡ false) (sym c.as_slice.ensures.value) both.1)))

pub loop-outcome-preserved : goal.loop-outcome-preserved
loop-outcome-preserved c =
    let first : c.loop-outcome.group ≡ c.in-Some.outcome ∷ c.take_first.new.self = c.in-Some.ensures.some in
    picking_less c.args.job.now c.args.course.now.leases c.args.group c.loop-outcome.group c.take_first.new.self c.loop-outcome.picked.members.items c.loop-outcome.picked.entries.items c.in-Some.outcome
    c.requires.count first c.loop-outcome.invariant
    (λ both. false≢true (c.if-is_picked.ensures.1 (both.0, subst (λ (l : List Entry). list_any (λ e. nat_eq e.range c.in-Some.outcome.range) l ≡ false) (sym c.as_slice.ensures.value) both.1)))
