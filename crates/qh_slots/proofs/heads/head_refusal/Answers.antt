use Rattle.std.proofs.Common.{sym, ◌∙◌}
use Rattle.qh_slots.specs.Attaching.{head_refusal, later_refusal}
use Rattle.qh_slots.proofs.StandLemmas.{name_stops}
use Rattle.qh_slots.proofs.heads.head_refusal.Goals as goal

pub returns-in-Some : goal.returns-in-Some
unfolding head_refusal
returns-in-Some c = sym (name_stops c.args.count c.args.front.now c.in-Some.fault (later_refusal c.args.head.now c.args.size c.args.count c.args.front.now) (sym c.name_refusal.ensures ∙ c.in-Some.is))
