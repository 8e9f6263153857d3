use Rattle.std.proofs.Common.{◌≡◌, ◌≢◌, ◌<◌, ℕ, List, length, take, get_or, sym, ap, subst, ◌∙◌, arith, rules, inl, inr}
use Rattle.std.proofs.lemmas.Bool.{cases_eq}
use Rattle.std.proofs.lemmas.List.{get_or_default, take_all}
use Rattle.qh_plan.specs.Jobs.{Job, ranges}
use Rattle.qh_disk.specs.Disk.{Reads}
use Rattle.qh_disk.specs.Moments.{EachImage}
use Rattle.qh_slots.specs.Stands.{Slots, Stands, Holds, Behind}
use Rattle.qh_parts.specs.Groups.{AreValues, IsGroup, filled, range_of, member_of, unused}
use Rattle.qh_parts.specs.declared.member.Member.{Member}
use Rattle.qh_plan.specs.Values.{range_value}
use Rattle.qh_parts.proofs.PartLemmas.{spares_on, made_on, goes_on}
use Rattle.qh_parts.proofs.GroupLemmas.{filled_more, partly_from}
use Rattle.qh_parts.proofs.PlaceLemmas.{at_place, below_room}
use Rattle.qh_parts.proofs.group.open_gates.Goals as goal

-- the member that a loop reads
member_is : (group : List Member) (k : ℕ) (x : Member) → k < length group → x ≡ get_or group k x → x ≡ get_or group k unused
member_is group k x low is = is ∙ get_or_default group k x unused low

low_is : (j : Job) (group : List Member) (k : ℕ) (x : Member) → IsGroup j group → k < length group → x ≡ get_or group k unused → x.range < ranges j
low_is j group k x is low e = subst (λ (y : Member). y.range < ranges j) (sym e) (is.inside k low)

pub overflow_add-at : goal.overflow_add-at
overflow_add-at g c =
    let e = member_is c.args.group.now c.loop-member.member-index c.member-item.result c.loop-member-test.true c.member-item.is in
    let low = low_is c.args.job.now c.args.group.now c.loop-member.member-index c.member-item.result c.requires.group c.loop-member-test.true e in
    let at = at_place c.args.job.now c.args.start c.from.result c.slot_size-size.result c.member-item.result.range c.requires.start c.from.ensures c.slot_size-size.ensures in
    let most = below_room c.args.job.now c.member-item.result.range low c.requires.short in
    search (rules, arith)

pub write_gate-requires-clause-at : goal.write_gate-requires-clause-at
write_gate-requires-clause-at g c =
    at_place c.args.job.now c.args.start c.from.result c.slot_size-size.result c.member-item.result.range c.requires.start c.from.ensures c.slot_size-size.ensures

pub write_gate-requires-clause-room : goal.write_gate-requires-clause-room
write_gate-requires-clause-room g c =
    let e = member_is c.args.group.now c.loop-member.member-index c.member-item.result c.loop-member-test.true c.member-item.is in
    let low = low_is c.args.job.now c.args.group.now c.loop-member.member-index c.member-item.result c.requires.group c.loop-member-test.true e in
    let at = at_place c.args.job.now c.args.start c.from.result c.slot_size-size.result c.member-item.result.range c.requires.start c.from.ensures c.slot_size-size.ensures in
    let most = below_room c.args.job.now c.member-item.result.range low c.requires.short in
    omega arith

others : (j : Job) (group : List Member) (i k : ℕ) (x : Member) → IsGroup j group → i < length group → k < length group → x ≡ get_or group i unused → k ≢ i → range_of group k ≢ x.range
others j group i k x is li lk e ne same = is.apart k i lk li ne (same ∙ ap (λ (y : Member). y.range) e)

item : (j : Job) (group : List Member) (k : ℕ) (x : Member) → AreValues j group → k < length group → x ≡ get_or group k unused → x.verdict ≡ range_value j x.range
item j group k x values low e = subst (λ (y : Member). y.verdict ≡ range_value j y.range) (sym e) (values.each k low)

pub write_gate-requires-clause-range : goal.write_gate-requires-clause-range
write_gate-requires-clause-range g c =
    let e = member_is c.args.group.now c.loop-member.member-index c.member-item.result c.loop-member-test.true c.member-item.is in
    low_is c.args.job.now c.args.group.now c.loop-member.member-index c.member-item.result c.requires.group c.loop-member-test.true e

pub write_gate-requires-clause-behind : goal.write_gate-requires-clause-behind
write_gate-requires-clause-behind g c =
    let e = member_is c.args.group.now c.loop-member.member-index c.member-item.result c.loop-member-test.true c.member-item.is in
    subst (λ (y : Member). EachImage (g.D.Disk.face c.loop-member.disk) (Behind c.args.job.now y.range y.verdict)) (sym e) (c.loop-member.invariant.behind c.loop-member.member-index (omega arith) c.loop-member-test.true)

pub returns-in_err-write_gate-clause-spares : goal.returns-in_err-write_gate-clause-spares
returns-in_err-write_gate-clause-spares g c = spares_on _ _ _ _ c.loop-member.invariant.spares c.write_gate.ensures.spares

pub returns-in_err-write_gate-clause-held : goal.returns-in_err-write_gate-clause-held
returns-in_err-write_gate-clause-held g c q w reads = c.write_gate.ensures.held q w (c.loop-member.invariant.held q w reads)

pub returns-in_err-write_gate-clause-partly : goal.returns-in_err-write_gate-clause-partly
returns-in_err-write_gate-clause-partly g c s reads f told =
    let e = member_is c.args.group.now c.loop-member.member-index c.member-item.result c.loop-member-test.true c.member-item.is in
    partly_from c.args.job.now s c.args.group.now c.loop-member.member-index c.member-item.result f c.loop-member-test.true e
    (c.write_gate.ensures.either (filled s (take c.loop-member.member-index c.args.group.now)) (c.loop-member.invariant.filled s reads) f told)

pub returns-clause-filled : goal.returns-clause-filled
returns-clause-filled g c s reads =
    subst (λ (m : List Member). Reads (g.D.Disk.face c.loop-member.disk) (Stands c.args.job.now (filled s m)))
    (take_all c.loop-member.member-index c.args.group.now (search (rules, arith))) (c.loop-member.invariant.filled s reads)

pub returns-clause-partly : goal.returns-clause-partly
returns-clause-partly g c s reads f told = record {
  stored = c.loop-member.member-index;
  most = search (rules, arith);
  stands = c.loop-member.invariant.filled s reads f told;
}

pub returns-in_err-write_gate-clause-made : goal.returns-in_err-write_gate-clause-made
returns-in_err-write_gate-clause-made g c values =
    let e = member_is c.args.group.now c.loop-member.member-index c.member-item.result c.loop-member-test.true c.member-item.is in
    made_on _ _ _ _ c.loop-member.invariant.spares (c.loop-member.invariant.made values) c.write_gate.ensures.spares
    (c.write_gate.ensures.made (item c.args.job.now c.args.group.now c.loop-member.member-index c.member-item.result values c.loop-member-test.true e))

pub returns-in_err-write_gate-clause-goes_on : goal.returns-in_err-write_gate-clause-goes_on
returns-in_err-write_gate-clause-goes_on g c values s =
    let e = member_is c.args.group.now c.loop-member.member-index c.member-item.result c.loop-member-test.true c.member-item.is in
    goes_on _ s _ _ _ c.loop-member.invariant.spares (c.loop-member.invariant.goes_on values s) c.write_gate.ensures.spares
    (c.write_gate.ensures.goes_on (item c.args.job.now c.args.group.now c.loop-member.member-index c.member-item.result values c.loop-member-test.true e) s)

pub loop-member-preserved : goal.loop-member-preserved
loop-member-preserved g c =
    let i = c.loop-member.member-index in
    let e = member_is c.args.group.now i c.member-item.result c.loop-member-test.true c.member-item.is in
    record {
      behind = λ k from low. c.write_gate.ensures.others_behind (range_of c.args.group.now k) (member_of c.args.group.now k)
          (others c.args.job.now c.args.group.now i k c.member-item.result c.requires.group c.loop-member-test.true low e (λ same. omega arith)) (c.loop-member.invariant.behind k (omega arith) low);
      stored = λ k low. elim (cases_eq k i) [
        | inl same ↦ subst (λ (n : ℕ). Reads (g.D.Disk.face c.write_gate.new.disk) (Holds c.args.job.now (range_of c.args.group.now n) (member_of c.args.group.now n))) (sym same)
            (subst (λ (y : Member). Reads (g.D.Disk.face c.write_gate.new.disk) (Holds c.args.job.now y.range y.verdict)) e c.in_ok-write_gate.ensures.stored)
        | inr ne ↦ c.write_gate.ensures.held (range_of c.args.group.now k) (member_of c.args.group.now k) (c.loop-member.invariant.stored k (omega arith))
      ];
      held = λ q w reads. c.write_gate.ensures.held q w (c.loop-member.invariant.held q w reads);
      filled = λ s reads. subst (λ (t : Slots). Reads (g.D.Disk.face c.write_gate.new.disk) (Stands c.args.job.now t)) (sym (filled_more s c.args.group.now i c.member-item.result c.loop-member-test.true e))
          (c.in_ok-write_gate.ensures.opened (filled s (take i c.args.group.now)) (c.loop-member.invariant.filled s reads));
      spares = spares_on _ _ _ _ c.loop-member.invariant.spares c.write_gate.ensures.spares;
      made = λ values. made_on _ _ _ _ c.loop-member.invariant.spares (c.loop-member.invariant.made values) c.write_gate.ensures.spares
          (c.write_gate.ensures.made (item c.args.job.now c.args.group.now i c.member-item.result values c.loop-member-test.true e));
      goes_on = λ values s. goes_on _ s _ _ _ c.loop-member.invariant.spares (c.loop-member.invariant.goes_on values s) c.write_gate.ensures.spares
          (c.write_gate.ensures.goes_on (item c.args.job.now c.args.group.now i c.member-item.result values c.loop-member-test.true e) s);
      same = c.write_gate.ensures.same ∙ c.loop-member.invariant.same;
    }
