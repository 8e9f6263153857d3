use Rattle.std.proofs.Common.{◌≡◌, ◌≢◌, ◌<◌, ℕ, List, length, get_or, sym, ap, subst, ◌∙◌, arith, rules, inl, inr}
use Rattle.std.proofs.lemmas.Bool.{cases_eq}
use Rattle.std.proofs.lemmas.List.{get_or_default}
use Rattle.qh_plan.specs.Jobs.{Job, ranges}
use Rattle.qh_plan.specs.Ranges.{Fits}
use Rattle.qh_disk.specs.Disk.{Reads}
use Rattle.qh_disk.specs.Moments.{EachImage}
use Rattle.qh_slots.specs.Stands.{Shut, Behind}
use Rattle.qh_slots.proofs.SpellingLemmas.{has_space}
use Rattle.qh_parts.specs.Groups.{IsGroup, range_of, member_of, unused}
use Rattle.qh_parts.specs.declared.member.Member.{Member}
use Rattle.qh_parts.proofs.PartLemmas.{spares_on, made_on, goes_on}
use Rattle.qh_parts.proofs.PlaceLemmas.{at_place, below_room}
use Rattle.qh_parts.proofs.group.write_bodies.Goals as goal

-- the member that a loop reads
member_is : (group : List Member) (k : ℕ) (x : Member) → k < length group → x ≡ get_or group k x → x ≡ get_or group k unused
member_is group k x low is = is ∙ get_or_default group k x unused low

low_is : (j : Job) (group : List Member) (k : ℕ) (x : Member) → IsGroup j group → k < length group → x ≡ get_or group k unused → x.range < ranges j
low_is j group k x is low e = subst (λ (y : Member). y.range < ranges j) (sym e) (is.inside k low)

pub overflow_add-at : goal.overflow_add-at
overflow_add-at g c =
    let e = member_is c.args.group.now c.loop-member.member-index c.member-item.result c.loop-member-test.true c.member-item.is in
    let low = low_is c.args.job.now c.args.group.now c.loop-member.member-index c.member-item.result c.requires.group c.loop-member-test.true e in
    let at = at_place c.args.job.now c.args.start c.from.result c.slot_size-size.result c.member-item.result.range c.requires.start c.from.ensures c.slot_size-size.ensures in
    let most = below_room c.args.job.now c.member-item.result.range low c.requires.short in
    search (rules, arith)

pub write_body-requires-clause-at : goal.write_body-requires-clause-at
write_body-requires-clause-at g c =
    at_place c.args.job.now c.args.start c.from.result c.slot_size-size.result c.member-item.result.range c.requires.start c.from.ensures c.slot_size-size.ensures

pub write_body-requires-clause-room : goal.write_body-requires-clause-room
write_body-requires-clause-room g c =
    let e = member_is c.args.group.now c.loop-member.member-index c.member-item.result c.loop-member-test.true c.member-item.is in
    let low = low_is c.args.job.now c.args.group.now c.loop-member.member-index c.member-item.result c.requires.group c.loop-member-test.true e in
    let at = at_place c.args.job.now c.args.start c.from.result c.slot_size-size.result c.member-item.result.range c.requires.start c.from.ensures c.slot_size-size.ensures in
    let most = below_room c.args.job.now c.member-item.result.range low c.requires.short in
    omega arith

pub write_body-requires-clause-fits : goal.write_body-requires-clause-fits
write_body-requires-clause-fits g c =
    let e = member_is c.args.group.now c.loop-member.member-index c.member-item.result c.loop-member-test.true c.member-item.is in
    subst (λ (y : Member). Fits c.args.job.now y.range y.verdict) (sym e) (c.requires.group.fits c.loop-member.member-index c.loop-member-test.true)

pub put_slot-requires : goal.put_slot-requires
put_slot-requires g c =
    let e = member_is c.args.group.now c.loop-member.member-index c.member-item.result c.loop-member-test.true c.member-item.is in
    has_space c.args.job.now c.member-item.result.range (length c.loop-member.body) c.member-item.result.verdict
    (subst (λ (y : Member). Fits c.args.job.now y.range y.verdict) (sym e) (c.requires.group.fits c.loop-member.member-index c.loop-member-test.true)) c.loop-member.invariant.body

pub write_body-requires-clause-body : goal.write_body-requires-clause-body
write_body-requires-clause-body g c = c.put_slot.ensures (length c.args.job.now.bits) c.loop-member.invariant.body

others : (j : Job) (group : List Member) (i k : ℕ) (x : Member) → IsGroup j group → i < length group → k < length group → x ≡ get_or group i unused → k ≢ i → range_of group k ≢ x.range
others j group i k x is li lk e ne same = is.apart k i lk li ne (same ∙ ap (λ (y : Member). y.range) e)

pub returns-in_err-write_body-clause-spares : goal.returns-in_err-write_body-clause-spares
returns-in_err-write_body-clause-spares g c = spares_on _ _ _ _ c.loop-member.invariant.spares c.write_body.ensures.spares

pub returns-in_err-write_body-clause-made : goal.returns-in_err-write_body-clause-made
returns-in_err-write_body-clause-made g c = made_on _ _ _ _ c.loop-member.invariant.spares c.loop-member.invariant.made c.write_body.ensures.spares c.write_body.ensures.made

pub returns-in_err-write_body-clause-goes_on : goal.returns-in_err-write_body-clause-goes_on
returns-in_err-write_body-clause-goes_on g c s = goes_on _ s _ _ _ c.loop-member.invariant.spares
    (c.loop-member.invariant.goes_on s) c.write_body.ensures.spares (c.write_body.ensures.goes_on s)

pub returns-in_err-write_body-clause-kept : goal.returns-in_err-write_body-clause-kept
returns-in_err-write_body-clause-kept g c s reads = c.write_body.ensures.kept s (c.loop-member.invariant.kept s reads)

pub returns-in_err-write_body-clause-shut : goal.returns-in_err-write_body-clause-shut
returns-in_err-write_body-clause-shut g c k low =
    let e = member_is c.args.group.now c.loop-member.member-index c.member-item.result c.loop-member-test.true c.member-item.is in
    elim (cases_eq k c.loop-member.member-index) [
      | inl same ↦ subst (λ (n : ℕ). EachImage (g.D.Disk.face c.write_body.new.disk) (Shut c.args.job.now n)) (ap (λ (y : Member). y.range) e ∙ ap (range_of c.args.group.now) (sym same)) c.write_body.ensures.shut
      | inr ne ↦ c.write_body.ensures.others_shut (range_of c.args.group.now k) (others c.args.job.now c.args.group.now c.loop-member.member-index k c.member-item.result c.requires.group c.loop-member-test.true low e ne) (c.loop-member.invariant.shut k low)
    ]

pub loop-member-preserved : goal.loop-member-preserved
loop-member-preserved g c =
    let i = c.loop-member.member-index in
    let e = member_is c.args.group.now i c.member-item.result c.loop-member-test.true c.member-item.is in
    record {
      body = search (rules, arith);
      shut = λ k low. elim (cases_eq k i) [
        | inl same ↦ subst (λ (n : ℕ). EachImage (g.D.Disk.face c.write_body.new.disk) (Shut c.args.job.now n)) (ap (λ (y : Member). y.range) e ∙ ap (range_of c.args.group.now) (sym same)) c.write_body.ensures.shut
        | inr ne ↦ c.write_body.ensures.others_shut (range_of c.args.group.now k) (others c.args.job.now c.args.group.now i k c.member-item.result c.requires.group c.loop-member-test.true low e ne) (c.loop-member.invariant.shut k low)
      ];
      behind = λ k low. elim (cases_eq k i) [
        | inl same ↦ subst (λ (n : ℕ). Reads (g.D.Disk.face c.write_body.new.disk) (Behind c.args.job.now (range_of c.args.group.now n) (member_of c.args.group.now n))) (sym same)
            (subst (λ (y : Member). Reads (g.D.Disk.face c.write_body.new.disk) (Behind c.args.job.now y.range y.verdict)) e c.in_ok-write_body.ensures.behind)
        | inr ne ↦ c.write_body.ensures.others_behind (range_of c.args.group.now k) (member_of c.args.group.now k)
            (others c.args.job.now c.args.group.now i k c.member-item.result c.requires.group c.loop-member-test.true (omega arith) e ne) (c.loop-member.invariant.behind k (omega arith))
      ];
      kept = λ s reads. c.write_body.ensures.kept s (c.loop-member.invariant.kept s reads);
      spares = spares_on _ _ _ _ c.loop-member.invariant.spares c.write_body.ensures.spares;
      made = made_on _ _ _ _ c.loop-member.invariant.spares c.loop-member.invariant.made c.write_body.ensures.spares c.write_body.ensures.made;
      goes_on = λ s. goes_on _ s _ _ _ c.loop-member.invariant.spares (c.loop-member.invariant.goes_on s) c.write_body.ensures.spares
          (c.write_body.ensures.goes_on s);
      same = c.write_body.ensures.same ∙ c.loop-member.invariant.same;
    }
