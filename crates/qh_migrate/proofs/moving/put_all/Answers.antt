use Rattle.std.proofs.Common.{◌≡◌, ◌+◌, ◌*◌, ◌<◌, ◌≤◌, ℕ, List, [], ◌∷◌, length, take, get_or, Option, None, refl, sym, ap, subst, ◌∙◌, arith, rules}
use Rattle.std.proofs.lemmas.List.{get_or_default, length-take-le}
use Rattle.qh_plan.specs.declared.verdict.Verdict.{Verdict}
use Rattle.qh_plan.specs.Jobs.{ranges}
use Rattle.qh_disk.specs.Disk.{Reads}
use Rattle.qh_slots.specs.Layout.{head, place}
use Rattle.qh_slots.specs.Stands.{Slots}
use Rattle.qh_parts.specs.Laying.{IsLaid}
use Rattle.qh_parts.proofs.PlaceLemmas.{at_place, below_room}
use Rattle.qh_parts.proofs.LayLemmas.{closed_on}
use Rattle.qh_migrate.specs.Laid.{front_of, put}
use Rattle.qh_migrate.specs.Moving.{count_open}
use Rattle.qh_migrate.proofs.LaidLemmas.{front_more, count_more, count_most, count_one}
use Rattle.qh_migrate.proofs.moving.put_all.Goals as goal

pub overflow_add-at : goal.overflow_add-at
overflow_add-at g c =
    let n : c.from.result ≡ c.loop-range.range = search rules in
    let low : c.loop-range.range < ranges c.args.job.now = search (rules, arith) in
    let at = at_place c.args.job.now c.args.start c.from.result c.slot_size-size.result c.loop-range.range c.requires.start n c.slot_size-size.ensures in
    let most = below_room c.args.job.now c.loop-range.range low c.requires.short in
    search (rules, arith)

pub put-requires-clause-at : goal.put-requires-clause-at
put-requires-clause-at g c =
    let n : c.from.result ≡ c.loop-range.range = search rules in
    at_place c.args.job.now c.args.start c.from.result c.slot_size-size.result c.loop-range.range c.requires.start n c.slot_size-size.ensures

pub returns-in_err-moved-clause-closed : goal.returns-in_err-moved-clause-closed
returns-in_err-moved-clause-closed g c = closed_on _ _ _ c.loop-range.invariant.closed c.put.ensures.closed

pub overflow_add-moved : goal.overflow_add-moved
overflow_add-moved g c =
    let low : c.loop-range.range < ranges c.args.job.now = search (rules, arith) in
    let few : ranges c.args.job.now ≤ 16384 = c.ranges-range-end.ensures.valid.few_ranges in
    let table = c.requires.table in
    let a = count_most (take c.loop-range.range c.args.table.now) in
    let l = length-take-le c.loop-range.range c.args.table.now (omega arith) in
    let b = count_one c.index-table-range.result in
    let i = c.loop-range.invariant.count in
    let m = c.in_ok-moved.ensures.count in
    search (rules, arith)

pub loop-range-preserved : goal.loop-range-preserved
loop-range-preserved g c =
    let low : c.loop-range.range < length c.args.table.now = (let t = c.requires.table in search (rules, arith)) in
    let e : c.index-table-range.result ≡ get_or c.args.table.now c.loop-range.range None = c.index-table-range.is ∙ get_or_default c.args.table.now c.loop-range.range c.index-table-range.result None low in
    record {
      space = c.put.ensures.space;
      laid = subst (λ (s : Slots). Reads (g.D.Disk.face c.put.new.disk) (IsLaid c.args.job.now s)) (front_more c.loop-range.range c.args.table.now c.index-table-range.result low e)
          (c.in_ok-moved.ensures.laid (front_of c.loop-range.range c.args.table.now) c.loop-range.invariant.laid);
      count = (let i = c.loop-range.invariant.count in let m = c.in_ok-moved.ensures.count in let k = count_more c.loop-range.range c.args.table.now c.index-table-range.result low e in omega arith);
      closed = closed_on _ _ _ c.loop-range.invariant.closed c.put.ensures.closed;
      same = c.put.ensures.same ∙ c.loop-range.invariant.same;
    }
