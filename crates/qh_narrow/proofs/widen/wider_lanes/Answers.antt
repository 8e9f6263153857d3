use Rattle.std.proofs.Common.{◌≡◌, ◌≤◌, ◌<◌, ◌+◌, ◌^◌, ℕ, arith, rules, ap, sym, subst, ◌∙◌}
use Rattle.std.specs.Prelude.{FitsSigned}
use Rattle.std.specs.Int.{w64}
use Rattle.std.proofs.lemmas.Int.{to_z-of_z}
use Rattle.qh_narrow.proofs.WidenLemmas.{lane_room, lane_read, lane_small, wider_none, wider_more, wider_below}
use Rattle.qh_narrow.proofs.widen.wider_lanes.Goals as goal

pub lane_count-count-requires : goal.lane_count-count-requires
lane_count-count-requires g c = subst (λ (n : ℕ). n ≤ 4) (sym c.PLACES.ensures) g.met.W.Vector.few_places

pub loop-r-init : goal.loop-r-init
loop-r-init g c =
    wider_none (2 ^ g.W.Vector.PLACES) g.W.Vector.ROOM c.args.from (g.N.Vector.lanes c.args.x) (g.W.Vector.lanes c.zero-wide.result) c.zero-wide.ensures

pub overflow_add-lane : goal.overflow_add-lane
overflow_add-lane g c =
    let end : c.lane_count-count.result ≡ 2 ^ g.W.Vector.PLACES = c.lane_count-count.ensures ∙ ap (λ (p : ℕ). 2 ^ p) c.PLACES.ensures in
    let small : c.args.from + c.loop-r.r < 2 ^ 64 =
    lane_small c.args.from c.loop-r.r g.W.Vector.PLACES g.N.Vector.PLACES g.met.N.Vector.few_places c.requires.from (subst (λ (n : ℕ). c.loop-r.r < n) end c.loop-r-test.true) in
    omega (arith, small)

pub get-number-requires-clause-lane : goal.get-number-requires-clause-lane
get-number-requires-clause-lane g c =
    let end : c.lane_count-count.result ≡ 2 ^ g.W.Vector.PLACES = c.lane_count-count.ensures ∙ ap (λ (p : ℕ). 2 ^ p) c.PLACES.ensures in
    lane_read c.args.from c.loop-r.r g.W.Vector.PLACES g.N.Vector.PLACES c.requires.from (subst (λ (n : ℕ). c.loop-r.r < n) end c.loop-r-test.true)

pub with-wide-requires-clause-lane : goal.with-wide-requires-clause-lane
with-wide-requires-clause-lane g c =
    let end : c.lane_count-count.result ≡ 2 ^ g.W.Vector.PLACES = c.lane_count-count.ensures ∙ ap (λ (p : ℕ). 2 ^ p) c.PLACES.ensures in
    subst (λ (n : ℕ). c.loop-r.r < n) end c.loop-r-test.true

pub with-wide-requires-clause-below : goal.with-wide-requires-clause-below
with-wide-requires-clause-below g c = c.loop-r.invariant.below

pub with-wide-requires-clause-number : goal.with-wide-requires-clause-number
with-wide-requires-clause-number g c =
    let end : c.lane_count-count.result ≡ 2 ^ g.W.Vector.PLACES = c.lane_count-count.ensures ∙ ap (λ (p : ℕ). 2 ^ p) c.PLACES.ensures in
    let fits : FitsSigned w64 c.get-number.result = search rules in
    rw (to_z-of_z w64 c.get-number.result fits)
    (lane_room (2 ^ g.N.Vector.PLACES) g.N.Vector.ROOM g.W.Vector.ROOM (c.args.from + c.loop-r.r) (g.N.Vector.lanes c.args.x) c.get-number.result c.requires.below c.requires.room
    (lane_read c.args.from c.loop-r.r g.W.Vector.PLACES g.N.Vector.PLACES c.requires.from (subst (λ (n : ℕ). c.loop-r.r < n) end c.loop-r-test.true)) c.get-number.ensures)

pub loop-r-preserved : goal.loop-r-preserved
loop-r-preserved g c =
    let end : c.lane_count-count.result ≡ 2 ^ g.W.Vector.PLACES = c.lane_count-count.ensures ∙ ap (λ (p : ℕ). 2 ^ p) c.PLACES.ensures in
    let here : c.loop-r.r < 2 ^ g.W.Vector.PLACES = subst (λ (n : ℕ). c.loop-r.r < n) end c.loop-r-test.true in
    let fits : FitsSigned w64 c.get-number.result = search rules in
    let written = rw (to_z-of_z w64 c.get-number.result fits) at c.with-wide.ensures in
    wider_more (2 ^ g.W.Vector.PLACES) g.W.Vector.ROOM c.args.from (g.N.Vector.lanes c.args.x) (g.W.Vector.lanes c.loop-r.wide) (g.W.Vector.lanes c.with-wide.result) c.loop-r.r c.get-number.result here
    (lane_room (2 ^ g.N.Vector.PLACES) g.N.Vector.ROOM g.W.Vector.ROOM (c.args.from + c.loop-r.r) (g.N.Vector.lanes c.args.x) c.get-number.result c.requires.below c.requires.room
    (lane_read c.args.from c.loop-r.r g.W.Vector.PLACES g.N.Vector.PLACES c.requires.from here) c.get-number.ensures)
    c.get-number.ensures written c.loop-r.invariant

pub returns-clause-lanes : goal.returns-clause-lanes
returns-clause-lanes g c r l =
    let end : c.lane_count-count.result ≡ 2 ^ g.W.Vector.PLACES = c.lane_count-count.ensures ∙ ap (λ (p : ℕ). 2 ^ p) c.PLACES.ensures in
    let done : 2 ^ g.W.Vector.PLACES ≤ c.loop-r.r = subst (λ (n : ℕ). n ≤ c.loop-r.r) end c.loop-r-test.false in
    c.loop-r.invariant.done r (omega (arith, l, done))

pub returns-clause-below : goal.returns-clause-below
returns-clause-below g c bits h =
    let end : c.lane_count-count.result ≡ 2 ^ g.W.Vector.PLACES = c.lane_count-count.ensures ∙ ap (λ (p : ℕ). 2 ^ p) c.PLACES.ensures in
    let done : 2 ^ g.W.Vector.PLACES ≤ c.loop-r.r = subst (λ (n : ℕ). n ≤ c.loop-r.r) end c.loop-r-test.false in
    wider_below (2 ^ g.N.Vector.PLACES) (2 ^ g.W.Vector.PLACES) g.W.Vector.ROOM c.args.from bits (g.N.Vector.lanes c.args.x) (g.W.Vector.lanes c.loop-r.wide) c.loop-r.r done c.requires.from c.loop-r.invariant h
