use Rattle.std.proofs.Common.{arith, rules, refl, ◌<◌, ◌≤◌, ◌^◌, ◌∙◌, [], ◌∷◌, ℕ, length, subst, sym, IsTrue}
use Rattle.qh_ring.specs.Numbers.{IsWithin}
use Rattle.qh_ring.specs.Matrices.{number_in}
use Rattle.qh_blocks.specs.Blocks.{lane}
use Rattle.qh_blocks.specs.Numbers.{number_at}
use Rattle.qh_blocks.specs.Widths.{two_rows, width_after}
use Rattle.qh_blocks.proofs.WidthLemmas.{width_room}
use Rattle.qh_blocks.proofs.PartLemmas.{block_more}
use Rattle.qh_blocks.proofs.ValueLemmas.{applied_within}
use Rattle.qh_blocks.proofs.FitLemmas.{fit_one, fit_all, fit_each, block_of_lanes, lane_is_within, read_number}
use Rattle.qh_blocks.proofs.fit.lanes_fit.Goals as goal

pub is_within-requires-clause-block : goal.is_within-requires-clause-block
is_within-requires-clause-block g c =
    block_more g.V.Vector.lanes (2 ^ g.V.Vector.PLACES) (width_after (two_rows c.args.first c.args.second c.args.third c.args.fourth) c.args.bits) g.V.Vector.ROOM c.new_lanes-new.result (width_room (two_rows c.args.first c.args.second c.args.third c.args.fourth) c.args.bits g.V.Vector.ROOM c.requires.room) c.new_lanes-new.ensures.block

pub returns-then-not-is_within : goal.returns-then-not-is_within
returns-then-not-is_within g c = (
  λ t. search rules,
  λ all.
      let value = λ (r : ℕ) (lr : r < 2 ^ g.V.Vector.PLACES).
      c.new_lanes-new.ensures.lanes r lr
      ∙ applied_within g.V.Vector.PLACES (number_in (two_rows c.args.first c.args.second c.args.third c.args.fourth)) (c.args.q ∷ []) (number_at g.V.Vector.lanes g.V.Vector.PLACES c.args.v.now) (λ s. lane g.V.Vector.lanes s c.block_at-x.result) r c.loop-n.n (c.requires.place, tt) lr
      (read_number g.V.Vector.lanes g.V.Vector.PLACES c.args.v.now c.loop-n.n c.block_at-x.result c.loop-n-test.true c.block_at-x.ensures) in
      subst IsTrue c.if-not-is_within.true
      (c.is_within.ensures.1 (block_of_lanes g.V.Vector.lanes (2 ^ g.V.Vector.PLACES) c.args.limit (width_after (two_rows c.args.first c.args.second c.args.third c.args.fourth) c.args.bits) c.new_lanes-new.result c.new_lanes-new.ensures.block
      (λ r lr. subst (IsWithin c.args.limit) (sym (value r lr)) (fit_each g.V.Vector.lanes g.V.Vector.PLACES (number_in (two_rows c.args.first c.args.second c.args.third c.args.fourth)) (c.args.q ∷ []) c.args.limit c.args.v.now c.loop-n.n r c.loop-n-test.true lr all)))),
)

pub loop-n-preserved : goal.loop-n-preserved
loop-n-preserved g c =
    let value = λ (r : ℕ) (lr : r < 2 ^ g.V.Vector.PLACES).
    c.new_lanes-new.ensures.lanes r lr
    ∙ applied_within g.V.Vector.PLACES (number_in (two_rows c.args.first c.args.second c.args.third c.args.fourth)) (c.args.q ∷ []) (number_at g.V.Vector.lanes g.V.Vector.PLACES c.args.v.now) (λ s. lane g.V.Vector.lanes s c.block_at-x.result) r c.loop-n.n (c.requires.place, tt) lr
    (read_number g.V.Vector.lanes g.V.Vector.PLACES c.args.v.now c.loop-n.n c.block_at-x.result c.loop-n-test.true c.block_at-x.ensures) in
    fit_one g.V.Vector.lanes g.V.Vector.PLACES (number_in (two_rows c.args.first c.args.second c.args.third c.args.fourth)) (c.args.q ∷ []) c.args.limit c.args.v.now c.loop-n.n c.loop-n.invariant
    (λ r lr. subst (IsWithin c.args.limit) (value r lr) (lane_is_within g.V.Vector.lanes (2 ^ g.V.Vector.PLACES) c.args.limit c.new_lanes-new.result r lr (c.is_within.ensures.0 c.if-not-is_within.false)))

pub returns : goal.returns
returns g c = (
  λ t. fit_all g.V.Vector.lanes g.V.Vector.PLACES (number_in (two_rows c.args.first c.args.second c.args.third c.args.fourth)) (c.args.q ∷ []) (λ k. k) c.args.limit c.args.v.now c.loop-n.n (λ k l. let e : length c.args.v.now ≤ c.loop-n.n = c.loop-n-test.false in omega arith) c.loop-n.invariant,
  λ all. refl,
)
