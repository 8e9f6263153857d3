use Rattle.std.proofs.Common.{arith, rules, sym, ap, ◌∙◌}
use Rattle.qh_ring.specs.Numbers.{product, unit_power}
use Rattle.qh_blocks.specs.Blocks.{lane}
use Rattle.qh_blocks.specs.Numbers.{one_of_four}
use Rattle.qh_blocks.proofs.RowLemmas.{four_one, four_none}
use Rattle.qh_blocks.proofs.rows.only_of.Goals as goal

pub returns-in-Unit-clause-lanes : goal.returns-in-Unit-clause-lanes
returns-in-Unit-clause-lanes g c r l =
    sym (four_one c.args.row.now (one_of_four (lane g.V.Vector.lanes r c.args.x.now) (lane g.V.Vector.lanes r c.args.y.now) (lane g.V.Vector.lanes r c.args.z.now) (lane g.V.Vector.lanes r c.args.t.now)) 0 c.in-Unit.power (search rules) (omega arith) c.requires.single c.in-Unit.is)

pub returns-in-Unit-row-clause-lanes : goal.returns-in-Unit-row-clause-lanes
returns-in-Unit-row-clause-lanes g c r l =
    sym (four_one c.args.row.now (one_of_four (lane g.V.Vector.lanes r c.args.x.now) (lane g.V.Vector.lanes r c.args.y.now) (lane g.V.Vector.lanes r c.args.z.now) (lane g.V.Vector.lanes r c.args.t.now)) 1 c.in-Unit-row.power (search rules) (omega arith) c.requires.single c.in-Unit-row.is)

pub returns-in-Unit-row-2-clause-lanes : goal.returns-in-Unit-row-2-clause-lanes
returns-in-Unit-row-2-clause-lanes g c r l =
    sym (four_one c.args.row.now (one_of_four (lane g.V.Vector.lanes r c.args.x.now) (lane g.V.Vector.lanes r c.args.y.now) (lane g.V.Vector.lanes r c.args.z.now) (lane g.V.Vector.lanes r c.args.t.now)) 2 c.in-Unit-row-2.power (search rules) (omega arith) c.requires.single c.in-Unit-row-2.is)

pub returns-in-Unit-row-3-clause-lanes : goal.returns-in-Unit-row-3-clause-lanes
returns-in-Unit-row-3-clause-lanes g c r l =
    sym (four_one c.args.row.now (one_of_four (lane g.V.Vector.lanes r c.args.x.now) (lane g.V.Vector.lanes r c.args.y.now) (lane g.V.Vector.lanes r c.args.z.now) (lane g.V.Vector.lanes r c.args.t.now)) 3 c.in-Unit-row-3.power (search rules) (omega arith) c.requires.single c.in-Unit-row-3.is)

pub returns-clause-lanes : goal.returns-clause-lanes
unfolding product
returns-clause-lanes g c r l =
    ap (product (unit_power 0)) (c.nothing_block.ensures.lanes r l)
    ∙ sym (four_none c.args.row.now (one_of_four (lane g.V.Vector.lanes r c.args.x.now) (lane g.V.Vector.lanes r c.args.y.now) (lane g.V.Vector.lanes r c.args.z.now) (lane g.V.Vector.lanes r c.args.t.now))
    c.in_default.is c.in_default-row.is c.in_default-row-2.is c.in_default-row-3.is)

pub returns-clause-block : goal.returns-clause-block
returns-clause-block g c = c.nothing_block.ensures.block c.args.bits
