use Rattle.std.proofs.Common.{◌∙◌}
use Rattle.qh_uncut.proofs.EntryLemmas.{quad_none, quad_some}
use Rattle.qh_uncut.proofs.entries.quad_number.Goals as goal

pub returns-in_default : goal.returns-in_default
returns-in_default c =
    quad_none c.args.m.now.rows c.args.onlys.now c.args.q0 c.args.q1 c.args.v.now c.args.x c.bit_of.result c.bit_of-2.result c.requires.only
    c.bit_of.ensures.value c.bit_of-2.ensures.value c.bit_of.ensures.bit c.bit_of-2.ensures.bit c.in_default.is

pub returns : goal.returns
returns c =
    c.times_unit.ensures.value
    ∙ quad_some c.args.m.now.rows c.args.onlys.now c.args.q0 c.args.q1 c.args.v.now c.args.x c.bit_of.result c.bit_of-2.result c.requires.only
    c.bit_of.ensures.value c.bit_of-2.ensures.value c.bit_of.ensures.bit c.bit_of-2.ensures.bit c.in-Some.turn c.with_column-source.result c.in-Some.is
    c.with_column-source.ensures.value
