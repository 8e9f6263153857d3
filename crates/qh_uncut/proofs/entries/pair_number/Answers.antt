use Rattle.std.proofs.Common.{◌∙◌}
use Rattle.qh_uncut.proofs.EntryLemmas.{applied_one}
use Rattle.qh_uncut.proofs.entries.pair_number.Goals as goal

pub returns : goal.returns
returns c =
    c.row_number.ensures
    ∙ applied_one c.args.m.now.rows c.args.q c.args.v.now c.args.x c.bit_of.result c.with_bit-low.result c.with_bit-high.result
    c.bit_of.ensures.value c.with_bit-low.ensures.value c.with_bit-high.ensures.value
