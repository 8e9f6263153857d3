use Rattle.std.proofs.Common.{length, arith, rules}
use Rattle.std.specs.Prelude.{FitsSigned}
use Rattle.std.specs.Int.{w128}
use Rattle.std.proofs.lemmas.Int.{to_z-of_z}
use Rattle.std.proofs.lemmas.Slice.{between_to_end}
use Rattle.qh_slots.specs.Slots.{int_bytes}
use Rattle.qh_slots.proofs.SlotLemmas.{int_size}
use Rattle.qh_slots.proofs.ByteLemmas.{put_written}
use Rattle.qh_slots.proofs.numbers.write_int.Goals as goal

pub returns : goal.returns
unfolding int_bytes
returns c =
    let fits : FitsSigned w128 c.args.x = search rules in
    let e = rw (to_z-of_z w128 c.args.x fits, between_to_end c.args.bytes.now c.args.at (length c.args.bytes.now) (omega arith)) at c.write_i128.ensures in
    let n = int_size c.args.x in
    put_written c.args.at c.args.bytes.now c.write_i128.new.buf (int_bytes c.args.x) (omega arith) e
