use Rattle.std.proofs.Common.{length, drop, arith, rules}
use Rattle.std.specs.Prelude.{FitsSigned}
use Rattle.std.specs.Int.{w128}
use Rattle.std.proofs.lemmas.Int.{to_z-of_z}
use Rattle.std.proofs.lemmas.List.{length-drop}
use Rattle.std.proofs.lemmas.Slice.{between_to_end}
use Rattle.qh_slots.proofs.ByteLemmas.{int_from, bytes_dropped}
use Rattle.qh_slots.proofs.numbers.read_int.Goals as goal

pub returns : goal.returns
returns c =
    let fits : FitsSigned w128 c.read_i128.result = search rules in
    let long = length-drop c.args.at c.args.bytes.now in
    rw (to_z-of_z w128 c.read_i128.result fits, c.read_i128.ensures, between_to_end c.args.bytes.now c.args.at (length c.args.bytes.now) (omega arith))
    (int_from (drop c.args.at c.args.bytes.now) (omega arith) (bytes_dropped c.args.at c.args.bytes.now (λ i. let f = c.type_inv.bytes i in omega arith)))
