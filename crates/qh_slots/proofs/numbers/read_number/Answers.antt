use Rattle.std.proofs.Common.{rules}
use Rattle.std.specs.Prelude.{FitsSigned}
use Rattle.std.specs.Int.{w128}
use Rattle.std.proofs.lemmas.Int.{to_z-of_z}
use Rattle.qh_slots.proofs.ByteLemmas.{omega_from}
use Rattle.qh_slots.proofs.numbers.read_number.Goals as goal

pub returns-clause-bytes : goal.returns-clause-bytes
returns-clause-bytes c =
    let a : FitsSigned w128 c.read_int.result = search rules in
    let b : FitsSigned w128 c.read_int-2.result = search rules in
    let d : FitsSigned w128 c.read_int-3.result = search rules in
    let e : FitsSigned w128 c.read_int-4.result = search rules in
    rw (to_z-of_z w128 c.read_int.result a, to_z-of_z w128 c.read_int-2.result b, to_z-of_z w128 c.read_int-3.result d, to_z-of_z w128 c.read_int-4.result e)
    (omega_from c.args.bytes.now (record { a = c.read_int.result; b = c.read_int-2.result; c = c.read_int-3.result; d = c.read_int-4.result }) c.requires
    c.read_int.ensures c.read_int-2.ensures c.read_int-3.ensures c.read_int-4.ensures)
