use Rattle.std.proofs.Common.{rules, arith, ◌+◌, ◌*◌, ◌/◌, ◌%◌, ◌^◌, ◌<◌, bit_and, length, slice_index_or, refl, sym, ap, subst, ◌∙◌}
use Rattle.std.proofs.lemmas.List.{take_all}
use Rattle.qh_prefix.specs.Parts.{index_on}
use Rattle.qh_prefix.proofs.IndexLemmas.{next, index_lt}
use Rattle.qh_prefix.proofs.index.index_on.Goals as goal

pub overflow_add-index : goal.overflow_add-index
overflow_add-index c =
    let q = slice_index_or c.args.qubits.now c.loop-number.number 0 in
    let m = next c.args.qubits.now c.loop-number.number c.args.x c.loop-number.index q c.loop-number-test.true c.requires.few refl c.loop-number.invariant in
    let small : c.loop-number.index + bit_and (c.args.x / 2 ^ q) 1 * 2 ^ c.loop-number.number % 4294967296 < 2 ^ 32 = omega (arith, m.fits) in
    search (rules, small)

pub loop-number-preserved : goal.loop-number-preserved
loop-number-preserved c =
    (next c.args.qubits.now c.loop-number.number c.args.x c.loop-number.index (slice_index_or c.args.qubits.now c.loop-number.number 0)
    c.loop-number-test.true c.requires.few refl c.loop-number.invariant).value

pub returns-clause-within : goal.returns-clause-within
returns-clause-within c =
    subst (λ j. j < 2 ^ length c.args.qubits.now)
    (sym (c.loop-number.invariant ∙ ap (λ qs. index_on qs c.args.x) (take_all c.loop-number.number c.args.qubits.now c.loop-number-test.false)))
    (index_lt c.args.qubits.now c.args.x)
