use Rattle.std.proofs.Common.{arith, ◌<◌, ◌+◌}
use Rattle.std.proofs.lemmas.List.Elements.{length_all_zip}
use Rattle.qh_plan.proofs.DigitLemmas.{read_more, read_below}
use Rattle.qh_plan.proofs.paths.path_number.Goals as goal

pub bounds-digits-i : goal.bounds-digits-i
bounds-digits-i c = let e = length_all_zip (λ d r. d < r) c.args.digits.now c.args.radices.now c.requires.below in omega arith

pub overflow_mul-number : goal.overflow_mul-number
overflow_mul-number c =
    let e = length_all_zip (λ d r. d < r) c.args.digits.now c.args.radices.now c.requires.below in
    let h = read_more c.args.radices.now c.args.digits.now c.loop-i.i c.loop-i.number 0 0 c.loop-i.invariant c.loop-i-test.true (omega arith) in
    let l = read_below c.args.radices.now c.args.digits.now (c.loop-i.i + 1) _ h c.requires.known c.requires.below in
    rw c.from.ensures (omega (arith, l))

pub overflow_add-number : goal.overflow_add-number
overflow_add-number c =
    let e = length_all_zip (λ d r. d < r) c.args.digits.now c.args.radices.now c.requires.below in
    let h = read_more c.args.radices.now c.args.digits.now c.loop-i.i c.loop-i.number 0 0 c.loop-i.invariant c.loop-i-test.true (omega arith) in
    let l = read_below c.args.radices.now c.args.digits.now (c.loop-i.i + 1) _ h c.requires.known c.requires.below in
    rw (c.from.ensures, c.from-in-loop-i.ensures) (omega (arith, l))

pub loop-i-preserved : goal.loop-i-preserved
loop-i-preserved c =
    let e = length_all_zip (λ d r. d < r) c.args.digits.now c.args.radices.now c.requires.below in
    let h = read_more c.args.radices.now c.args.digits.now c.loop-i.i c.loop-i.number 0 0 c.loop-i.invariant c.loop-i-test.true (omega arith) in
    rw (c.from.ensures, c.from-in-loop-i.ensures) h
