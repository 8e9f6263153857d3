use Rattle.std.proofs.Common.{◌++◌, take, refl, arith, length-append}
use Rattle.std.proofs.KnownBytes.{Consumes-trans}
use Rattle.qh_io.proofs.reading.read_all.Goals as goal

pub returns-then-count-limit-clause-taken : goal.returns-then-count-limit-clause-taken
returns-then-count-limit-clause-taken g c =
    let piece = take c.in-Ok.count c.read.new.buf in (
      c.loop-count.bytes.items ++ piece,
      Consumes-trans _ _ _ _ _ c.loop-count.invariant.gone c.in-Ok.ensures.bytes.0,
      ((λ _. omega (arith, length-append c.loop-count.bytes.items piece, c.in-Ok.ensures.bound.1)), (λ _. refl)),
      tt,
    )

pub returns-in_default-extend_from_slice-clause-taken :
    goal.returns-in_default-extend_from_slice-clause-taken
returns-in_default-extend_from_slice-clause-taken g c =
    let piece = take c.in-Ok.count c.read.new.buf in (
      c.loop-count.bytes.items ++ piece,
      Consumes-trans _ _ _ _ _ c.loop-count.invariant.gone c.in-Ok.ensures.bytes.0,
      ((λ e. cc), (λ h. absurd (omega (arith, length-append c.loop-count.bytes.items piece, c.in-Ok.ensures.bound.1)))),
      tt,
    )
