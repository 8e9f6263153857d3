use Rattle.std.proofs.Common.{length, drop, subst, sym, arith}
use Rattle.std.proofs.Math.Seq.{take-add}
use Rattle.std.proofs.KnownBytes.{Appends-trans}
use Rattle.std.specs.Io.KnownBytes.{Appends}
use Rattle.std.proofs.Common.{length-drop, ◌-◌}
use Rattle.std.proofs.lemmas.List.{take_all}
use Rattle.qh_io.proofs.writing.write_all_of.Goals as goal

pub loop-written-preserved : goal.loop-written-preserved
loop-written-preserved g c =
    let bytes = c.args.bytes.now in
    let n = c.loop-written.written in
    let whole = take_all (length bytes - n) (drop n bytes) (omega (arith, length-drop n bytes)) in
    let piece = rw whole at c.in-Ok.ensures.bytes in
    record {
      later = omega (arith, c.in-Ok.ensures.cause.later);
      in_range = omega (arith, c.in-Ok.ensures.bound, length-drop n bytes);
      held = subst (Appends (g.K.Sink.held c.args.sink.now) (g.K.Sink.held c.write.new.self)) (sym (take-add n c.in-Ok.count bytes))
          (Appends-trans _ _ _ _ _ c.loop-written.invariant.held piece);
    }
