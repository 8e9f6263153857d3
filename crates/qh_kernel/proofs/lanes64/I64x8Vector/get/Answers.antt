use Rattle.std.proofs.Common.{◌∙◌, ap, List, ℤ}
use Rattle.std.specs.Int.{w64}
use Rattle.qh_kernel.specs.Lanes.{at_lane}
use Rattle.qh_kernel.proofs.WordLemmas.{back, word_back}
use mir.Val.{to_z, of_z}
use Rattle.qh_kernel.proofs.lanes64.I64x8Vector.get.Goals as goal

pub returns : goal.returns
returns c =
    ap (λ (u : List ℤ). to_z w64 (of_z w64 (at_lane u c.args.lane))) (back w64 8 c.args.self c.requires.below)
    ∙ word_back w64 (at_lane c.args.self c.args.lane) (c.requires.below.each c.args.lane c.requires.lane)
