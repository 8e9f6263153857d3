use Rattle.std.specs.Int.{w64}
use Rattle.qh_kernel.proofs.WordLemmas.{put, word_back}
use Rattle.qh_kernel.proofs.lanes64.I64x8Vector.with.Goals as goal

pub returns : goal.returns
returns c = put w64 8 c.args.self c.args.lane c.args.number _ c.requires.lane c.requires.below c.requires.number (word_back w64 c.args.number c.requires.number)
