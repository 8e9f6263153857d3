use Rattle.std.proofs.Common.{◌*◌, ◌^◌, arith}
use Rattle.qh_gen.specs.Drawings.{next_state}
use Rattle.qh_gen.proofs.StepLemmas.{mod_before}
use Rattle.qh_gen.proofs.draw.next_state.Goals as goal

pub returns : goal.returns
unfolding next_state
returns c = mod_before (c.args.state * 6364136223846793005) 1442695040888963407 (2 ^ 64) (omega arith)
