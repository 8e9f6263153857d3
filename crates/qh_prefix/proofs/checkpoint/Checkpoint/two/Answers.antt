use Rattle.std.proofs.Common.{subst}
use Rattle.qh_prefix.specs.declared.part.Part.TheVariants.{Two}
use Rattle.qh_prefix.specs.Checkpoints.{Checkpoint, IsAtPrefix}
use Rattle.qh_prefix.proofs.checkpoint.Checkpoint.two.Goals as goal

pub returns-clause-holds : goal.returns-clause-holds
returns-clause-holds c = subst (λ (v : Checkpoint). IsAtPrefix Two v.job v.prefix c.self.inside.two) c.self.view_is c.self.invariant.two
