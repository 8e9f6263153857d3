use Rattle.clap.specs.Words.{app_of}
use Rattle.qh_words.proofs.Commands.{name_at, one_more}
use Rattle.qh_words.proofs.command.with_options.Goals as goal

pub with_option-requires : goal.with_option-requires
with_option-requires c = name_at c.args.options.now c.loop-name.name-index _ c.loop-name-test.true c.requires

pub loop-name-preserved : goal.loop-name-preserved
loop-name-preserved c =
    one_more c.args.options.now c.loop-name.name-index _ (app_of c.args.command) (app_of c.loop-name.command)
    (app_of c.in_ok-command.command) c.loop-name-test.true c.loop-name.invariant c.in_ok-command.ensures
