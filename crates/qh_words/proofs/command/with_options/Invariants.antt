use Rattle.std.proofs.Common.{◌≡◌, fold, map, take}
use Rattle.clap.specs.Words.{app_of}
use Rattle.qh_words.specs.Command.{with_letter}
use Rattle.qh_words.proofs.command.with_options.Given as goal

abbrev pub invariant-loop-name : goal.invariant-loop-name
invariant-loop-name l = app_of l.command ≡ fold with_letter (app_of l.initial.command) (map (λ o. o.1) (take l.name-index l.options))
