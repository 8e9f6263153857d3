use Rattle.std.proofs.lemmas.Bool.{false_from_ne_true}
use Rattle.qh_words.specs.Request.{has_source}
use Rattle.qh_words.specs.Command.{value_in}
use Rattle.qh_words.proofs.Requests.{no_source}
use Rattle.qh_words.proofs.read.read_options.Goals as goal

pub returns-in_default-read_source-clause-usage : goal.returns-in_default-read_source-clause-usage
returns-in_default-read_source-clause-usage c =
    λ _. no_source _ _ _ _ _ _ (false_from_ne_true (has_source (value_in c.args.matches.now)) c.in_default-read_source.ensures)
