use Rattle.std.proofs.Common.{◌≡◌, ◌∙◌, ap, map, subst, []}
use Rattle.clap.specs.Words.{App, HasMatchesOf, app_of, fault_of, is_simple_and_free}
use Rattle.qh_words.specs.Command.{command}
use Rattle.qh_words.proofs.Simple.{free}
use Rattle.qh_words.proofs.command.matches.Goals as goal

pub returns-in-Ok-try_get_matches_from-clause-taken :
    goal.returns-in-Ok-try_get_matches_from-clause-taken
returns-in-Ok-try_get_matches_from-clause-taken c =
    let is : app_of c.in-Ok.command ≡ command = c.in-Ok.ensures in
    let words = map (λ s. s.now) c.args.words.now in
    let parse = c.in-Ok-try_get_matches_from in
    subst (λ (a : App). fault_of a words ≡ []) is (parse.ensures.kinds (ap is_simple_and_free is ∙ free))

pub returns-in-Ok-try_get_matches_from-clause-matches :
    goal.returns-in-Ok-try_get_matches_from-clause-matches
returns-in-Ok-try_get_matches_from-clause-matches c =
    let is : app_of c.in-Ok.command ≡ command = c.in-Ok.ensures in
    let words = map (λ s. s.now) c.args.words.now in
    let parse = c.in-Ok-try_get_matches_from in
    subst (λ (a : App). HasMatchesOf a words parse.matches) is parse.ensures.matches
