-- The command is one of which `clap` gives the exact matches and refusals.
use Rattle.std.proofs.Common.{◌≡◌, ◌∙◌, ap, refl, true, List}
use Rattle.clap.specs.Words.{Text, HasMatchesOf, found_of, first_of, is_simple, is_simple_and_free, matches_of}
use Rattle.clap.specs.declared.parser.matches.ArgMatches.{ArgMatches}
use Rattle.clap.proofs.OnLiterals.{clap_on_literals}
use Rattle.clap.proofs.WalkLemmas.{first_value-rows}
use Rattle.qh_words.specs.Command.{command, value_in}

pub simple : is_simple command ≡ true
unfolding clap_on_literals command
simple = refl

pub free : is_simple_and_free command ≡ true
unfolding clap_on_literals command
free = refl

-- the values among matches, by the words
pub values : (m : ArgMatches) (words : List Text) (letter : Text) → HasMatchesOf command words m
    → value_in m letter ≡ first_of letter (matches_of command words)
values m words letter h = first_value-rows (found_of m) letter ∙ ap (first_of letter) (h simple).0
