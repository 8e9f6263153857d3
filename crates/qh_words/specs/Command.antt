-- The command: its options, and what `clap` makes of words for it.
use Rattle.std.specs.Prelude.{ℕ, Bool, List, [], ◌∷◌, Option, Some, codes, fold, length, ◌==◌}
use Rattle.clap.specs.Words.{App, Rule, Text, fault_of, first_of, first_value, found_of, matches_of, new_app, new_rule, with_rule}
use Rattle.clap.specs.declared.parser.matches.ArgMatches.{ArgMatches}
use Rattle.clap.specs.declared.builder.action.ArgAction.TheVariants.{Set, SetTrue}

-- the letters of the options that have one; each has a value
abbrev pub letters : List ℕ
letters = codes "cidkprwovgjtl"

-- the option of a letter, as in `-x VALUE`; the matches know it by its letter
abbrev pub option_rule : ℕ → Rule
option_rule letter = record (new_rule (letter ∷ [])) { short = Some letter; action = Some Set }

abbrev pub with_letter : App → ℕ → App
with_letter app letter = with_rule app (option_rule letter)

-- the program's name
abbrev pub program : Text
program = codes "qsimh_amplitudes"

-- the flag `--new`: it has no value, and the matches know it by its name, with the text "true" where it is given
abbrev pub fresh_rule : Rule
fresh_rule = record (new_rule (codes "new")) { long = Some (codes "new"); action = Some SetTrue }

-- the option `--from VALUE`
abbrev pub from_rule : Rule
from_rule = record (new_rule (codes "from")) { long = Some (codes "from"); action = Some Set }

-- the flag `--prob`, which the matches know as they know `--new`
abbrev pub prob_rule : Rule
prob_rule = record (new_rule (codes "prob")) { long = Some (codes "prob"); action = Some SetTrue }

-- the command with its options, none of which is required
unfoldable pub command : App
command = with_rule (with_rule (with_rule (fold with_letter (new_app program) letters) fresh_rule) from_rule) prob_rule

-- `clap` takes the words; it refuses help
abbrev pub is_taken : List Text → Bool
is_taken words = length (fault_of command (program ∷ words)) == 0

-- the value that the words give to the option of a name, its letter or its long name, or none
abbrev pub given : List Text → Text → Option Text
given words name = first_of name (matches_of command (program ∷ words))

-- the value of the option of a name among matches
abbrev pub value_in : ArgMatches → Text → Option Text
value_in matches name = first_value (found_of matches) name
