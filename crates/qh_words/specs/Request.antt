-- What the words ask for, option by option.
use Rattle.std.specs.Prelude.{ℕ, ◌+◌, ◌≤◌, ◌&&◌, ◌||◌, Bool, true, false, not, nat_le}
use Rattle.std.specs.Prelude.{bytes_eq, List, Option, Some, None, is_some, codes, option_map, option_and_then, if◌then◌else◌}
use Rattle.std.specs.Option.{option_map_or}
use Rattle.qh_text.specs.Decimal.{number_below, value_of}
use Rattle.qh_limits.specs.Limits.{max_crossing, max_lease, max_workers}
use Rattle.qh_words.specs.Command.{given, is_taken}
use Rattle.qh_words.specs.Size.{size_of}
use Rattle.qh_words.specs.declared.options.Options.{Options}

-- the values of the options, by their names
abbrev pub Values : Type 0
Values = List ℕ → Option (List ℕ)

-- the option is absent, or its value is a decimal number of at most `most`
abbrev pub is_number : ℕ → Option (List ℕ) → Bool
is_number most value = option_map_or (λ text. is_some (number_below (most + 1) text)) value true

-- the number of an option, or the default where the option is absent
abbrev pub number_or : ℕ → Option (List ℕ) → ℕ
number_or default value = option_map_or value_of value default

-- the option is absent, or its value is a decimal number from `least` to `most`
abbrev pub is_number_from : ℕ → ℕ → Option (List ℕ) → Bool
is_number_from least most value = is_number most value && nat_le least (number_or least value)

-- the flag is given
abbrev pub is_set : Option (List ℕ) → Bool
is_set value = option_map_or (λ text. bytes_eq text (codes "true")) value false

-- each number is one of its range: the greatest time, the prefix and root gates, the prefix value,
-- the verbosity, the workers and the seconds of a lease
abbrev pub has_numbers : Values → Bool
has_numbers value = is_number 4294967295 (value (codes "d")) && is_number max_crossing (value (codes "p"))
    && is_number max_crossing (value (codes "r")) && is_number 4294967295 (value (codes "w"))
    && is_number 4294967295 (value (codes "v")) && is_number_from 1 max_workers (value (codes "t"))
    && is_number max_lease (value (codes "l"))

-- a circuit and bitstrings from files, or a generated circuit whose size stands alone
abbrev pub has_source : Values → Bool
has_source value = if is_some (value (codes "g"))
    then is_some (option_and_then size_of (value (codes "g")))
    && not (is_some (value (codes "c")) || is_some (value (codes "i")) || is_some (value (codes "d")))
    else is_some (value (codes "c")) && is_some (value (codes "i"))

-- prefix gates, root gates, a prefix value, a lease, a journal and an emptied one only with a part 1
abbrev pub has_cut : Values → Bool
has_cut value = is_some (value (codes "k"))
    || not (is_some (value (codes "p")) || is_some (value (codes "r")) || is_some (value (codes "w"))
    || is_some (value (codes "l")) || is_some (value (codes "j")) || is_set (value (codes "new")))

-- an emptied journal and an old one to fill it from only with a journal
abbrev pub has_journal : Values → Bool
has_journal value = is_some (value (codes "j")) || not (is_set (value (codes "new")) || is_some (value (codes "from")))

-- probabilities are asked only of a circuit that is not cut
abbrev pub has_prob : Values → Bool
has_prob value = not (is_set (value (codes "prob"))) || not (is_some (value (codes "k")))

-- the options, by their values
abbrev pub asked : Values → Options
asked value = record {
  circuit = value (codes "c");
  bits = value (codes "i");
  part = value (codes "k");
  out = value (codes "o");
  max_time = number_or 4294967295 (value (codes "d"));
  p = number_or 0 (value (codes "p"));
  r = number_or 0 (value (codes "r"));
  w = option_map value_of (value (codes "w"));
  generated = option_and_then size_of (value (codes "g"));
  journal = value (codes "j");
  fresh = is_set (value (codes "new"));
  workers = number_or 1 (value (codes "t"));
  lease = option_map value_of (value (codes "l"));
  from = value (codes "from");
  prob = is_set (value (codes "prob"));
}

-- a run has 1 to 16 workers
abbrev pub HasWorkers : Options → Type 0
HasWorkers o = (1 ≤ o.workers) × (o.workers ≤ max_workers)

abbrev pub options_by : Values → Option Options
options_by value =
    if has_numbers value && has_source value && has_cut value && has_journal value && has_prob value then Some (asked value) else None

-- what the words after the program's name ask for; none where they are no request
unfoldable pub options_of : List (List ℕ) → Option Options
options_of words = if is_taken words then options_by (given words) else None
