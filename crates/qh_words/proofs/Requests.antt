-- From the matches to the options that the words ask for.
use Rattle.std.proofs.Common.{◌≡◌, ◌≢◌, ◌∙◌, ◌+◌, ◌<◌, ◌≤◌, ◌&&◌, ◌||◌, ◌==◌, ℕ, Bool, true, false, not, nat_lt, nat_le, is_some, List, [], ◌∷◌, length, Option, Some, None, refl, sym, ap, subst, codes, arith}
use Rattle.std.specs.Prelude.{if◌then◌else◌}
use Rattle.std.specs.Option.{IfSome}
use borrow.Author.Tests.{ltb-true, leb-true}
use Rattle.std.proofs.lemmas.Bool.{eqb-true, false_from_ne_true}
use Rattle.std.proofs.lemmas.Option.{cond_some}
use Rattle.clap.specs.Words.{Text, HasMatchesOf, fault_of}
use Rattle.clap.specs.declared.parser.matches.ArgMatches.{ArgMatches}
use Rattle.qh_words.specs.Command.{command, given, is_taken, program, value_in}
use Rattle.qh_limits.specs.Limits.{max_lease, max_workers}
use Rattle.qh_text.specs.Decimal.{is_decimal, number_below, value_of}
use Rattle.qh_words.specs.Request.{HasWorkers, Values, asked, is_number, is_number_from, number_or, has_cut, has_journal, has_numbers, has_prob, has_source, is_set, options_by, options_of}
use Rattle.qh_words.specs.Size.{IsGenSize}
use Rattle.qh_words.specs.declared.options.Options.{Options}
use Rattle.qh_words.proofs.Simple.{values}
use Rattle.qh_words.proofs.Sizes.{both, sized_option}

-- ---- the workers
below_by : (a b : Bool) (n : ℕ) → is_some (if a && b then Some n else None) ≡ true → b ≡ true
below_by true true n e = refl
below_by true false n e = absurd (cc)
below_by false b n e = absurd (cc)

number_at_most : (most : ℕ) (text : List ℕ) → is_some (number_below (most + 1) text) ≡ true → value_of text ≤ most
number_at_most most text e =
    let less : value_of text < most + 1 = ltb-true _ _ (below_by (is_decimal text) (nat_lt (value_of text) (most + 1)) (value_of text) e) in
    omega (arith, less)

-- an option that is absent gives the least number
number_between : (least most : ℕ) (value : Option (List ℕ)) → least ≤ most → is_number_from least most value ≡ true
    → (least ≤ number_or least value) × (number_or least value ≤ most)
number_between least most None few e = (omega arith, few)
number_between least most (Some text) few e =
    let b = both (is_some (number_below (most + 1) text)) (nat_le least (value_of text)) e in
    (leb-true _ _ b.1, number_at_most most text b.0)

-- the options have 1 to 16 workers
pub has_workers : (value : Values) (o : Options) → options_by value ≡ Some o → HasWorkers o
has_workers value o h =
    let found = cond_some (has_numbers value && has_source value && has_cut value && has_journal value && has_prob value) (asked value) o h in
    let before_prob = both (has_numbers value && has_source value && has_cut value && has_journal value) (has_prob value) found.0 in
    let before_journal = both (has_numbers value && has_source value && has_cut value) (has_journal value) before_prob.0 in
    let before_cut = both (has_numbers value && has_source value) (has_cut value) before_journal.0 in
    let numbers = both (has_numbers value) (has_source value) before_cut.0 in
    let before_lease = both _ (is_number max_lease (value (codes "l"))) numbers.0 in
    let workers = both _ (is_number_from 1 max_workers (value (codes "t"))) before_lease.0 in
    subst HasWorkers found.1 (number_between 1 max_workers (value (codes "t")) (omega arith) workers.1)

-- ---- probabilities
not_both : (a b : Bool) → (not a || not b) ≡ true → a ≡ true → b ≡ false
not_both true true h e = sym h
not_both true false h e = refl
not_both false b h e = absurd (cc)

absent : (o : Option (List ℕ)) → is_some o ≡ false → o ≡ None
absent None e = refl
absent (Some text) e = absurd (cc)

-- options that ask for probabilities have no part 1
pub prob_uncut : (words : List Text) (o : Options) → options_of words ≡ Some o → o.prob ≡ true → o.part ≡ None
unfolding options_of
prob_uncut words o h e =
    let taken = cond_some_is (is_taken words) (options_by (given words)) o h in
    let value = given words in
    let found = cond_some (has_numbers value && has_source value && has_cut value && has_journal value && has_prob value) (asked value) o taken in
    let alone = both (has_numbers value && has_source value && has_cut value && has_journal value) (has_prob value) found.0 in
    let asks : is_set (value (codes "prob")) ≡ true = ap (λ (q : Options). q.prob) found.1 ∙ e in
    sym (ap (λ (q : Options). q.part) found.1) ∙ absent (value (codes "k")) (not_both (is_set (value (codes "prob"))) (is_some (value (codes "k"))) alone.1 asks)
  where
    cond_some_is : (b : Bool) (x : Option Options) (o : Options) → (if b then x else None) ≡ Some o → x ≡ Some o
    cond_some_is true x o h = h
    cond_some_is false x o h = absurd (cc)

-- ---- from the matches
-- no options without a source
pub no_source : (numbers source cut journal prob : Bool) (o : Options) → source ≡ false
    → (if numbers && source && cut && journal && prob then Some o else None) ≡ None
no_source true source cut journal prob o e = rw e refl
no_source false source cut journal prob o e = refl

-- the values among the matches are those that the words give
same_values : (m : ArgMatches) (words : List Text) → HasMatchesOf command (program ∷ words) m → value_in m ≡ given words
same_values m words h = λ i. λ letter. values m (program ∷ words) letter h i

-- what the matches ask for is what the words ask for
pub by_matches : (m : ArgMatches) (words : List Text) (o : Option Options)
    → fault_of command (program ∷ words) ≡ [] → HasMatchesOf command (program ∷ words) m
    → options_by (value_in m) ≡ o → options_of words ≡ o
unfolding options_of
by_matches m words o taken h by =
    let is : is_taken words ≡ true = rw taken refl in
    let same : options_by (given words) ≡ o = ap options_by (sym (same_values m words h)) ∙ by in
    rw is same

empty_length : {X : Type 0} (xs : List X) → (length xs == 0) ≡ true → xs ≡ []
empty_length [] e = refl
empty_length (x ∷ xs) e = let none : length (x ∷ xs) ≡ 0 = eqb-true _ 0 e in absurd (omega arith)

-- words that `clap` refuses ask for nothing
pub refused : (words : List Text) → fault_of command (program ∷ words) ≢ [] → options_of words ≡ None
unfolding options_of
refused words fault =
    let not_taken : is_taken words ≡ false = false_from_ne_true _ (λ e. fault (empty_length _ e)) in
    rw not_taken refl

-- the size among the options is in its range
pub has_size : (value : Values) (o : Options) → options_by value ≡ Some o → IfSome o.generated IsGenSize
has_size value o h =
    let found = cond_some (has_numbers value && has_source value && has_cut value && has_journal value && has_prob value) (asked value) o h in
    subst (λ (q : Options). IfSome q.generated IsGenSize) found.1 (sized_option (value (codes "g")))
