use Rattle.std.proofs.Common.{rules, ◌≡◌, ◌≢◌, ◌∷◌, [], Some, None, Err, map, string_bytes, subst, List, ℕ}
use Rattle.std.proofs.lemmas.Result.{IfOk-weaker}
use Rattle.clap.specs.Words.{HasMatchesOf, fault_of}
use Rattle.qh_words.specs.Command.{command, program, value_in}
use Rattle.qh_words.proofs.Requests.{by_matches, has_size, has_workers, refused}
use Rattle.qh_words.specs.declared.fault.WordsFault.TheVariants.{Usage}
use Rattle.qh_words.proofs.read.read_words.Goals as goal

pub returns-in_err-matches-clause-usage : goal.returns-in_err-matches-clause-usage
returns-in_err-matches-clause-usage c =
    let words = map string_bytes c.args.words.now in
    let are : map (λ s. s.now) c.as_slice.result.now ≡ program ∷ words = rw c.as_slice.ensures.value c.in-Ok.ensures in
    λ usage.
    let was : c.matches.result ≡ Err Usage = search rules in
    let fault : fault_of command (program ∷ words) ≢ [] = rw are at (c.matches.ensures.usage was) in
    refused words fault

pub returns-clause-asked : goal.returns-clause-asked
returns-clause-asked c =
    let words = map string_bytes c.args.words.now in
    let are : map (λ s. s.now) c.as_slice.result.now ≡ program ∷ words = rw c.as_slice.ensures.value c.in-Ok.ensures in
    let taken : fault_of command (program ∷ words) ≡ [] = rw are at c.in_ok-matches.ensures.taken in
    let has = subst (λ (ws : List (List ℕ)). HasMatchesOf command ws c.in_ok-matches.matches) are c.in_ok-matches.ensures.matches in
    IfOk-weaker c.read_options.result _ _ (λ o by. by_matches c.in_ok-matches.matches words (Some o) taken has by) c.read_options.ensures.asked

pub returns-clause-usage : goal.returns-clause-usage
returns-clause-usage c =
    let words = map string_bytes c.args.words.now in
    let are : map (λ s. s.now) c.as_slice.result.now ≡ program ∷ words = rw c.as_slice.ensures.value c.in-Ok.ensures in
    let taken : fault_of command (program ∷ words) ≡ [] = rw are at c.in_ok-matches.ensures.taken in
    let has = subst (λ (ws : List (List ℕ)). HasMatchesOf command ws c.in_ok-matches.matches) are c.in_ok-matches.ensures.matches in
    λ usage. by_matches c.in_ok-matches.matches words None taken has (c.read_options.ensures.usage usage)

pub returns-clause-size : goal.returns-clause-size
returns-clause-size c = IfOk-weaker c.read_options.result _ _ (λ o by. has_size (value_in c.in_ok-matches.matches) o by) c.read_options.ensures.asked

pub returns-clause-workers : goal.returns-clause-workers
returns-clause-workers c = IfOk-weaker c.read_options.result _ _ (λ o by. has_workers (value_in c.in_ok-matches.matches) o by) c.read_options.ensures.asked
