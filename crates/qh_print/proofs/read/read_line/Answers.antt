use Rattle.std.proofs.Common.{◌≡◌, ◌++◌, ◌∷◌, [], ◌<◌, ◌^◌, sym, ap, subst, ◌∙◌, lit<, decimal, length}
use Rattle.std.proofs.lemmas.Bool.{false≢true}
use Rattle.qh_ring.specs.declared.canon.Canon.{Canon}
use Rattle.qh_text.specs.Bitstrings.{bits_text}
use Rattle.qh_print.specs.Output.{IsShowable}
use Rattle.qh_print.specs.Words.{numbers_text}
use Rattle.qh_print.proofs.LineLemmas.{line_is, tail_of, cut_bits, same_pair, same_canon, power_small}
use Rattle.qh_text.proofs.BitLemmas.{bits_without, bits_length}
use Rattle.qh_print.proofs.Words.{none_some, some_same}
use Rattle.qh_print.proofs.read.read_line.Goals as goal

pub returns-in_default-clause-only : goal.returns-in_default-clause-only
returns-in_default-clause-only c = λ x v l. absurd (c.in_default.ensures.only (bits_text c.args.qubits x) (tail_of v) (bits_without 32 c.args.qubits x (lit< tt)) (l.spelled ∙ line_is c.args.qubits x v))

pub returns-then-digits-qubits-clause-only : goal.returns-then-digits-qubits-clause-only
returns-then-digits-qubits-clause-only c = λ x v l.
    let cut = c.in-Some.ensures.only (bits_text c.args.qubits x) (tail_of v) (bits_without 32 c.args.qubits x (lit< tt)) (l.spelled ∙ line_is c.args.qubits x v) in
    absurd (c.if-digits-qubits.true (ap length cut.0 ∙ bits_length c.args.qubits x))

pub returns-in_default-index_of-clause-only : goal.returns-in_default-index_of-clause-only
returns-in_default-index_of-clause-only c = λ x v l.
    let cut = c.in-Some.ensures.only (bits_text c.args.qubits x) (tail_of v) (bits_without 32 c.args.qubits x (lit< tt)) (l.spelled ∙ line_is c.args.qubits x v) in
    let bits = cut_bits c.args.qubits x c.in-Some.digits.now l.below cut.0 in
    absurd (none_some x (c.in_default-index_of.ensures.only x bits.0 bits.1))

pub returns-in_default-read_omega-clause-only : goal.returns-in_default-read_omega-clause-only
returns-in_default-read_omega-clause-only c = λ x v l.
    let cut = c.in-Some.ensures.only (bits_text c.args.qubits x) (tail_of v) (bits_without 32 c.args.qubits x (lit< tt)) (l.spelled ∙ line_is c.args.qubits x v) in
    absurd (c.in_default-read_omega.ensures.only v.z (decimal v.k ++ 10 ∷ []) l.showable.bounded cut.1)

pub returns-in_default-read_power-clause-only : goal.returns-in_default-read_power-clause-only
returns-in_default-read_power-clause-only c = λ x v l.
    let cut = c.in-Some.ensures.only (bits_text c.args.qubits x) (tail_of v) (bits_without 32 c.args.qubits x (lit< tt)) (l.spelled ∙ line_is c.args.qubits x v) in
    let numbers = c.in-Some-read_omega.ensures.only v.z (decimal v.k ++ 10 ∷ []) l.showable.bounded cut.1 in
    absurd (none_some v.k (c.in_default-read_power.ensures.only v.k (power_small v l.showable) numbers.1))

pub returns-then-is_showable-clause-found : goal.returns-then-is_showable-clause-found
returns-then-is_showable-clause-found c =
    let n = c.args.qubits in
    let same : length c.in-Some.digits.now ≡ n = c.if-digits-qubits.false in
    let v : Canon = record { z = c.in-Some-read_omega.z; k = c.in-Some-read_power.k } in
    record {
      below = subst (λ m. c.in-Some-index_of.index < 2 ^ m) same c.in-Some-index_of.ensures.below;
      showable = c.is_showable.ensures.0 c.if-is_showable.true;
      spelled = c.in-Some.ensures.found
          ∙ ap (λ t. t ++ 32 ∷ c.in-Some.rest.now) (c.in-Some-index_of.ensures.found ∙ ap (λ m. bits_text m c.in-Some-index_of.index) same)
          ∙ ap (λ t. bits_text n c.in-Some-index_of.index ++ 32 ∷ t) (c.in-Some-read_omega.ensures.found ∙ ap (numbers_text c.in-Some-read_omega.z) c.in-Some-read_power.ensures.found)
          ∙ sym (line_is n c.in-Some-index_of.index v);
    }

pub returns-then-is_showable-clause-only : goal.returns-then-is_showable-clause-only
returns-then-is_showable-clause-only c = λ x v l.
    let cut = c.in-Some.ensures.only (bits_text c.args.qubits x) (tail_of v) (bits_without 32 c.args.qubits x (lit< tt)) (l.spelled ∙ line_is c.args.qubits x v) in
    let bits = cut_bits c.args.qubits x c.in-Some.digits.now l.below cut.0 in
    let index = some_same c.in-Some-index_of.index x (c.in-Some-index_of.ensures.only x bits.0 bits.1) in
    let numbers = c.in-Some-read_omega.ensures.only v.z (decimal v.k ++ 10 ∷ []) l.showable.bounded cut.1 in
    let power = some_same c.in-Some-read_power.k v.k (c.in-Some-read_power.ensures.only v.k (power_small v l.showable) numbers.1) in
    same_pair c.in-Some-index_of.index x _ v index (same_canon c.in-Some-read_omega.z c.in-Some-read_power.k v numbers.0 power)

pub returns-else-is_showable-clause-only : goal.returns-else-is_showable-clause-only
returns-else-is_showable-clause-only c = λ x v l.
    let cut = c.in-Some.ensures.only (bits_text c.args.qubits x) (tail_of v) (bits_without 32 c.args.qubits x (lit< tt)) (l.spelled ∙ line_is c.args.qubits x v) in
    let numbers = c.in-Some-read_omega.ensures.only v.z (decimal v.k ++ 10 ∷ []) l.showable.bounded cut.1 in
    let power = some_same c.in-Some-read_power.k v.k (c.in-Some-read_power.ensures.only v.k (power_small v l.showable) numbers.1) in
    let value = same_canon c.in-Some-read_omega.z c.in-Some-read_power.k v numbers.0 power in
    absurd (false≢true (sym c.if-is_showable.false ∙ c.is_showable.ensures.1 (subst IsShowable (sym value) l.showable)))
