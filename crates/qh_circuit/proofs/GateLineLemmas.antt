-- Which fault a gate line has by itself, by what was read of it.
use Rattle.std.proofs.Common.{◌≡◌, ℕ, ◌+◌, ◌-◌, ◌<◌, ◌≤◌, ◌^◌, ◌⊎◌, inl, inr, true, false, ◌&&◌, List, [], ◌∷◌, length, drop, Some, None, sym, ap, subst, ◌∙◌, arith}
use Rattle.std.specs.Prelude.{◌==◌}
use Rattle.std.specs.Option.{is_none, unwrap_or}
use Rattle.std.proofs.lemmas.Bool.{cond-true, cond-false, not_from_true, not_from_false, and_left, lt-ltb, le-ltb, ne_eqb}
use Rattle.std.proofs.lemmas.List.{get_or-drop}
use Rattle.qh_text.specs.Decimal.{value_of}
use Rattle.qh_gates.specs.declared.kind.Kind.{Kind}
use Rattle.qh_gates.specs.declared.kind.Kind.TheVariants.{H}
use Rattle.qh_gates.specs.declared.gate.Gate.{Gate}
use Rattle.qh_gates.specs.Tables.{qubits_of}
use Rattle.qh_circuit.specs.declared.fault.Why.TheVariants.{BadTime, UnknownGate, BadQubit, SameQubit, Extra}
use Rattle.qh_gates.specs.Names.{kind_named}
use Rattle.qh_circuit.specs.GateLines.{word, is_number_below, kind_in, last_place, gate_of}
use Rattle.qh_circuit.specs.Faults.{first_fault, gate_faults}
use Rattle.qh_circuit.specs.Reads.{BeginsWithNumber, BeginsWithKind, BeginsWithQubits, have_qubits}
use Rattle.qh_gates.proofs.KindLemmas.{one_or_two}

-- the time and the name were read, and these words stand behind them
pub record IsNamed (words : List (List ℕ)) (time : ℕ) (kind : Kind) (rest : List (List ℕ)) : Type 0 where
  pub spelled : is_number_below (2 ^ 32) (word 0 words) ≡ true
  pub value : value_of (word 0 words) ≡ time
  pub name : kind_named (word 1 words) ≡ Some kind
  pub later : (place : ℕ) → word (2 + place) words ≡ word place rest
  pub count : length words ≡ 2 + length rest

pub named : (words behind rest : List (List ℕ)) (time : ℕ) (kind : Kind) → BeginsWithNumber (2 ^ 32) words time behind → BeginsWithKind behind kind rest
    → IsNamed words time kind rest
named words behind rest time kind number name =
    let whole : words ≡ word 0 words ∷ word 0 behind ∷ rest = number.behind ∙ ap (λ ws. word 0 words ∷ ws) name.behind in
    record {
      spelled = number.spelled;
      value = number.value;
      name = ap (λ ws. kind_named (word 1 ws)) whole ∙ name.named;
      later = λ place. sym (get_or-drop 2 words place []) ∙ ap (λ ws. word place (drop 2 ws)) whole;
      count = omega (arith, ap (length {A = List ℕ}) whole);
    }

kind_is : (words rest : List (List ℕ)) (time : ℕ) (kind : Kind) → IsNamed words time kind rest → kind_in words ≡ kind
kind_is words rest time kind h = ap (λ o. unwrap_or o H) h.name

place_is : (arity : ℕ) → (arity ≡ 1) ⊎ (arity ≡ 2) → 1 + arity ≡ 2 + (arity - 1)
place_is arity (inl e) = omega arith
place_is arity (inr e) = omega arith

last_is : (words rest : List (List ℕ)) (time : ℕ) (kind : Kind) → IsNamed words time kind rest → word (last_place words) words ≡ word (qubits_of kind - 1) rest
last_is words rest time kind h =
    ap (λ k. word (1 + qubits_of k) words) (kind_is words rest time kind h)
    ∙ ap (λ place. word place words) (place_is (qubits_of kind) (one_or_two kind))
    ∙ h.later (qubits_of kind - 1)

qubits_are : (qubits : ℕ) (words rest : List (List ℕ)) (time : ℕ) (kind : Kind) → IsNamed words time kind rest
    → (is_number_below qubits (word 2 words) && is_number_below qubits (word (last_place words) words)) ≡ have_qubits qubits (qubits_of kind) rest
qubits_are qubits words rest time kind h =
    ap (λ w. is_number_below qubits w && is_number_below qubits (word (last_place words) words)) (h.later 0)
    ∙ ap (λ w. is_number_below qubits (word 0 rest) && is_number_below qubits w) (last_is words rest time kind h)

same_test : (arity q0 q1 : ℕ) (rest : List (List ℕ)) → (arity ≡ 1) ⊎ (arity ≡ 2) → value_of (word 0 rest) ≡ q0 → value_of (word (arity - 1) rest) ≡ q1
    → (arity == 2 && value_of (word 0 rest) == value_of (word 1 rest)) ≡ (arity == 2 && q0 == q1)
same_test arity q0 q1 rest (inl e) first last =
    and_left _ _ (ne_eqb arity 2 (λ f. omega arith)) ∙ sym (and_left _ _ (ne_eqb arity 2 (λ f. omega arith)))
same_test arity q0 q1 rest (inr e) first last =
    let place : arity - 1 ≡ 1 = omega arith in
    let second : value_of (word 1 rest) ≡ q1 = subst (λ i. value_of (word i rest) ≡ q1) place last in
    ap (λ x. arity == 2 && x == value_of (word 1 rest)) first ∙ ap (λ y. arity == 2 && q0 == y) second

same_is : (qubits : ℕ) (words rest behind : List (List ℕ)) (time q0 q1 : ℕ) (kind : Kind) → IsNamed words time kind rest → BeginsWithQubits qubits (qubits_of kind) rest q0 q1 behind
    → (qubits_of (kind_in words) == 2 && value_of (word 2 words) == value_of (word 3 words)) ≡ (qubits_of kind == 2 && q0 == q1)
same_is qubits words rest behind time q0 q1 kind h read =
    ap (λ k. qubits_of k == 2 && value_of (word 2 words) == value_of (word 3 words)) (kind_is words rest time kind h)
    ∙ ap (λ w. qubits_of kind == 2 && value_of w == value_of (word 3 words)) (h.later 0)
    ∙ ap (λ w. qubits_of kind == 2 && value_of (word 0 rest) == value_of w) (h.later 1)
    ∙ same_test (qubits_of kind) q0 q1 rest (one_or_two kind) read.first read.last

longer : (place arity words behind : ℕ) → place ≡ 1 + arity → words ≡ 2 + (arity + behind) → 0 < behind → place + 1 < words
longer place arity words behind e f g = omega arith

as_long : (place arity words behind : ℕ) → place ≡ 1 + arity → words ≡ 2 + (arity + behind) → behind ≡ 0 → words ≤ place + 1
as_long place arity words behind e f g = omega arith

whole_count : (words rest behind arity : ℕ) → words ≡ 2 + rest → rest ≡ arity + behind → words ≡ 2 + (arity + behind)
whole_count words rest behind arity e f = omega arith

-- the faults, in their order
pub bad_time : (qubits : ℕ) (words : List (List ℕ)) → is_number_below (2 ^ 32) (word 0 words) ≡ false → first_fault (gate_faults qubits words) ≡ Some BadTime
unfolding gate_faults
bad_time qubits words h = cond-true _ _ _ (not_from_false _ h)

pub unknown_gate : (qubits : ℕ) (words behind : List (List ℕ)) (time : ℕ) → BeginsWithNumber (2 ^ 32) words time behind → kind_named (word 0 behind) ≡ None
    → first_fault (gate_faults qubits words) ≡ Some UnknownGate
unfolding gate_faults
unknown_gate qubits words behind time number none =
    let name : kind_named (word 1 words) ≡ None = ap (λ ws. kind_named (word 1 ws)) number.behind ∙ none in
    cond-false _ _ _ (not_from_true _ number.spelled) ∙ cond-true _ _ _ (ap (λ o. is_none o) name)

pub bad_qubit : (qubits : ℕ) (words rest : List (List ℕ)) (time : ℕ) (kind : Kind) → IsNamed words time kind rest → have_qubits qubits (qubits_of kind) rest ≡ false
    → first_fault (gate_faults qubits words) ≡ Some BadQubit
unfolding gate_faults
bad_qubit qubits words rest time kind h none =
    cond-false _ _ _ (not_from_true _ h.spelled) ∙ cond-false _ _ _ (ap (λ o. is_none o) h.name)
    ∙ cond-true _ _ _ (not_from_false _ (qubits_are qubits words rest time kind h ∙ none))

pub same_qubit : (qubits : ℕ) (words rest behind : List (List ℕ)) (time q0 q1 : ℕ) (kind : Kind) → IsNamed words time kind rest → BeginsWithQubits qubits (qubits_of kind) rest q0 q1 behind
    → (qubits_of kind == 2 && q0 == q1) ≡ true → first_fault (gate_faults qubits words) ≡ Some SameQubit
unfolding gate_faults
same_qubit qubits words rest behind time q0 q1 kind h read same =
    cond-false _ _ _ (not_from_true _ h.spelled) ∙ cond-false _ _ _ (ap (λ o. is_none o) h.name)
    ∙ cond-false _ _ _ (not_from_true _ (qubits_are qubits words rest time kind h ∙ read.spelled))
    ∙ cond-true _ _ _ (same_is qubits words rest behind time q0 q1 kind h read ∙ same)

pub extra : (qubits : ℕ) (words rest behind : List (List ℕ)) (time q0 q1 : ℕ) (kind : Kind) → IsNamed words time kind rest → BeginsWithQubits qubits (qubits_of kind) rest q0 q1 behind
    → (qubits_of kind == 2 && q0 == q1) ≡ false → 0 < length behind → first_fault (gate_faults qubits words) ≡ Some Extra
unfolding gate_faults
extra qubits words rest behind time q0 q1 kind h read other more =
    cond-false _ _ _ (not_from_true _ h.spelled) ∙ cond-false _ _ _ (ap (λ o. is_none o) h.name)
    ∙ cond-false _ _ _ (not_from_true _ (qubits_are qubits words rest time kind h ∙ read.spelled))
    ∙ cond-false _ _ _ (same_is qubits words rest behind time q0 q1 kind h read ∙ other)
    ∙ cond-true _ _ _ (lt-ltb _ _ (longer _ _ _ _ (ap (λ k. 1 + qubits_of k) (kind_is words rest time kind h)) (whole_count _ _ _ _ h.count read.count) more))

pub no_fault : (qubits : ℕ) (words rest behind : List (List ℕ)) (time q0 q1 : ℕ) (kind : Kind) → IsNamed words time kind rest → BeginsWithQubits qubits (qubits_of kind) rest q0 q1 behind
    → (qubits_of kind == 2 && q0 == q1) ≡ false → length behind ≡ 0 → first_fault (gate_faults qubits words) ≡ None
unfolding gate_faults
no_fault qubits words rest behind time q0 q1 kind h read other none =
    cond-false _ _ _ (not_from_true _ h.spelled) ∙ cond-false _ _ _ (ap (λ o. is_none o) h.name)
    ∙ cond-false _ _ _ (not_from_true _ (qubits_are qubits words rest time kind h ∙ read.spelled))
    ∙ cond-false _ _ _ (same_is qubits words rest behind time q0 q1 kind h read ∙ other)
    ∙ cond-false _ _ _ (le-ltb _ _ (as_long _ _ _ _ (ap (λ k. 1 + qubits_of k) (kind_is words rest time kind h)) (whole_count _ _ _ _ h.count read.count) none))

pub same_gate : (s t : ℕ) (j k : Kind) (p q x y : ℕ) → s ≡ t → j ≡ k → p ≡ q → x ≡ y
    → ◌≡◌ {A = Gate} (record { time = s; kind = j; q0 = p; q1 = x }) (record { time = t; kind = k; q0 = q; q1 = y })
same_gate s t j k p q x y a b d e = cc

pub gate_read : (qubits : ℕ) (words rest behind : List (List ℕ)) (time q0 q1 : ℕ) (kind : Kind) → IsNamed words time kind rest → BeginsWithQubits qubits (qubits_of kind) rest q0 q1 behind
    → ◌≡◌ {A = Gate} (record { time = time; kind = kind; q0 = q0; q1 = q1 }) (gate_of words)
unfolding gate_of
gate_read qubits words rest behind time q0 q1 kind h read =
    same_gate _ _ _ _ _ _ _ _ (sym h.value) (sym (kind_is words rest time kind h)) (sym (ap value_of (h.later 0) ∙ read.first)) (sym (ap value_of (last_is words rest time kind h) ∙ read.last))
