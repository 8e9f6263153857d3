-- The words of a printed line.
use Rattle.std.proofs.Common.{◌≡◌, ◌≢◌, ℕ, ◌+◌, ◌-◌, ◌%◌, ◌<◌, ◌≤◌, ◌^◌, ◌⊎◌, inl, inr, ⊎_elim, true, false, ◌&&◌, ◌||◌, nat_lt, List, [], ◌∷◌, ◌++◌, length, get_or, All, Some, None, decimal, lit<, refl, sym, ap, subst, ◌∙◌, arith, append_assoc, append-nil}
use Rattle.std.specs.Prelude.{◌==◌, slice_index}
use Rattle.std.proofs.lemmas.Bool.{and_from, and_left, and_right, lt-ltb, ne_eqb, cond-true, cond-false, cond_both, eq-eqb}
use Rattle.std.proofs.lemmas.List.{get_or-drop, nil_from_length}
use Rattle.std.proofs.lemmas.List.Elements.{All-nil, All-push, All-append, All-cons}
use Rattle.std.proofs.lemmas.Fmt.{decimal_by_steps, decimal_is_IsNumeral, decimal_nonempty}
use Rattle.qh_text.specs.Decimal.{value_of, is_decimal}
use Rattle.qh_text.proofs.Digits.{is_decimal_from}
use Rattle.qh_text.specs.LineWords.{is_space, is_blank_or_comment, is_passed_over, words_of}
use Rattle.qh_text.proofs.WordLemmas.{words_of-one, words_of-before}
use Rattle.qh_gates.specs.declared.kind.Kind.{Kind}
use Rattle.qh_gates.specs.declared.gate.Gate.{Gate}
use Rattle.qh_gates.specs.Tables.{name_text, qubits_of}
use Rattle.qh_gates.specs.Circuits.{Fits}
use Rattle.qh_gates.proofs.NameLemmas.{name_without}
use Rattle.qh_circuit.specs.GateLines.{word, is_number_below, gate_of}
use Rattle.qh_circuit.specs.Faults.{first_fault, gate_faults}
use Rattle.qh_circuit.specs.Reads.{BeginsWithQubits}
use Rattle.qh_circuit.specs.Spelling.{spaced_number, second_text, gate_text}
use Rattle.qh_gates.proofs.KindLemmas.{one_or_two}
use Rattle.qh_circuit.proofs.NumberLemmas.{below_is}
use Rattle.qh_gates.proofs.NameLemmas.{kind_named-name}
use Rattle.qh_gates.specs.Names.{kind_named}
use Rattle.qh_circuit.proofs.OrderLemmas.{some_none}
use Rattle.qh_circuit.proofs.GateLineLemmas.{IsNamed, no_fault, gate_read}

-- a number or a name: no byte of it is below that of `0`
pub record IsWord (text : List ℕ) : Type 0 where
  pub without : (byte : ℕ) → byte < 48 → All (λ b. b ≢ byte) text
  pub some : 0 < length text

decimal_without : (byte n : ℕ) → byte < 48 → n < 2 ^ 64 → All (λ b. b ≢ byte) (decimal n)
decimal_without byte n small = decimal_by_steps (λ m ds. All (λ b. b ≢ byte) ds)
    (λ m l. All-push (λ b. b ≢ byte) [] (48 + m) (All-nil (λ b. b ≢ byte)) (λ e. omega arith))
    (λ m ds l all. All-push (λ b. b ≢ byte) ds (48 + m % 10) all (λ e. omega arith)) n

pub decimal_is_word : (n : ℕ) → n < 2 ^ 64 → IsWord (decimal n)
decimal_is_word n small = record { without = λ byte l. decimal_without byte n l small; some = decimal_nonempty n small }

no_name_empty : (kind : Kind) → length (name_text kind) ≡ 0 → ⊥
unfolding kind_named
no_name_empty kind none =
    let named : kind_named (name_text kind) ≡ Some kind = kind_named-name kind in
    let empty : kind_named (name_text kind) ≡ None = ap kind_named (nil_from_length (name_text kind) none) in
    some_none kind (sym named ∙ empty)

pub name_is_word : (kind : Kind) → IsWord (name_text kind)
name_is_word kind = record { without = λ byte l. name_without byte kind l; some = not_zero (length (name_text kind)) (no_name_empty kind) }
  where
    not_zero : (n : ℕ) → (n ≡ 0 → ⊥) → 0 < n
    not_zero n f = omega arith

solid_byte : (b : ℕ) → b ≢ 32 → b ≢ 9 → is_space b ≡ false
solid_byte b space tab = ap (λ t. t || (b == 9)) (ne_eqb b 32 space) ∙ ne_eqb b 9 tab

solid : (text : List ℕ) → IsWord text → All (λ b. is_space b ≡ false) text
solid text h k d l = solid_byte (get_or text k d) (h.without 32 (lit< tt) k d l) (h.without 9 (lit< tt) k d l)

one_word : (text : List ℕ) → IsWord text → words_of text ≡ text ∷ []
one_word text h = words_of-one text (solid text h) h.some

word_before : (text rest : List ℕ) → IsWord text → words_of (text ++ 32 ∷ rest) ≡ text ∷ words_of rest
word_before text rest h = words_of-before text 32 rest (solid text h) h.some refl

-- a line that begins with such a word is neither blank nor a comment
pub not_passed_over : (line text : List ℕ) (words : List (List ℕ)) → IsWord text → words_of line ≡ text ∷ words → is_passed_over line ≡ false
not_passed_over line text words h e = ap is_blank_or_comment e ∙ ne_eqb (slice_index text 0) 35 (h.without 35 (lit< tt) 0 0 h.some)

-- a printed number
pub value_of-decimal : (n : ℕ) → n < 2 ^ 64 → value_of (decimal n) ≡ n
value_of-decimal n small = (decimal_is_IsNumeral n small).1

pub number_is : (limit n : ℕ) → n < limit → n < 2 ^ 64 → is_number_below limit (decimal n) ≡ true
number_is limit n below small =
    let value : value_of (decimal n) ≡ n = value_of-decimal n small in
    below_is limit (decimal n) ∙ and_from (is_decimal (decimal n)) (nat_lt (value_of (decimal n)) limit) (is_decimal_from (decimal n) (decimal_is_IsNumeral n small).0)
    (lt-ltb _ _ (omega arith))

-- the words of a printed gate, whose qubits stand in these
pub record Printed (qubits : ℕ) (gate : Gate) : Type 0 where
  pub rest : List (List ℕ)
  pub words : words_of (gate_text gate) ≡ decimal gate.time ∷ name_text gate.kind ∷ rest
  pub read : BeginsWithQubits qubits (qubits_of gate.kind) rest gate.q0 gate.q1 []

one_text : (gate : Gate) → qubits_of gate.kind ≡ 1 → gate_text gate ≡ decimal gate.time ++ 32 ∷ (name_text gate.kind ++ 32 ∷ decimal gate.q0)
unfolding gate_text
one_text gate one =
    ap (λ s. ((decimal gate.time ++ (32 ∷ name_text gate.kind)) ++ spaced_number gate.q0) ++ s) (cond-false _ (spaced_number gate.q1) [] (ne_eqb _ 2 (λ e. one_two _ one e)))
    ∙ append-nil _ ∙ regroup (decimal gate.time) (name_text gate.kind) (decimal gate.q0)
  where
    one_two : (n : ℕ) → n ≡ 1 → n ≡ 2 → ⊥
    one_two n e f = omega arith

    regroup : (a n q : List ℕ) → (a ++ (32 ∷ n)) ++ (32 ∷ q) ≡ a ++ 32 ∷ (n ++ 32 ∷ q)
    regroup a n q = append_assoc a (32 ∷ n) (32 ∷ q)

two_text : (gate : Gate) → qubits_of gate.kind ≡ 2 → gate_text gate ≡ decimal gate.time ++ 32 ∷ (name_text gate.kind ++ 32 ∷ (decimal gate.q0 ++ 32 ∷ decimal gate.q1))
unfolding gate_text
two_text gate two =
    ap (λ s. ((decimal gate.time ++ (32 ∷ name_text gate.kind)) ++ spaced_number gate.q0) ++ s) (cond-true _ (spaced_number gate.q1) [] (eq-eqb _ 2 two))
    ∙ regroup (decimal gate.time) (name_text gate.kind) (decimal gate.q0) (decimal gate.q1)
  where
    regroup : (a n q s : List ℕ) → ((a ++ (32 ∷ n)) ++ (32 ∷ q)) ++ (32 ∷ s) ≡ a ++ 32 ∷ (n ++ 32 ∷ (q ++ 32 ∷ s))
    regroup a n q s = append_assoc (a ++ (32 ∷ n)) (32 ∷ q) (32 ∷ s) ∙ append_assoc a (32 ∷ n) ((32 ∷ q) ++ (32 ∷ s))

small_qubit : (q qubits : ℕ) → q < qubits → qubits ≤ 40 → q < 2 ^ 64
small_qubit q qubits below few = omega arith

one_read : (arity qubits q0 q1 : ℕ) → arity ≡ 1 → q1 ≡ q0 → q0 < qubits → qubits ≤ 40 → BeginsWithQubits qubits arity (decimal q0 ∷ []) q0 q1 []
one_read arity qubits q0 q1 one same below few =
    let small : q0 < 2 ^ 64 = small_qubit q0 qubits below few in
    let place : 0 ≡ arity - 1 = omega arith in
    let spelled : is_number_below qubits (decimal q0) ≡ true = number_is qubits q0 below small in
    record {
      spelled = subst (λ p. (is_number_below qubits (decimal q0) && is_number_below qubits (word p (decimal q0 ∷ []))) ≡ true) place (and_from _ _ spelled spelled);
      first = value_of-decimal q0 small;
      last = subst (λ p. value_of (word p (decimal q0 ∷ [])) ≡ q1) place (value_of-decimal q0 small ∙ sym same);
      first_below = below;
      last_below = omega arith;
      one = λ _. same;
      count = omega arith;
    }

two_read : (arity qubits q0 q1 : ℕ) → arity ≡ 2 → q0 < qubits → q1 < qubits → qubits ≤ 40 → BeginsWithQubits qubits arity (decimal q0 ∷ decimal q1 ∷ []) q0 q1 []
two_read arity qubits q0 q1 two below0 below1 few =
    let small0 : q0 < 2 ^ 64 = small_qubit q0 qubits below0 few in
    let small1 : q1 < 2 ^ 64 = small_qubit q1 qubits below1 few in
    let place : 1 ≡ arity - 1 = omega arith in
    record {
      spelled = subst (λ p. (is_number_below qubits (decimal q0) && is_number_below qubits (word p (decimal q0 ∷ decimal q1 ∷ []))) ≡ true) place
          (and_from _ _ (number_is qubits q0 below0 small0) (number_is qubits q1 below1 small1));
      first = value_of-decimal q0 small0;
      last = subst (λ p. value_of (word p (decimal q0 ∷ decimal q1 ∷ [])) ≡ q1) place (value_of-decimal q1 small1);
      first_below = below0;
      last_below = below1;
      one = λ e. absurd (omega arith);
      count = omega arith;
    }

pub printed : (qubits : ℕ) (gate : Gate) → Fits qubits gate → qubits ≤ 40 → gate.time < 2 ^ 32 → Printed qubits gate
printed qubits gate fits few small = by_arity (one_or_two gate.kind)
  where
    time : IsWord (decimal gate.time)
    time = decimal_is_word gate.time (omega arith)

    first : IsWord (decimal gate.q0)
    first = decimal_is_word gate.q0 (small_qubit gate.q0 qubits fits.first few)

    second : IsWord (decimal gate.q1)
    second = decimal_is_word gate.q1 (small_qubit gate.q1 qubits fits.second few)

    by_arity : (qubits_of gate.kind ≡ 1) ⊎ (qubits_of gate.kind ≡ 2) → Printed qubits gate
    by_arity (inl one) = record {
      rest = decimal gate.q0 ∷ [];
      words = ap words_of (one_text gate one) ∙ word_before (decimal gate.time) _ time
          ∙ ap (λ ws. decimal gate.time ∷ ws) (word_before (name_text gate.kind) _ (name_is_word gate.kind) ∙ ap (λ ws. name_text gate.kind ∷ ws) (one_word (decimal gate.q0) first));
      read = one_read (qubits_of gate.kind) qubits gate.q0 gate.q1 one (fits.one one) fits.first few;
    }
    by_arity (inr two) = record {
      rest = decimal gate.q0 ∷ decimal gate.q1 ∷ [];
      words = ap words_of (two_text gate two) ∙ word_before (decimal gate.time) _ time
          ∙ ap (λ ws. decimal gate.time ∷ ws) (word_before (name_text gate.kind) _ (name_is_word gate.kind)
          ∙ ap (λ ws. name_text gate.kind ∷ ws) (word_before (decimal gate.q0) _ first ∙ ap (λ ws. decimal gate.q0 ∷ ws) (one_word (decimal gate.q1) second)));
      read = two_read (qubits_of gate.kind) qubits gate.q0 gate.q1 two fits.first fits.second few;
    }

-- what stands behind the time and the name
named_words : (time : ℕ) (kind : Kind) (rest : List (List ℕ)) → time < 2 ^ 32 → IsNamed (decimal time ∷ name_text kind ∷ rest) time kind rest
named_words time kind rest small = record {
  spelled = number_is (2 ^ 32) time small (omega arith);
  value = value_of-decimal time (omega arith);
  name = kind_named-name kind;
  later = λ place. sym (get_or-drop 2 (decimal time ∷ name_text kind ∷ rest) place []);
  count = omega arith;
}

different : (qubits : ℕ) (gate : Gate) → Fits qubits gate → (qubits_of gate.kind == 2 && gate.q0 == gate.q1) ≡ false
different qubits gate fits = ⊎_elim
    (λ one. and_left _ _ (ne_eqb (qubits_of gate.kind) 2 (λ e. one_two _ one e)))
    (λ two. and_right _ _ (ne_eqb gate.q0 gate.q1 (λ e. fits.two two (sym e)))) (one_or_two gate.kind)
  where
    one_two : (n : ℕ) → n ≡ 1 → n ≡ 2 → ⊥
    one_two n e f = omega arith

-- a printed gate has no fault by itself, and is read back
pub printed_fault : (qubits : ℕ) (gate : Gate) → Fits qubits gate → qubits ≤ 40 → gate.time < 2 ^ 32 → first_fault (gate_faults qubits (words_of (gate_text gate))) ≡ None
printed_fault qubits gate fits few small =
    let p : Printed qubits gate = printed qubits gate fits few small in
    ap (λ ws. first_fault (gate_faults qubits ws)) p.words
    ∙ no_fault qubits _ p.rest [] gate.time gate.q0 gate.q1 gate.kind (named_words gate.time gate.kind p.rest small) p.read (different qubits gate fits) refl

pub printed_gate : (qubits : ℕ) (gate : Gate) → Fits qubits gate → qubits ≤ 40 → gate.time < 2 ^ 32 → gate_of (words_of (gate_text gate)) ≡ gate
printed_gate qubits gate fits few small =
    let p : Printed qubits gate = printed qubits gate fits few small in
    ap gate_of p.words ∙ sym (gate_read qubits _ p.rest [] gate.time gate.q0 gate.q1 gate.kind (named_words gate.time gate.kind p.rest small) p.read)

-- a printed gate is one line
clean_byte : (byte : ℕ) → byte < 32 → (gate : Gate) → gate.time < 2 ^ 64 → gate.q0 < 2 ^ 64 → gate.q1 < 2 ^ 64 → All (λ b. b ≢ byte) (gate_text gate)
unfolding gate_text
clean_byte byte low gate time q0 q1 =
    All-append P (((decimal gate.time) ++ (32 ∷ name_text gate.kind)) ++ spaced_number gate.q0) (second_text gate)
    (All-append P ((decimal gate.time) ++ (32 ∷ name_text gate.kind)) (spaced_number gate.q0)
    (All-append P (decimal gate.time) (32 ∷ name_text gate.kind) (number gate.time time) (spaced (name_text gate.kind) (name_without byte gate.kind (omega arith))))
    (spaced (decimal gate.q0) (number gate.q0 q0)))
    (cond_both _ (spaced_number gate.q1) [] (All P) (λ _. spaced (decimal gate.q1) (number gate.q1 q1)) (λ _. All-nil P))
  where
    P : ℕ → Type 0
    P b = b ≢ byte

    number : (n : ℕ) → n < 2 ^ 64 → All P (decimal n)
    number n small = decimal_without byte n (omega arith) small

    spaced : (text : List ℕ) → All P text → All P (32 ∷ text)
    spaced text all = All-cons P 32 text (λ e. omega arith) all

pub record IsLine (line : List ℕ) : Type 0 where
  pub feed : All (λ b. b ≢ 10) line
  pub return : All (λ b. b ≢ 13) line
  pub content : is_passed_over line ≡ false

pub printed_line : (qubits : ℕ) (gate : Gate) → Fits qubits gate → qubits ≤ 40 → gate.time < 2 ^ 32 → IsLine (gate_text gate)
printed_line qubits gate fits few small =
    let q0 : gate.q0 < 2 ^ 64 = small_qubit gate.q0 qubits fits.first few in
    let q1 : gate.q1 < 2 ^ 64 = small_qubit gate.q1 qubits fits.second few in
    record {
      feed = clean_byte 10 (lit< tt) gate (omega arith) q0 q1;
      return = clean_byte 13 (lit< tt) gate (omega arith) q0 q1;
      content = not_passed_over (gate_text gate) (decimal gate.time) _ (decimal_is_word gate.time (omega arith)) (printed qubits gate fits few small).words;
    }

pub count_line : (n : ℕ) → n < 2 ^ 64 → IsLine (decimal n)
count_line n small = record {
  feed = decimal_without 10 n (lit< tt) small;
  return = decimal_without 13 n (lit< tt) small;
  content = not_passed_over (decimal n) (decimal n) [] (decimal_is_word n small) (one_word (decimal n) (decimal_is_word n small));
}

pub count_words : (n : ℕ) → n < 2 ^ 64 → words_of (decimal n) ≡ decimal n ∷ []
count_words n small = one_word (decimal n) (decimal_is_word n small)
