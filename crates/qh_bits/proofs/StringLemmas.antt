-- The faults of one string.
use Rattle.std.proofs.Common.{◌≡◌, ◌≢◌, ◌==◌, ℕ, inl, inr, ◌<◌, ◌≤◌, true, false, nat_le, if◌then◌else◌, List, length, Some, None, sym, ap, ◌∙◌}
use Rattle.std.specs.declared.option.Option.{Option}
use Rattle.std.proofs.lemmas.Bool.{cases_Bool, cond-true, cond-false, not_from_true, not_from_false, lt-leb, le-leb, ne_eqb, eq-eqb, eqb-true}
use Rattle.qh_text.specs.Bitstrings.{is_bitstring}
use Rattle.qh_bits.specs.Strings.{fault_of}
use Rattle.qh_bits.specs.declared.faults.BitsWhy.{BitsWhy}
use Rattle.qh_bits.specs.declared.faults.BitsWhy.TheVariants.{TooMany, Letter, Length}

pub too_many : (qubits before : ℕ) (string : List ℕ) → 4096 ≤ before → fault_of qubits before string ≡ Some TooMany
too_many qubits before string many = cond-true _ _ _ (le-leb 4096 before many)

pub no_letter : (qubits before : ℕ) (string : List ℕ) → before < 4096 → is_bitstring string ≡ false → fault_of qubits before string ≡ Some Letter
no_letter qubits before string room other =
    cond-false _ _ _ (lt-leb 4096 before room) ∙ cond-true _ _ _ (not_from_false _ other)

pub other_length : (qubits before : ℕ) (string : List ℕ) → before < 4096 → length string ≢ qubits
    → fault_of qubits before string ≡ Some (if is_bitstring string then Length else Letter)
other_length qubits before string room other = elim (cases_Bool (is_bitstring string)) [
  | inl t ↦ cond-false _ _ _ (lt-leb 4096 before room) ∙ cond-false _ _ _ (not_from_true _ t)
      ∙ cond-true _ _ _ (not_from_false _ (ne_eqb (length string) qubits other)) ∙ sym (ap (λ why. Some why) (cond-true (is_bitstring string) Length Letter t))
  | inr f ↦ no_letter qubits before string room f ∙ sym (ap (λ why. Some why) (cond-false (is_bitstring string) Length Letter f))
]

pub no_fault : (qubits before : ℕ) (string : List ℕ) → before < 4096 → length string ≡ qubits → is_bitstring string ≡ true → fault_of qubits before string ≡ None
no_fault qubits before string room same bits =
    cond-false _ _ _ (lt-leb 4096 before room) ∙ cond-false _ _ _ (not_from_true _ bits)
    ∙ cond-false _ _ _ (not_from_true _ (eq-eqb (length string) qubits same))

pub ruleset faults = (too_many, no_letter, other_length, no_fault)

never : (why : BitsWhy) → ◌≡◌ {A = Option BitsWhy} (Some why) None → ⊥
never why e = (cc)

-- a string without a fault is a bitstring with a character for each qubit
pub good_string : (qubits before : ℕ) (string : List ℕ) → fault_of qubits before string ≡ None → (is_bitstring string ≡ true) × (length string ≡ qubits)
good_string qubits before string none = elim (cases_Bool (nat_le 4096 before)) [
  | inl t ↦ absurd (never TooMany (sym (cond-true _ _ _ t) ∙ none))
  | inr room ↦ elim (cases_Bool (is_bitstring string)) [
    | inr f ↦ absurd (never Letter (sym (cond-false _ _ _ room ∙ cond-true _ _ _ (not_from_false _ f)) ∙ none))
    | inl bits ↦ elim (cases_Bool (length string == qubits)) [
      | inl same ↦ (bits, eqb-true (length string) qubits same)
      | inr other ↦ absurd (never Length (sym (cond-false _ _ _ room ∙ cond-false _ _ _ (not_from_true _ bits) ∙ cond-true _ _ _ (not_from_false _ other)) ∙ none))
    ]
  ]
]
