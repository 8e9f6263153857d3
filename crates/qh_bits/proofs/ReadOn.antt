-- A text of bitstrings is read line by line.
use Rattle.std.proofs.Common.{◌≡◌, ◌≢◌, ℕ, List, [], ◌∷◌, ◌++◌, length, Some, None, Ok, Err, Result, refl, ap, length-append, append_assoc, append-nil}
use Rattle.qh_text.specs.Lines.{content_of}
use Rattle.qh_text.specs.LineWords.{trimmed}
use Rattle.qh_text.specs.Bitstrings.{index_of}
use Rattle.qh_bits.specs.Strings.{fault_of}
use Rattle.qh_bits.specs.Texts.{faults_in, indices_in, answer, bits_of}
use Rattle.qh_bits.specs.declared.faults.BitsWhy.{BitsWhy}
use Rattle.qh_bits.specs.declared.faults.BitsWhy.TheVariants.{NoStrings}
use Rattle.qh_bits.specs.declared.faults.BitsFault.{BitsFault}
use Rattle.qh_bits.specs.declared.faults.BitsFault.TheVariants.{Line}

-- what is answered where these indices were found and these lines are left
unfoldable pub read_on : ℕ → List ℕ → List (ℕ × List ℕ) → Result (List ℕ) BitsFault
read_on qubits found lines = answer (faults_in qubits (length found) lines) (found ++ indices_in lines)

pub read_on_start : (qubits : ℕ) (text : List ℕ) → bits_of qubits text ≡ read_on qubits [] (content_of text)
unfolding read_on bits_of
read_on_start qubits text = refl

-- the next line has a fault
pub read_on_fault : (qubits : ℕ) (found : List ℕ) (lines : List (ℕ × List ℕ)) (number before : ℕ) (bytes string : List ℕ) (rest : List (ℕ × List ℕ)) (why : BitsWhy) →
    lines ≡ (number, bytes) ∷ rest → string ≡ trimmed bytes → before ≡ length found → fault_of qubits before string ≡ Some why → read_on qubits found lines ≡ Err (Line number why)
unfolding read_on
read_on_fault qubits found lines number before bytes string rest why next is count fault = rw (next, ← is, ← count, fault) refl

-- the next line is a string
pub read_on_more : (qubits : ℕ) (found : List ℕ) (lines : List (ℕ × List ℕ)) (number before : ℕ) (bytes string : List ℕ) (rest : List (ℕ × List ℕ)) (index : ℕ) (more : List ℕ) →
    lines ≡ (number, bytes) ∷ rest → string ≡ trimmed bytes → before ≡ length found → fault_of qubits before string ≡ None → index ≡ index_of string → more ≡ found ++ index ∷ [] →
    read_on qubits found lines ≡ read_on qubits more rest
unfolding read_on
read_on_more qubits found lines number before bytes string rest index more next is count fault value grown =
    rw (next, grown, value, ← is, length-append, append_assoc) (rw (← count, fault) refl)

-- no line is left
pub read_on_none : (qubits : ℕ) (found : List ℕ) (lines : List (ℕ × List ℕ)) → lines ≡ [] → found ≡ [] → read_on qubits found lines ≡ Err (Line 0 NoStrings)
unfolding read_on
read_on_none qubits found lines none empty = rw (none, empty) refl

pub read_on_end : (qubits : ℕ) (found : List ℕ) (lines : List (ℕ × List ℕ)) → lines ≡ [] → found ≢ [] → read_on qubits found lines ≡ Ok found
unfolding read_on
read_on_end qubits [] lines none some = absurd (some refl)
read_on_end qubits (x ∷ xs) lines none some = rw none (ap (λ (ys : List ℕ). Ok (x ∷ ys)) (append-nil xs))
