-- The indices of a text are spelled as its strings.
use Rattle.std.proofs.Common.{◌≡◌, ℕ, ◌+◌, List, [], ◌∷◌, map, Some, None, Ok, refl, sym, ap, ◌∙◌}
use Rattle.std.proofs.Math.Path.{ap₂}
use Rattle.std.specs.declared.option.Option.{Option}
use Rattle.std.specs.List.{cons_option}
use Rattle.std.specs.Option.{option_map}
use Rattle.qh_text.specs.Lines.{content_of}
use Rattle.qh_text.specs.LineWords.{trimmed}
use Rattle.qh_text.specs.Bitstrings.{bits_text, index_of}
use Rattle.qh_text.proofs.BitLemmas.{string_of_index}
use Rattle.qh_bits.specs.Strings.{fault_of}
use Rattle.qh_bits.specs.Texts.{faults_in, strings_in, strings_of, indices_in, answer, bits_of}
use Rattle.qh_bits.specs.declared.faults.BitsWhy.{BitsWhy}
use Rattle.qh_bits.specs.declared.faults.BitsFault.{BitsFault}
use Rattle.qh_bits.specs.declared.faults.BitsFault.TheVariants.{Line}
use Rattle.qh_bits.proofs.StringLemmas.{good_string}

some_none : (fault : BitsFault) (faults : List BitsFault) → fault ∷ faults ≡ [] → ⊥
some_none fault faults e = (cc)

spelled_in : (qubits before : ℕ) (lines : List (ℕ × List ℕ)) → faults_in qubits before lines ≡ [] → map (bits_text qubits) (indices_in lines) ≡ strings_in lines
spelled_in qubits before [] none = refl
spelled_in qubits before (line ∷ lines) none = by_fault (fault_of qubits before string) refl (spelled_in qubits (before + 1) lines)
  where
    string : List ℕ
    string = trimmed line.1

    by_fault : (o : Option BitsWhy) → fault_of qubits before string ≡ o
        → (faults_in qubits (before + 1) lines ≡ [] → map (bits_text qubits) (indices_in lines) ≡ strings_in lines) → map (bits_text qubits) (indices_in (line ∷ lines)) ≡ strings_in (line ∷ lines)
    by_fault (Some why) e others =
        absurd (some_none (Line line.0 why) (faults_in qubits (before + 1) lines)
        (sym (ap (λ o. cons_option (option_map (Line line.0) o) (faults_in qubits (before + 1) lines)) e) ∙ none))
    by_fault None e others =
        let good = good_string qubits before string e in
        ap₂ (λ (s : List ℕ) (ss : List (List ℕ)). s ∷ ss)
        (ap (λ m. bits_text m (index_of string)) (sym good.1) ∙ string_of_index string good.0)
        (others (sym (ap (λ o. cons_option (option_map (Line line.0) o) (faults_in qubits (before + 1) lines)) e) ∙ none))

answered : (faults : List BitsFault) (found indices : List ℕ) → answer faults found ≡ Ok indices → (faults ≡ []) × (found ≡ indices)
answered (fault ∷ faults) found indices e = absurd (cc)
answered [] [] indices e = absurd (cc)
answered [] (x ∷ xs) indices e = (refl, cc)

-- each index of a text is spelled as its string
pub spelled : (qubits : ℕ) (text indices : List ℕ) → bits_of qubits text ≡ Ok indices → map (bits_text qubits) indices ≡ strings_of text
unfolding bits_of
spelled qubits text indices is =
    let parts = answered (faults_in qubits 0 (content_of text)) (indices_in (content_of text)) indices is in
    ap (map (bits_text qubits)) (sym parts.1) ∙ spelled_in qubits 0 (content_of text) parts.0
