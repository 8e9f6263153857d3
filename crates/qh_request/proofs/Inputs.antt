-- What the sources told at entry is what the call took.
use Rattle.std.proofs.Common.{◌≡◌, ℕ, List, Some, None, sym, ap, subst, ◌∙◌}
use Rattle.std.specs.declared.option.Option.{Option}
use Rattle.qh_gates.specs.Circuits.{Circuit}
use Rattle.qh_bits.specs.Texts.{bits_of}
use Rattle.qh_plan.specs.Jobs.{Job}
use Rattle.qh_words.specs.declared.options.Options.{Options}
use Rattle.qh_words.specs.declared.size.GenSize.{GenSize}
use Rattle.qh_request.specs.Seen.{Seen}
use Rattle.qh_request.specs.Inputs.{IsCircuitFile, IsBitsFile, IsInput, HasInput, first_indices}
use Rattle.qh_request.specs.Jobs.{Asks, Takes, IsPlannedJob}
use Rattle.qh_request.proofs.Causes.{read_told, same_circuit, same_bits, one_job}

-- the input that was read is the one that the sources told
pub same_input : (T : ℕ) (circuit bits : Seen) (g : Option GenSize) (c d : Circuit) (xs ys : List ℕ)
    → IsInput g T circuit bits c xs → HasInput g T circuit.before bits.before d ys → (c ≡ d) × (xs ≡ ys)
same_input T circuit bits None c d xs ys a h =
    let told = read_told circuit.before circuit.after a.circuit_bytes (IsCircuitFile T d) a.circuit_read h.0 in
    let same = same_circuit _ c d a.circuit_file.read told.read in
    let bits_told = read_told bits.before bits.after a.bits_bytes (IsBitsFile d ys) a.bits_read h.1 in
    (same, same_bits _ xs ys (sym (ap (λ (c : Circuit). bits_of c.qubits a.bits_bytes) same) ∙ a.bits_file.read) bits_told.read)
same_input T circuit bits (Some size) c d xs ys a h =
    let same : c ≡ d = a.circuit ∙ sym h.circuit in
    (same, a.indices ∙ ap (λ (c : Circuit). first_indices c.qubits) same ∙ sym h.indices)

same_part : (o : Option (List ℕ)) (p q : List ℕ) → o ≡ Some p → o ≡ Some q → p ≡ q
same_part o p q e f = cc

-- the job that the call came to is the one that the words ask for
pub same_job : (asked : Option Options) (o : Options) (circuit bits : Seen) (i j : Job) → Takes o circuit bits i → Asks asked circuit.before bits.before o j → i ≡ j
same_job asked o circuit bits i j t a =
    let input = same_input o.max_time circuit bits o.generated t.value a.value t.indices a.indices t.input a.input in
    let part = same_part o.part t.part a.part t.cut a.cut in
    one_job o a.part a.value a.indices i j
    (subst (λ p. IsPlannedJob o p a.value a.indices i) part
    (subst (λ c. IsPlannedJob o t.part c a.indices i) input.0
    (subst (λ xs. IsPlannedJob o t.part t.value xs i) input.1 t.planned))) a.planned
