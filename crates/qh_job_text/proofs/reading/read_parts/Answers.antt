use Rattle.std.proofs.Common.{◌≡◌, ℕ, ◌∷◌, [], length, codes, Option, Some, Result, Ok, Err, refl, sym, ap, ◌∙◌}
use Rattle.std.proofs.lemmas.Result.{err_from_is_err_and}
use Rattle.qh_gates.specs.Circuits.{Circuit}
use Rattle.qh_circuit.specs.Spelling.{circuit_text}
use Rattle.qh_circuit.specs.Texts.{circuit_of, FaultyLine}
use Rattle.qh_plan.specs.Texts.{words, gates_text}
use Rattle.qh_text.proofs.CutLemmas.{each_without}
use Rattle.qh_plan.proofs.OneTextLemmas.{written, line_without, one_number, circuit_back}
use Rattle.qh_job_text.proofs.reading.read_parts.Goals as goal

same_ok : (c d : Circuit) → ◌≡◌ {A = Result Circuit FaultyLine} (Ok c) (Ok d) → c ≡ d
same_ok c d e = cc

ok_err : (c : Circuit) (f : FaultyLine) → ◌≡◌ {A = Result Circuit FaultyLine} (Ok c) (Err f) → ⊥
ok_err c f e = (cc)

some_same : {X : Type 0} (a b : X) → ◌≡◌ {A = Option X} (Some a) (Some b) → a ≡ b
some_same a b e = cc

same_pair : (a b x y : ℕ) → ◌≡◌ {A = Option (ℕ × ℕ)} (Some (a, b)) (Some (x, y)) → (a ≡ x) × (b ≡ y)
same_pair a b x y e = let p = some_same {X = ℕ × ℕ} (a, b) (x, y) e in (ap (λ (q : ℕ × ℕ). q.0) p, ap (λ (q : ℕ × ℕ). q.1) p)

pub returns-in_default-next_number : goal.returns-in_default-next_number
returns-in_default-next_number c = λ j h e.
    let w = written j h.valid in
    let l = c.in-Some.ensures j h e in
    absurd (c.in_default-next_number.ensures.only (codes "bits") (length j.bits) [] (each_without 32 (codes "bits") refl) w.count l.count)

pub returns-in_default-cut_at : goal.returns-in_default-cut_at
returns-in_default-cut_at c = λ j h e.
    let w = written j h.valid in
    let l = c.in-Some.ensures j h e in
    let n = c.in-Some-next_number.ensures.only (codes "bits") (length j.bits) [] (each_without 32 (codes "bits") refl) w.count l.count in
    let b = c.in_ok-bits.ensures j.circuit.qubits j.bits (gates_text j.circuit) h.valid.valid.few h.valid.bits_below (sym n.0) l.rest in
    let front = words (codes "gates") (length j.circuit.gates ∷ []) in
    let without = line_without (codes "gates") (length j.circuit.gates ∷ []) (each_without 10 (codes "gates") refl) (one_number (length j.circuit.gates) w.gates) in
    absurd (c.in_default-cut_at.ensures.only front (circuit_text j.circuit) without b.1)

pub returns-in-Err-Line : goal.returns-in-Err-Line
returns-in-Err-Line c = λ j h e.
    let w = written j h.valid in
    let l = c.in-Some.ensures j h e in
    let n = c.in-Some-next_number.ensures.only (codes "bits") (length j.bits) [] (each_without 32 (codes "bits") refl) w.count l.count in
    let b = c.in_ok-bits.ensures j.circuit.qubits j.bits (gates_text j.circuit) h.valid.valid.few h.valid.bits_below (sym n.0) l.rest in
    let front = words (codes "gates") (length j.circuit.gates ∷ []) in
    let without = line_without (codes "gates") (length j.circuit.gates ∷ []) (each_without 10 (codes "gates") refl) (one_number (length j.circuit.gates) w.gates) in
    let g = c.in-Some-cut_at.ensures.only front (circuit_text j.circuit) without b.1 in
    let back : circuit_of 4294967295 c.in-Some-cut_at.printed.now ≡ Ok j.circuit = ap (circuit_of 4294967295) g.1 ∙ circuit_back j h.valid in
    absurd (ok_err j.circuit _ (sym back ∙ (rw c.in-Err-Line.field-0-is at c.in-Err-Line.ensures.fault)))

pub returns : goal.returns
returns c = λ j h e.
    let w = written j h.valid in
    let l = c.in-Some.ensures j h e in
    let n = c.in-Some-next_number.ensures.only (codes "bits") (length j.bits) [] (each_without 32 (codes "bits") refl) w.count l.count in
    let b = c.in_ok-bits.ensures j.circuit.qubits j.bits (gates_text j.circuit) h.valid.valid.few h.valid.bits_below (sym n.0) l.rest in
    let front = words (codes "gates") (length j.circuit.gates ∷ []) in
    let without = line_without (codes "gates") (length j.circuit.gates ∷ []) (each_without 10 (codes "gates") refl) (one_number (length j.circuit.gates) w.gates) in
    let g = c.in-Some-cut_at.ensures.only front (circuit_text j.circuit) without b.1 in
    let back : circuit_of 4294967295 c.in-Some-cut_at.printed.now ≡ Ok j.circuit = ap (circuit_of 4294967295) g.1 ∙ circuit_back j h.valid in
    let split = c.in-Some-split_in.ensures j.p j.r w.p w.r l.split in
    let pair = same_pair c.in-Some-split_in.split.0 c.in-Some-split_in.split.1 j.p j.r split in
    record {
      circuit = same_ok c.in-Ok-read_circuit.circuit j.circuit (sym c.in-Ok-read_circuit.ensures.ok ∙ back);
      part = c.in-Ok.ensures (codes "part") j.part (each_without 32 (codes "part") refl) w.part l.part;
      first = pair.0;
      second = pair.1;
      prefix = c.prefix_in.ensures j.prefix w.prefix l.prefix;
      bits = b.0;
    }

pub returns-in_err-bits : goal.returns-in_err-bits
returns-in_err-bits c = λ j h e.
    let w = written j h.valid in
    let l = c.in-Some.ensures j h e in
    let n = c.in-Some-next_number.ensures.only (codes "bits") (length j.bits) [] (each_without 32 (codes "bits") refl) w.count l.count in
    let b = c.in_err-bits.ensures j.circuit.qubits j.bits (gates_text j.circuit) h.valid.valid.few h.valid.bits_below (sym n.0) l.rest in
    let p = err_from_is_err_and c.from_residual.result c.from_residual.ensures.1 in rw (p.1, p.2) b
