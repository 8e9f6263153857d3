use Rattle.std.proofs.Common.{◌≡◌, ◌==◌, ℕ, ◌++◌, ◌∷◌, [], List, length, true, not, codes, refl, ◌∙◌}
use Rattle.std.specs.List.{list_all}
use Rattle.qh_plan.specs.Texts.{words, prefix_text, bits_line, gates_text}
use Rattle.std.specs.List.{flat_map}
use Rattle.qh_text.proofs.CutLemmas.{Without, each_without}
use Rattle.qh_plan.proofs.OneTextLemmas.{written, line_without, prefix_without, split_small, one_number}
use Rattle.qh_plan.proofs.TextLemmas.{job_is}
use Rattle.qh_job_text.proofs.reading.lines_of.Goals as goal

name : (t : List ℕ) → list_all (λ b. not (b == 10)) t ≡ true → Without 10 t
name t h = each_without 10 t h

pub returns-in_default : goal.returns-in_default
returns-in_default c = λ j h e.
    let w = written j h.valid in
    c.in_default.ensures.only (codes "job 1") ((words (codes "part") j.part) ++ 10 ∷ ((words (codes "split") (j.p ∷ j.r ∷ [])) ++ 10 ∷ ((prefix_text j.prefix) ++ 10 ∷ ((words (codes "bits") (length j.bits ∷ [])) ++ 10 ∷ (flat_map (bits_line j.circuit.qubits) j.bits ++ gates_text j.circuit))))) (name (codes "job 1") refl) (e ∙ job_is j)

pub returns-in_default-cut_at : goal.returns-in_default-cut_at
returns-in_default-cut_at c = λ j h e.
    let w = written j h.valid in
    let c0 = c.in-Some.ensures.only (codes "job 1") ((words (codes "part") j.part) ++ 10 ∷ ((words (codes "split") (j.p ∷ j.r ∷ [])) ++ 10 ∷ ((prefix_text j.prefix) ++ 10 ∷ ((words (codes "bits") (length j.bits ∷ [])) ++ 10 ∷ (flat_map (bits_line j.circuit.qubits) j.bits ++ gates_text j.circuit))))) (name (codes "job 1") refl) (e ∙ job_is j) in
    c.in_default-cut_at.ensures.only (words (codes "part") j.part) ((words (codes "split") (j.p ∷ j.r ∷ [])) ++ 10 ∷ ((prefix_text j.prefix) ++ 10 ∷ ((words (codes "bits") (length j.bits ∷ [])) ++ 10 ∷ (flat_map (bits_line j.circuit.qubits) j.bits ++ gates_text j.circuit)))) (line_without (codes "part") j.part (name (codes "part") refl) w.part) c0.1

pub returns-in_default-cut_at-2 : goal.returns-in_default-cut_at-2
returns-in_default-cut_at-2 c = λ j h e.
    let w = written j h.valid in
    let c0 = c.in-Some.ensures.only (codes "job 1") ((words (codes "part") j.part) ++ 10 ∷ ((words (codes "split") (j.p ∷ j.r ∷ [])) ++ 10 ∷ ((prefix_text j.prefix) ++ 10 ∷ ((words (codes "bits") (length j.bits ∷ [])) ++ 10 ∷ (flat_map (bits_line j.circuit.qubits) j.bits ++ gates_text j.circuit))))) (name (codes "job 1") refl) (e ∙ job_is j) in
    let c1 = c.in-Some-cut_at.ensures.only (words (codes "part") j.part) ((words (codes "split") (j.p ∷ j.r ∷ [])) ++ 10 ∷ ((prefix_text j.prefix) ++ 10 ∷ ((words (codes "bits") (length j.bits ∷ [])) ++ 10 ∷ (flat_map (bits_line j.circuit.qubits) j.bits ++ gates_text j.circuit)))) (line_without (codes "part") j.part (name (codes "part") refl) w.part) c0.1 in
    c.in_default-cut_at-2.ensures.only (words (codes "split") (j.p ∷ j.r ∷ [])) ((prefix_text j.prefix) ++ 10 ∷ ((words (codes "bits") (length j.bits ∷ [])) ++ 10 ∷ (flat_map (bits_line j.circuit.qubits) j.bits ++ gates_text j.circuit))) (line_without (codes "split") (j.p ∷ j.r ∷ []) (name (codes "split") refl) (split_small j w)) c1.1

pub returns-in_default-cut_at-3 : goal.returns-in_default-cut_at-3
returns-in_default-cut_at-3 c = λ j h e.
    let w = written j h.valid in
    let c0 = c.in-Some.ensures.only (codes "job 1") ((words (codes "part") j.part) ++ 10 ∷ ((words (codes "split") (j.p ∷ j.r ∷ [])) ++ 10 ∷ ((prefix_text j.prefix) ++ 10 ∷ ((words (codes "bits") (length j.bits ∷ [])) ++ 10 ∷ (flat_map (bits_line j.circuit.qubits) j.bits ++ gates_text j.circuit))))) (name (codes "job 1") refl) (e ∙ job_is j) in
    let c1 = c.in-Some-cut_at.ensures.only (words (codes "part") j.part) ((words (codes "split") (j.p ∷ j.r ∷ [])) ++ 10 ∷ ((prefix_text j.prefix) ++ 10 ∷ ((words (codes "bits") (length j.bits ∷ [])) ++ 10 ∷ (flat_map (bits_line j.circuit.qubits) j.bits ++ gates_text j.circuit)))) (line_without (codes "part") j.part (name (codes "part") refl) w.part) c0.1 in
    let c2 = c.in-Some-cut_at-2.ensures.only (words (codes "split") (j.p ∷ j.r ∷ [])) ((prefix_text j.prefix) ++ 10 ∷ ((words (codes "bits") (length j.bits ∷ [])) ++ 10 ∷ (flat_map (bits_line j.circuit.qubits) j.bits ++ gates_text j.circuit))) (line_without (codes "split") (j.p ∷ j.r ∷ []) (name (codes "split") refl) (split_small j w)) c1.1 in
    c.in_default-cut_at-3.ensures.only (prefix_text j.prefix) ((words (codes "bits") (length j.bits ∷ [])) ++ 10 ∷ (flat_map (bits_line j.circuit.qubits) j.bits ++ gates_text j.circuit)) (prefix_without j.prefix w.prefix) c2.1

pub returns-in_default-cut_at-4 : goal.returns-in_default-cut_at-4
returns-in_default-cut_at-4 c = λ j h e.
    let w = written j h.valid in
    let c0 = c.in-Some.ensures.only (codes "job 1") ((words (codes "part") j.part) ++ 10 ∷ ((words (codes "split") (j.p ∷ j.r ∷ [])) ++ 10 ∷ ((prefix_text j.prefix) ++ 10 ∷ ((words (codes "bits") (length j.bits ∷ [])) ++ 10 ∷ (flat_map (bits_line j.circuit.qubits) j.bits ++ gates_text j.circuit))))) (name (codes "job 1") refl) (e ∙ job_is j) in
    let c1 = c.in-Some-cut_at.ensures.only (words (codes "part") j.part) ((words (codes "split") (j.p ∷ j.r ∷ [])) ++ 10 ∷ ((prefix_text j.prefix) ++ 10 ∷ ((words (codes "bits") (length j.bits ∷ [])) ++ 10 ∷ (flat_map (bits_line j.circuit.qubits) j.bits ++ gates_text j.circuit)))) (line_without (codes "part") j.part (name (codes "part") refl) w.part) c0.1 in
    let c2 = c.in-Some-cut_at-2.ensures.only (words (codes "split") (j.p ∷ j.r ∷ [])) ((prefix_text j.prefix) ++ 10 ∷ ((words (codes "bits") (length j.bits ∷ [])) ++ 10 ∷ (flat_map (bits_line j.circuit.qubits) j.bits ++ gates_text j.circuit))) (line_without (codes "split") (j.p ∷ j.r ∷ []) (name (codes "split") refl) (split_small j w)) c1.1 in
    let c3 = c.in-Some-cut_at-3.ensures.only (prefix_text j.prefix) ((words (codes "bits") (length j.bits ∷ [])) ++ 10 ∷ (flat_map (bits_line j.circuit.qubits) j.bits ++ gates_text j.circuit)) (prefix_without j.prefix w.prefix) c2.1 in
    c.in_default-cut_at-4.ensures.only (words (codes "bits") (length j.bits ∷ [])) (flat_map (bits_line j.circuit.qubits) j.bits ++ gates_text j.circuit) (line_without (codes "bits") (length j.bits ∷ []) (name (codes "bits") refl) (one_number (length j.bits) w.count)) c3.1

pub returns : goal.returns
returns c = λ j h e.
    let w = written j h.valid in
    let c0 = c.in-Some.ensures.only (codes "job 1") ((words (codes "part") j.part) ++ 10 ∷ ((words (codes "split") (j.p ∷ j.r ∷ [])) ++ 10 ∷ ((prefix_text j.prefix) ++ 10 ∷ ((words (codes "bits") (length j.bits ∷ [])) ++ 10 ∷ (flat_map (bits_line j.circuit.qubits) j.bits ++ gates_text j.circuit))))) (name (codes "job 1") refl) (e ∙ job_is j) in
    let c1 = c.in-Some-cut_at.ensures.only (words (codes "part") j.part) ((words (codes "split") (j.p ∷ j.r ∷ [])) ++ 10 ∷ ((prefix_text j.prefix) ++ 10 ∷ ((words (codes "bits") (length j.bits ∷ [])) ++ 10 ∷ (flat_map (bits_line j.circuit.qubits) j.bits ++ gates_text j.circuit)))) (line_without (codes "part") j.part (name (codes "part") refl) w.part) c0.1 in
    let c2 = c.in-Some-cut_at-2.ensures.only (words (codes "split") (j.p ∷ j.r ∷ [])) ((prefix_text j.prefix) ++ 10 ∷ ((words (codes "bits") (length j.bits ∷ [])) ++ 10 ∷ (flat_map (bits_line j.circuit.qubits) j.bits ++ gates_text j.circuit))) (line_without (codes "split") (j.p ∷ j.r ∷ []) (name (codes "split") refl) (split_small j w)) c1.1 in
    let c3 = c.in-Some-cut_at-3.ensures.only (prefix_text j.prefix) ((words (codes "bits") (length j.bits ∷ [])) ++ 10 ∷ (flat_map (bits_line j.circuit.qubits) j.bits ++ gates_text j.circuit)) (prefix_without j.prefix w.prefix) c2.1 in
    let c4 = c.in-Some-cut_at-4.ensures.only (words (codes "bits") (length j.bits ∷ [])) (flat_map (bits_line j.circuit.qubits) j.bits ++ gates_text j.circuit) (line_without (codes "bits") (length j.bits ∷ []) (name (codes "bits") refl) (one_number (length j.bits) w.count)) c3.1 in
    record { part = c1.0; split = c2.0; prefix = c3.0; count = c4.0; rest = c4.1 }
