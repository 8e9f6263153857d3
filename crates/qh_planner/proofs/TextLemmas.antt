-- The length of a job's text.
use Rattle.std.proofs.Common.{◌≡◌, ℕ, zero, suc, ◌+◌, ◌*◌, List, [], ◌∷◌, ◌++◌, length, codes, Option, Some, None, arith, refl, sym, ap, ◌∙◌, length-append, append-nil}
use Rattle.std.specs.List.{flat_map}
use Rattle.std.proofs.lemmas.Grind.{flat_map-append}
use Rattle.qh_text.specs.Bitstrings.{bits_text}
use Rattle.qh_text.proofs.BitLemmas.{bits_length}
use Rattle.qh_gates.specs.Circuits.{Circuit}
use Rattle.qh_circuit.specs.Spelling.{circuit_text}
use Rattle.qh_plan.specs.Jobs.{Job}
use Rattle.qh_plan.specs.Texts.{job_text, word, words, prefix_text, bits_line, gates_text, asked_text}
use Rattle.qh_plan.proofs.TextLemmas.{job_is}
use Rattle.qh_planner.specs.Cuts.{first_qubits}
use Rattle.qh_planner.specs.Counts.{loose_text, fixed_length, prefix_word}
use Rattle.qh_planner.proofs.PartLemmas.{range_end}

lines_length : (n : ℕ) (bits : List ℕ) → length (flat_map (bits_line n) bits) ≡ length bits * (n + 1)
lines_length n [] = omega arith
lines_length n (b ∷ bits) =
    let line = length-append (bits_text n b) (10 ∷ []) in
    let digits = bits_length n b in
    let rest = lines_length n bits in
    length-append (bits_line n b) (flat_map (bits_line n) bits) ∙ omega arith

prefix_length : (prefix : Option ℕ) → length (prefix_text prefix) ≡ 6 + length (prefix_word prefix)
prefix_length None = refl
prefix_length (Some w) =
    length-append (codes "prefix") (word w ++ []) ∙ ap (λ (t : List ℕ). 6 + length t) (append-nil (word w))

-- a name, a number and the rest
named : (name : List ℕ) (n k : ℕ) (rest : List ℕ) → length name ≡ k → length (words name (n ∷ []) ++ 10 ∷ rest) ≡ k + length (word n) + 1 + length rest
named name n k rest e =
    let a = length-append (words name (n ∷ [])) (10 ∷ rest) in
    let b = length-append name (word n ++ []) in
    let c = ap (length {A = ℕ}) (append-nil (word n)) in
    omega arith

asked_length : (c : Circuit) (bits : List ℕ)
    → length (asked_text c bits) ≡ 4 + length (word (length bits)) + 1 + (length bits * (c.qubits + 1) + (5 + length (word (length c.gates)) + 1 + length (circuit_text c)))
asked_length c bits =
    named (codes "bits") (length bits) 4 (flat_map (bits_line c.qubits) bits ++ gates_text c) refl
    ∙ ap (λ k. 4 + length (word (length bits)) + 1 + k)
    (length-append (flat_map (bits_line c.qubits) bits) (gates_text c)
    ∙ ap (λ k. k + length (gates_text c)) (lines_length c.qubits bits)
    ∙ ap (λ k. length bits * (c.qubits + 1) + k) (named (codes "gates") (length c.gates) 5 (circuit_text c) refl))

-- three lines and the rest
fronts : (part split prefix rest : List ℕ) (p r : ℕ) → split ≡ codes "split" ++ (word p ++ (word r ++ []))
    → length (codes "job 1" ++ 10 ∷ ((codes "part" ++ part) ++ 10 ∷ (split ++ 10 ∷ (prefix ++ 10 ∷ rest))))
    ≡ 5 + 1 + (4 + length part) + 1 + (5 + length (word p) + length (word r)) + 1 + length prefix + 1 + length rest
fronts part split prefix rest p r is =
    let a = length-append (codes "job 1") (10 ∷ ((codes "part" ++ part) ++ 10 ∷ (split ++ 10 ∷ (prefix ++ 10 ∷ rest)))) in
    let b = length-append (codes "part" ++ part) (10 ∷ (split ++ 10 ∷ (prefix ++ 10 ∷ rest))) in
    let c = length-append (codes "part") part in
    let d = length-append split (10 ∷ (prefix ++ 10 ∷ rest)) in
    let e = length-append prefix (10 ∷ rest) in
    let f : length split ≡ 5 + length (word p) + length (word r) = ap (length {A = ℕ}) is ∙ split_length in
    let one : length (codes "job 1") ≡ 5 = refl in
    let two : length (codes "part") ≡ 4 = refl in
    omega arith
  where
    split_length : length (codes "split" ++ (word p ++ (word r ++ []))) ≡ 5 + length (word p) + length (word r)
    split_length =
        let a = length-append (codes "split") (word p ++ (word r ++ [])) in
        let b = length-append (word p) (word r ++ []) in
        let c = ap (length {A = ℕ}) (append-nil (word r)) in
        let d : length (codes "split") ≡ 5 = refl in
        omega arith

loose_length : (c : Circuit) (p r : ℕ) (prefix : Option ℕ) (bits part : List ℕ) → length (loose_text c p r prefix bits ++ part)
    ≡ length (circuit_text c) + length (word p) + length (word r) + length (prefix_word prefix) + length (word (length bits)) + length (word (length c.gates)) + length part
loose_length c p r prefix bits part = six (circuit_text c) (word p) (word r) (prefix_word prefix) (word (length bits)) (word (length c.gates)) part
  where
    six : (s t u v w x y : List ℕ) → length ((s ++ t ++ u ++ v ++ w ++ x) ++ y) ≡ length s + length t + length u + length v + length w + length x + length y
    six s t u v w x y = simp length-append (omega arith)

-- the length of a job's text by the texts that the code makes
pub text_length : (c : Circuit) (p r : ℕ) (prefix : Option ℕ) (bits part : List ℕ)
    → length (job_text (record { circuit = c; part = part; p = p; r = r; prefix = prefix; bits = bits }))
    ≡ fixed_length c.qubits (length bits) + length (loose_text c p r prefix bits ++ flat_map word part)
text_length c p r prefix bits part =
    let j : Job = record { circuit = c; part = part; p = p; r = r; prefix = prefix; bits = bits } in
    let a = fronts (flat_map word part) _ (prefix_text prefix) (asked_text c bits) p r refl in
    let b = prefix_length prefix in
    let d = asked_length c bits in
    let e = loose_length c p r prefix bits (flat_map word part) in
    ap (length {A = ℕ}) (job_is j) ∙ omega arith

-- one qubit more in part 1
pub part_text : (loose now : List ℕ) (m : ℕ) → now ≡ loose ++ flat_map word (first_qubits m) → now ++ word m ≡ loose ++ flat_map word (first_qubits (m + 1))
part_text loose now m e =
    ap (λ (t : List ℕ). t ++ word m) e
    ∙ together loose (flat_map word (first_qubits m)) (word m)
    ∙ ap (λ (t : List ℕ). loose ++ t) (sym (ap (flat_map word) (range_end m) ∙ flat_map-append word (first_qubits m) (m ∷ []) ∙ ap (λ (t : List ℕ). flat_map word (first_qubits m) ++ t) (append-nil (word m))))
  where
    together : (x y z : List ℕ) → (x ++ y) ++ z ≡ x ++ (y ++ z)
    together [] y z = refl
    together (k ∷ x) y z = ap (λ (t : List ℕ). k ∷ t) (together x y z)
