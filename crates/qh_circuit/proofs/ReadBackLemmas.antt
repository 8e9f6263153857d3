-- A printed circuit is read back.
use Rattle.std.proofs.Common.{◌≡◌, ◌≢◌, ℕ, ◌+◌, ◌<◌, ◌≤◌, ◌^◌, ⊎_elim, Bool, true, false, ◌||◌, cond, nat_le, List, [], ◌∷◌, ◌++◌, length, get_or, map, All, None, Ok, decimal, refl, sym, ap, subst, ◌∙◌, arith, append_assoc}
use Rattle.std.specs.Prelude.{◌==◌, fold}
use Rattle.std.specs.List.{flat_map}
use Rattle.std.proofs.lemmas.Bool.{cases_eq, and_from, and_left, and_right, le-leb, ne_eqb, cond-true, cond-false, not_from_true}
use Rattle.std.proofs.lemmas.List.{get_or_append_left, get_or_at, length-append}
use Rattle.std.proofs.lemmas.List.Elements.{All-tail, All-head}
use Rattle.std.proofs.lemmas.List.Folds.{list_any_none}
use Rattle.qh_text.specs.Decimal.{value_of}
use Rattle.qh_text.specs.Lines.{content_from, content_of}
use Rattle.qh_text.specs.LineWords.{words_of}
use Rattle.qh_text.proofs.LineLemmas.{lines_of-nil, content_from-nil, content_from-line}
use Rattle.qh_gates.specs.declared.gate.Gate.{Gate}
use Rattle.qh_gates.specs.Circuits.{Circuit, Fits, InOrder, IsCircuit}
use Rattle.qh_circuit.specs.GateLines.{word, gate_of, kept, overlaps}
use Rattle.qh_circuit.specs.Faults.{first_fault, count_faults, order_faults}
use Rattle.qh_circuit.specs.Spelling.{gate_text, gate_line, circuit_text}
use Rattle.qh_circuit.specs.Texts.{behind, line_gate, line_fault, faulty, faulty_lines, circuit_of}
use Rattle.qh_circuit.proofs.OrderLemmas.{kept_too}
use Rattle.qh_circuit.proofs.ReadingLemmas.{by_order, good_count}
use Rattle.qh_circuit.proofs.WordsLemmas.{IsLine, number_is, value_of-decimal, printed_fault, printed_gate, printed_line, count_line, count_words}

-- the numbered lines of these gates
abbrev lines_from : ℕ → List Gate → List (ℕ × List ℕ)
lines_from number [] = []
lines_from number (gate ∷ gates) = (number, gate_text gate) ∷ lines_from (number + 1) gates

abbrev IsSmall : Gate → Type 0
IsSmall gate = gate.time < 2 ^ 32

content_is : (qubits number : ℕ) (gates : List Gate) → qubits ≤ 40 → All (Fits qubits) gates → All IsSmall gates
    → content_from number (flat_map gate_line gates) ≡ lines_from number gates
content_is qubits number [] few fit small = content_from-nil number [] lines_of-nil
content_is qubits number (gate ∷ gates) few fit small =
    let line : IsLine (gate_text gate) = printed_line qubits gate (All-head (Fits qubits) gate gates fit) few (All-head IsSmall gate gates small) in
    ap (content_from number) (append_assoc (gate_text gate) (10 ∷ []) (flat_map gate_line gates))
    ∙ content_from-line number (gate_text gate) (flat_map gate_line gates) line.feed line.return line.content
    ∙ ap (λ ls. (number, gate_text gate) ∷ ls) (content_is qubits (number + 1) gates few (All-tail (Fits qubits) gate gates fit) (All-tail IsSmall gate gates small))

gates_are : (qubits number : ℕ) (gates : List Gate) → qubits ≤ 40 → All (Fits qubits) gates → All IsSmall gates → map line_gate (lines_from number gates) ≡ gates
gates_are qubits number [] few fit small = refl
gates_are qubits number (gate ∷ gates) few fit small =
    ap (λ g. g ∷ map line_gate (lines_from (number + 1) gates)) (printed_gate qubits gate (All-head (Fits qubits) gate gates fit) few (All-head IsSmall gate gates small))
    ∙ ap (λ gs. gate ∷ gs) (gates_are qubits (number + 1) gates few (All-tail (Fits qubits) gate gates fit) (All-tail IsSmall gate gates small))

kept_all : (max_time : ℕ) (gates : List Gate) → All (λ g. g.time ≤ max_time) gates → kept max_time gates ≡ gates
kept_all max_time [] within = refl
kept_all max_time (gate ∷ gates) within =
    cond-true _ _ _ (le-leb gate.time max_time (All-head (λ g. g.time ≤ max_time) gate gates within))
    ∙ ap (λ gs. gate ∷ gs) (kept_all max_time gates (All-tail (λ g. g.time ≤ max_time) gate gates within))

kept_shorter : (max_time : ℕ) (gates : List Gate) → length (kept max_time gates) ≤ length gates
kept_shorter max_time [] = omega arith
kept_shorter max_time (gate ∷ gates) = by_case (nat_le gate.time max_time) (kept_shorter max_time gates)
  where
    by_case : (test : Bool) → length (kept max_time gates) ≤ length gates → length (cond test (gate ∷ kept max_time gates) (kept max_time gates)) ≤ length (gate ∷ gates)
    by_case true short = omega arith
    by_case false short = omega arith

last_below : (start time : ℕ) (gates : List Gate) → start ≤ time → All (λ g. g.time ≤ time) gates → fold (λ _ g. g.time) start gates ≤ time
last_below start time [] low below = low
last_below start time (gate ∷ gates) low below = last_below gate.time time gates (All-head (λ g. g.time ≤ time) gate gates below) (All-tail (λ g. g.time ≤ time) gate gates below)

neither : (a b p q : ℕ) → a ≢ p → b ≢ p → a ≢ q → b ≢ q → ((a == p || b == p) || (a == q || b == q)) ≡ false
neither a b p q not_ap not_bp not_aq not_bq =
    ap (λ t. (t || b == p) || (a == q || b == q)) (ne_eqb a p not_ap) ∙ ap (λ t. t || (a == q || b == q)) (ne_eqb b p not_bp)
    ∙ ap (λ t. t || b == q) (ne_eqb a q not_aq) ∙ ne_eqb b q not_bq

apart : (earlier gate : Gate) → InOrder earlier gate → overlaps gate earlier ≡ false
apart earlier gate h = ⊎_elim
    (λ e. and_right _ _ (neither earlier.q0 earlier.q1 gate.q0 gate.q1 (h.apart00 e) (h.apart10 e) (h.apart01 e) (h.apart11 e)))
    (λ f. and_left _ _ (ne_eqb earlier.time gate.time f)) (cases_eq earlier.time gate.time)

-- a gate of a circuit has no fault by those before it
in_order : (qubits max_time : ℕ) (before rest gates : List Gate) (gate : Gate) → IsCircuit (record { qubits = qubits; gates = gates }) → gates ≡ before ++ gate ∷ rest
    → None ≡ first_fault (order_faults max_time before gate)
in_order qubits max_time before rest gates gate h are =
    kept_too max_time before gate (last_below 0 gate.time before (omega arith) (λ k d l. (ordered k d l).time))
    (list_any_none (overlaps gate) before (λ k d l. apart (get_or before k d) gate (ordered k d l)))
    (let short : length gates ≤ 4096 = h.short in omega (arith, kept_shorter max_time before, ap (length {A = Gate}) are, length-append before (gate ∷ rest)))
  where
    ordered : (k : ℕ) (d : Gate) → k < length before → InOrder (get_or before k d) gate
    ordered k d l =
        let within : length before < length gates = omega (arith, ap (length {A = Gate}) are, length-append before (gate ∷ rest)) in
        let first : get_or gates k d ≡ get_or before k d = ap (λ gs. get_or gs k d) are ∙ get_or_append_left before (gate ∷ rest) d k l in
        let second : get_or gates (length before) d ≡ gate = ap (λ gs. get_or gs (length before) d) are ∙ get_or_at before gate rest d (length before) refl in
        subst (λ g. InOrder g gate) first (subst (InOrder (get_or gates k d)) second (h.ordered k (length before) d l within))

none_faulty : (qubits max_time number : ℕ) (before rest gates : List Gate) → IsCircuit (record { qubits = qubits; gates = gates }) → gates ≡ before ++ rest
    → All (Fits qubits) rest → All IsSmall rest → faulty_lines qubits max_time before (lines_from number rest) ≡ []
none_faulty qubits max_time number before [] gates h are fit small = refl
none_faulty qubits max_time number before (gate ∷ rest) gates h are fit small =
    let few : qubits ≤ 40 = h.few in
    let fits : Fits qubits gate = All-head (Fits qubits) gate rest fit in
    let time : gate.time < 2 ^ 32 = All-head IsSmall gate rest small in
    let same : gate_of (words_of (gate_text gate)) ≡ gate = printed_gate qubits gate fits few time in
    let none : line_fault qubits max_time before (number, gate_text gate) ≡ None =
    by_order qubits max_time before (number, gate_text gate) (printed_fault qubits gate fits few time)
    ∙ ap (λ g. first_fault (order_faults max_time before g)) same ∙ sym (in_order qubits max_time before rest gates gate h are) in
    ap (λ o. faulty number o ++ faulty_lines qubits max_time (before ++ line_gate (number, gate_text gate) ∷ []) (lines_from (number + 1) rest)) none
    ∙ ap (λ g. faulty_lines qubits max_time (before ++ g ∷ []) (lines_from (number + 1) rest)) same
    ∙ none_faulty qubits max_time (number + 1) (before ++ gate ∷ []) rest gates h (are ∙ sym (append_assoc before (gate ∷ []) rest))
    (All-tail (Fits qubits) gate rest fit) (All-tail IsSmall gate rest small)

good_words : (qubits : ℕ) → 1 ≤ qubits → qubits ≤ 40 → first_fault (count_faults (words_of (decimal qubits))) ≡ None
good_words qubits some few =
    let small : qubits < 2 ^ 64 = omega arith in
    let value : value_of (decimal qubits) ≡ qubits = value_of-decimal qubits small in
    ap (λ ws. first_fault (count_faults ws)) (count_words qubits small)
    ∙ cond-false _ _ _ (not_from_true _ (and_from _ _ (number_is 41 qubits (omega arith) small) (le-leb 1 (value_of (decimal qubits)) (omega arith))))

-- what is printed is read back, where no gate is past the greatest time
pub read_back : (max_time : ℕ) (circuit : Circuit) → IsCircuit circuit → max_time < 2 ^ 32 → All (λ g. g.time ≤ max_time) circuit.gates
    → circuit_of max_time (circuit_text circuit) ≡ Ok circuit
unfolding circuit_text
read_back max_time circuit h limit within =
    let small : circuit.qubits < 2 ^ 64 = let few = h.few in omega arith in
    let times : All IsSmall circuit.gates = λ k d l. let t : (get_or circuit.gates k d).time ≤ max_time = within k d l in omega arith in
    let line : IsLine (decimal circuit.qubits) = count_line circuit.qubits small in
    let content : content_of (decimal circuit.qubits ++ 10 ∷ flat_map gate_line circuit.gates) ≡ (1, decimal circuit.qubits) ∷ lines_from 2 circuit.gates =
    content_from-line 1 (decimal circuit.qubits) (flat_map gate_line circuit.gates) line.feed line.return line.content
    ∙ ap (λ ls. (1, decimal circuit.qubits) ∷ ls) (content_is circuit.qubits 2 circuit.gates h.few h.fit times) in
    let gates : kept max_time (map line_gate (lines_from 2 circuit.gates)) ≡ circuit.gates =
    ap (kept max_time) (gates_are circuit.qubits 2 circuit.gates h.few h.fit times) ∙ kept_all max_time circuit.gates within in
    good_count max_time circuit.qubits _ (1, decimal circuit.qubits) (lines_from 2 circuit.gates) content (good_words circuit.qubits h.some h.few)
    (ap (λ ws. value_of (word 0 ws)) (count_words circuit.qubits small) ∙ value_of-decimal circuit.qubits small)
    ∙ ap (λ fs. behind fs (Ok (record { qubits = circuit.qubits; gates = kept max_time (map line_gate (lines_from 2 circuit.gates)) })))
    (none_faulty circuit.qubits max_time 2 [] circuit.gates circuit.gates h refl h.fit times)
    ∙ ap (λ (gs : List Gate). Ok (record { qubits = circuit.qubits; gates = gs })) gates
