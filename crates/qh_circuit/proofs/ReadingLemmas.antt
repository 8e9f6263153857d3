-- What a reader of gate lines keeps from one line to the next.
use Rattle.std.proofs.Common.{◌≡◌, ℕ, Bool, true, false, cond, List, [], ◌∷◌, ◌++◌, map, Some, None, Ok, Err, Result, refl, sym, ap, ◌∙◌, append_assoc}
use Rattle.std.specs.Option.{option_or}
use Rattle.std.proofs.lemmas.List.Elements.{filter-append}
use Rattle.std.specs.Prelude.{nat_le}
use Rattle.qh_text.specs.Decimal.{value_of}
use Rattle.qh_text.specs.Lines.{content_of}
use Rattle.qh_text.specs.LineWords.{words_of}
use Rattle.qh_gates.specs.declared.gate.Gate.{Gate}
use Rattle.qh_gates.specs.Circuits.{Circuit}
use Rattle.qh_circuit.specs.declared.latest.Latest.{Latest}
use Rattle.qh_circuit.specs.declared.fault.Why.{Why}
use Rattle.qh_circuit.specs.declared.fault.Why.TheVariants.{NoCount}
use Rattle.qh_circuit.specs.GateLines.{gate_of, kept, word}
use Rattle.qh_circuit.specs.Faults.{first_fault, count_faults, gate_faults, order_faults}
use Rattle.qh_circuit.specs.Order.{IsLatest}
use Rattle.qh_circuit.specs.Texts.{FaultyLine, behind, line_gate, line_fault, faulty, faulty_lines, gates_in, circuit_in, circuit_of}

-- of these lines the rest is still to be read
pub record Reading (qubits max_time : ℕ) (lines rest : List (ℕ × List ℕ)) (latest : Latest) (circuit : Circuit) : Type 0 where
  pub before : List Gate
  pub faults : faulty_lines qubits max_time [] lines ≡ faulty_lines qubits max_time before rest
  pub gates : map line_gate lines ≡ before ++ map line_gate rest
  pub latest_is : IsLatest latest before
  pub circuit_is : circuit ≡ record { qubits = qubits; gates = kept max_time before }

-- the first fault of two tables, one behind the other
first_fault-append : (rows more : List (Why × Bool)) → first_fault (rows ++ more) ≡ option_or (first_fault rows) (first_fault more)
first_fault-append [] more = refl
first_fault-append (row ∷ rows) more = by_case row.1 (first_fault-append rows more)
  where
    by_case : (test : Bool) → first_fault (rows ++ more) ≡ option_or (first_fault rows) (first_fault more)
        → cond test (Some row.0) (first_fault (rows ++ more)) ≡ option_or (cond test (Some row.0) (first_fault rows)) (first_fault more)
    by_case true h = refl
    by_case false h = h

by_itself : (qubits max_time : ℕ) (before : List Gate) (line : ℕ × List ℕ) (why : Why) → first_fault (gate_faults qubits (words_of line.1)) ≡ Some why
    → line_fault qubits max_time before line ≡ Some why
by_itself qubits max_time before line why h =
    first_fault-append (gate_faults qubits (words_of line.1)) (order_faults max_time before (line_gate line))
    ∙ ap (λ o. option_or o (first_fault (order_faults max_time before (line_gate line)))) h

pub by_order : (qubits max_time : ℕ) (before : List Gate) (line : ℕ × List ℕ) → first_fault (gate_faults qubits (words_of line.1)) ≡ None
    → line_fault qubits max_time before line ≡ first_fault (order_faults max_time before (line_gate line))
by_order qubits max_time before line h =
    first_fault-append (gate_faults qubits (words_of line.1)) (order_faults max_time before (line_gate line))
    ∙ ap (λ o. option_or o (first_fault (order_faults max_time before (line_gate line)))) h

-- the next line is the first that is faulty
faulty_next : (qubits max_time : ℕ) (lines rest more : List (ℕ × List ℕ)) (latest : Latest) (circuit : Circuit) (line : ℕ × List ℕ) (why : Why)
    → (r : Reading qubits max_time lines rest latest circuit) → rest ≡ line ∷ more → line_fault qubits max_time r.before line ≡ Some why
    → gates_in qubits max_time lines ≡ Err (record { line = line.0; why = why })
faulty_next qubits max_time lines rest more latest circuit line why r step fault =
    let answer : Result Circuit FaultyLine = Ok (record { qubits = qubits; gates = kept max_time (map line_gate lines) }) in
    let next : List FaultyLine = faulty_lines qubits max_time (r.before ++ line_gate line ∷ []) more in
    ap (λ faults. behind faults answer) (r.faults ∙ ap (faulty_lines qubits max_time r.before) step)
    ∙ ap (λ o. behind (faulty line.0 o ++ next) answer) fault

pub faulty_by_itself : (qubits max_time : ℕ) (lines rest more : List (ℕ × List ℕ)) (latest : Latest) (circuit : Circuit) (line : ℕ × List ℕ) (why : Why)
    → (r : Reading qubits max_time lines rest latest circuit) → rest ≡ line ∷ more → first_fault (gate_faults qubits (words_of line.1)) ≡ Some why
    → gates_in qubits max_time lines ≡ Err (record { line = line.0; why = why })
faulty_by_itself qubits max_time lines rest more latest circuit line why r step fault =
    faulty_next qubits max_time lines rest more latest circuit line why r step (by_itself qubits max_time r.before line why fault)

pub faulty_by_order : (qubits max_time : ℕ) (lines rest more : List (ℕ × List ℕ)) (latest : Latest) (circuit : Circuit) (line : ℕ × List ℕ) (gate : Gate) (why : Why)
    → (r : Reading qubits max_time lines rest latest circuit) → rest ≡ line ∷ more → first_fault (gate_faults qubits (words_of line.1)) ≡ None
    → gate ≡ gate_of (words_of line.1) → Some why ≡ first_fault (order_faults max_time r.before gate)
    → gates_in qubits max_time lines ≡ Err (record { line = line.0; why = why })
faulty_by_order qubits max_time lines rest more latest circuit line gate why r step clean is fault =
    faulty_next qubits max_time lines rest more latest circuit line why r step
    (by_order qubits max_time r.before line clean ∙ sym (fault ∙ ap (λ g. first_fault (order_faults max_time r.before g)) is))

-- a line without a fault was read
pub read_more : (qubits max_time : ℕ) (lines rest more : List (ℕ × List ℕ)) (latest next : Latest) (circuit longer : Circuit) (line : ℕ × List ℕ) (gate : Gate)
    → (r : Reading qubits max_time lines rest latest circuit) → rest ≡ line ∷ more → first_fault (gate_faults qubits (words_of line.1)) ≡ None
    → gate ≡ gate_of (words_of line.1) → None ≡ first_fault (order_faults max_time r.before gate)
    → IsLatest next (r.before ++ gate ∷ []) → longer ≡ record { qubits = circuit.qubits; gates = circuit.gates ++ kept max_time (gate ∷ []) }
    → Reading qubits max_time lines more next longer
read_more qubits max_time lines rest more latest next circuit longer line gate r step clean is order latest_is longer_is =
    let none : line_fault qubits max_time r.before line ≡ None =
    by_order qubits max_time r.before line clean ∙ sym (order ∙ ap (λ g. first_fault (order_faults max_time r.before g)) is) in
    record {
      before = r.before ++ gate ∷ [];
      faults = r.faults ∙ ap (faulty_lines qubits max_time r.before) step
          ∙ ap (λ o. faulty line.0 o ++ faulty_lines qubits max_time (r.before ++ line_gate line ∷ []) more) none
          ∙ ap (λ g. faulty_lines qubits max_time (r.before ++ g ∷ []) more) (sym is);
      gates = r.gates ∙ ap (λ ls. r.before ++ map line_gate ls) step ∙ ap (λ g. r.before ++ g ∷ map line_gate more) (sym is)
          ∙ sym (append_assoc r.before (gate ∷ []) (map line_gate more));
      latest_is = latest_is;
      circuit_is = longer_is ∙ ap (λ (c : Circuit). record { qubits = c.qubits; gates = c.gates ++ kept max_time (gate ∷ []) }) r.circuit_is
          ∙ ap (λ (gs : List Gate). record { qubits = qubits; gates = gs }) (sym (filter-append (λ g. nat_le g.time max_time) r.before (gate ∷ [])));
    }

-- the text by its first line
pub no_count : (max_time : ℕ) (bytes : List ℕ) → content_of bytes ≡ [] → circuit_of max_time bytes ≡ Err (record { line = 0; why = NoCount })
unfolding circuit_of
no_count max_time bytes none = ap (circuit_in max_time) none

pub bad_count : (max_time : ℕ) (bytes : List ℕ) (line : ℕ × List ℕ) (lines : List (ℕ × List ℕ)) (why : Why) → content_of bytes ≡ line ∷ lines
    → first_fault (count_faults (words_of line.1)) ≡ Some why → circuit_of max_time bytes ≡ Err (record { line = line.0; why = why })
unfolding circuit_of
bad_count max_time bytes line lines why first fault =
    ap (circuit_in max_time) first ∙ ap (λ o. behind (faulty line.0 o) (gates_in (value_of (word 0 (words_of line.1))) max_time lines)) fault

pub good_count : (max_time qubits : ℕ) (bytes : List ℕ) (line : ℕ × List ℕ) (lines : List (ℕ × List ℕ)) → content_of bytes ≡ line ∷ lines
    → first_fault (count_faults (words_of line.1)) ≡ None → value_of (word 0 (words_of line.1)) ≡ qubits → circuit_of max_time bytes ≡ gates_in qubits max_time lines
unfolding circuit_of
good_count max_time qubits bytes line lines first clean value =
    ap (circuit_in max_time) first ∙ ap (λ o. behind (faulty line.0 o) (gates_in (value_of (word 0 (words_of line.1))) max_time lines)) clean
    ∙ ap (λ q. gates_in q max_time lines) value
