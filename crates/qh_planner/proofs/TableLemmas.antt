-- Rows of the table, one more at a time.
use Rattle.std.proofs.Common.{◌≡◌, ◌≢◌, ℕ, zero, suc, ◌+◌, ◌-◌, ◌<◌, ◌≤◌, List, [], ◌∷◌, ◌++◌, length, All, arith, refl, sym, ap, subst, ◌∙◌, append-nil}
use Rattle.std.specs.List.{flat_map}
use Rattle.std.proofs.lemmas.List.{length_push}
use Rattle.std.proofs.lemmas.List.Elements.{All-nil, All-push}
use Rattle.qh_gates.specs.Circuits.{IsCircuit}
use Rattle.qh_plan.specs.declared.fault.PlanFault.TheVariants.{Memory}
use Rattle.qh_plan.specs.Paths.{radices}
use Rattle.qh_plan.specs.Jobs.{Job}
use Rattle.qh_plan.specs.Texts.{job_text, word}
use Rattle.qh_plan.specs.Plans.{rising}
use Rattle.qh_planner.specs.declared.crossing.Crossing.{Crossing}
use Rattle.qh_planner.specs.declared.row.CutAnswer.{CutAnswer}
use Rattle.qh_planner.specs.declared.row.CutAnswer.TheVariants.{Refused}
use Rattle.qh_planner.specs.declared.row.CutRow.{CutRow}
use Rattle.qh_planner.specs.Cuts.{Asked, first_qubits, cut_job, IsRow, AreRows, IsTable}
use Rattle.qh_planner.specs.Counts.{IsCounted, IsCountedAnswer, below, counted_refusal, fixed_length, loose_text}
use Rattle.qh_planner.proofs.PartLemmas.{rising_first}
use Rattle.qh_planner.proofs.TextLemmas.{text_length, part_text}
use Rattle.qh_planner.proofs.RefusalLemmas.{answer_is, told_answer}

pub rows_push : (a : Asked) (m k : ℕ) (rows : List CutRow) (row : CutRow) → AreRows a m rows → k ≡ m + length rows → IsRow a k row → AreRows a m (rows ++ row ∷ [])
rows_push a m k [] row h e is = (subst (λ i. IsRow a i row) (e ∙ omega arith) is, tt)
rows_push a m k (first ∷ rows) row h e is = (h.0, rows_push a (m + 1) k rows row h.1 (omega arith) is)

-- the rows before one, that one, and those after it
pub rows_split : (a : Asked) (m : ℕ) (before : List CutRow) (row : CutRow) (after : List CutRow) → AreRows a m (before ++ row ∷ after)
    → AreRows a m before × IsRow a (m + length before) row × AreRows a (m + length before + 1) after
rows_split a m [] row after h =
    (tt, subst (λ i. IsRow a i row) (omega arith) h.0, subst (λ i. AreRows a i after) (omega arith) h.1)
rows_split a m (first ∷ before) row after h =
    let rest = rows_split a (m + 1) before row after h.1 in
    let e : m + 1 + length before ≡ m + suc (length before) = omega arith in
    ((h.0, rest.0), subst (λ i. IsRow a i row) e rest.1, subst (λ i. AreRows a (i + 1) after) e rest.2)

-- the length of the text of a cut's job
bytes_are : (a : Asked) (m : ℕ) (now : List ℕ) → m ≤ a.circuit.qubits → now ≡ loose_text a.circuit a.p a.r a.prefix a.bits ++ flat_map word (first_qubits m)
    → fixed_length a.circuit.qubits (length a.bits) + length now ≡ length (job_text (cut_job a m))
bytes_are a m now few e =
    let loose = loose_text a.circuit a.p a.r a.prefix a.bits in
    let part : rising a.circuit.qubits (first_qubits m) ≡ first_qubits m = rising_first a.circuit.qubits m few in
    ap (λ (t : List ℕ). fixed_length a.circuit.qubits (length a.bits) + length t) (e ∙ ap (λ (t : List ℕ). loose ++ flat_map word t) (sym part))
    ∙ sym (text_length a.circuit a.p a.r a.prefix a.bits (rising a.circuit.qubits (first_qubits m)))

-- the rows of the cuts before this one, and the words of the texts of their jobs
pub record IsBegun (a : Asked) (size : ℕ) (rows : List CutRow) (text : List ℕ) : Type 0 where
  pub count : length rows ≡ size - 1
  pub rows_are : AreRows a 1 rows
  pub told : All (λ (row : CutRow). row.answer ≢ Refused Memory) rows
  pub text_is : text ≡ loose_text a.circuit a.p a.r a.prefix a.bits ++ flat_map word (first_qubits (size - 1))

pub begun_none : (a : Asked) (text : List ℕ) → text ≡ loose_text a.circuit a.p a.r a.prefix a.bits → IsBegun a 1 [] text
begun_none a text e = record {
  count = refl;
  rows_are = tt;
  told = All-nil (λ (row : CutRow). row.answer ≢ Refused Memory);
  text_is = e ∙ sym (append-nil (loose_text a.circuit a.p a.r a.prefix a.bits));
}

pub begun_more : (a : Asked) (size bytes : ℕ) (rows : List CutRow) (text new : List ℕ) (x : Crossing) (answer : CutAnswer)
    → IsCircuit a.circuit → 1 ≤ size → size < a.circuit.qubits → IsBegun a size rows text
    → IsCounted (radices (below size) a.circuit.gates) a.p a.r x
    → new ≡ text ++ word (size - 1) → bytes ≡ fixed_length a.circuit.qubits (length a.bits) + length new
    → IsCountedAnswer a.circuit.qubits size x (counted_refusal a.circuit.qubits size x a.p a.r a.prefix bytes (length a.bits)) answer
    → IsBegun a (size + 1) (rows ++ record { size = size; answer = answer } ∷ []) new
begun_more a size bytes rows text new x answer valid some inside h counted longer long is =
    let row : CutRow = record { size = size; answer = answer } in
    let next : size - 1 + 1 ≡ size = omega arith in
    let same : size + 1 - 1 ≡ size = omega arith in
    let words : new ≡ loose_text a.circuit a.p a.r a.prefix a.bits ++ flat_map word (first_qubits size) =
    longer ∙ part_text (loose_text a.circuit a.p a.r a.prefix a.bits) text (size - 1) h.text_is
    ∙ ap (λ k. loose_text a.circuit a.p a.r a.prefix a.bits ++ flat_map word (first_qubits k)) next in
    let length_is = bytes_are a size new (omega arith) words in
    let before = h.count in
    record {
      count = length_push rows row ∙ omega arith;
      rows_are = rows_push a 1 size rows row h.rows_are (omega arith) (record { size = refl; answer = answer_is a size x valid inside counted bytes answer (long ∙ length_is) is });
      told = All-push (λ (row : CutRow). row.answer ≢ Refused Memory) rows row h.told (told_answer a.circuit.qubits size x a.p a.r a.prefix bytes (length a.bits) answer is);
      text_is = words ∙ ap (λ k. loose_text a.circuit a.p a.r a.prefix a.bits ++ flat_map word (first_qubits k)) (sym same);
    }

-- all rows are there
pub begun_all : (a : Asked) (size : ℕ) (rows : List CutRow) (text : List ℕ) → IsBegun a size rows text → size ≡ a.circuit.qubits → IsTable a rows
begun_all a size rows text h e = record { count = h.count ∙ ap (λ k. k - 1) e; each = h.rows_are }
