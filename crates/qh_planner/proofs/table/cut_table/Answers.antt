use Rattle.std.proofs.Common.{◌≡◌, ℕ, ◌+◌, ◌<◌, List, length, arith, sym, ap, subst, ◌∙◌}
use Rattle.qh_gates.specs.declared.gate.Gate.{Gate}
use Rattle.qh_plan.specs.Paths.{radices}
use Rattle.qh_planner.specs.declared.row.CutRow.{CutRow}
use Rattle.qh_planner.specs.Cuts.{Asked}
use Rattle.qh_planner.specs.Counts.{IsCounted, IsCountedAnswer, below, counted_refusal, fixed_length}
use Rattle.qh_planner.proofs.TableLemmas.{IsBegun, begun_more}
use Rattle.qh_planner.proofs.table.cut_table.Goals as goal

pub loop-size-preserved : goal.loop-size-preserved
loop-size-preserved c =
    let v = c.args.circuit.now in
    let a : Asked = record { circuit = v; p = c.args.p; r = c.args.r; prefix = c.args.w; bits = c.args.bits.now } in
    let size = c.loop-size.size in
    let x = c.crossing_at-crossing.result in
    let new = c.push_word.new.text.items in
    let bytes = c.fixed_length-fixed.result + c.len.result in
    let q : c.qubits-qubits.result ≡ v.qubits = c.qubits-qubits.ensures.value in
    let inside : size < v.qubits = subst (λ (k : ℕ). size < k) q c.loop-size-test.true in
    let counted : IsCounted (radices (below size) v.gates) c.args.p c.args.r x =
    subst (λ (gs : List Gate). IsCounted (radices (below size) gs) c.args.p c.args.r x) c.gates.ensures.value c.crossing_at-crossing.ensures.counted in
    let fixed : c.fixed_length-fixed.result ≡ fixed_length v.qubits (length c.args.bits.now) =
    c.fixed_length-fixed.ensures.value ∙ ap (λ (k : ℕ). fixed_length k (length c.args.bits.now)) q in
    let len : c.len.result ≡ length new = omega (arith, c.len.ensures, c.push_word.new.text.ok.0) in
    let long : bytes ≡ fixed_length v.qubits (length c.args.bits.now) + length new = ap (λ (k : ℕ). k + c.len.result) fixed ∙ ap (λ (k : ℕ). fixed_length v.qubits (length c.args.bits.now) + k) len in
    let is = subst (λ (k : ℕ). IsCountedAnswer k size x (counted_refusal k size x c.args.p c.args.r c.args.w bytes (length c.args.bits.now)) c.answer_by_counts-answer.result) q
    c.answer_by_counts-answer.ensures in
    let more = begun_more a size bytes c.loop-size.table.items c.loop-size.text.items new x c.answer_by_counts-answer.result c.qubits-qubits.ensures.valid c.loop-size.auto.size
    inside c.loop-size.invariant counted c.in_ok-push_word.ensures.ok long is in
    subst (λ (rows : List CutRow). IsBegun a (size + 1) rows new) (sym c.in_ok-push.ensures.items) more
