use Rattle.std.proofs.Common.{◌≡◌, length, map, sym, ap, subst, ◌∙◌, ℕ}
use Rattle.std.specs.Arc.{arc_value}
use Rattle.qh_ring.specs.declared.number.Omega.{Omega}
use Rattle.qh_gates.specs.Circuits.{Circuit, total_weight}
use Rattle.qh_plan.specs.Jobs.{Job, IsJob}
use Rattle.qh_plan.specs.declared.verdict.Verdict.TheVariants.{Sum}
use Rattle.qh_plan.specs.Asked.{asked}
use Rattle.qh_plan.specs.Values.{run_value}
use Rattle.qh_range.specs.RunTotals.{IsRunTotal}
use Rattle.qh_plan.proofs.OverLemmas.{names_least}
use Rattle.qh_print.specs.Output.{IsText}
use Rattle.qh_range.proofs.SolveLemmas.{sums_are_asked, sums_full}
use Rattle.qh_range.proofs.solving.solve.Goals as goal

pub lines_of-requires-clause-paired : goal.lines_of-requires-clause-paired
lines_of-requires-clause-paired g c =
    let j = arc_value c.args.job.now in
    let bits : c.bits.result.now ≡ j.bits = c.bits.ensures.value ∙ ap (λ (j : Job). j.bits) c.deref-in-Sums.ensures in
    let valid : IsJob j = subst IsJob c.deref-in-Sums.ensures c.bits.ensures.valid in
    ap (length {A = Omega}) c.deref-in-Sums-2.ensures.value ∙ sums_full j c.in-Sums.sums.items valid (subst (IsRunTotal j) c.in-Sums.is c.in_ok-path.ensures).0 ∙ sym (ap (length {A = ℕ}) bits)

pub returns-in_ok-lines-in-Sums : goal.returns-in_ok-lines-in-Sums
returns-in_ok-lines-in-Sums g c =
    let j = arc_value c.args.job.now in
    let bits : c.bits.result.now ≡ j.bits = c.bits.ensures.value ∙ ap (λ (j : Job). j.bits) c.deref-in-Sums.ensures in
    let valid : IsJob j = subst IsJob c.deref-in-Sums.ensures c.bits.ensures.valid in
    let total : run_value j ≡ Sum c.in-Sums.sums.items = (subst (IsRunTotal j) c.in-Sums.is c.in_ok-path.ensures).0 in
    let circuit : c.circuit-circuit.result.now ≡ j.circuit = c.circuit-circuit.ensures.value ∙ ap (λ (j : Job). j.circuit) c.deref.ensures in
    let qubits : c.qubits.result ≡ j.circuit.qubits = c.qubits.ensures.value ∙ ap (λ (v : Circuit). v.qubits) circuit in
    let weight : c.weight.result ≡ total_weight j.circuit.gates = c.weight.ensures.value ∙ ap (λ (v : Circuit). total_weight v.gates) circuit in
    let sums : c.deref-in-Sums-2.result.now ≡ map (asked j) j.bits = c.deref-in-Sums-2.ensures.value ∙ sums_are_asked j c.in-Sums.sums.items valid total in (
      (names_least j).sum c.in-Sums.sums.items total,
      subst (λ n. IsText n (total_weight j.circuit.gates) j.bits (map (asked j) j.bits) c.in_ok-lines-in-Sums.lines) qubits
          (subst (λ w. IsText c.qubits.result w j.bits (map (asked j) j.bits) c.in_ok-lines-in-Sums.lines) weight
          (subst (λ xs. IsText c.qubits.result c.weight.result xs (map (asked j) j.bits) c.in_ok-lines-in-Sums.lines) bits
          (subst (λ zs. IsText c.qubits.result c.weight.result c.bits.result.now zs c.in_ok-lines-in-Sums.lines) sums c.in_ok-lines-in-Sums.ensures))),
    )
