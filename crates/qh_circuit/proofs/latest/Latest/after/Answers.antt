use Rattle.std.proofs.Common.{refl}
use Rattle.qh_circuit.proofs.LatestLemmas.{latest_push}
use Rattle.qh_circuit.proofs.latest.Latest.after.Goals as goal

pub returns : goal.returns
returns c = λ before h late.
    latest_push c.args.self _ before c.args.gate.now c.used_at.result c.with_qubit-used.result h late refl c.used_at.ensures
    c.with_qubit-used.ensures.same c.with_qubit-used.ensures.others c.with_qubit.ensures.same c.with_qubit.ensures.others
