use Rattle.std.proofs.Common.{rules, ◌≡◌, ◌^◌, replicate, set, ap, ◌∙◌}
use Rattle.qh_ring.specs.Numbers.{nothing, one}
use Rattle.qh_ring.proofs.ListedLemmas.{ground_listed}
use Rattle.qh_kernel.proofs.vector.ground_vector.Goals as goal

pub returns-clause-value : goal.returns-clause-value
returns-clause-value c =
    let e : c.in_ok-v.v.items ≡ replicate (2 ^ c.args.qubits) nothing = search rules in
    ap (λ xs. set xs 0 one) e ∙ ground_listed c.args.qubits
