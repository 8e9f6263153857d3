use Rattle.std.proofs.lemmas.Result.{err_from_is_err_and}
use Rattle.qh_uncut.proofs.BoundLemmas.{only_memory, short_memory}
use Rattle.qh_uncut.proofs.chunks.evolve_chunks.Goals as goal

pub returns-in_err-gates-clause-short : goal.returns-in_err-gates-clause-short
returns-in_err-gates-clause-short g c short =
    let p = err_from_is_err_and c.from_residual.result c.from_residual.ensures.1 in rw (p.1, p.2) (only_memory c.args.circuit.now _ short c.in_err-gates.ensures.cause)

pub returns-clause-short : goal.returns-clause-short
returns-clause-short g c short = short_memory c.args.circuit.now c.go_on.result short c.go_on.ensures.cause
