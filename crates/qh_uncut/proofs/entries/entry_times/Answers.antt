use Rattle.std.proofs.Common.{sym, ap, ◌∙◌}
use Rattle.qh_ring.specs.Numbers.{product}
use Rattle.qh_ring.specs.Matrices.{number_of}
use Rattle.qh_ring.proofs.NumberLemmas.{nothing_times}
use Rattle.qh_uncut.proofs.entries.entry_times.Goals as goal

pub returns-in-Zero-clause-value : goal.returns-in-Zero-clause-value
returns-in-Zero-clause-value c = sym (nothing_times c.args.z.now) ∙ ap (λ e. product (number_of e) c.args.z.now) (sym c.in-Zero.is)
