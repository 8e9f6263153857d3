use Rattle.std.proofs.Common.{subst, List, ◌↔◌, IsTrue}
use Rattle.std.specs.List.{All}
use Rattle.qh_ring.specs.declared.number.Omega.{Omega}
use Rattle.qh_ring.specs.Numbers.{IsWithin}
use Rattle.qh_blocks.specs.Numbers.{numbers}
use Rattle.qh_blocks.proofs.RowLemmas.{list_entries}
use Rattle.qh_blocks.proofs.fit.fits_after.Goals as goal

pub returns : goal.returns
returns g c =
    subst (λ (v : List Omega). IsTrue c.entries_fit.result ↔ All (IsWithin c.args.limit) v) (list_entries c.args.m.now.rows c.args.q (numbers g.V.Vector.lanes g.V.Vector.PLACES c.args.v.now)) c.entries_fit.ensures
