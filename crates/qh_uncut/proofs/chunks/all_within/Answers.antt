use Rattle.std.proofs.Common.{◌∙◌}
use Rattle.qh_ring.specs.Numbers.{IsWithin}
use Rattle.rayon.proofs.ToStd.{slice-all-iff}
use Rattle.qh_uncut.proofs.chunks.all_within.Goals as goal

pub returns : goal.returns
returns g c =
    let h = c.all.ensures in
    slice-all-iff h.0 c.args.v.now (h.1 ∙ c.par_iter.ensures) (IsWithin 126) c.all.result h.2
