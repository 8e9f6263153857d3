use Rattle.std.proofs.Common.{◌-◌, ℕ, [], ◌∷◌, subst, sym}
use Rattle.std.specs.List.{All}
use Rattle.qh_ring.specs.Numbers.{IsWithin}
use Rattle.qh_ring.specs.Matrices.{number_in}
use Rattle.qh_ring.specs.States.{applied_list}
use Rattle.qh_blocks.specs.Numbers.{numbers}
use Rattle.qh_kernel.proofs.GroupLemmas.{one_qubit}
use Rattle.qh_narrow.proofs.WithinLemmas.{first_fit, all_fit}
use Rattle.qh_narrow.proofs.blocks.fits1.Goals as goal

pub returns : goal.returns
returns g c =
    let m = number_in c.args.m.now.rows in
    let qs = c.args.q ∷ [] in (
      λ t. first_fit g.V.Vector.lanes g.V.Vector.PLACES c.args.qubits (g.V.Vector.ROOM - 1) m qs c.args.v.now (one_qubit c.args.qubits c.args.q c.requires.qubit) c.requires.kept.blocks
          (subst (λ (n : ℕ). All (IsWithin (n - 1)) (applied_list m qs (numbers g.V.Vector.lanes g.V.Vector.PLACES c.args.v.now))) c.ROOM.ensures (c.fits_after.ensures.0 t)),
      λ h. c.fits_after.ensures.1 (subst (λ (n : ℕ). All (IsWithin (n - 1)) (applied_list m qs (numbers g.V.Vector.lanes g.V.Vector.PLACES c.args.v.now))) (sym c.ROOM.ensures)
          (all_fit g.V.Vector.lanes g.V.Vector.PLACES c.args.qubits (g.V.Vector.ROOM - 1) m qs c.args.v.now (one_qubit c.args.qubits c.args.q c.requires.qubit) c.requires.kept.blocks h)),
    )
