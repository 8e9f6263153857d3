use Rattle.std.proofs.Common.{[], ◌∷◌, ℤ, List, subst, sym}
use Rattle.std.specs.List.{All}
use Rattle.qh_ring.specs.declared.number.Omega.{Omega}
use Rattle.qh_ring.specs.Numbers.{IsWithin}
use Rattle.qh_ring.specs.Matrices.{number_in}
use Rattle.qh_ring.specs.States.{applied_list}
use Rattle.qh_blocks.specs.declared.block.Block.{Block}
use Rattle.qh_narrow.specs.Columns.{Columns, first_numbers, narrow_bits16, lanes16, places16}
use Rattle.qh_narrow.proofs.columns16.Columns16.apply1.Goals as goal

pub returns-in-Err-clause-wide : goal.returns-in-Err-clause-wide
returns-in-Err-clause-wide c h =
    let fits : List Omega → Type 0 = λ v. All (IsWithin narrow_bits16) (applied_list (number_in c.args.m.now.rows) (c.args.q ∷ []) v) in
    c.in-Err.ensures.wide
    (subst (λ (u : List (Block (List ℤ))). fits (first_numbers lanes16 places16 c.self.inside.qubits u)) (sym c.deref_mut.ensures.value)
    (subst (λ (s : Columns). fits s.numbers) (sym c.self.view_is) h))
