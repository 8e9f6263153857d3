use Rattle.std.proofs.Common.{subst}
use Rattle.qh_ring.proofs.ListedLemmas.{length-listed}
use Rattle.qh_blocks.specs.Numbers.{number_at}
use Rattle.qh_narrow.specs.Columns.{AreColumnsOf, narrow_bits32, first_numbers, lanes32, places32, room32}
use Rattle.qh_narrow.proofs.StoredLemmas.{held_within}
use Rattle.qh_narrow.proofs.columns32.Columns32.qubits.Goals as goal

pub returns-clause-valid : goal.returns-clause-valid
returns-clause-valid c =
    let here : AreColumnsOf narrow_bits32 (record {
      qubits = c.self.inside.qubits;
      numbers = first_numbers lanes32 places32 c.self.inside.qubits c.self.inside.blocks.items;
    }) = record {
      few = c.self.invariant.0.few;
      len = length-listed c.self.inside.qubits (number_at lanes32 places32 c.self.inside.blocks.items);
      within = held_within lanes32 places32 room32 c.self.inside.qubits c.self.inside.bits c.self.inside.blocks.items c.self.invariant.0;
    } in
    subst (AreColumnsOf narrow_bits32) c.self.view_is here
