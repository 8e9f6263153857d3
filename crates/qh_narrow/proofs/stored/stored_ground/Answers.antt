use Rattle.std.proofs.Common.{◌-◌, ◌^◌}
use Rattle.qh_narrow.proofs.StoredLemmas.{kept_held, item_room}
use Rattle.qh_narrow.proofs.stored.stored_ground.Goals as goal

pub returns-clause-held : goal.returns-clause-held
returns-clause-held g c = kept_held g.V.Vector.lanes g.V.Vector.PLACES g.V.Vector.ROOM c.args.qubits 1 c.in_ok-blocks.blocks.items c.in_ok-blocks.ensures.kept

pub returns-clause-space : goal.returns-clause-space
returns-clause-space g c = item_room c.in_ok-blocks.blocks (2 ^ (c.args.qubits - g.V.Vector.PLACES)) c.in_ok-blocks.ensures.kept.blocks.len
