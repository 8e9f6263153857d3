use Rattle.std.proofs.Common.{◌≡◌, ◌≤◌, ℕ, List, [], ◌∷◌, length, arith, refl, get_or}
use Rattle.qh_disk.specs.Disk.{Reads, Becomes, overwritten}
use Rattle.qh_slots.specs.Layout.{mark}
use Rattle.qh_parts.specs.Laying.{IsUnbegun}
use Rattle.qh_parts.proofs.PartLemmas.{on_ok}
use Rattle.qh_parts.proofs.WipeLemmas.{not_empty, close_wipes, close_reads}
use Rattle.qh_parts.proofs.wiping.write_closed.Goals as goal

one_byte : (f : List ℕ) → get_or f 0 0 ≡ mark → 1 ≤ length f
one_byte [] is = absurd (not_empty [] is refl)
one_byte (x ∷ f) is = omega arith

pub write_at-requires : goal.write_at-requires
write_at-requires g c f told = one_byte f (c.requires.open f told)

pub returns-clause-wipes : goal.returns-clause-wipes
returns-clause-wipes g c = close_wipes c.write_at.result (g.D.Disk.face c.args.disk.now) (g.D.Disk.face c.write_at.new.self) c.write_at.ensures.call c.write_at.ensures.torn c.requires.safe c.requires.open

pub returns-clause-closed : goal.returns-clause-closed
returns-clause-closed g c =
    on_ok c.write_at.result (Becomes (overwritten 0 (0 ∷ [])) (g.D.Disk.face c.args.disk.now) (g.D.Disk.face c.write_at.new.self)) (Reads (g.D.Disk.face c.write_at.new.self) IsUnbegun)
    (λ becomes. close_reads (g.D.Disk.face c.args.disk.now) (g.D.Disk.face c.write_at.new.self) becomes c.requires.open) c.write_at.ensures.written
