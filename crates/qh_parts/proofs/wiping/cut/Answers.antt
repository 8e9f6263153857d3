use Rattle.std.proofs.Common.{◌≡◌, []}
use Rattle.qh_disk.specs.Disk.{Reads, Becomes, resized}
use Rattle.qh_parts.proofs.PartLemmas.{on_ok}
use Rattle.qh_parts.proofs.WipeLemmas.{clear_wipes, clear_reads}
use Rattle.qh_parts.proofs.wiping.cut.Goals as goal

pub returns-clause-wipes : goal.returns-clause-wipes
returns-clause-wipes g c = clear_wipes c.set_len.result (g.D.Disk.face c.args.disk.now) (g.D.Disk.face c.set_len.new.self) c.set_len.ensures.call c.set_len.ensures.stretched c.requires.closed

pub returns-clause-empty : goal.returns-clause-empty
returns-clause-empty g c =
    on_ok c.set_len.result (Becomes (resized 0) (g.D.Disk.face c.args.disk.now) (g.D.Disk.face c.set_len.new.self)) (Reads (g.D.Disk.face c.set_len.new.self) (λ f. f ≡ []))
    (λ becomes. clear_reads (g.D.Disk.face c.args.disk.now) (g.D.Disk.face c.set_len.new.self) becomes) c.set_len.ensures.resized
