use Rattle.qh_disk.specs.Disk.{Reads, Becomes, resized}
use Rattle.qh_parts.specs.Laying.{IsBlank}
use Rattle.qh_parts.proofs.PartLemmas.{on_ok}
use Rattle.qh_parts.proofs.LayLemmas.{length_closed, length_zeros, length_blank}
use Rattle.qh_parts.proofs.laying.set_length.Goals as goal

pub returns-clause-blank : goal.returns-clause-blank
returns-clause-blank g c =
    on_ok c.set_len.result (Becomes (resized c.args.size) (g.D.Disk.face c.args.disk.now) (g.D.Disk.face c.set_len.new.self)) (Reads (g.D.Disk.face c.set_len.new.self) (IsBlank c.args.size))
    (λ becomes. length_blank c.args.size (g.D.Disk.face c.args.disk.now) (g.D.Disk.face c.set_len.new.self) becomes c.requires.empty) c.set_len.ensures.resized

pub returns-clause-zeros : goal.returns-clause-zeros
returns-clause-zeros g c = length_zeros c.args.size (g.D.Disk.face c.args.disk.now) (g.D.Disk.face c.set_len.new.self) c.set_len.ensures.stretched c.requires.empty

pub returns-clause-closed : goal.returns-clause-closed
returns-clause-closed g c = length_closed c.args.size c.set_len.result (g.D.Disk.face c.args.disk.now) (g.D.Disk.face c.set_len.new.self) c.set_len.ensures.call c.set_len.ensures.stretched
