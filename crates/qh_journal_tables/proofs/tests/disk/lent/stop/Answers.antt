use Rattle.std.proofs.Common.{◌≡◌, ℕ, List, get_or, refl}
use Rattle.qh_disk.specs.Disk.{Face}
use Rattle.qh_disk.specs.History.{face_of, content_of}
use Rattle.qh_disk.proofs.Moments.{lasts_step, crash_keeps}
use Rattle.qh_journal_tables.proofs.tests.disk.lent.stop.Goals as goal

pub returns : goal.returns
returns c i b =
    let P : List ℕ → Type 0 = λ f. get_or f i 0 ≡ b in
    let old : Face = face_of c.args.disk.now in
    let new : Face = face_of c.crash.new.self in
    lasts_step P old new c.crash.ensures.runs c.crash.ensures.moment (crash_keeps P old new (content_of c.crash.new.self) c.crash.ensures.image c.crash.ensures.safe refl)
