use Rattle.std.proofs.Common.{◌≡◌, ◌≤◌, ℕ, List, length, set, Some, ap, ◌∙◌, arith}
use Rattle.std.specs.Prelude.{option_map}
use Rattle.std.proofs.Math.Path.{ap₂}
use Rattle.qh_plan.specs.Jobs.{ranges}
use Rattle.qh_disk.specs.Disk.{Reads, Becomes, overwritten}
use Rattle.qh_slots.specs.Layout.{head, place}
use Rattle.qh_slots.specs.Stands.{Slots}
use Rattle.qh_slots.proofs.StandLemmas.{head_size}
use Rattle.qh_slots.proofs.SpellingLemmas.{spelled_size}
use Rattle.qh_slots.proofs.PlaceLemmas.{place_start, apart}
use Rattle.qh_parts.specs.Laying.{IsLaid}
use Rattle.qh_parts.proofs.PartLemmas.{on_ok}
use Rattle.qh_parts.proofs.LayLemmas.{slot_laid, write_closed, write_unbegun}
use Rattle.qh_parts.proofs.laying.write_slot.Goals as goal

pub write_at-requires : goal.write_at-requires
write_at-requires g c f told =
    let size = ap (λ (l : List ℕ). length l) c.requires.slot in
    let fits = spelled_size c.args.job.now c.args.range c.args.verdict.now c.requires.fits in
    let inside = apart (head c.args.job.now) c.args.job.now c.args.range (ranges c.args.job.now) c.requires.range in
    let whole = c.requires.size f told in
    let at = c.requires.at in
    omega arith

pub returns-clause-laid : goal.returns-clause-laid
returns-clause-laid g c =
    on_ok c.write_at.result (Becomes (overwritten c.args.at c.args.slot.now) (g.D.Disk.face c.args.disk.now) (g.D.Disk.face c.write_at.new.self))
    ((s : Slots) → Reads (g.D.Disk.face c.args.disk.now) (IsLaid c.args.job.now s) → Reads (g.D.Disk.face c.write_at.new.self) (IsLaid c.args.job.now (set s c.args.range (Some c.args.verdict.now))))
    (λ becomes. slot_laid c.args.job.now c.args.range c.args.verdict.now c.requires.range c.requires.fits (g.D.Disk.face c.args.disk.now) (g.D.Disk.face c.write_at.new.self)
    (becomes ∙ ap₂ (λ (n : ℕ) (l : List ℕ). option_map (overwritten n l) (g.D.Disk.face c.args.disk.now).content) c.requires.at c.requires.slot)) c.write_at.ensures.written

first : (j : _) (r at : ℕ) → at ≡ place (head j) j r → 1 ≤ at
first j r at is = let p = place_start (head j) j r in let n = head_size j in omega arith

pub returns-clause-unbegun : goal.returns-clause-unbegun
returns-clause-unbegun g c = write_unbegun c.args.at _ (first c.args.job.now c.args.range c.args.at c.requires.at) (g.D.Disk.face c.args.disk.now) (g.D.Disk.face c.write_at.new.self) c.write_at.ensures.torn

pub returns-clause-closed : goal.returns-clause-closed
returns-clause-closed g c = write_closed c.args.at _ (first c.args.job.now c.args.range c.args.at c.requires.at) c.write_at.result (g.D.Disk.face c.args.disk.now) (g.D.Disk.face c.write_at.new.self) c.write_at.ensures.call c.write_at.ensures.torn
