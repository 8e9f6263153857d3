use Rattle.std.proofs.Common.{◌≡◌, ◌-◌, ℕ, List, length, take, drop, ap, ◌∙◌, arith, rules}
use Rattle.std.specs.Prelude.{option_map}
use Rattle.std.proofs.lemmas.Slice.{between_to_end}
use Rattle.qh_plan.specs.Jobs.{ranges}
use Rattle.qh_disk.specs.Disk.{Reads, overwritten}
use Rattle.qh_slots.specs.Layout.{head}
use Rattle.qh_slots.specs.Stands.{nones}
use Rattle.qh_slots.proofs.StandLemmas.{head_size}
use Rattle.qh_slots.proofs.PlaceLemmas.{place_start}
use Rattle.qh_parts.specs.Laying.{IsLaid}
use Rattle.qh_parts.proofs.PartLemmas.{on_ok}
use Rattle.qh_parts.proofs.LayLemmas.{blank_unbegun, write_closed, write_unbegun, rest_laid}
use Rattle.qh_parts.proofs.laying.write_rest.Goals as goal

pub write_at-requires : goal.write_at-requires
write_at-requires g c f told =
    let s = (c.requires.blank f told).size in let p = place_start (head c.args.job.now) c.args.job.now (ranges c.args.job.now) in let n = head_size c.args.job.now in
    let l = ap (λ (l : List ℕ). length l) c.requires.wanted in search (rules, arith)

pub returns-clause-laid : goal.returns-clause-laid
returns-clause-laid g c =
    let rest : take (length c.args.wanted.now - 1) (drop 1 c.args.wanted.now) ≡ drop 1 (head c.args.job.now) = between_to_end c.args.wanted.now 1 (length c.args.wanted.now) (omega arith) ∙ ap (drop 1) c.requires.wanted in
    on_ok c.write_at.result _ (Reads (g.D.Disk.face c.write_at.new.self) (IsLaid c.args.job.now (nones c.args.job.now)))
    (λ becomes. rest_laid c.args.job.now (g.D.Disk.face c.args.disk.now) (g.D.Disk.face c.write_at.new.self) (becomes ∙ ap (λ (l : List ℕ). option_map (overwritten 1 l) (g.D.Disk.face c.args.disk.now).content) rest) c.requires.blank) c.write_at.ensures.written

pub returns-clause-unbegun : goal.returns-clause-unbegun
returns-clause-unbegun g c = write_unbegun 1 _ (omega arith) (g.D.Disk.face c.args.disk.now) (g.D.Disk.face c.write_at.new.self) c.write_at.ensures.torn (blank_unbegun _ (g.D.Disk.face c.args.disk.now) c.requires.blank)

pub returns-clause-closed : goal.returns-clause-closed
returns-clause-closed g c = write_closed 1 _ (omega arith) c.write_at.result (g.D.Disk.face c.args.disk.now) (g.D.Disk.face c.write_at.new.self) c.write_at.ensures.call c.write_at.ensures.torn
