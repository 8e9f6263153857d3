use Rattle.std.proofs.Common.{◌+◌, ℕ, List, length, ap, ◌∙◌, arith}
use Rattle.std.specs.Prelude.{option_map}
use Rattle.std.proofs.Math.Path.{ap₂}
use Rattle.qh_plan.specs.Jobs.{ranges}
use Rattle.qh_disk.specs.Disk.{Reads, Becomes, overwritten}
use Rattle.qh_slots.specs.Layout.{head}
use Rattle.qh_slots.specs.Stands.{Behind}
use Rattle.qh_slots.proofs.PlaceLemmas.{apart}
use Rattle.qh_parts.proofs.PartLemmas.{on_ok, turns_at, body_each_shut, body_others_shut, body_others_behind, body_spares, body_lasts_made, body_lasts_goes, body_kept, body_behind}
use Rattle.qh_slots.proofs.SpellingLemmas.{spelled_size}
use Rattle.qh_parts.proofs.storing.write_body.Goals as goal

pub write_at-requires : goal.write_at-requires
write_at-requires g c f told =
    let size = ap (λ (l : List ℕ). length l) c.requires.body ∙ spelled_size c.args.job.now c.args.range c.args.verdict.now c.requires.fits in
    let inside = apart (head c.args.job.now) c.args.job.now c.args.range (ranges c.args.job.now) c.requires.range in
    let whole = (c.requires.shut f (g.met.D.Disk.current c.args.disk.now f told)).stands.size in
    let at = c.requires.at in
    omega arith

pub returns-clause-shut : goal.returns-clause-shut
returns-clause-shut g c =
    let size = ap (λ (l : List ℕ). length l) c.requires.body ∙ spelled_size c.args.job.now c.args.range c.args.verdict.now c.requires.fits in
    body_each_shut c.args.job.now c.requires.valid c.args.range c.requires.range (g.D.Disk.face c.args.disk.now) (g.D.Disk.face c.write_at.new.self)
    (turns_at _ _ _ _ _ _ (ap (λ (n : ℕ). n + 1) c.requires.at) size c.write_at.ensures.torn) c.requires.shut

pub returns-clause-spares : goal.returns-clause-spares
returns-clause-spares g c =
    let size = ap (λ (l : List ℕ). length l) c.requires.body ∙ spelled_size c.args.job.now c.args.range c.args.verdict.now c.requires.fits in
    body_spares c.args.job.now c.requires.valid c.args.range c.requires.range (g.D.Disk.face c.args.disk.now) (g.D.Disk.face c.write_at.new.self)
    (turns_at _ _ _ _ _ _ (ap (λ (n : ℕ). n + 1) c.requires.at) size c.write_at.ensures.torn) c.requires.shut c.write_at.result c.write_at.ensures.call

pub returns-clause-made : goal.returns-clause-made
returns-clause-made g c =
    let size = ap (λ (l : List ℕ). length l) c.requires.body ∙ spelled_size c.args.job.now c.args.range c.args.verdict.now c.requires.fits in
    body_lasts_made c.args.job.now c.requires.valid c.args.range c.requires.range (g.D.Disk.face c.args.disk.now) (g.D.Disk.face c.write_at.new.self)
    (turns_at _ _ _ _ _ _ (ap (λ (n : ℕ). n + 1) c.requires.at) size c.write_at.ensures.torn) c.requires.shut c.write_at.result c.write_at.ensures.call

pub returns-clause-goes_on : goal.returns-clause-goes_on
returns-clause-goes_on g c =
    let size = ap (λ (l : List ℕ). length l) c.requires.body ∙ spelled_size c.args.job.now c.args.range c.args.verdict.now c.requires.fits in
    body_lasts_goes c.args.job.now c.requires.valid c.args.range c.requires.range (g.D.Disk.face c.args.disk.now) (g.D.Disk.face c.write_at.new.self)
    (turns_at _ _ _ _ _ _ (ap (λ (n : ℕ). n + 1) c.requires.at) size c.write_at.ensures.torn) c.requires.shut c.write_at.result c.write_at.ensures.call

pub returns-clause-kept : goal.returns-clause-kept
returns-clause-kept g c =
    let size = ap (λ (l : List ℕ). length l) c.requires.body ∙ spelled_size c.args.job.now c.args.range c.args.verdict.now c.requires.fits in
    body_kept c.args.job.now c.requires.valid c.args.range c.requires.range (g.D.Disk.face c.args.disk.now) (g.D.Disk.face c.write_at.new.self)
    (turns_at _ _ _ _ _ _ (ap (λ (n : ℕ). n + 1) c.requires.at) size c.write_at.ensures.torn) c.requires.shut (g.met.D.Disk.current c.args.disk.now)

pub returns-clause-behind : goal.returns-clause-behind
returns-clause-behind g c =
    let size = ap (λ (l : List ℕ). length l) c.requires.body ∙ spelled_size c.args.job.now c.args.range c.args.verdict.now c.requires.fits in
    on_ok c.write_at.result (Becomes (overwritten (c.args.at + 1) c.args.body.now) (g.D.Disk.face c.args.disk.now) (g.D.Disk.face c.write_at.new.self)) (Reads (g.D.Disk.face c.write_at.new.self) (Behind c.args.job.now c.args.range c.args.verdict.now))
    (λ becomes. body_behind c.args.job.now c.requires.valid c.args.range c.requires.range (g.D.Disk.face c.args.disk.now) (g.D.Disk.face c.write_at.new.self)
    (turns_at _ _ _ _ _ _ (ap (λ (n : ℕ). n + 1) c.requires.at) size c.write_at.ensures.torn) c.requires.shut c.args.verdict.now c.requires.fits (g.met.D.Disk.current c.args.disk.now)
    (becomes ∙ ap₂ (λ (n : ℕ) (l : List ℕ). option_map (overwritten n l) (g.D.Disk.face c.args.disk.now).content) (ap (λ (n : ℕ). n + 1) c.requires.at) c.requires.body))
    c.write_at.ensures.written

pub returns-clause-others_shut : goal.returns-clause-others_shut
returns-clause-others_shut g c =
    let size = ap (λ (l : List ℕ). length l) c.requires.body ∙ spelled_size c.args.job.now c.args.range c.args.verdict.now c.requires.fits in
    body_others_shut c.args.job.now c.requires.valid c.args.range c.requires.range (g.D.Disk.face c.args.disk.now) (g.D.Disk.face c.write_at.new.self)
    (turns_at _ _ _ _ _ _ (ap (λ (n : ℕ). n + 1) c.requires.at) size c.write_at.ensures.torn) c.requires.shut

pub returns-clause-others_behind : goal.returns-clause-others_behind
returns-clause-others_behind g c =
    let size = ap (λ (l : List ℕ). length l) c.requires.body ∙ spelled_size c.args.job.now c.args.range c.args.verdict.now c.requires.fits in
    body_others_behind c.args.job.now c.requires.valid c.args.range c.requires.range (g.D.Disk.face c.args.disk.now) (g.D.Disk.face c.write_at.new.self)
    (turns_at _ _ _ _ _ _ (ap (λ (n : ℕ). n + 1) c.requires.at) size c.write_at.ensures.torn) c.requires.shut (g.met.D.Disk.current c.args.disk.now)
