use Rattle.std.proofs.Common.{ℕ, [], ◌∷◌, set, Some, ap, ◌∙◌, arith, refl}
use Rattle.std.specs.Prelude.{option_map}
use Rattle.qh_plan.specs.Jobs.{ranges}
use Rattle.qh_disk.specs.Disk.{Reads, Becomes, overwritten}
use Rattle.qh_slots.specs.Layout.{mark, head}
use Rattle.qh_slots.specs.Stands.{Slots, Stands, Holds}
use Rattle.qh_slots.proofs.PlaceLemmas.{apart}
use Rattle.qh_parts.proofs.PartLemmas.{on_ok, turns_at, gate_spares, gate_others_behind, gate_held, gate_lasts_made, gate_lasts_goes, gate_reads_either, gate_stored, gate_reads_opened}
use Rattle.qh_parts.proofs.storing.write_gate.Goals as goal

pub write_at-requires : goal.write_at-requires
write_at-requires g c f told =
    let inside = apart (head c.args.job.now) c.args.job.now c.args.range (ranges c.args.job.now) c.requires.range in
    let whole = (c.requires.behind f (g.met.D.Disk.current c.args.disk.now f told)).shut.stands.size in
    let at = c.requires.at in
    omega arith

pub returns-clause-spares : goal.returns-clause-spares
returns-clause-spares g c =
    gate_spares c.args.job.now c.requires.valid c.args.range c.requires.range (g.D.Disk.face c.args.disk.now) (g.D.Disk.face c.write_at.new.self) c.args.verdict.now
    (turns_at _ _ _ _ _ _ c.requires.at refl c.write_at.ensures.torn) c.requires.behind c.write_at.result c.write_at.ensures.call

pub returns-clause-made : goal.returns-clause-made
returns-clause-made g c =
    gate_lasts_made c.args.job.now c.requires.valid c.args.range c.requires.range (g.D.Disk.face c.args.disk.now) (g.D.Disk.face c.write_at.new.self) c.args.verdict.now
    (turns_at _ _ _ _ _ _ c.requires.at refl c.write_at.ensures.torn) c.requires.behind c.write_at.result c.write_at.ensures.call

pub returns-clause-goes_on : goal.returns-clause-goes_on
returns-clause-goes_on g c =
    gate_lasts_goes c.args.job.now c.requires.valid c.args.range c.requires.range (g.D.Disk.face c.args.disk.now)
    (g.D.Disk.face c.write_at.new.self) c.args.verdict.now
    (turns_at _ _ _ _ _ _ c.requires.at refl c.write_at.ensures.torn) c.requires.behind c.write_at.result c.write_at.ensures.call

pub returns-clause-either : goal.returns-clause-either
returns-clause-either g c =
    gate_reads_either c.args.job.now c.requires.valid c.args.range c.requires.range (g.D.Disk.face c.args.disk.now) (g.D.Disk.face c.write_at.new.self) c.args.verdict.now
    (turns_at _ _ _ _ _ _ c.requires.at refl c.write_at.ensures.torn) c.requires.behind (g.met.D.Disk.current c.args.disk.now)

pub returns-clause-stored : goal.returns-clause-stored
returns-clause-stored g c =
    on_ok c.write_at.result (Becomes (overwritten c.args.at (mark ∷ [])) (g.D.Disk.face c.args.disk.now) (g.D.Disk.face c.write_at.new.self)) (Reads (g.D.Disk.face c.write_at.new.self) (Holds c.args.job.now c.args.range c.args.verdict.now))
    (λ becomes. gate_stored c.args.job.now c.requires.valid c.args.range c.requires.range (g.D.Disk.face c.args.disk.now) (g.D.Disk.face c.write_at.new.self) c.args.verdict.now
    (turns_at _ _ _ _ _ _ c.requires.at refl c.write_at.ensures.torn) c.requires.behind (g.met.D.Disk.current c.args.disk.now)
    (becomes ∙ ap (λ (n : ℕ). option_map (overwritten n (mark ∷ [])) (g.D.Disk.face c.args.disk.now).content) c.requires.at))
    c.write_at.ensures.written

pub returns-clause-opened : goal.returns-clause-opened
returns-clause-opened g c =
    on_ok c.write_at.result (Becomes (overwritten c.args.at (mark ∷ [])) (g.D.Disk.face c.args.disk.now) (g.D.Disk.face c.write_at.new.self)) ((s : Slots) → Reads (g.D.Disk.face c.args.disk.now) (Stands c.args.job.now s) → Reads (g.D.Disk.face c.write_at.new.self) (Stands c.args.job.now (set s c.args.range (Some c.args.verdict.now))))
    (λ becomes. gate_reads_opened c.args.job.now c.requires.valid c.args.range c.requires.range (g.D.Disk.face c.args.disk.now) (g.D.Disk.face c.write_at.new.self) c.args.verdict.now
    (turns_at _ _ _ _ _ _ c.requires.at refl c.write_at.ensures.torn) c.requires.behind (g.met.D.Disk.current c.args.disk.now)
    (becomes ∙ ap (λ (n : ℕ). option_map (overwritten n (mark ∷ [])) (g.D.Disk.face c.args.disk.now).content) c.requires.at))
    c.write_at.ensures.written

pub returns-clause-others_behind : goal.returns-clause-others_behind
returns-clause-others_behind g c =
    gate_others_behind c.args.job.now c.requires.valid c.args.range c.requires.range (g.D.Disk.face c.args.disk.now) (g.D.Disk.face c.write_at.new.self) c.args.verdict.now
    (turns_at _ _ _ _ _ _ c.requires.at refl c.write_at.ensures.torn) c.requires.behind

pub returns-clause-held : goal.returns-clause-held
returns-clause-held g c =
    gate_held c.args.job.now c.requires.valid c.args.range c.requires.range (g.D.Disk.face c.args.disk.now) (g.D.Disk.face c.write_at.new.self) c.args.verdict.now
    (turns_at _ _ _ _ _ _ c.requires.at refl c.write_at.ensures.torn) c.requires.behind (g.met.D.Disk.current c.args.disk.now)
