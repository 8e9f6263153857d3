use Rattle.std.proofs.Common.{◌≡◌, ◌<◌, ℕ, List, refl, rules, sym, ap, subst, ◌∙◌}
use Rattle.qh_ring.specs.declared.number.Omega.{Omega}
use Rattle.qh_plan.specs.Jobs.{ranges}
use Rattle.qh_disk.specs.Disk.{Reads}
use Rattle.qh_disk.proofs.Looking.{looks_reads}
use Rattle.qh_slots.specs.Stands.{StandsBy}
use Rattle.qh_parts.specs.Reading.{SlotsMayFail}
use Rattle.qh_parts.specs.Naming.{Names}
use Rattle.qh_merge.specs.declared.input.ReadFault.{ReadFault}
use Rattle.qh_merge.specs.Parts.{ReadMayFail}
use Rattle.qh_merge.specs.Union.{sums_after}
use Rattle.qh_merge.specs.declared.adding.Total.{Total}
use Rattle.qh_merge.specs.Adding.{AreAddedUp}
use Rattle.qh_merge.proofs.AddingLemmas.{of_some}
use Rattle.qh_merge.proofs.ReadLemmas.{slots_fail}
use Rattle.qh_merge.proofs.adding.add_journal.Goals as goal

pub returns-in-Err-add_slots-clause-fault : goal.returns-in-Err-add_slots-clause-fault
returns-in-Err-add_slots-clause-fault g c =
    subst (λ (u : ReadFault). ReadMayFail u (g.D.Disk.face c.args.disk.now) (g.D.Disk.face c.add_slots.new.disk)) (sym c.of_slots.ensures)
    (slots_fail c.args.job.now c.in-Err-add_slots.fault (g.D.Disk.face c.args.disk.now) (g.D.Disk.face c.head_of.new.disk) (g.D.Disk.face c.add_slots.new.disk)
    c.head_of.ensures.looks c.add_slots.ensures.reading.looks (c.head_of.ensures.looks.safe c.requires.safe)
    (looks_reads (Names c.args.job.now) (g.D.Disk.face c.args.disk.now) (g.D.Disk.face c.head_of.new.disk) c.head_of.ensures.looks c.requires.names)
    c.in-Ok.ensures.passes
    (subst (λ (h : List ℕ). SlotsMayFail h c.args.job.now c.in-Err-add_slots.fault (g.D.Disk.face c.head_of.new.disk) (g.D.Disk.face c.add_slots.new.disk))
    (c.as_slice-2.ensures.value ∙ c.in-Ok.ensures.head) c.in-Err-add_slots.ensures.fault))

pub returns-clause-added : goal.returns-clause-added
returns-clause-added g c e =
    let a = of_some c.in-Ok-Some.field-0 c.in-Ok-Some.total
    (λ (t : Total). AreAddedUp c.args.job.now (ranges c.args.job.now) (λ s. Reads (g.D.Disk.face c.add_slots.new.disk) (StandsBy c.as_slice-2.result.now c.args.job.now s)) c.in-Ok-from_slice.sums.items t.sums.items c.args.gathered.now.over t.over)
    (search rules) c.in-Ok-Some.ensures.added in
    let kept : c.in-Ok-from_slice.sums.items ≡ c.args.gathered.now.sums.items = search rules in
    record {
      input = record { job = c.args.job.now; slots = a.slots };
      prefix = c.args.prefix;
      read = record {
        planned = c.requires.planned;
        count = a.count;
        fits = a.open_slots.fits;
        safe = c.add_slots.ensures.reading.looks.safe (c.head_of.ensures.looks.safe c.requires.safe);
        names = looks_reads (Names c.args.job.now) (g.D.Disk.face c.head_of.new.disk) (g.D.Disk.face c.add_slots.new.disk) c.add_slots.ensures.reading.looks
            (looks_reads (Names c.args.job.now) (g.D.Disk.face c.args.disk.now) (g.D.Disk.face c.head_of.new.disk) c.head_of.ensures.looks c.requires.names);
        stands = subst (λ (h : List ℕ). Reads (g.D.Disk.face c.add_slots.new.disk) (StandsBy h c.args.job.now a.slots)) (c.as_slice-2.ensures.value ∙ c.in-Ok.ensures.head) a.are;
      };
      goes = record { prefix = c.requires.fresh.prefix; family = c.requires.fresh.family; finished = λ r low. a.open_slots.some r (subst (λ (n : ℕ). r < n) (sym a.count) low) };
      fresh = c.requires.fresh.none;
      adds = record {
        job = refl;
        prefixes = search rules;
        sums = a.sums ∙ ap (λ (z : List Omega). sums_after z a.slots) kept;
        over = a.lesser;
      };
    }
