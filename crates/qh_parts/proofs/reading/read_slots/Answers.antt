use Rattle.std.proofs.Common.{◌≡◌, ◌+◌, ◌<◌, ℕ, List, ◌∷◌, [], length, sym, ap, subst, ◌∙◌, arith, rules, refl, inl, inr, Option, Some, None}
use Rattle.std.proofs.lemmas.Bool.{cases_lt}
use Rattle.std.proofs.lemmas.List.{get_or_append_left, get_or_at, length-append}
use Rattle.qh_plan.specs.declared.verdict.Verdict.{Verdict}
use Rattle.qh_plan.specs.Jobs.{ranges}
use Rattle.qh_disk.proofs.Looking.{looks_reads}
use Rattle.qh_slots.specs.Layout.{place}
use Rattle.qh_slots.specs.Slots.{SlotIs}
use Rattle.qh_slots.specs.Stands.{slot_at, AllFit}
use Rattle.qh_slots.specs.Attaching.{Passes}
use Rattle.qh_parts.proofs.ReadingLemmas.{only_reads_on, slot_fault, fits_more}
use Rattle.qh_parts.proofs.reading.read_slots.Goals as goal

pub read_one-requires-clause-at : goal.read_one-requires-clause-at
unfolding place
read_one-requires-clause-at g c =
    let at : c.from.result ≡ c.loop-range.range = search rules in
    rw (at, c.slot_size-size.ensures) refl

pub returns-in-Err-clause-fault : goal.returns-in-Err-clause-fault
returns-in-Err-clause-fault g c =
    slot_fault c.args.head.now c.args.job.now c.ranges-range-end.ensures.valid c.loop-range.table.items c.loop-range.range c.in-Err.fault (g.D.Disk.face c.args.disk.now) (g.D.Disk.face c.loop-range.disk) (g.D.Disk.face c.read_one.new.disk)
    (search (rules, arith)) c.loop-range.invariant.reading.looks
    (λ f told q low. c.loop-range.invariant.slots q low f told)
    c.in-Err.ensures.fault

pub loop-range-preserved : goal.loop-range-preserved
loop-range-preserved g c =
    let full : length c.loop-range.table.items ≡ c.loop-range.range = sym c.loop-range.table.ok.0 ∙ c.loop-range.invariant.count in
    record {
      count = c.add.new.table.ok.0 ∙ ap (λ (l : List (Option Verdict)). length l) c.in_ok-add.ensures ∙ length-append c.loop-range.table.items (c.in-Ok.verdict ∷ []) ∙ ap (λ (n : ℕ). n + 1) full;
      size = search (rules, arith);
      slots = λ q low f told.
          let before : (g.D.Disk.face c.loop-range.disk).content ≡ Some f = sym c.read_one.ensures.reading.looks.content ∙ told in
          subst (λ (t : List (Option Verdict)). SlotIs c.args.head.now c.args.job.now q f (slot_at t q)) (sym c.in_ok-add.ensures)
          (elim (cases_lt q c.loop-range.range) [
            | inl below ↦ subst (SlotIs c.args.head.now c.args.job.now q f) (sym (get_or_append_left c.loop-range.table.items (c.in-Ok.verdict ∷ []) None q (omega arith))) (c.loop-range.invariant.slots q below f before)
            | inr at ↦
                let same : c.loop-range.range ≡ q = omega arith in
                subst (SlotIs c.args.head.now c.args.job.now q f) (sym (get_or_at c.loop-range.table.items c.in-Ok.verdict [] None q (full ∙ same)))
                (subst (λ (n : ℕ). SlotIs c.args.head.now c.args.job.now n f c.in-Ok.verdict) same (c.in-Ok.ensures.slot f before))
          ]);
      fits = subst (AllFit c.args.job.now) (sym c.in_ok-add.ensures) (fits_more c.args.job.now c.loop-range.table.items c.in-Ok.verdict c.loop-range.range full c.loop-range.invariant.fits c.in-Ok.ensures.fits);
      reading = only_reads_on _ _ _ c.loop-range.invariant.reading c.read_one.ensures.reading;
      same = c.read_one.ensures.same ∙ c.loop-range.invariant.same;
    }

pub returns-clause-slots : goal.returns-clause-slots
returns-clause-slots g c f told =
    let pass = looks_reads (Passes c.args.head.now (place c.args.head.now c.args.job.now (ranges c.args.job.now))) (g.D.Disk.face c.args.disk.now) (g.D.Disk.face c.loop-range.disk) c.loop-range.invariant.reading.looks c.requires.passes f told in
    let full : c.loop-range.range ≡ ranges c.args.job.now = search (rules, arith) in
    record {
      begins = pass.begins;
      size = pass.long;
      count = sym c.loop-range.table.ok.0 ∙ c.loop-range.invariant.count ∙ full;
      slots = λ r low. c.loop-range.invariant.slots r (subst (λ (n : ℕ). r < n) (sym full) low) f told;
    }
