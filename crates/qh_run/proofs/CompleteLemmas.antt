-- A board whose ranges are all acknowledged has a whole record.
use Rattle.std.proofs.Common.{◌≡◌, ◌≢◌, ℕ, ◌<◌, ◌≤◌, inl, inr, Bool, true, false, not, length, List, Option, Some, None, refl, arith, sym, ap, subst, ◌∙◌}
use Rattle.std.specs.Prelude.{IsSome, is_some, if◌then◌else◌}
use Rattle.std.specs.Option.{ForSome}
use Rattle.std.proofs.lemmas.List.{get_or-map, length-map}
use Rattle.qh_plan.specs.declared.verdict.Verdict.{Verdict}
use Rattle.qh_plan.specs.Jobs.{Job, IsJob, ranges}
use Rattle.qh_plan.specs.Verdicts.{total}
use Rattle.qh_plan.specs.Values.{range_value}
use Rattle.qh_disk.specs.Disk.{Face, Reads}
use Rattle.qh_disk.specs.Moments.{EachImage}
use Rattle.qh_slots.specs.Stands.{Slots, slot_at, Stands, Holds}
use Rattle.qh_slots.specs.Record.{Extends, IsFull}
use Rattle.qh_slots.specs.Moments.{GoesOn}
use Rattle.qh_journal.specs.Calls.{JournalView, IsJournal, Went}
use Rattle.qh_lease.specs.Lease.{lease_at, is_acked, NonePasses}
use Rattle.qh_core.specs.Replay.{is_open, is_begun}
use Rattle.qh_board.specs.Board.{BoardView, begun, BeganWith, IsBoard, Serves, lease_for, started}
use Rattle.qh_board.proofs.DeliverLemmas.{extends_same}
use Rattle.qh_board.proofs.DiskLemmas.{serves_same}
use Rattle.qh_lease.specs.Tally.{Count}
use Rattle.qh_lease.specs.declared.lease.Lease.TheVariants.{Fresh}
use Rattle.qh_run.specs.Carrying.{Carries, Completes}
use Rattle.qh_plan.specs.Slots.{over_or, slot_sums, sum_of_slots}
use Rattle.std.proofs.lemmas.List.FromFn.{length-map-range_with_len}
use Rattle.qh_slots.specs.Stands.{AllFit}
use Rattle.qh_slots.proofs.RunningLemmas.{whole_total}
use Rattle.qh_run.proofs.RecordLemmas.{none_some}

module _ {D T : Type 0} (face : D → Face) (b : BoardView D T) (s0 : Slots) (board : IsBoard face b) (began : BeganWith b s0) where
  begun_by : (r : ℕ) (is : Bool) → is_begun b.course r ≡ is → slot_at s0 r ≡ (if is then slot_at b.journal.table r else None)
  begun_by r is at = began.each r ∙ ap (λ (x : Bool). if x then slot_at b.journal.table r else None) at

  pub extends : Extends b.job s0 b.journal.table
  extends = record {
    kept = λ r v at. kept r v at (is_begun b.course r) refl;
    added = λ r v none at. added r v none at (is_begun b.course r) refl;
  }
    where
      kept : (r : ℕ) (v : Verdict) → slot_at s0 r ≡ Some v → (is : Bool) → is_begun b.course r ≡ is → slot_at b.journal.table r ≡ Some v
      kept r v at true is = sym (begun_by r true is) ∙ at
      kept r v at false is = absurd (none_some v (sym (begun_by r false is) ∙ at))

      added : (r : ℕ) (v : Verdict) → slot_at s0 r ≡ None → slot_at b.journal.table r ≡ Some v → (is : Bool) → is_begun b.course r ≡ is → v ≡ range_value b.job r
      added r v none at true is = absurd (none_some v (sym none ∙ begun_by r true is ∙ at))
      added r v none at false is = board.values r v at is

  pub all_recorded : NonePasses is_open 0 b.course.leases → IsFull b.job b.journal.table
  all_recorded all r below = sym (board.acked r) ∙ by (is_acked (lease_at b.course.leases r)) (all r (omega arith) (subst (λ n. r < n) (sym board.ranges) below))
    where
      by : (is : Bool) → not is ≡ false → is ≡ true
      by true e = refl
      by false e = sym e

  -- so its run is whole, with the total of its slots
  pub completes : IsJournal face b.journal → b.course.fault ≡ None → NonePasses is_open 0 b.course.leases
      → (answer : Verdict) → total b.job (slot_at b.journal.table) ≡ answer → Completes face b.job s0 b.journal.disk answer
  completes journal running all answer is = record {
    slots = b.journal.table;
    extends = extends;
    full = all_recorded all;
    total_is = is;
    stable = λ d at r v held. subst (λ j. EachImage (face d) (Holds j r v)) board.one_job (journal.stable d at r v held);
    reads = λ d at. subst (λ j. Reads (face d) (Stands j b.journal.table)) board.one_job (journal.reads (board.halt ∙ ap is_some running) d at);
  }

  -- over with its path, or with its sums
  pub over_or_is : IsJob b.job → IsJournal face b.journal → total b.job (slot_at b.journal.table) ≡ over_or b.total.over b.total.sums
  over_or_is valid journal = (whole_total b.job b.journal.table b.total valid (subst (λ j. AllFit j b.journal.table) board.one_job journal.fits) board.total).total

-- ---- the journal with which a run begins
-- its disk reads as it, also where no call was made
pub journal_goes_on : {D : Type 0} (face : D → Face) (k : JournalView D) (j : Job) (disk : Option D) → k.job ≡ j → k.failed ≡ false → IsJournal face k → disk ≡ k.disk
    → ForSome disk (λ e. Reads (face e) (GoesOn j k.table))
journal_goes_on face k j disk job whole is same d at f told = record {
  slots = k.table;
  stands = subst (λ i. Stands i k.table f) job (is.reads whole d (sym same ∙ at) f told);
  extends = extends_same j k.table;
}

pub disk_still : {D : Type 0} (face : D → Face) (loans : D → List ℕ) (j : Job) (old new : Option D) → new ≡ old → Went (Serves face loans j) old new
disk_still face loans j old new same = subst (Went (Serves face loans j) old) (sym same) (serves_same face loans j old)

-- where none of its slots is missing, no range is open
pub full_started : (j : Job) (table : Slots) → length table ≡ ranges j → IsFull j table → NonePasses is_open 0 (started table).leases
full_started j table count full r low below =
    ap is_open (get_or-map lease_for table r None Fresh (subst (λ n. r < n) (length-map table lease_for) below)) ∙ by (slot_at table r) (full r (subst (λ n. r < n) (length-map table lease_for ∙ count) below))
  where
    by : (o : Option Verdict) → IsSome o → is_open (lease_for o) ≡ false
    by None some = absurd (wrong some)
      where
        wrong : false ≡ true → ⊥
        wrong e = cc
    by (Some v) some = refl

-- ---- the slots that a run began with, as it goes on
pub began_on : {D T : Type 0} (face : D → Face) (loans : D → List ℕ) (old new : BoardView D T) (s0 : Slots) → Carries face loans old new → BeganWith old s0 → BeganWith new s0
began_on face loans old new s0 carries began = record { each = λ r. began.each r ∙ sym (carries.begun r) }

pub began_tally : {D T : Type 0} (old new : BoardView D T) (tally : Count) (s0 : Slots) → new ≡ record old { tally = tally } → BeganWith old s0 → BeganWith new s0
began_tally old new tally s0 same began = record { each = λ r. began.each r ∙ sym (ap (λ b. begun b r) same) }

-- there is a sum for each asked bitstring
pub sums_count : (j : Job) (slots : ℕ → Option Verdict) → length (slot_sums j slots) ≡ length j.bits
unfolding slot_sums
sums_count j slots = length-map-range_with_len (sum_of_slots slots (ranges j)) 0 (length j.bits)
