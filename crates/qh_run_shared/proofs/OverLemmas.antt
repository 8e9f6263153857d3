-- A run whose workers shared the board, and what its caller does after them.
use Rattle.std.proofs.Common.{◌≡◌, ℕ, true, false, List, Option, Some, None, length, refl, sym, ap, subst, ◌∙◌}
use Rattle.std.specs.Prelude.{is_some, IfSome}
use Rattle.std.specs.Option.{ForSome}
use Rattle.qh_plan.specs.Jobs.{Job}
use Rattle.qh_disk.specs.Disk.{Face, Reads}
use Rattle.qh_slots.specs.Stands.{Slots, slot_at}
use Rattle.qh_slots.specs.Moments.{GoesOn}
use Rattle.qh_journal.specs.Calls.{Went, JournalView}
use Rattle.qh_lease.specs.Lease.{NonePasses}
use Rattle.qh_core.specs.Replay.{is_open}
use Rattle.qh_board.specs.Board.{BoardView, begun, BeganWith, IsBoard, Serves}
use Rattle.qh_board.specs.Deliveries.{DiskRose}
use Rattle.qh_board.proofs.DiskLemmas.{serves_same}
use Rattle.qh_run.specs.declared.ended.RunEnd.{RunEnd}
use Rattle.qh_run.specs.declared.ended.RunEnd.TheVariants.{Sums, Over, Disk, OldDisk, Refused, OldRefused, Memory}
use Rattle.qh_run.specs.Ends.{answer_of, IsBounded}
use Rattle.qh_run.specs.Carrying.{Carries, Completes, MayLeave}
use Rattle.qh_run.proofs.CarryLemmas.{serves_on, went_on, rose_later}
use Rattle.qh_lease.specs.Tally.{Count}
use Rattle.qh_run_shared.specs.Facts.{WasShared}

none_some : (n : ℕ) → None ≡ Some n → ⊥
none_some n e = cc

module _ {D T : Type 0} (face : D → Face) (loans : D → List ℕ) where
  -- nothing was done yet
  pub shared_same : (b : BoardView D T) → b.course.fault ≡ None → WasShared face loans b b
  shared_same b running = record {
    job = refl;
    count = refl;
    begun = λ r. refl;
    disk = serves_same face loans b.job b.journal.disk;
    halted = λ n at. absurd (none_some n (sym running ∙ at));
  }

  -- before and after the workers the tally alone changes
  pub shared_tally : (b old new after : BoardView D T) (before then : Count) → old ≡ record b { tally = before } → WasShared face loans old new
      → after ≡ record new { tally = then } → WasShared face loans b after
  shared_tally b old new after before then first shared last = record {
    job = ap (λ x. x.job) last ∙ shared.job ∙ ap (λ x. x.job) first;
    count = ap (λ x. length x.course.leases) last ∙ shared.count ∙ ap (λ x. length x.course.leases) first;
    begun = λ r. ap (λ x. begun x r) last ∙ shared.begun r ∙ ap (λ x. begun x r) first;
    disk = subst (Went (Serves face loans b.job) b.journal.disk) (sym (ap (λ x. x.journal.disk) last))
        (subst (λ o. Went (Serves face loans b.job) o new.journal.disk) (ap (λ x. x.journal.disk) first)
        (subst (λ j. Went (Serves face loans j) old.journal.disk new.journal.disk) (ap (λ x. x.job) first) shared.disk));
    halted = λ n at. subst (DiskRose face b.journal.disk) (sym (ap (λ x. x.journal.disk) last))
        (subst (λ o. DiskRose face o new.journal.disk) (ap (λ x. x.journal.disk) first) (shared.halted n (sym (ap (λ x. x.course.fault) last) ∙ at)));
  }

  -- no worker was started: the tally alone changes
  pub shared_still : (b after : BoardView D T) (then : Count) → b.course.fault ≡ None → after ≡ record b { tally = then } → WasShared face loans b after
  shared_still b after then running last = shared_tally b b b after b.tally then refl (shared_same b running) last

  pub began_shared : (old new : BoardView D T) (s0 : Slots) → WasShared face loans old new → BeganWith old s0 → BeganWith new s0
  began_shared old new s0 shared began = record { each = λ r. began.each r ∙ sym (shared.begun r) }

  -- the disk of a board that workers shared, from that of its journal
  pub shared_went : (j : Job) (old new : BoardView D T) (disk : Option D) → WasShared face loans old new → old.job ≡ j → old.journal.disk ≡ disk
      → Went (Serves face loans j) disk new.journal.disk
  shared_went j old new disk shared job same = subst (λ o. Went (Serves face loans j) o new.journal.disk) same
      (subst (λ i. Went (Serves face loans i) old.journal.disk new.journal.disk) job shared.disk)

  -- and where its caller went on
  pub rest_went : (j : Job) (mid new : BoardView D T) (disk : Option D) → Went (Serves face loans j) disk mid.journal.disk → Carries face loans mid new → mid.job ≡ j
      → Went (Serves face loans j) disk new.journal.disk
  rest_went j mid new disk went carries job = went_on (Serves face loans j) disk mid.journal.disk new.journal.disk (serves_on face loans j) went
      (subst (λ i. Went (Serves face loans i) mid.journal.disk new.journal.disk) job carries.disk)

  -- what is read goes on from the slots with which the run began
  pub board_goes_on : (j : Job) (b : BoardView D T) (s0 : Slots) (disk : Option D) → IsBoard face b → BeganWith b s0 → b.job ≡ j → disk ≡ b.journal.disk
      → ForSome disk (λ e. Reads (face e) (GoesOn j s0))
  board_goes_on j b s0 disk board began job same = subst (λ o. ForSome o (λ e. Reads (face e) (GoesOn j s0))) (sym same)
      (subst (λ i. ForSome b.journal.disk (λ e. Reads (face e) (GoesOn i s0))) job (board.reads s0 began))

-- ---- whether the board is halted
none_true : false ≡ true → ⊥
none_true e = cc

true_none : true ≡ false → ⊥
true_none e = cc

pub running_none : (o : Option ℕ) → is_some o ≡ false → o ≡ None
running_none None is = refl
running_none (Some n) is = absurd (true_none is)

halted_some : (o : Option ℕ) (A : Type 0) → is_some o ≡ true → ((n : ℕ) → o ≡ Some n → A) → A
halted_some None A is by = absurd (none_true is)
halted_some (Some n) A is by = by n refl

pub halted_rose : {D T : Type 0} (face : D → Face) (loans : D → List ℕ) (old new : BoardView D T) → WasShared face loans old new
    → is_some new.course.fault ≡ true → DiskRose face old.journal.disk new.journal.disk
halted_rose face loans old new shared is =
    halted_some new.course.fault (DiskRose face old.journal.disk new.journal.disk) is (λ n at. shared.halted n at)

-- ---- why a run ends, over a longer run
pub leaves_later : {D : Type 0} (face : D → Face) (loans : D → List ℕ) (j : Job) (old mid new : Option D) (end : RunEnd) → Went (Serves face loans j) old mid
    → MayLeave face mid new end → MayLeave face old new end
leaves_later face loans j old mid new (Sums sums) went cause = tt
leaves_later face loans j old mid new (Over path) went cause = tt
leaves_later face loans j old mid new Disk went cause = rose_later face loans j old mid new went cause
leaves_later face loans j old mid new OldDisk went cause = absurd cause
leaves_later face loans j old mid new (Refused why) went cause = absurd cause
leaves_later face loans j old mid new (OldRefused why) went cause = absurd cause
leaves_later face loans j old mid new Memory went cause = tt

-- ---- a journal k whose board was b, when the workers began, is w, when they ended, and e, when its caller went on
module _ {D T : Type 0} (face : D → Face) (loans : D → List ℕ) (j : Job) (k : JournalView D) (b w : BoardView D T) (job : b.job ≡ j) (journal : b.journal ≡ k)
    (shared : WasShared face loans b w) where
  began_attached : (table : Slots) → ((range : ℕ) → begun b range ≡ slot_at table range) → BeganWith b table
  began_attached table kept = record { each = λ r. sym (kept r) }

  pub began_worked : (table : Slots) → ((range : ℕ) → begun b range ≡ slot_at table range) → BeganWith w table
  began_worked table kept = began_shared face loans b w table shared (began_attached table kept)

  pub job_worked : w.job ≡ j
  job_worked = shared.job ∙ job

  worked_went : Went (Serves face loans j) k.disk w.journal.disk
  worked_went = shared_went face loans j b w k.disk shared job (ap (λ x. x.disk) journal)

  pub left_went : (disk : Option D) → disk ≡ w.journal.disk → Went (Serves face loans j) k.disk disk
  left_went disk is = subst (Went (Serves face loans j) k.disk) (sym is) worked_went

  pub left_goes_on : (table : Slots) (disk : Option D) → ((range : ℕ) → begun b range ≡ slot_at table range) → IsBoard face w → disk ≡ w.journal.disk
      → ForSome disk (λ d. Reads (face d) (GoesOn j table))
  left_goes_on table disk kept valid is = board_goes_on face loans j w table disk valid (began_worked table kept) job_worked is

  pub left_rose : (disk : Option D) → is_some w.course.fault ≡ true → disk ≡ w.journal.disk → DiskRose face k.disk disk
  left_rose disk halted is = subst (DiskRose face k.disk) (sym is)
      (subst (λ o. DiskRose face o w.journal.disk) (ap (λ x. x.disk) journal) (halted_rose face loans b w shared halted))

  pub left_same : (disk : Option D) → w ≡ b → disk ≡ w.journal.disk → disk ≡ k.disk
  left_same disk same is = is ∙ ap (λ x. x.journal.disk) same ∙ ap (λ x. x.disk) journal

  module _ (e : BoardView D T) (carries : Carries face loans w e) (disk : Option D) (is : disk ≡ e.journal.disk) where
    pub rest_serves : Went (Serves face loans j) k.disk disk
    rest_serves = subst (Went (Serves face loans j) k.disk) (sym is) (rest_went face loans j w e k.disk worked_went carries job_worked)

    pub rest_leaves : (end : RunEnd) → MayLeave face w.journal.disk e.journal.disk end → MayLeave face k.disk disk end
    rest_leaves end cause = subst (λ o. MayLeave face k.disk o end) (sym is) (leaves_later face loans j k.disk w.journal.disk e.journal.disk end worked_went cause)

    pub rest_whole : (table : Slots) (end : RunEnd) → IfSome (answer_of end) (Completes face w.job table e.journal.disk)
        → IfSome (answer_of end) (Completes face j table disk)
    rest_whole table end whole = subst (λ o. IfSome (answer_of end) (Completes face j table o)) (sym is)
        (subst (λ i. IfSome (answer_of end) (Completes face i table e.journal.disk)) job_worked whole)

    pub rest_goes_on : (table : Slots) → ForSome e.journal.disk (λ d. Reads (face d) (GoesOn w.job table)) → ForSome disk (λ d. Reads (face d) (GoesOn j table))
    rest_goes_on table goes = subst (λ o. ForSome o (λ d. Reads (face d) (GoesOn j table))) (sym is)
        (subst (λ i. ForSome e.journal.disk (λ d. Reads (face d) (GoesOn i table))) job_worked goes)

    pub rest_bounded : (end : RunEnd) → IfSome (answer_of end) (IsBounded w.job) → IfSome (answer_of end) (IsBounded j)
    rest_bounded end bounded = subst (λ i. IfSome (answer_of end) (IsBounded i)) job_worked bounded

    pub rest_same : w ≡ b → NonePasses is_open 0 b.course.leases → disk ≡ k.disk
    rest_same same none = is ∙ ap (λ x. x.disk) (carries.still (subst (λ x. NonePasses is_open 0 x.course.leases) (sym same) none)).0 ∙ left_same w.journal.disk same refl
