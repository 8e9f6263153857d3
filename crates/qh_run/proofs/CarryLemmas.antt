-- What the calls of a board carry, and how parts of a run follow one another.
use Rattle.std.proofs.Common.{◌≡◌, ◌≢◌, ℕ, ◌+◌, ◌<◌, ◌≤◌, inl, inr, Bool, true, false, List, length, set, Option, Some, None, refl, arith, sym, ap, subst, ◌∙◌}
use Rattle.std.specs.Prelude.{IsSome, IsSomeAnd, IsTrue}
use Rattle.std.specs.Bool.{OnTrue, OnFalse}
use Rattle.std.proofs.lemmas.List.{length-set}
use Rattle.qh_limits.proofs.Chains.{rose_before}
use Rattle.qh_plan.specs.Jobs.{Job}
use Rattle.qh_disk.specs.Disk.{Face}
use Rattle.qh_disk.proofs.Moments.{runs_on, lasts_on}
use Rattle.qh_slots.specs.Moments.{GoesOn}
use Rattle.qh_parts.proofs.PartLemmas.{spares_on, made_on}
use Rattle.qh_lease.specs.declared.lease.Lease.{Lease}
use Rattle.qh_lease.specs.declared.lease.Lease.TheVariants.{Fresh, Out, Returned, Acked}
use Rattle.qh_lease.specs.declared.totals.Totals.{Totals}
use Rattle.qh_lease.specs.Lease.{lease_at, is_acked, NonePasses}
use Rattle.qh_core.specs.Replay.{is_open}
use Rattle.qh_journal.specs.Calls.{Went}
use Rattle.qh_range.specs.Results.{Ticket, RangeResult}
use Rattle.qh_range.specs.declared.answers.Claim.{Claim}
use Rattle.qh_range.specs.declared.answers.Claim.TheVariants.{Granted, Drained, Halted}
use Rattle.qh_board.specs.Board.{BoardView, begun, Serves}
use Rattle.qh_board.specs.Claims.{Grants, OnlyAsks, TakesBack, StaysAsIs, ClaimComes, ClaimDoes}
use Rattle.qh_board.specs.Deliveries.{DiskRose, Records, Halts}
use Rattle.qh_board.proofs.BoardLemmas.{next_known, grantable_open}
use Rattle.qh_board.proofs.DiskLemmas.{serves_same}
use Rattle.qh_run.specs.declared.ended.RunEnd.{RunEnd}
use Rattle.qh_run.specs.declared.ended.RunEnd.TheVariants.{Sums, Over, Disk as EndDisk, OldDisk, Refused, OldRefused, Memory as EndMemory}
use Rattle.qh_run.specs.declared.stop.Stop.{Stop}
use Rattle.qh_run.specs.declared.stop.Stop.TheVariants.{Disk, Memory}
use Rattle.qh_run.specs.Ends.{answer_of}
use Rattle.qh_run.specs.Carrying.{Carries, MayStop, MayLeave}

-- ---- leases
open_not : (lease : Lease) → is_acked lease ≡ false → is_open lease ≡ false → ⊥
open_not Fresh a b = absurd (wrong b)
  where
    wrong : true ≡ false → ⊥
    wrong e = cc
open_not (Out attempt) a b = absurd (wrong b)
  where
    wrong : true ≡ false → ⊥
    wrong e = cc
open_not (Returned attempt) a b = absurd (wrong b)
  where
    wrong : true ≡ false → ⊥
    wrong e = cc
open_not Acked a b = absurd (wrong a)
  where
    wrong : true ≡ false → ⊥
    wrong e = cc

acked_by : (lease : Lease) → lease ≢ Acked → is_acked lease ≡ false
acked_by Fresh other = refl
acked_by (Out attempt) other = refl
acked_by (Returned attempt) other = refl
acked_by Acked other = absurd (other refl)

-- where all are acknowledged, no range is open
none_open : (leases : List Lease) (r : ℕ) → NonePasses is_open 0 leases → r < length leases → is_acked (lease_at leases r) ≡ false → ⊥
none_open leases r none below waits = open_not (lease_at leases r) waits (none r (omega arith) below)

-- ---- the disk
pub serves_on : {D : Type 0} (face : D → Face) (loans : D → List ℕ) (j : Job) (d e f : D) → Serves face loans j d e → Serves face loans j e f → Serves face loans j d f
serves_on face loans j d e f a b = record {
  same = record { same = b.same.same ∙ a.same.same; runs = runs_on (face d) (face e) (face f) a.same.runs b.same.runs };
  spares = spares_on j (face d) (face e) (face f) a.spares b.spares;
  made = made_on j (face d) (face e) (face f) a.spares a.made b.spares b.made;
  goes_on = λ s. lasts_on (GoesOn j s) (face d) (face e) (face f) (a.goes_on s) b.same.runs (b.goes_on s);
}

pub went_on : {D : Type 0} (P : D → D → Type 0) (old mid new : Option D) → ((d e f : D) → P d e → P e f → P d f) → Went P old mid → Went P mid new → Went P old new
went_on P None mid new on a b = subst (λ o. Went P o new) a b
went_on P (Some d) None new on a b = absurd a
went_on P (Some d) (Some e) None on a b = absurd b
went_on P (Some d) (Some e) (Some f) on a b = on d e f a b

-- ---- the board
module _ {D T : Type 0} (face : D → Face) (loans : D → List ℕ) where
  -- one that keeps its job, its journal and its timer
  carries_still : (old new : BoardView D T) → new.job ≡ old.job → length new.course.leases ≡ length old.course.leases
      → ((range : ℕ) → begun new range ≡ begun old range) → new.journal ≡ old.journal → new.timer.ghost_name ≡ old.timer.ghost_name
      → (NonePasses is_open 0 old.course.leases → new.course.leases ≡ old.course.leases) → Carries face loans old new
  carries_still old new job count kept journal timer leases = record {
    job = job;
    count = count;
    begun = kept;
    disk = subst (Went (Serves face loans old.job) old.journal.disk) (sym (ap (λ k. k.disk) journal)) (serves_same face loans old.job old.journal.disk);
    timer = timer;
    still = λ none. (journal, leases none);
  }

  pub carries_same : (b : BoardView D T) → Carries face loans b b
  carries_same b = carries_still b b refl refl (λ range. refl) refl refl (λ none. refl)

  pub carries_on : (old mid new : BoardView D T) → Carries face loans old mid → Carries face loans mid new → Carries face loans old new
  carries_on old mid new a b = record {
    job = b.job ∙ a.job;
    count = b.count ∙ a.count;
    begun = λ range. b.begun range ∙ a.begun range;
    disk = went_on (Serves face loans old.job) old.journal.disk mid.journal.disk new.journal.disk (serves_on face loans old.job) a.disk
        (subst (λ j. Went (Serves face loans j) mid.journal.disk new.journal.disk) a.job b.disk);
    timer = b.timer ∙ a.timer;
    still = λ none.
        let first = a.still none in
        let then = b.still (subst (NonePasses is_open 0) (sym first.1) none) in
        (then.0 ∙ first.0, then.1 ∙ first.1);
  }

  -- where nothing changes
  pub stays_carries : (old new : BoardView D T) (before after : Totals) → StaysAsIs old new before after → Carries face loans old new
  stays_carries old new before after same = subst (Carries face loans old) (sym same.board) (carries_same old)

  -- a claim
  pub claim_carries : (due not_due : T → ℕ) (may_say : T → ℕ → ℕ → Bool → Type 0) (granted_count : T → ℕ) (hears : T → T → ℕ → ℕ → Type 0) (old new : BoardView D T) (before after : Totals) (claim : Claim) → ClaimComes due not_due may_say old new claim
      → ClaimDoes granted_count hears old new before after claim → ((range : ℕ) → begun new range ≡ begun old range) → Carries face loans old new
  claim_carries due not_due may_say granted_count hears old new before after (Halted n) comes does kept = stays_carries old new before after does
  claim_carries due not_due may_say granted_count hears old new before after Drained comes does kept =
      let is = does.board in
      carries_still old new (ap (λ b. b.job) is) (ap (λ b. length b.course.leases) is) kept (ap (λ b. b.journal) is) does.timer (λ none. ap (λ b. b.course.leases) is)
  claim_carries due not_due may_say granted_count hears old new before after (Granted t) comes does kept =
      let is = does.board in
      let known = next_known due not_due may_say old.course.leases old.timer.now new.timer.now t.range comes.1 in
      carries_still old new (ap (λ b. b.job) is) (ap (λ b. length b.course.leases) is ∙ length-set old.course.leases t.range _) kept (ap (λ b. b.journal) is) does.timer
      (λ none. absurd (none_open old.course.leases t.range none known.0 (grantable_open (lease_at old.course.leases t.range) known.1)))

  -- a ticket that is given back, or not taken
  pub back_carries : (old new : BoardView D T) (before after : Totals) (t : Ticket) (taken : Bool) → t.range < length old.course.leases
      → (IsTrue taken → lease_at old.course.leases t.range ≡ Out t.attempt)
      → OnTrue taken (TakesBack old new before after t) → OnFalse taken (StaysAsIs old new before after) → ((range : ℕ) → begun new range ≡ begun old range) → Carries face loans old new
  back_carries old new before after t true below held back same kept =
      let is = back.board in
      carries_still old new (ap (λ b. b.job) is) (ap (λ b. length b.course.leases) is ∙ length-set old.course.leases t.range _) kept (ap (λ b. b.journal) is) (ap (λ b. b.timer.ghost_name) is)
      (λ none. absurd (none_open old.course.leases t.range none below (ap is_acked (held refl))))
  back_carries old new before after t false below held back same kept = stays_carries old new before after same

  -- a result that is recorded, and one at which the disk fails
  pub record_carries : (old new : BoardView D T) (before after : Totals) (r : RangeResult) → Records old new before after r → r.range < length old.course.leases
      → lease_at old.course.leases r.range ≢ Acked → Went (Serves face loans old.job) old.journal.disk new.journal.disk → ((range : ℕ) → begun new range ≡ begun old range)
      → Carries face loans old new
  record_carries old new before after r recorded below waits went kept =
      let is = recorded.board in record {
        job = ap (λ b. b.job) is;
        count = ap (λ b. length b.course.leases) is ∙ length-set old.course.leases r.range _;
        begun = kept;
        disk = went;
        timer = ap (λ b. b.timer.ghost_name) is;
        still = λ none. absurd (none_open old.course.leases r.range none below (acked_by (lease_at old.course.leases r.range) waits));
      }

  pub halt_carries : (old new : BoardView D T) (before after : Totals) (range : ℕ) → Halts face old new before after → range < length old.course.leases
      → lease_at old.course.leases range ≢ Acked → Went (Serves face loans old.job) old.journal.disk new.journal.disk → ((range : ℕ) → begun new range ≡ begun old range)
      → Carries face loans old new
  halt_carries old new before after range halts below waits went kept =
      let is = halts.board in record {
        job = ap (λ b. b.job) is;
        count = ap (λ b. length b.course.leases) is;
        begun = kept;
        disk = went;
        timer = ap (λ b. b.timer.ghost_name) is;
        still = λ none. absurd (none_open old.course.leases range none below (acked_by (lease_at old.course.leases range) waits));
      }

-- ---- why it stops
pub rose_later : {D : Type 0} (face : D → Face) (loans : D → List ℕ) (j : Job) (old mid new : Option D) → Went (Serves face loans j) old mid → DiskRose face mid new → DiskRose face old new
rose_later face loans j None mid new went rose = subst (λ o. DiskRose face o new) went rose
rose_later face loans j (Some d) None new went rose = absurd went
rose_later face loans j (Some d) (Some e) None went rose = absurd rose
rose_later face loans j (Some d) (Some e) (Some f) went rose = rose_before _ _ _ went.same.runs.faults rose

pub stop_later : {D T : Type 0} (face : D → Face) (loans : D → List ℕ) (old mid new : BoardView D T) (s : Stop) → Carries face loans old mid → MayStop face mid new s → MayStop face old new s
stop_later face loans old mid new Disk a stop = rose_later face loans old.job old.journal.disk mid.journal.disk new.journal.disk a.disk stop
stop_later face loans old mid new Memory a stop = tt

no_answer : false ≡ true → ⊥
no_answer e = cc

-- an answer has no cause
pub answer_leaves : {D : Type 0} (face : D → Face) (old new : Option D) (end : RunEnd) → IsSome (answer_of end) → MayLeave face old new end
answer_leaves face old new (Sums sums) some = tt
answer_leaves face old new (Over path) some = tt
answer_leaves face old new EndDisk some = absurd (no_answer some)
answer_leaves face old new OldDisk some = absurd (no_answer some)
answer_leaves face old new (Refused why) some = absurd (no_answer some)
answer_leaves face old new (OldRefused why) some = absurd (no_answer some)
answer_leaves face old new EndMemory some = tt
