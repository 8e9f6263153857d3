-- What the calls of a board keep of it under a lock.
use Rattle.std.proofs.Common.{◌≡◌, ℕ, Bool, true, false, List, length, set, Option, Some, None, refl, sym, ap, subst, ◌∙◌}
use Rattle.std.specs.Prelude.{is_some}
use Rattle.std.specs.Option.{ForSome, IsSomeAnd}
use Rattle.std.specs.Bool.{OnTrue, OnFalse}
use Rattle.std.proofs.lemmas.List.{length-set}
use Rattle.qh_limits.specs.Counts.{Rose}
use Rattle.qh_limits.proofs.Chains.{rose_before}
use Rattle.qh_plan.specs.Jobs.{Job, ranges}
use Rattle.qh_disk.specs.Disk.{Face}
use Rattle.qh_disk.specs.Moments.{Lasts}
use Rattle.qh_disk.proofs.Moments.{lasts_on, lasts_same}
use Rattle.qh_slots.specs.Moments.{GoesOn}
use Rattle.qh_parts.proofs.PartLemmas.{spares_on, made_on, spares_same}
use Rattle.qh_slots.specs.Stands.{Made}
use Rattle.qh_journal.specs.Calls.{Went, Same}
use Rattle.qh_journal.proofs.KeptLemmas.{went_some}
use Rattle.qh_lease.specs.declared.totals.Totals.{Totals}
use Rattle.qh_range.specs.Results.{Ticket, RangeResult}
use Rattle.qh_range.specs.declared.answers.Claim.{Claim}
use Rattle.qh_range.specs.declared.answers.Claim.TheVariants.{Granted, Drained, Halted}
use Rattle.qh_range.specs.declared.answers.Admit.{Admit}
use Rattle.qh_range.specs.declared.answers.Admit.TheVariants.{Granted as Admitted, Taken, Halted as AdmitHalted}
use Rattle.qh_range.specs.declared.answers.Delivery.{Delivery}
use Rattle.qh_range.specs.declared.answers.Delivery.TheVariants.{Acked as Recorded, Repeat, Stranger, Halted as DeliveryHalted, DiskFault}
use Rattle.qh_board.specs.Board.{BoardView, begun, Serves}
use Rattle.qh_board.specs.Claims.{Grants, OnlyAsks, TakesBack, StaysAsIs, ClaimDoes, AdmitDoes}
use Rattle.qh_board.specs.Deliveries.{DiskRose, Records, Halts, DeliveryComes, DeliveryDoes}
use Rattle.qh_run_shared.specs.Facts.{RunName, Served, UnderLock, face_of, loans_of, name_of, WasShared}

-- ---- options
went_is : {D : Type 0} (P : D → D → Type 0) (old new : Option D) → Went P old new → is_some new ≡ is_some old
went_is P None new went = ap is_some went
went_is P (Some d) None went = absurd went
went_is P (Some d) (Some e) went = refl

some_none : (n : ℕ) → Some n ≡ None → ⊥
some_none n e = cc

-- ---- the disk
module _ {D : Type 0} (face : D → Face) (loans : D → List ℕ) (run : RunName) where
  served_on : (d e : D) → Serves face loans run.job d e → Served face loans run.job run.start run.lent d → Served face loans run.job run.start run.lent e
  served_on d e then first = record {
    same = then.same.same ∙ first.same;
    spares = spares_on run.job run.start (face d) (face e) first.spares then.spares;
    made = made_on run.job run.start (face d) (face e) first.spares first.made then.spares then.made;
    goes_on = λ s. lasts_on (GoesOn run.job s) run.start (face d) (face e) (first.goes_on s) then.same.runs (then.goes_on s);
  }

  rose_since : (old new : Option D) → ForSome old (Served face loans run.job run.start run.lent) → DiskRose face old new
      → IsSomeAnd new (λ d. Rose run.start.faults (face d).faults)
  rose_since None new served rose = absurd rose
  rose_since (Some d) None served rose = absurd rose
  rose_since (Some d) (Some e) served rose = rose_before _ _ _ (served d refl).spares.runs.faults rose

-- ---- the board
module _ {D T : Type 0} (face : D → Face) (loans : D → List ℕ) (run : RunName) where
  -- one that keeps its job, its journal and its fault
  pub still_facts : (old new : BoardView D T) → UnderLock face loans run old → new.job ≡ old.job → length new.course.leases ≡ length old.course.leases
      → ((range : ℕ) → begun new range ≡ begun old range) → new.tally.out ≡ old.tally.out → new.journal ≡ old.journal → new.course.fault ≡ old.course.fault
      → UnderLock face loans run new
  still_facts old new is job count kept out journal fault = record {
    job = job ∙ is.job;
    count = count ∙ is.count;
    begun = λ r. kept r ∙ is.begun r;
    out = out ∙ is.out;
    kept = ap (λ k. is_some k.disk) journal ∙ is.kept;
    disk = subst (λ o. ForSome o (Served face loans run.job run.start run.lent)) (sym (ap (λ k. k.disk) journal)) is.disk;
    halted = λ n at. subst (λ o. IsSomeAnd o (λ d. Rose run.start.faults (face d).faults)) (sym (ap (λ k. k.disk) journal)) (is.halted n (sym fault ∙ at));
  }

  -- one whose disk was served
  pub served_facts : (old new : BoardView D T) → UnderLock face loans run old → new.job ≡ old.job → length new.course.leases ≡ length old.course.leases
      → ((range : ℕ) → begun new range ≡ begun old range) → new.tally.out ≡ old.tally.out → Went (Serves face loans old.job) old.journal.disk new.journal.disk
      → ((n : ℕ) → new.course.fault ≡ Some n → IsSomeAnd new.journal.disk (λ d. Rose run.start.faults (face d).faults))
      → UnderLock face loans run new
  served_facts old new is job count kept out went halted =
      let on_job : Went (Serves face loans run.job) old.journal.disk new.journal.disk =
      subst (λ j. Went (Serves face loans j) old.journal.disk new.journal.disk) is.job went in record {
        job = job ∙ is.job;
        count = count ∙ is.count;
        begun = λ r. kept r ∙ is.begun r;
        out = out ∙ is.out;
        kept = went_is (Serves face loans run.job) old.journal.disk new.journal.disk on_job ∙ is.kept;
        disk = went_some (Serves face loans run.job) (Served face loans run.job run.start run.lent) (Served face loans run.job run.start run.lent)
            old.journal.disk new.journal.disk on_job (served_on face loans run) is.disk;
        halted = halted;
      }

  stays_facts : (old new : BoardView D T) (before after : Totals) → UnderLock face loans run old → StaysAsIs old new before after → UnderLock face loans run new
  stays_facts old new before after is same = subst (UnderLock face loans run) (sym same.board) is

  grants_facts : (granted_count : T → ℕ) (hears : T → T → ℕ → ℕ → Type 0) (old new : BoardView D T) (before after : Totals) (t : Ticket) → UnderLock face loans run old
      → Grants granted_count hears old new before after t → ((range : ℕ) → begun new range ≡ begun old range) → UnderLock face loans run new
  grants_facts granted_count hears old new before after t is grants kept =
      let to = grants.board in
      still_facts old new is (ap (λ b. b.job) to) (ap (λ b. length b.course.leases) to ∙ length-set old.course.leases t.range _) kept
      (ap (λ b. b.tally.out) to) (ap (λ b. b.journal) to) (ap (λ b. b.course.fault) to)

  -- ---- a claim
  pub claim_facts : (granted_count : T → ℕ) (hears : T → T → ℕ → ℕ → Type 0) (old new : BoardView D T) (before after : Totals) (claim : Claim) → UnderLock face loans run old
      → ClaimDoes granted_count hears old new before after claim → ((range : ℕ) → begun new range ≡ begun old range) → UnderLock face loans run new
  claim_facts granted_count hears old new before after (Halted n) is does kept = stays_facts old new before after is does
  claim_facts granted_count hears old new before after (Granted t) is does kept = grants_facts granted_count hears old new before after t is does kept
  claim_facts granted_count hears old new before after Drained is does kept =
      let to = does.board in
      still_facts old new is (ap (λ b. b.job) to) (ap (λ b. length b.course.leases) to) kept (ap (λ b. b.tally.out) to) (ap (λ b. b.journal) to)
      (ap (λ b. b.course.fault) to)

  -- ---- an admission
  pub admit_facts : (granted_count : T → ℕ) (hears : T → T → ℕ → ℕ → Type 0) (old new : BoardView D T) (before after : Totals) (admit : Admit) → UnderLock face loans run old
      → AdmitDoes granted_count hears old new before after admit → ((range : ℕ) → begun new range ≡ begun old range) → UnderLock face loans run new
  admit_facts granted_count hears old new before after (AdmitHalted n) is does kept = stays_facts old new before after is does
  admit_facts granted_count hears old new before after (Admitted t) is does kept = grants_facts granted_count hears old new before after t is does kept
  admit_facts granted_count hears old new before after Taken is does kept = stays_facts old new before after is does

  -- ---- a delivery
  pub deliver_facts : (old new : BoardView D T) (before after : Totals) (r : RangeResult) (delivery : Delivery) → UnderLock face loans run old
      → DeliveryComes old r delivery → DeliveryDoes face old new before after r delivery → Went (Serves face loans old.job) old.journal.disk new.journal.disk
      → ((range : ℕ) → begun new range ≡ begun old range) → UnderLock face loans run new
  deliver_facts old new before after r (DeliveryHalted n) is comes does went kept = stays_facts old new before after is does
  deliver_facts old new before after r Stranger is comes does went kept = stays_facts old new before after is does
  deliver_facts old new before after r Repeat is comes does went kept = stays_facts old new before after is does
  deliver_facts old new before after r Recorded is comes does went kept =
      let to = does.board in
      served_facts old new is (ap (λ b. b.job) to) (ap (λ b. length b.course.leases) to ∙ length-set old.course.leases r.range _) kept (ap (λ b. b.tally.out) to) went
      (λ n at. absurd (some_none n (sym at ∙ (ap (λ b. b.course.fault) to ∙ comes.0))))
  deliver_facts old new before after r DiskFault is comes does went kept =
      let to = does.board in
      served_facts old new is (ap (λ b. b.job) to) (ap (λ b. length b.course.leases) to) kept (ap (λ b. b.tally.out) to) went
      (λ n at. rose_since face loans run old.journal.disk new.journal.disk is.disk does.rose)

  -- ---- a give-back
  pub back_facts : (old new : BoardView D T) (before after : Totals) (t : Ticket) (taken : Bool) → UnderLock face loans run old
      → OnTrue taken (TakesBack old new before after t) → OnFalse taken (StaysAsIs old new before after)
      → ((range : ℕ) → begun new range ≡ begun old range) → UnderLock face loans run new
  back_facts old new before after t true is back same kept =
      let to = back.board in
      still_facts old new is (ap (λ b. b.job) to) (ap (λ b. length b.course.leases) to ∙ length-set old.course.leases t.range _) kept
      (ap (λ b. b.tally.out) to) (ap (λ b. b.journal) to) (ap (λ b. b.course.fault) to)
  back_facts old new before after t false is back same kept = stays_facts old new before after is same

-- ---- in and out
module _ {D : Type 0} (face : D → Face) (loans : D → List ℕ) where
  -- no call
  served_now : (j : Job) (disk : Option D) → ForSome disk (Served face loans j (face_of face disk) (loans_of loans disk))
  served_now j None d at = absurd (none_is d at)
    where
      none_is : (d : D) → None ≡ Some d → ⊥
      none_is d e = cc
  served_now j (Some c) d at =
      let same : c ≡ d = cc in
      subst (Served face loans j (face c) (loans c)) same (record {
        same = refl;
        spares = spares_same j (face c);
        made = lasts_same (Made j) (face c);
        goes_on = λ s. lasts_same (GoesOn j s) (face c);
      })

  went_back : (j : Job) (old new : Option D) → is_some new ≡ is_some old → ForSome new (Served face loans j (face_of face old) (loans_of loans old))
      → Went (Serves face loans j) old new
  went_back j None None kept served = refl
  went_back j None (Some e) kept served = absurd (true_false kept)
    where
      true_false : true ≡ false → ⊥
      true_false e = cc
  went_back j (Some d) None kept served = absurd (false_true kept)
    where
      false_true : false ≡ true → ⊥
      false_true e = cc
  went_back j (Some d) (Some e) kept served =
      let is = served e refl in record {
        same = record { same = is.same; runs = is.spares.runs };
        spares = is.spares;
        made = is.made;
        goes_on = is.goes_on;
      }

  rose_back : (old new : Option D) → is_some new ≡ is_some old → IsSomeAnd new (λ d. Rose (face_of face old).faults (face d).faults) → DiskRose face old new
  rose_back None None kept rose = rose
  rose_back None (Some e) kept rose = absurd (true_false kept)
    where
      true_false : true ≡ false → ⊥
      true_false e = cc
  rose_back (Some d) None kept rose = rose
  rose_back (Some d) (Some e) kept rose = rose

module _ {D T : Type 0} (face : D → Face) (loans : D → List ℕ) where
  -- a board that is not halted
  pub named_now : (b : BoardView D T) → length b.course.leases ≡ ranges b.job → b.course.fault ≡ None → UnderLock face loans (name_of face loans b) b
  named_now b count running = record {
    job = refl;
    count = count;
    begun = λ r. refl;
    out = refl;
    kept = refl;
    disk = served_now face loans b.job b.journal.disk;
    halted = λ n at. absurd (some_none n (sym at ∙ running));
  }

  -- what is known once it is taken out
  pub was_shared : (old new : BoardView D T) → length old.course.leases ≡ ranges old.job → UnderLock face loans (name_of face loans old) new → WasShared face loans old new
  was_shared old new count is = record {
    job = is.job;
    count = is.count ∙ sym count;
    begun = is.begun;
    disk = went_back face loans old.job old.journal.disk new.journal.disk is.kept is.disk;
    halted = λ n at. rose_back face loans old.journal.disk new.journal.disk is.kept (is.halted n at);
  }
