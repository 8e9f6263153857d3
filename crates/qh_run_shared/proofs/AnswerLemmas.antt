-- What the calls of a board answer under a lock, in the words of a desk.
use Rattle.std.proofs.Common.{◌≡◌, ℕ, ◌<◌, Bool, true, false, List, sym, subst, ◌∙◌}
use Rattle.std.specs.Prelude.{IfSome}
use Rattle.std.specs.Bool.{OnTrue, OnFalse}
use Rattle.qh_plan.specs.Jobs.{ranges}
use Rattle.qh_disk.specs.Disk.{Face}
use Rattle.qh_lease.specs.declared.totals.Totals.{Totals}
use Rattle.qh_range.specs.Results.{Ticket, RangeResult}
use Rattle.qh_range.specs.declared.answers.Claim.{Claim}
use Rattle.qh_range.specs.declared.answers.Claim.TheVariants.{Granted, Drained, Halted}
use Rattle.qh_range.specs.declared.answers.Admit.{Admit}
use Rattle.qh_range.specs.declared.answers.Admit.TheVariants.{Granted as Admitted, Taken, Halted as AdmitHalted}
use Rattle.qh_range.specs.declared.answers.Delivery.{Delivery}
use Rattle.qh_range.specs.declared.answers.Delivery.TheVariants.{Acked as Recorded, Repeat, Stranger, Halted as DeliveryHalted, DiskFault}
use Rattle.qh_board.specs.Board.{BoardView}
use Rattle.qh_board.specs.Claims.{TakesBack, StaysAsIs, ClaimComes, ClaimDoes, AdmitComes, AdmitDoes}
use Rattle.qh_board.specs.Deliveries.{DeliveryComes, DeliveryDoes}
use Rattle.qh_board.proofs.BoardLemmas.{next_known}
use Rattle.qh_workers.specs.Shares.{after_back}
use Rattle.qh_workers.specs.Claims.{claim_ticket, after_claim, ClaimCause}
use Rattle.qh_workers.specs.Admissions.{admit_ticket, after_admit, AdmitCause}
use Rattle.qh_workers.specs.Deliveries.{after_delivery, DeliveryCause}
use Rattle.qh_run_shared.specs.Facts.{RunName, UnderLock}

-- ---- tickets of the named job, and strangers
module _ {D T : Type 0} (face : D → Face) (loans : D → List ℕ) (run : RunName) where
  pub claim_known : (due not_due : T → ℕ) (may_say : T → ℕ → ℕ → Bool → Type 0) (old new : BoardView D T) (claim : Claim) → UnderLock face loans run old → ClaimComes due not_due may_say old new claim
      → IfSome (claim_ticket claim) (λ t. t.range < ranges run.job)
  claim_known due not_due may_say old new (Halted n) is comes = tt
  claim_known due not_due may_say old new Drained is comes = tt
  claim_known due not_due may_say old new (Granted t) is comes =
      subst (λ n. t.range < n) is.count (next_known due not_due may_say old.course.leases old.timer.now new.timer.now t.range comes.1).0

  pub admit_known : (old : BoardView D T) (range : ℕ) (admit : Admit) → range < ranges run.job → AdmitComes old range admit
      → IfSome (admit_ticket admit) (λ t. t.range < ranges run.job)
  admit_known old range (AdmitHalted n) known comes = tt
  admit_known old range Taken known comes = tt
  admit_known old range (Admitted t) known comes = subst (λ n. n < ranges run.job) (sym comes.2) known

  pub deliver_cause : (old : BoardView D T) (r : RangeResult) (delivery : Delivery) → UnderLock face loans run old → DeliveryComes old r delivery
      → DeliveryCause (Unit {0}) (¬ (r.job ≡ run.job)) (Unit {0}) (Unit {0}) delivery
  deliver_cause old r (DeliveryHalted n) is comes = tt
  deliver_cause old r Stranger is comes = λ same. comes.1 (same ∙ sym is.job)
  deliver_cause old r Repeat is comes = tt
  deliver_cause old r Recorded is comes = tt
  deliver_cause old r DiskFault is comes = tt

-- ---- shares, and answers that may always come
pub claim_share : {D T : Type 0} (granted_count : T → ℕ) (hears : T → T → ℕ → ℕ → Type 0) (old new : BoardView D T) (before after : Totals) (claim : Claim)
    → ClaimDoes granted_count hears old new before after claim → after ≡ after_claim claim before
claim_share granted_count hears old new before after (Halted n) does = does.share
claim_share granted_count hears old new before after (Granted t) does = does.share
claim_share granted_count hears old new before after Drained does = does.share

pub claim_cause : (claim : Claim) → ClaimCause (Unit {0}) (Unit {0}) claim
claim_cause (Halted n) = tt
claim_cause (Granted t) = tt
claim_cause Drained = tt

pub admit_share : {D T : Type 0} (granted_count : T → ℕ) (hears : T → T → ℕ → ℕ → Type 0) (old new : BoardView D T) (before after : Totals) (admit : Admit)
    → AdmitDoes granted_count hears old new before after admit → after ≡ after_admit admit before
admit_share granted_count hears old new before after (AdmitHalted n) does = does.share
admit_share granted_count hears old new before after (Admitted t) does = does.share
admit_share granted_count hears old new before after Taken does = does.share

pub admit_cause : (admit : Admit) → AdmitCause (Unit {0}) admit
admit_cause (AdmitHalted n) = tt
admit_cause (Admitted t) = tt
admit_cause Taken = tt

pub deliver_share : {D T : Type 0} (face : D → Face) (old new : BoardView D T) (before after : Totals) (r : RangeResult) (delivery : Delivery)
    → DeliveryDoes face old new before after r delivery → after ≡ after_delivery delivery before
deliver_share face old new before after r (DeliveryHalted n) does = does.share
deliver_share face old new before after r Stranger does = does.share
deliver_share face old new before after r Repeat does = does.share
deliver_share face old new before after r Recorded does = does.share
deliver_share face old new before after r DiskFault does = does.share

pub back_share : {D T : Type 0} (old new : BoardView D T) (before after : Totals) (t : Ticket) (taken : Bool)
    → OnTrue taken (TakesBack old new before after t) → OnFalse taken (StaysAsIs old new before after) → after ≡ after_back taken before
back_share old new before after t true back same = back.share
back_share old new before after t false back same = same.share
