-- What the calls promise that grant ranges and take them back.
use Rattle.std.specs.Prelude.{◌≡◌, ◌≢◌, ◌⊎◌, ℕ, ◌+◌, ◌<◌, Bool, true, false, List, length, Option, Some, None}
use Rattle.std.specs.Borrow.{MutBor}
use Rattle.qh_limits.specs.Counts.{Rose, RoseBy}
use Rattle.qh_lease.specs.declared.lease.Lease.{Lease}
use Rattle.qh_lease.specs.declared.lease.Lease.TheVariants.{Out, Returned}
use Rattle.qh_lease.specs.declared.totals.Totals.{Totals}
use Rattle.qh_lease.specs.Lease.{lease_at, grants_of, is_fresh, may_grant_out, may_grant_returned, count_out, NonePasses, IsLowest}
use Rattle.qh_lease.specs.Tally.{Count}
use Rattle.qh_range.specs.Results.{Ticket}
use Rattle.qh_range.specs.declared.answers.Claim.{Claim}
use Rattle.qh_range.specs.declared.answers.Claim.TheVariants.{Granted, Drained, Halted}
use Rattle.qh_range.specs.declared.answers.Admit.{Admit}
use Rattle.qh_range.specs.declared.answers.Admit.TheVariants.{Granted as Admitted, Taken, Halted as AdmitHalted}
use Rattle.qh_range.specs.declared.answers.Sweep.{Sweep}
use Rattle.qh_range.specs.declared.answers.Sweep.TheVariants.{Granted as Swept, Done, Halted as SweepHalted}
use Rattle.qh_core.specs.declared.noted.Noted.TheVariants.{Granted as NotedGranted, Back as NotedBack}
use Rattle.qh_core.specs.Replay.{CourseView, noted, is_open}
use Rattle.qh_board.specs.Board.{BoardView}

-- ---- the choice of a range
-- the timer was asked for a range by the attempt that holds it, and gave this answer
pub record IsAnswered {T : Type 0} (may_say : T → ℕ → ℕ → Bool → Type 0) (leases : List Lease) (range : ℕ) (answer : Bool) : Type 0 where
  pub asked : T
  pub said : may_say asked range (grants_of (lease_at leases range)) answer

-- it answered not due for each range below a number that is out and may be granted again
abbrev pub AreNotDue : {T : Type 0} → (T → ℕ → ℕ → Bool → Type 0) → List Lease → ℕ → Type 0
AreNotDue may_say leases most = (range : ℕ) → range < most → may_grant_out (lease_at leases range) ≡ true → IsAnswered may_say leases range false

-- a range is out and may be granted again, the timer answered due for it, and before that not due for each lower range of that kind
pub record IsLate {T : Type 0} (due not_due : T → ℕ) (may_say : T → ℕ → ℕ → Bool → Type 0) (leases : List Lease) (old new : T) (range : ℕ) : Type 0 where
  pub known : range < length leases
  pub out : may_grant_out (lease_at leases range) ≡ true
  pub is_due : Rose (due old) (due new)
  pub before : RoseBy (count_out leases range) (not_due old) (not_due new)
  pub said : IsAnswered may_say leases range true
  pub lower : AreNotDue may_say leases range

-- the range that is granted next: the lowest fresh one; else the lowest that was given back and may be granted again; else one that is late
abbrev pub IsNext : {T : Type 0} → (T → ℕ) → (T → ℕ) → (T → ℕ → ℕ → Bool → Type 0) → List Lease → T → T → ℕ → Type 0
IsNext due not_due may_say leases old new range =
    IsLowest is_fresh 0 leases range
    ⊎ (NonePasses is_fresh 0 leases × IsLowest may_grant_returned 0 leases range)
    ⊎ (NonePasses is_fresh 0 leases × NonePasses may_grant_returned 0 leases × IsLate due not_due may_say leases old new range)

-- no range is granted: none is fresh, none was given back that may be granted again, and the timer answered not due for each that is out and may be
pub record IsDrained {T : Type 0} (not_due : T → ℕ) (may_say : T → ℕ → ℕ → Bool → Type 0) (leases : List Lease) (old new : T) : Type 0 where
  pub fresh : NonePasses is_fresh 0 leases
  pub returned : NonePasses may_grant_returned 0 leases
  pub asked : RoseBy (count_out leases (length leases)) (not_due old) (not_due new)
  pub each : AreNotDue may_say leases (length leases)

-- ---- what changes
-- the course after a grant, and after a range was given back
abbrev pub granted : CourseView → Ticket → CourseView
granted c t = noted c t.range (Out t.attempt) (NotedGranted t.range t.attempt)

abbrev pub given_back : CourseView → Ticket → CourseView
given_back c t = noted c t.range (Returned t.attempt) (NotedBack t.range t.attempt)

-- one more grant, one more give-back
abbrev pub one_grant : Totals → Totals
one_grant t = record t { grants = t.grants + 1 }

abbrev pub one_back : Totals → Totals
one_back t = record t { backs = t.backs + 1 }

-- the same timer, lent by the same loan
abbrev pub SameTimer : {T : Type 0} → MutBor T → MutBor T → Type 0
SameTimer old new = new.ghost_name ≡ old.ghost_name

-- The timer heard of this grant and of no other: when it heard, it had been told of none since, and only asked.
pub record Heard {T : Type 0} (granted_count : T → ℕ) (hears : T → T → ℕ → ℕ → Type 0) (old new : T) (t : Ticket) : Type 0 where
  pub asked : T
  pub untold : granted_count asked ≡ granted_count old
  pub heard : hears asked new t.range t.attempt

-- A range is granted by this ticket: it is noted and counted, and the timer was told of it. Nothing else changes.
pub record Grants {D T : Type 0} (granted_count : T → ℕ) (hears : T → T → ℕ → ℕ → Type 0) (old new : BoardView D T) (before after : Totals) (t : Ticket) : Type 0 where
  pub attempt : t.attempt ≡ grants_of (lease_at old.course.leases t.range) + 1
  pub board : new ≡ record old { timer = new.timer; course = granted old.course t; tally = record old.tally { totals = one_grant old.tally.totals } }
  pub timer : SameTimer old.timer new.timer
  pub told : Rose (granted_count old.timer.now) (granted_count new.timer.now)
  pub heard : Heard granted_count hears old.timer.now new.timer.now t
  pub share : after ≡ one_grant before

-- the timer was asked at most, and told nothing
pub record OnlyAsks {D T : Type 0} (granted_count : T → ℕ) (old new : BoardView D T) (before after : Totals) : Type 0 where
  pub board : new ≡ record old { timer = new.timer }
  pub timer : SameTimer old.timer new.timer
  pub told : granted_count new.timer.now ≡ granted_count old.timer.now
  pub share : after ≡ before

-- nothing changes
pub record StaysAsIs {D T : Type 0} (old new : BoardView D T) (before after : Totals) : Type 0 where
  pub board : new ≡ old
  pub share : after ≡ before

-- ---- claims
-- when a claim answers so
abbrev pub ClaimComes : {D T : Type 0} → (T → ℕ) → (T → ℕ) → (T → ℕ → ℕ → Bool → Type 0) → BoardView D T → BoardView D T → Claim → Type 0
ClaimComes due not_due may_say old new (Halted n) = old.course.fault ≡ Some n
ClaimComes due not_due may_say old new (Granted t) = (old.course.fault ≡ None) × IsNext due not_due may_say old.course.leases old.timer.now new.timer.now t.range
ClaimComes due not_due may_say old new Drained = (old.course.fault ≡ None) × IsDrained not_due may_say old.course.leases old.timer.now new.timer.now

-- what it changes
abbrev pub ClaimDoes : {D T : Type 0} → (T → ℕ) → (T → T → ℕ → ℕ → Type 0) → BoardView D T → BoardView D T → Totals → Totals → Claim → Type 0
ClaimDoes granted_count hears old new before after (Halted n) = StaysAsIs old new before after
ClaimDoes granted_count hears old new before after (Granted t) = Grants granted_count hears old new before after t
ClaimDoes granted_count hears old new before after Drained = OnlyAsks granted_count old new before after

-- ---- ranges that were drawn
-- when an admission answers so
abbrev pub AdmitComes : {D T : Type 0} → BoardView D T → ℕ → Admit → Type 0
AdmitComes b range (AdmitHalted n) = b.course.fault ≡ Some n
AdmitComes b range (Admitted t) = (b.course.fault ≡ None) × (is_fresh (lease_at b.course.leases range) ≡ true) × (t.range ≡ range)
AdmitComes b range Taken = (b.course.fault ≡ None) × (is_fresh (lease_at b.course.leases range) ≢ true)

-- what it changes
abbrev pub AdmitDoes : {D T : Type 0} → (T → ℕ) → (T → T → ℕ → ℕ → Type 0) → BoardView D T → BoardView D T → Totals → Totals → Admit → Type 0
AdmitDoes granted_count hears old new before after (AdmitHalted n) = StaysAsIs old new before after
AdmitDoes granted_count hears old new before after (Admitted t) = Grants granted_count hears old new before after t
AdmitDoes granted_count hears old new before after Taken = StaysAsIs old new before after

-- the timer heard of the grant and was asked nothing
abbrev pub AdmitTells : {T : Type 0} → (T → T → ℕ → ℕ → Type 0) → T → T → Admit → Type 0
AdmitTells hears old new (AdmitHalted n) = new ≡ old
AdmitTells hears old new (Admitted t) = hears old new t.range t.attempt
AdmitTells hears old new Taken = new ≡ old

-- ---- give-backs
-- A range is taken back: it is noted and counted. Nothing else changes.
pub record TakesBack {D T : Type 0} (old new : BoardView D T) (before after : Totals) (t : Ticket) : Type 0 where
  pub board : new ≡ record old { course = given_back old.course t; tally = record old.tally { totals = one_back old.tally.totals } }
  pub share : after ≡ one_back before

-- ---- the last sweep
-- what is answered to the question for a range at or above a number that is not acknowledged
abbrev pub SweepIs : {D T : Type 0} → BoardView D T → ℕ → Sweep → Type 0
SweepIs b from (SweepHalted n) = b.course.fault ≡ Some n
SweepIs b from (Swept t) = (b.course.fault ≡ None) × (t.attempt ≡ 0) × IsLowest is_open from b.course.leases t.range
SweepIs b from Done = (b.course.fault ≡ None) × NonePasses is_open from b.course.leases
