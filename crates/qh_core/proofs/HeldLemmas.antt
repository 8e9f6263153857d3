-- What each call keeps of the parts of which a course is made.
use Rattle.std.proofs.Common.{◌≡◌, ◌↔◌, ℕ, ◌+◌, ◌-◌, ◌*◌, ◌<◌, ◌≤◌, true, false, not, cond, List, [], ◌∷◌, ◌++◌, length, replicate, set, eqb, Option}
use Rattle.std.proofs.Common.{Some, None, refl, sym, ap, ◌∙◌, subst, arith}
use Rattle.std.specs.Prelude.{is_some}
use Rattle.std.proofs.lemmas.Bool.{eqb-true, eq-eqb}
use Rattle.std.proofs.lemmas.List.{length-set, length-replicate}
use Rattle.std.proofs.lemmas.List.Elements.{All-from_get_or}
use Rattle.std.proofs.lemmas.List.Folds.{sum_by-replicate}
use Rattle.std.proofs.lemmas.List.Sums.{sum_by-set, get_or-le-sum_by, sum_by-le}
use Rattle.qh_limits.specs.Limits.{max_grants, max_ranges}
use Rattle.qh_lease.specs.declared.lease.Lease.{Lease}
use Rattle.qh_lease.specs.declared.lease.Lease.TheVariants.{Fresh, Out, Returned, Acked}
use Rattle.qh_lease.specs.Lease.{lease_at, grants_of, is_acked, may_grant, NonePasses}
use Rattle.qh_core.specs.declared.noted.Noted.TheVariants as entry
use Rattle.qh_core.specs.Replay.{CourseView, noted, is_open}
use Rattle.qh_core.specs.Course.{open_ranges, IsCourse, IsHeld}
use Rattle.qh_core.proofs.MoveLemmas.{can_grant_open}
use Rattle.qh_core.proofs.CourseLemmas.{granted_course, back_course, acked_course, halted_course, begun_course, new_course}

-- what a lease adds to the number of open ones
abbrev pub one_open : Lease → ℕ
one_open lease = cond (is_open lease) 1 0

one_of_open : (lease : Lease) → is_acked lease ≡ false → one_open lease ≡ 1
one_of_open lease waiting = ap (λ b. cond (not b) 1 0) waiting

-- a lease that changes from open to open
open_ranges-set_open : (leases : List Lease) (range : ℕ) (lease : Lease) → range < length leases → is_acked (lease_at leases range) ≡ false
    → is_acked lease ≡ false → open_ranges leases ≡ open_ranges (set leases range lease)
open_ranges-set_open leases range lease within waiting open' =
    let sums = sum_by-set one_open leases range lease Fresh within in
    let old : one_open (lease_at leases range) ≡ 1 = one_of_open (lease_at leases range) waiting in
    let new : one_open lease ≡ 1 = one_of_open lease open' in
    omega arith

-- an open lease that is acknowledged
open_ranges-set_acked : (leases : List Lease) (range : ℕ) → range < length leases → is_acked (lease_at leases range) ≡ false
    → open_ranges leases - 1 ≡ open_ranges (set leases range Acked)
open_ranges-set_acked leases range within waiting =
    let sums = sum_by-set one_open leases range Acked Fresh within in
    let old : one_open (lease_at leases range) ≡ 1 = one_of_open (lease_at leases range) waiting in
    omega arith

one_of_shut : (lease : Lease) → is_open lease ≡ false → one_open lease ≤ 0
one_of_shut lease shut = let none : one_open lease ≡ 0 = ap (λ b. cond b 1 0) shut in omega arith

shut_of_none : (lease : Lease) → one_open lease ≤ 0 → is_open lease ≡ false
shut_of_none Fresh h = absurd (omega arith)
shut_of_none (Out attempt) h = absurd (omega arith)
shut_of_none (Returned attempt) h = absurd (omega arith)
shut_of_none Acked h = refl

-- their number is zero exactly where none is open
pub none_open : (leases : List Lease) (remaining : ℕ) → remaining ≡ open_ranges leases → (eqb remaining 0 ≡ true) ↔ NonePasses is_open 0 leases
none_open leases remaining is = (
  λ zero. λ range above within.
      let none : remaining ≡ 0 = eqb-true remaining 0 zero in
      let least : one_open (lease_at leases range) ≤ open_ranges leases = get_or-le-sum_by one_open leases range Fresh within in
      shut_of_none (lease_at leases range) (omega arith),
  λ none.
      let each = λ (range : ℕ) (within : range < length leases). one_of_shut (lease_at leases range) (none range (omega arith) within) in
      let sums : open_ranges leases ≤ length leases * 0 = sum_by-le one_open 0 leases (All-from_get_or (λ lease. one_open lease ≤ 0) leases Fresh each) in
      eq-eqb remaining 0 (omega arith),
)

-- after a change of one lease
held_set : (c new : CourseView) (ranges remaining remaining' per_range capacity range : ℕ) (lease : Lease) → IsHeld c ranges remaining per_range capacity
    → IsCourse new → new.leases ≡ set c.leases range lease → remaining' ≡ open_ranges new.leases
    → IsHeld new ranges remaining' per_range capacity
held_set c new ranges remaining remaining' per_range capacity range lease held course is left =
    let same : length new.leases ≡ length c.leases = ap length is ∙ length-set c.leases range lease in
    record {
      course = course;
      ranges_is = held.ranges_is ∙ sym same;
      remaining_is = left;
      reserved = subst (λ n. n * per_range ≤ capacity) (sym same) held.reserved;
    }

pub granted_held : (c : CourseView) (ranges remaining per_range capacity range attempt : ℕ) → IsHeld c ranges remaining per_range capacity → c.fault ≡ None
    → range < length c.leases → may_grant (lease_at c.leases range) ≡ true → attempt ≡ grants_of (lease_at c.leases range) + 1
    → IsHeld (noted c range (Out attempt) (entry.Granted range attempt)) ranges remaining per_range capacity
granted_held c ranges remaining per_range capacity range attempt held running within may is =
    held_set c (noted c range (Out attempt) (entry.Granted range attempt)) ranges remaining remaining per_range capacity range (Out attempt) held
    (granted_course c range attempt held.course running within may is) refl
    (held.remaining_is ∙ open_ranges-set_open c.leases range (Out attempt) within (can_grant_open (lease_at c.leases range) may) refl)

pub back_held : (c : CourseView) (ranges remaining per_range capacity range attempt : ℕ) → IsHeld c ranges remaining per_range capacity → c.fault ≡ None
    → range < length c.leases → lease_at c.leases range ≡ Out attempt
    → IsHeld (noted c range (Returned attempt) (entry.Back range attempt)) ranges remaining per_range capacity
back_held c ranges remaining per_range capacity range attempt held running within out =
    held_set c (noted c range (Returned attempt) (entry.Back range attempt)) ranges remaining remaining per_range capacity range (Returned attempt) held
    (back_course c range attempt held.course running within out) refl
    (held.remaining_is ∙ open_ranges-set_open c.leases range (Returned attempt) within (ap is_acked out) refl)

pub acked_held : (c : CourseView) (ranges remaining per_range capacity range attempt : ℕ) → IsHeld c ranges remaining per_range capacity → c.fault ≡ None
    → range < length c.leases → is_acked (lease_at c.leases range) ≡ false → attempt ≤ max_grants
    → IsHeld (noted c range Acked (entry.Acked range attempt)) ranges (remaining - 1) per_range capacity
acked_held c ranges remaining per_range capacity range attempt held running within waiting number =
    held_set c (noted c range Acked (entry.Acked range attempt)) ranges remaining (remaining - 1) per_range capacity range Acked held
    (acked_course c range attempt held.course running within waiting number) refl
    (ap (λ n. n - 1) held.remaining_is ∙ open_ranges-set_acked c.leases range within waiting)

pub begun_held : (c : CourseView) (ranges remaining per_range capacity range : ℕ) → IsHeld c ranges remaining per_range capacity → c.history ≡ []
    → c.fault ≡ None → range < length c.leases → lease_at c.leases range ≡ Fresh
    → IsHeld (record c { leases = set c.leases range Acked }) ranges (remaining - 1) per_range capacity
begun_held c ranges remaining per_range capacity range held early running within fresh =
    held_set c (record c { leases = set c.leases range Acked }) ranges remaining (remaining - 1) per_range capacity range Acked held
    (begun_course c range held.course early running within fresh) refl
    (ap (λ n. n - 1) held.remaining_is ∙ open_ranges-set_acked c.leases range within (ap is_acked fresh))

pub halted_held : (c : CourseView) (ranges remaining per_range capacity faults : ℕ) → IsHeld c ranges remaining per_range capacity → c.fault ≡ None
    → IsHeld (record c { fault = Some faults; history = c.history ++ entry.Halted faults ∷ [] }) ranges remaining per_range capacity
halted_held c ranges remaining per_range capacity faults held running = record {
  course = halted_course c faults held.course running;
  ranges_is = held.ranges_is;
  remaining_is = held.remaining_is;
  reserved = held.reserved;
}

pub new_held : (ranges per_range capacity : ℕ) → 0 < ranges → ranges ≤ max_ranges → ranges * per_range ≤ capacity
    → IsHeld (record { leases = replicate ranges Fresh; history = []; fault = None }) ranges ranges per_range capacity
new_held ranges per_range capacity some few reserved =
    let same : length (replicate ranges Fresh) ≡ ranges = length-replicate ranges Fresh in
    let sums : open_ranges (replicate ranges Fresh) ≡ ranges * 1 = sum_by-replicate one_open ranges Fresh in
    record {
      course = new_course ranges some few;
      ranges_is = sym same;
      remaining_is = omega arith;
      reserved = subst (λ n. n * per_range ≤ capacity) (sym same) reserved;
    }

-- the fault of a course that is not halted
pub no_fault : (fault : Option ℕ) → false ≡ is_some fault → fault ≡ None
no_fault None h = refl
no_fault (Some faults) h = cc
