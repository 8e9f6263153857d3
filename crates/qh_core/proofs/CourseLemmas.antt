-- What each call keeps of a course.
use Rattle.std.proofs.Common.{◌≡◌, ℕ, ◌+◌, ◌*◌, ◌<◌, ◌≤◌, true, false, cond, [], ◌∷◌, ◌++◌, length, replicate, set, Some, None}
use Rattle.std.proofs.Common.{refl, sym, ap, ◌∙◌, subst, arith}
use Rattle.std.specs.Prelude.{sum_by, All, is_some}
use Rattle.std.proofs.lemmas.Bool.{ltb-true, eq-eqb}
use Rattle.std.proofs.lemmas.List.{length-append, length-set, length-replicate, get_or-set_same}
use Rattle.std.proofs.lemmas.List.Elements.{All-push}
use Rattle.std.proofs.lemmas.List.Folds.{sum_by-replicate}
use Rattle.std.proofs.lemmas.List.Sums.{sum_by-set}
use Rattle.qh_limits.specs.Limits.{max_grants, max_ranges}
use Rattle.qh_lease.specs.declared.lease.Lease.{Lease}
use Rattle.qh_lease.specs.declared.lease.Lease.TheVariants.{Fresh, Out, Returned, Acked}
use Rattle.qh_lease.specs.Lease.{lease_at, grants_of, is_acked, may_grant}
use Rattle.qh_core.specs.Machine.{State, is_out_by}
use Rattle.qh_core.proofs.KeptSlots.{set_cases}
use Rattle.qh_core.specs.declared.noted.Noted.{Noted}
use Rattle.qh_core.specs.declared.noted.Noted.TheVariants as entry
use Rattle.qh_core.specs.Noted.{events_of, IsEntryOf}
use Rattle.qh_core.specs.Replay.{CourseView, noted, is_begun, machine_of, is_named}
use Rattle.qh_core.specs.Course.{entries_left, IsCourse}
use Rattle.qh_core.proofs.MoveLemmas.{settled, Leads, can_grant_open, granted_leads, back_leads, acked_leads, halted_leads}
use Rattle.qh_core.proofs.OpeningLemmas.{at_replicate, is_found}
use Rattle.qh_core.proofs.BegunLemmas.{begun_stays, begun_open, begun_acked}
use Rattle.qh_core.proofs.ReplayLemmas.{machine_runs, replay_more, replay_early, early_is_found}

-- a lease that may be granted has room for the entry
grant_falls : (lease : Lease) → may_grant lease ≡ true → entries_left (Out (grants_of lease + 1)) + 1 ≤ entries_left lease
grant_falls Fresh h = omega arith
grant_falls (Out attempt) h = let below : attempt < max_grants = ltb-true attempt max_grants h in omega arith
grant_falls (Returned attempt) h = let below : attempt < max_grants = ltb-true attempt max_grants h in omega arith
grant_falls Acked h = cc

grant_is_number : (lease : Lease) → may_grant lease ≡ true → grants_of lease + 1 ≤ max_grants
grant_is_number Fresh h = omega arith
grant_is_number (Out attempt) h = let below : attempt < max_grants = ltb-true attempt max_grants h in omega arith
grant_is_number (Returned attempt) h = let below : attempt < max_grants = ltb-true attempt max_grants h in omega arith
grant_is_number Acked h = cc

open_has_one : (lease : Lease) → is_acked lease ≡ false → 1 ≤ entries_left lease
open_has_one Fresh h = omega arith
open_has_one (Out attempt) h = omega arith
open_has_one (Returned attempt) h = omega arith
open_has_one Acked h = cc

-- one more entry, of which the changed lease has room
room_more : (c : CourseView) (range : ℕ) (lease : Lease) (note : Noted) → IsCourse c → c.fault ≡ None → range < length c.leases
    → entries_left lease + 1 ≤ entries_left (lease_at c.leases range)
    → length (c.history ++ note ∷ []) + sum_by entries_left (set c.leases range lease) + 1 ≤ 33 * length c.leases + 1
room_more c range lease note course running within falls =
    let sums = sum_by-set entries_left c.leases range lease Fresh within in
    let longer = length-append c.history (note ∷ []) in
    let room : length c.history + sum_by entries_left c.leases + 1 ≤ 33 * length c.leases + 1 =
    subst (λ f. length c.history + sum_by entries_left c.leases + cond (is_some f) 0 1 ≤ 33 * length c.leases + 1) running course.room in
    omega arith

-- one more entry that changes one lease
course_more : (c : CourseView) (range : ℕ) (lease : Lease) (note : Noted) → IsCourse c → c.fault ≡ None → range < length c.leases
    → grants_of lease ≤ max_grants → IsEntryOf (length c.leases) note → entries_left lease + 1 ≤ entries_left (lease_at c.leases range)
    → ((r : ℕ) → is_begun (noted c range lease note) r ≡ is_begun c r)
    → Leads (settled c.leases) (events_of note) (settled (set c.leases range lease)) → is_named (settled c.leases) note ≡ true
    → IsCourse (noted c range lease note)
course_more c range lease note course running within number is_entry falls begun moves named =
    let new : CourseView = noted c range lease note in
    let ranges : length new.leases ≡ length c.leases = length-set c.leases range lease in
    let old_runs = machine_runs c running in
    let new_runs = machine_runs new running in
    let leads : Leads (machine_of c) (events_of note) (machine_of new) =
    subst (λ s. Leads s (events_of note) (machine_of new)) (sym old_runs) (subst (λ s. Leads (settled c.leases) (events_of note) s) (sym new_runs) moves) in
    let room = room_more c range lease note course running within falls in
    record {
      some = subst (λ n. 0 < n) (sym ranges) course.some;
      few = subst (λ n. n ≤ max_ranges) (sym ranges) course.few;
      replay = replay_more c new note course.replay ranges refl begun leads (ap (λ s. is_named s note) old_runs ∙ named);
      grants = λ r. set_cases (λ x. grants_of x ≤ max_grants) c.leases range r lease Fresh (λ _. number) (course.grants r);
      entries = subst (λ n. All (IsEntryOf n) new.history) (sym ranges) (All-push (IsEntryOf (length c.leases)) c.history note course.entries is_entry);
      room = subst (λ f. length new.history + sum_by entries_left new.leases + cond (is_some f) 0 1 ≤ 33 * length new.leases + 1) (sym running) (omega arith);
    }

pub granted_course : (c : CourseView) (range attempt : ℕ) → IsCourse c → c.fault ≡ None → range < length c.leases → may_grant (lease_at c.leases range) ≡ true
    → attempt ≡ grants_of (lease_at c.leases range) + 1
    → IsCourse (noted c range (Out attempt) (entry.Granted range attempt))
granted_course c range attempt course running within may is =
    let old : Lease = lease_at c.leases range in
    let number : attempt ≤ max_grants = subst (λ n. n ≤ max_grants) (sym is) (grant_is_number old may) in
    let falls : entries_left (Out attempt) + 1 ≤ entries_left old = subst (λ n. entries_left (Out n) + 1 ≤ entries_left old) (sym is) (grant_falls old may) in
    let moves : Leads (settled c.leases) (events_of (entry.Granted range attempt)) (settled (set c.leases range (Out attempt))) =
    subst (λ n. Leads (settled c.leases) (events_of (entry.Granted range n)) (settled (set c.leases range (Out n)))) (sym is)
    (granted_leads c.leases range within may) in
    let named : is_named (settled c.leases) (entry.Granted range attempt) ≡ true =
    ap (λ (s : State). is_out_by attempt (lease_at s.leases range)) moves.ends
    ∙ (ap (is_out_by attempt) (get_or-set_same c.leases range (Out attempt) Fresh within) ∙ eq-eqb attempt attempt refl) in
    course_more c range (Out attempt) (entry.Granted range attempt) course running within number (within, omega arith, number) falls
    (begun_open c range (Out attempt) (entry.Granted range attempt) (can_grant_open old may) refl (λ _. refl)) moves named

pub back_course : (c : CourseView) (range attempt : ℕ) → IsCourse c → c.fault ≡ None → range < length c.leases → lease_at c.leases range ≡ Out attempt
    → IsCourse (noted c range (Returned attempt) (entry.Back range attempt))
back_course c range attempt course running within out =
    let number : attempt ≤ max_grants = subst (λ lease. grants_of lease ≤ max_grants) out (course.grants range) in
    let falls : entries_left (Returned attempt) + 1 ≤ entries_left (lease_at c.leases range) =
    subst (λ lease. entries_left (Returned attempt) + 1 ≤ entries_left lease) (sym out) (omega arith) in
    course_more c range (Returned attempt) (entry.Back range attempt) course running within number (within, number) falls
    (begun_open c range (Returned attempt) (entry.Back range attempt) (ap is_acked out) refl (λ _. refl))
    (back_leads c.leases range attempt within out) refl

pub acked_course : (c : CourseView) (range attempt : ℕ) → IsCourse c → c.fault ≡ None → range < length c.leases → is_acked (lease_at c.leases range) ≡ false
    → attempt ≤ max_grants
    → IsCourse (noted c range Acked (entry.Acked range attempt))
acked_course c range attempt course running within waiting number =
    course_more c range Acked (entry.Acked range attempt) course running within (omega arith) (within, number)
    (open_has_one (lease_at c.leases range) waiting) (λ r. begun_acked c range attempt r waiting) (acked_leads c.leases range within waiting) refl

pub halted_course : (c : CourseView) (faults : ℕ) → IsCourse c → c.fault ≡ None
    → IsCourse (record c { fault = Some faults; history = c.history ++ entry.Halted faults ∷ [] })
halted_course c faults course running =
    let note : Noted = entry.Halted faults in
    let new : CourseView = record c { fault = Some faults; history = c.history ++ note ∷ [] } in
    let longer = length-append c.history (note ∷ []) in
    let room : length c.history + sum_by entries_left c.leases + 1 ≤ 33 * length c.leases + 1 =
    subst (λ f. length c.history + sum_by entries_left c.leases + cond (is_some f) 0 1 ≤ 33 * length c.leases + 1) running course.room in
    let leads : Leads (machine_of c) (events_of note) (machine_of new) =
    subst (λ s. Leads s (events_of note) (machine_of new)) (sym (machine_runs c running)) (halted_leads c.leases) in
    record {
      some = course.some;
      few = course.few;
      replay = replay_more c new note course.replay refl refl (λ r. begun_stays c new note r refl refl refl) leads refl;
      grants = course.grants;
      entries = All-push (IsEntryOf (length c.leases)) c.history note course.entries tt;
      room = omega arith;
    }

-- a range that was stored before the run
pub begun_course : (c : CourseView) (range : ℕ) → IsCourse c → c.history ≡ [] → c.fault ≡ None → range < length c.leases → lease_at c.leases range ≡ Fresh
    → IsCourse (record c { leases = set c.leases range Acked })
begun_course c range course early running within fresh =
    let new : CourseView = record c { leases = set c.leases range Acked } in
    let ranges : length new.leases ≡ length c.leases = length-set c.leases range Acked in
    let sums = sum_by-set entries_left c.leases range Acked Fresh within in
    let room = course.room in
    let found : (r : ℕ) → is_found (lease_at new.leases r) ≡ true =
    λ r. set_cases (λ x. is_found x ≡ true) c.leases range r Acked Fresh (λ _. refl) (early_is_found c early course.replay r) in
    record {
      some = subst (λ n. 0 < n) (sym ranges) course.some;
      few = subst (λ n. n ≤ max_ranges) (sym ranges) course.few;
      replay = replay_early new early running found;
      grants = λ r. set_cases (λ x. grants_of x ≤ max_grants) c.leases range r Acked Fresh (λ _. omega arith) (course.grants r);
      entries = subst (λ n. All (IsEntryOf n) c.history) (sym ranges) course.entries;
      room = omega arith;
    }

-- a run that has not begun
pub new_course : (ranges : ℕ) → 0 < ranges → ranges ≤ max_ranges → IsCourse (record { leases = replicate ranges Fresh; history = []; fault = None })
new_course ranges some few =
    let leases = replicate ranges Fresh in
    let ranges_are : length leases ≡ ranges = length-replicate ranges Fresh in
    let sums : sum_by entries_left leases ≡ ranges * 33 = sum_by-replicate entries_left ranges Fresh in
    record {
      some = subst (λ n. 0 < n) (sym ranges_are) some;
      few = subst (λ n. n ≤ max_ranges) (sym ranges_are) few;
      replay = replay_early (record { leases = leases; history = []; fault = None }) refl refl (λ r. ap is_found (at_replicate ranges r Fresh));
      grants = λ r. subst (λ lease. grants_of lease ≤ max_grants) (sym (at_replicate ranges r Fresh)) (omega arith);
      entries = λ k d h. absurd (omega arith);
      room = omega arith;
    }
