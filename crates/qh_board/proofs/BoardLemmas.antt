-- What a board keeps, from what its calls do to its parts.
use Rattle.std.proofs.Common.{◌≡◌, ◌≢◌, ◌<◌, ◌+◌, ℕ, Bool, true, false, List, [], ◌∷◌, ◌++◌, length, set, Option, Some, None, refl, ap, sym, ◌∙◌, subst, inl, inr, cond, arith, sum_by, count_by}
use Rattle.std.specs.Prelude.{is_some, if◌then◌else◌}
use Rattle.std.specs.Borrow.{MutBor}
use Rattle.std.proofs.lemmas.Bool.{cases_eq, false≢true}
use Rattle.std.proofs.lemmas.List.Sums.{sum_by-append}
use Rattle.std.proofs.lemmas.List.{length-set, get_or-set_same, get_or-set_other}
use Rattle.qh_disk.specs.Disk.{Face}
use Rattle.qh_slots.specs.Stands.{Slots, slot_at}
use Rattle.qh_lease.specs.declared.lease.Lease.{Lease}
use Rattle.qh_lease.specs.declared.lease.Lease.TheVariants.{Fresh, Out, Returned, Acked}
use Rattle.qh_lease.specs.Lease.{lease_at, is_acked, is_fresh, may_grant, may_grant_out, may_grant_returned}
use Rattle.qh_lease.specs.Tally.{Count}
use Rattle.qh_core.specs.declared.noted.Noted.{Noted}
use Rattle.qh_core.specs.declared.noted.Noted.TheVariants.{Granted as NotedGranted, Back as NotedBack, Acked as NotedAcked, Halted as NotedHalted}
use Rattle.qh_core.specs.Noted.{counted, is_grant, is_back, is_ack}
use Rattle.qh_core.specs.Replay.{CourseView, is_begun}
use Rattle.qh_range.specs.Results.{Ticket}
use Rattle.qh_board.specs.Board.{BoardView, IsBoard, BeganWith, begun}
use Rattle.qh_board.specs.Claims.{IsNext, granted, given_back, one_grant, one_back}
use Rattle.qh_board.specs.Deliveries.{one_ack}

count_by-append : (test : Noted → Bool) (xs ys : List Noted) → count_by test (xs ++ ys) ≡ count_by test xs + count_by test ys
count_by-append test xs ys = sum_by-append (λ x. cond (test x) 1 0) xs ys

add-zero : (n : ℕ) → n + 0 ≡ n
add-zero n = omega arith

-- a lease that is not acknowledged is replaced by one that is not
pub acked-set : (leases : List Lease) (range : ℕ) (lease : Lease) → range < length leases → is_acked lease ≡ is_acked (lease_at leases range)
    → (r : ℕ) → is_acked (lease_at (set leases range lease) r) ≡ is_acked (lease_at leases r)
acked-set leases range lease low same r = elim (cases_eq r range) [
  | inl is ↦ ap (λ (n : ℕ). is_acked (lease_at (set leases range lease) n)) is ∙ ap is_acked (get_or-set_same leases range lease Fresh low) ∙ same ∙ ap (λ (n : ℕ). is_acked (lease_at leases n)) (sym is)
  | inr ne ↦ ap is_acked (get_or-set_other leases range r lease Fresh ne)
]

-- a range that may be granted is not acknowledged
pub grantable_open : (lease : Lease) → may_grant lease ≡ true → is_acked lease ≡ false
grantable_open Fresh may = refl
grantable_open (Out attempt) may = refl
grantable_open (Returned attempt) may = refl
grantable_open Acked may = sym may

-- one more entry
pub counted-granted : (history : List Noted) (range attempt : ℕ) → counted (history ++ NotedGranted range attempt ∷ []) ≡ one_grant (counted history)
counted-granted history range attempt = λ i. record {
  grants = count_by-append is_grant history (NotedGranted range attempt ∷ []) i;
  backs = (count_by-append is_back history (NotedGranted range attempt ∷ []) ∙ add-zero _) i;
  acks = (count_by-append is_ack history (NotedGranted range attempt ∷ []) ∙ add-zero _) i;
}

pub counted-back : (history : List Noted) (range attempt : ℕ) → counted (history ++ NotedBack range attempt ∷ []) ≡ one_back (counted history)
counted-back history range attempt = λ i. record {
  grants = (count_by-append is_grant history (NotedBack range attempt ∷ []) ∙ add-zero _) i;
  backs = count_by-append is_back history (NotedBack range attempt ∷ []) i;
  acks = (count_by-append is_ack history (NotedBack range attempt ∷ []) ∙ add-zero _) i;
}

pub counted-acked : (history : List Noted) (range attempt : ℕ) → counted (history ++ NotedAcked range attempt ∷ []) ≡ one_ack (counted history)
counted-acked history range attempt = λ i. record {
  grants = (count_by-append is_grant history (NotedAcked range attempt ∷ []) ∙ add-zero _) i;
  backs = (count_by-append is_back history (NotedAcked range attempt ∷ []) ∙ add-zero _) i;
  acks = count_by-append is_ack history (NotedAcked range attempt ∷ []) i;
}

pub counted-halted : (history : List Noted) (faults : ℕ) → counted (history ++ NotedHalted faults ∷ []) ≡ counted history
counted-halted history faults = λ i. record {
  grants = (count_by-append is_grant history (NotedHalted faults ∷ []) ∙ add-zero _) i;
  backs = (count_by-append is_back history (NotedHalted faults ∷ []) ∙ add-zero _) i;
  acks = (count_by-append is_ack history (NotedHalted faults ∷ []) ∙ add-zero _) i;
}

fresh_grantable : (lease : Lease) → is_fresh lease ≡ true → may_grant lease ≡ true
fresh_grantable Fresh passes = refl
fresh_grantable (Out attempt) passes = absurd (false≢true passes)
fresh_grantable (Returned attempt) passes = absurd (false≢true passes)
fresh_grantable Acked passes = absurd (false≢true passes)

returned_grantable : (lease : Lease) → may_grant_returned lease ≡ true → may_grant lease ≡ true
returned_grantable Fresh passes = absurd (false≢true passes)
returned_grantable (Out attempt) passes = absurd (false≢true passes)
returned_grantable (Returned attempt) passes = passes
returned_grantable Acked passes = absurd (false≢true passes)

out_grantable : (lease : Lease) → may_grant_out lease ≡ true → may_grant lease ≡ true
out_grantable Fresh passes = absurd (false≢true passes)
out_grantable (Out attempt) passes = passes
out_grantable (Returned attempt) passes = absurd (false≢true passes)
out_grantable Acked passes = absurd (false≢true passes)

-- so is the range that a claim chooses
pub next_known : {T : Type 0} (due not_due : T → ℕ) (may_say : T → ℕ → ℕ → Bool → Type 0) (leases : List Lease) (old new : T) (range : ℕ) → IsNext due not_due may_say leases old new range → (range < length leases) × (may_grant (lease_at leases range) ≡ true)
next_known due not_due may_say leases old new range is = elim is [
  | inl fresh ↦ (fresh.within, fresh_grantable (lease_at leases range) fresh.passes)
  | inr (inl returned) ↦ (returned.1.within, returned_grantable (lease_at leases range) returned.1.passes)
  | inr (inr late) ↦ (late.2.known, out_grantable (lease_at leases range) late.2.out)
]

module _ {D T : Type 0} (face : D → Face) (b : BoardView D T) (is : IsBoard face b) where
  -- other leases and more entries, the same ranges acknowledged
  pub kept_board : (timer : MutBor T) (course : CourseView) (tally : Count) → course.fault ≡ b.course.fault → length course.leases ≡ length b.course.leases
      → ((r : ℕ) → is_acked (lease_at course.leases r) ≡ is_acked (lease_at b.course.leases r)) → ((r : ℕ) → is_begun course r ≡ is_begun b.course r) → tally.totals ≡ counted course.history
      → IsBoard face (record b { timer = timer; course = course; tally = tally })
  kept_board timer course tally fault size acked same counts = record {
    one_job = is.one_job;
    ranges = size ∙ is.ranges;
    acked = λ r. acked r ∙ is.acked r;
    values = λ r v held not_begun. is.values r v held (sym (same r) ∙ not_begun);
    total = is.total;
    tally = counts;
    halt = is.halt ∙ ap is_some (sym fault);
    faults = λ n e. is.faults n (sym fault ∙ e);
    reads = λ s0 with0. is.reads s0 (record { each = λ r. with0.each r ∙ ap (λ x. if x then slot_at b.journal.table r else None) (same r) });
  }

  -- a range was granted
  pub granted_board : (timer : MutBor T) (course : CourseView) (tally : Count) (t : Ticket) (range : ℕ) → t.range ≡ range → range < length b.course.leases → may_grant (lease_at b.course.leases range) ≡ true
      → course ≡ granted b.course t → ((r : ℕ) → is_begun course r ≡ is_begun b.course r) → tally.totals ≡ one_grant b.tally.totals
      → IsBoard face (record b { timer = timer; course = course; tally = tally })
  granted_board timer course tally t range is_range known grantable after same counts =
      let low = subst (λ (r : ℕ). r < length b.course.leases) (sym is_range) known in
      let may = ap (λ (r : ℕ). may_grant (lease_at b.course.leases r)) is_range ∙ grantable in
      kept_board timer course tally
      (ap (λ (c : CourseView). c.fault) after)
      (ap (λ (c : CourseView). length c.leases) after ∙ length-set b.course.leases t.range (Out t.attempt))
      (λ r. ap (λ (c : CourseView). is_acked (lease_at c.leases r)) after ∙ acked-set b.course.leases t.range (Out t.attempt) low (sym (grantable_open _ may)) r)
      same
      (counts ∙ ap one_grant is.tally ∙ sym (ap (λ (c : CourseView). counted c.history) after ∙ counted-granted b.course.history t.range t.attempt))

  -- a range was given back
  pub given_back_board : (timer : MutBor T) (course : CourseView) (tally : Count) (t : Ticket) → lease_at b.course.leases t.range ≡ Out t.attempt → t.range < length b.course.leases
      → course ≡ given_back b.course t → ((r : ℕ) → is_begun course r ≡ is_begun b.course r) → tally.totals ≡ one_back b.tally.totals
      → IsBoard face (record b { timer = timer; course = course; tally = tally })
  given_back_board timer course tally t held low after same counts = kept_board timer course tally
      (ap (λ (c : CourseView). c.fault) after)
      (ap (λ (c : CourseView). length c.leases) after ∙ length-set b.course.leases t.range (Returned t.attempt))
      (λ r. ap (λ (c : CourseView). is_acked (lease_at c.leases r)) after ∙ acked-set b.course.leases t.range (Returned t.attempt) low (sym (ap is_acked held)) r)
      same
      (counts ∙ ap one_back is.tally ∙ sym (ap (λ (c : CourseView). counted c.history) after ∙ counted-back b.course.history t.range t.attempt))
