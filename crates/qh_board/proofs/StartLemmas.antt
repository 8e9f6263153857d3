-- The course and the total of a run's start, range by range.
use Rattle.std.proofs.Common.{◌≡◌, ◌≢◌, ◌<◌, ◌≤◌, ◌+◌, ℕ, Bool, true, false, ◌&&◌, List, [], length, map, replicate, set, Option, Some, None, refl, ap, sym, ◌∙◌, subst, inl, inr, arith}
use Rattle.std.specs.Prelude.{is_some, if◌then◌else◌}
use Rattle.std.specs.Borrow.{MutBor}
use Rattle.std.proofs.Math.ListN.{get_or-map as get_or-map-at}
use Rattle.std.proofs.lemmas.Bool.{cases_eq, false≢true}
use Rattle.std.proofs.lemmas.List.{length-set, length-map, length-replicate, get_or-set_same, get_or-set_other, get_or-map, get_or-replicate, get_or_past, ext_get_or}
use Rattle.qh_disk.specs.Disk.{Face}
use Rattle.qh_disk.proofs.Moments.{le_cases}
use Rattle.qh_plan.specs.declared.verdict.Verdict.{Verdict}
use Rattle.qh_plan.specs.Jobs.{Job, ranges}
use Rattle.qh_plan.specs.Ranges.{Fits}
use Rattle.qh_plan.specs.Slots.{slot_sums, least_over}
use Rattle.qh_slots.specs.Stands.{Slots, slot_at, nones, AllFit}
use Rattle.qh_journal.specs.Calls.{JournalView, IsJournal}
use Rattle.qh_lease.specs.declared.lease.Lease.{Lease}
use Rattle.qh_lease.specs.declared.lease.Lease.TheVariants.{Fresh, Acked}
use Rattle.qh_lease.specs.Lease.{lease_at, is_acked}
use Rattle.qh_lease.specs.Tally.{Count, nothing}
use Rattle.qh_core.specs.Replay.{CourseView, is_begun}
use Rattle.qh_slots.specs.Running.{Running, IsTotalOf, IsNext}
use Rattle.qh_board.specs.Board.{BoardView, IsBoard, begun, lease_for, started}

-- ---- the course
-- the ranges below n have the leases for their slots, the others are fresh
pub record IsStartedBelow (table : Slots) (n : ℕ) (c : CourseView) : Type 0 where
  pub history : c.history ≡ []
  pub fault : c.fault ≡ None
  pub count : length c.leases ≡ length table
  pub below : (r : ℕ) → r < n → lease_at c.leases r ≡ lease_for (slot_at table r)
  pub above : (r : ℕ) → n ≤ r → lease_at c.leases r ≡ Fresh

fresh-replicate : (n r : ℕ) → lease_at (replicate n Fresh) r ≡ Fresh
fresh-replicate n r = elim (le_cases n r) [
  | inl past ↦ get_or_past (replicate n Fresh) r Fresh (let is : length (replicate n Fresh) ≡ n = length-replicate n Fresh in omega arith)
  | inr low ↦ get_or-replicate n r Fresh Fresh low
]

pub started_none : (table : Slots) (n : ℕ) (c : CourseView) → n ≡ length table → c.leases ≡ replicate n Fresh → c.history ≡ [] → c.fault ≡ None → IsStartedBelow table 0 c
started_none table n c count leases history fault = record {
  history = history;
  fault = fault;
  count = ap length leases ∙ length-replicate n Fresh ∙ count;
  below = λ r low. absurd (omega arith);
  above = λ r high. ap (λ (l : List Lease). lease_at l r) leases ∙ fresh-replicate n r;
}

-- a range without a slot, and one with a slot that is acknowledged
pub started_fresh : (table : Slots) (n : ℕ) (c : CourseView) → IsStartedBelow table n c → is_some (slot_at table n) ≡ false → IsStartedBelow table (n + 1) c
started_fresh table n c is none = record {
  history = is.history;
  fault = is.fault;
  count = is.count;
  below = λ r low. elim (cases_eq r n) [
    | inl here ↦ is.above r (omega arith) ∙ sym (ap (λ x. if x then Acked else Fresh) (ap (λ (k : ℕ). is_some (slot_at table k)) here ∙ none))
    | inr ne ↦ is.below r (omega arith)
  ];
  above = λ r high. is.above r (omega arith);
}

pub started_acked : (table : Slots) (n : ℕ) (c new : CourseView) → IsStartedBelow table n c → n < length table → is_some (slot_at table n) ≡ true
    → new ≡ record c { leases = set c.leases n Acked } → IsStartedBelow table (n + 1) new
started_acked table n c new is inside some after = record {
  history = ap (λ (k : CourseView). k.history) after ∙ is.history;
  fault = ap (λ (k : CourseView). k.fault) after ∙ is.fault;
  count = ap (λ (k : CourseView). length k.leases) after ∙ length-set c.leases n Acked ∙ is.count;
  below = λ r low. ap (λ (k : CourseView). lease_at k.leases r) after ∙ elim (cases_eq r n) [
    | inl here ↦ ap (lease_at (set c.leases n Acked)) here ∙ get_or-set_same c.leases n Acked Fresh (let count = is.count in omega arith)
        ∙ sym (ap (λ x. if x then Acked else Fresh) (ap (λ (k : ℕ). is_some (slot_at table k)) here ∙ some))
    | inr ne ↦ get_or-set_other c.leases n r Acked Fresh ne ∙ is.below r (omega arith)
  ];
  above = λ r high. ap (λ (k : CourseView). lease_at k.leases r) after ∙ get_or-set_other c.leases n r Acked Fresh (λ e. absurd (omega arith)) ∙ is.above r (omega arith);
}

pub started_all : (table : Slots) (n : ℕ) (c : CourseView) → n ≡ length table → IsStartedBelow table n c → c ≡ started table
started_all table n c count is =
    let leases : c.leases ≡ map lease_for table = ext_get_or Fresh c.leases (map lease_for table) (is.count ∙ sym (length-map table lease_for)) (λ r low.
    let inside : r < length table = let same = is.count in omega arith in
    is.below r (omega arith) ∙ sym (get_or-map lease_for table r None Fresh inside)) in
    λ i. record { leases = leases i; history = is.history i; fault = is.fault i }

-- ---- the total
-- what the slots of the ranges below n give together
pub record IsTotalBelow (j : Job) (table : Slots) (n : ℕ) (t : Running) : Type 0 where
  pub slots : Slots
  pub count : length slots ≡ length table
  pub below : (r : ℕ) → r < n → slot_at slots r ≡ slot_at table r
  pub above : (r : ℕ) → n ≤ r → slot_at slots r ≡ None
  pub total : IsTotalOf j slots t

none-replicate : (n r : ℕ) → slot_at (replicate n None) r ≡ None
none-replicate n r = elim (le_cases n r) [
  | inl past ↦ get_or_past (replicate n None) r None (let is : length (replicate {A = Option Verdict} n None) ≡ n = length-replicate n None in omega (arith, is))
  | inr low ↦ get_or-replicate n r None None low
]

pub total_none : (j : Job) (table : Slots) (t : Running) → length table ≡ ranges j → IsTotalOf j (nones j) t → IsTotalBelow j table 0 t
total_none j table t count is = record {
  slots = nones j;
  count = length-replicate (ranges j) None ∙ sym count;
  below = λ r low. absurd (omega arith);
  above = λ r high. none-replicate (ranges j) r;
  total = is;
}

-- a range without a slot, and one with a slot whose verdict is added
pub total_bare : (j : Job) (table : Slots) (n : ℕ) (t : Running) → IsTotalBelow j table n t → slot_at table n ≡ None → IsTotalBelow j table (n + 1) t
total_bare j table n t is none = record {
  slots = is.slots;
  count = is.count;
  below = λ r low. elim (cases_eq r n) [
    | inl here ↦ is.above r (omega arith) ∙ sym (ap (slot_at table) here ∙ none)
    | inr ne ↦ is.below r (omega arith)
  ];
  above = λ r high. is.above r (omega arith);
  total = is.total;
}

none_number : (n : ℕ) → None ≡ Some n → ⊥
none_number n e = cc

and_true : (b : Bool) → (b && true) ≡ b
and_true true = refl
and_true false = refl

none_some : (v : Verdict) → None ≡ Some v → ⊥
none_some v e = cc

-- the slots below n fit, where all do
below_fit : (j : Job) (table : Slots) (n : ℕ) (t : Running) → AllFit j table → (is : IsTotalBelow j table n t) → AllFit j is.slots
below_fit j table n t fit is = record {
  each = λ r v held. elim (le_cases n r) [
    | inl past ↦ absurd (none_some v (sym (is.above r past) ∙ held))
    | inr low ↦ fit.each r v (sym (is.below r low) ∙ held)
  ];
}

pub total_next : (j : Job) (table : Slots) (n : ℕ) (t : Running) (v : Verdict) → length table ≡ ranges j → AllFit j table → n < ranges j → slot_at table n ≡ Some v
    → (is : IsTotalBelow j table n t) → IsNext j is.slots n v
total_next j table n t v count fit low held is = record {
  count = is.count ∙ count;
  fit = below_fit j table n t fit is;
  below = low;
  empty = is.above n (omega arith);
  fits = fit.each n v held;
}

pub total_added : (j : Job) (table : Slots) (n : ℕ) (t new : Running) (v : Verdict) → n < length table → slot_at table n ≡ Some v
    → (is : IsTotalBelow j table n t) → IsTotalOf j (set is.slots n (Some v)) new → IsTotalBelow j table (n + 1) new
total_added j table n t new v inside held is total = record {
  slots = set is.slots n (Some v);
  count = length-set is.slots n (Some v) ∙ is.count;
  below = λ r low. elim (cases_eq r n) [
    | inl here ↦ ap (slot_at (set is.slots n (Some v))) here ∙ get_or-set_same is.slots n (Some v) None (let count = is.count in omega arith) ∙ sym (ap (slot_at table) here ∙ held)
    | inr ne ↦ get_or-set_other is.slots n r (Some v) None ne ∙ is.below r (omega arith)
  ];
  above = λ r high. get_or-set_other is.slots n r (Some v) None (λ e. absurd (omega arith)) ∙ is.above r (omega arith);
  total = total;
}

-- the total depends on the slots alone
pub same_total : (j : Job) (s u : Slots) (t : Running) → ((r : ℕ) → slot_at s r ≡ slot_at u r) → IsTotalOf j s t → IsTotalOf j u t
same_total j s u t same is =
    let slots : slot_at s ≡ slot_at u = λ i r. same r i in
    record { sums = is.sums ∙ ap (slot_sums j) slots; over = is.over ∙ ap (least_over j) slots }

pub total_all : (j : Job) (table : Slots) (n : ℕ) (t : Running) → n ≡ length table → IsTotalBelow j table n t → IsTotalOf j table t
total_all j table n t count is = same_total j is.slots table t (λ r. elim (le_cases n r) [
  | inl past ↦ is.above r past ∙ sym (get_or_past table r None (omega arith))
  | inr low ↦ is.below r low
]) is.total

-- ---- the board
-- the lease with which a range begins
started_lease : (table : Slots) (r : ℕ) → lease_at (map lease_for table) r ≡ lease_for (slot_at table r)
started_lease table r = get_or-map-at lease_for table r None

lease_for_acked : (slot : Option Verdict) → is_acked (lease_for slot) ≡ is_some slot
lease_for_acked None = refl
lease_for_acked (Some v) = refl

started_acked_are : (table : Slots) (r : ℕ) → is_acked (lease_at (started table).leases r) ≡ is_some (slot_at table r)
started_acked_are table r = ap is_acked (started_lease table r) ∙ lease_for_acked (slot_at table r)

-- a range with a slot was stored before the run began
started_begun : (table : Slots) (r : ℕ) → is_begun (started table) r ≡ is_some (slot_at table r)
started_begun table r = and_true (is_acked (lease_at (started table).leases r)) ∙ started_acked_are table r

slot_or_none : (slot : Option Verdict) → (if is_some slot then slot else None) ≡ slot
slot_or_none None = refl
slot_or_none (Some v) = refl

module _ {D T : Type 0} (face : D → Face) (k : JournalView D) (timer : MutBor T) (total : Running) (tally : Count) where
  abbrev at_start : BoardView D T
  at_start = record { job = k.job; journal = k; timer = timer; course = started k.table; total = total; tally = tally }

  pub begun_at_start : (r : ℕ) → begun at_start r ≡ slot_at k.table r
  begun_at_start r = ap (λ x. if x then slot_at k.table r else None) (started_begun k.table r) ∙ slot_or_none (slot_at k.table r)

  pub started_board : IsJournal face k → k.failed ≡ false → tally.totals ≡ nothing → IsTotalOf k.job k.table total → IsBoard face at_start
  started_board is whole counts sums = record {
    one_job = refl;
    ranges = length-map k.table lease_for ∙ is.count;
    acked = started_acked_are k.table;
    values = λ r v held not_begun. absurd (false≢true (sym not_begun ∙ started_begun k.table r ∙ ap is_some held));
    total = sums;
    tally = counts;
    halt = whole;
    faults = λ n e. absurd (none_number n e);
    reads = λ s0 with0 d here f told. record {
      slots = k.table;
      stands = is.reads whole d here f told;
      extends = record {
        kept = λ r v held. sym (with0.each r ∙ begun_at_start r) ∙ held;
        added = λ r v bare held. absurd (none_some v (sym bare ∙ with0.each r ∙ begun_at_start r ∙ held));
      };
    };
  }
