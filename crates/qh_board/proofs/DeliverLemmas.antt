-- What a board keeps when its journal is written.
use Rattle.std.proofs.Common.{◌≡◌, ◌≢◌, ◌<◌, ◌⊎◌, ℕ, Bool, true, false, ◌&&◌, List, length, set, Option, Some, None, refl, ap, sym, ◌∙◌, subst, inl, inr}
use Rattle.std.specs.Prelude.{is_some, if◌then◌else◌, IsSomeAnd}
use Rattle.std.specs.Option.{ForSome}
use Rattle.std.proofs.lemmas.Bool.{cases_eq, false≢true}
use Rattle.std.proofs.lemmas.List.{length-set, get_or-set_same, get_or-set_other}
use Rattle.qh_plan.specs.declared.verdict.Verdict.{Verdict}
use Rattle.qh_plan.specs.Jobs.{Job, ranges}
use Rattle.qh_plan.specs.Ranges.{Fits}
use Rattle.qh_plan.specs.Values.{range_value}
use Rattle.qh_disk.specs.Disk.{Face, Reads}
use Rattle.qh_slots.specs.Stands.{Slots, Stands, slot_at}
use Rattle.qh_slots.specs.Record.{Extends}
use Rattle.qh_slots.specs.Moments.{GoesOn}
use Rattle.qh_journal.specs.Calls.{JournalView, IsJournal, Went}
use Rattle.qh_lease.specs.declared.lease.Lease.{Lease}
use Rattle.qh_lease.specs.declared.lease.Lease.TheVariants.{Fresh, Out, Returned, Acked}
use Rattle.qh_lease.specs.Lease.{lease_at, is_acked}
use Rattle.qh_lease.specs.Tally.{Count}
use Rattle.qh_range.specs.Results.{RangeResult}
use Rattle.qh_core.specs.Noted.{counted, acked_in}
use Rattle.qh_core.specs.Replay.{CourseView, is_begun}
use Rattle.qh_slots.specs.Running.{Running, IsTotalOf, IsNext}
use Rattle.qh_board.specs.Board.{BoardView, IsBoard, BeganWith, IsAddable, begun}
use Rattle.qh_board.specs.Deliveries.{acknowledged, halted, one_ack}
use Rattle.qh_board.proofs.BoardLemmas.{counted-acked, counted-halted}

none_some : {A : Type 0} (x : A) → None ≡ Some x → ⊥
none_some x e = cc

some_same : {A : Type 0} (x y : A) → Some x ≡ Some y → x ≡ y
some_same x y e = cc

and_left : (a b : Bool) → (a && b) ≡ true → a ≡ true
and_left true b both = refl
and_left false b both = absurd (false≢true both)

begun_slot : (before : Bool) (slot : Option Verdict) (v : Verdict) → (if before then slot else None) ≡ Some v → slot ≡ Some v
begun_slot true slot v held = held
begun_slot false slot v held = absurd (none_some v held)

begun_bare : (before : Bool) (slot : Option Verdict) (v : Verdict) → (if before then slot else None) ≡ None → slot ≡ Some v → before ≡ false
begun_bare true slot v bare held = absurd (none_some v (sym bare ∙ held))
begun_bare false slot v bare held = refl

-- ---- slots that grow by true ones
pub extends_same : (j : Job) (s : Slots) → Extends j s s
extends_same j s = record { kept = λ r v held. held; added = λ r v bare held. absurd (none_some v (sym bare ∙ held)) }

slot_cases : (s : Slots) (r : ℕ) → ((v : Verdict) × (slot_at s r ≡ Some v)) ⊎ (slot_at s r ≡ None)
slot_cases s r = elim (slot_at s r) as (λ o. ((v : Verdict) × (o ≡ Some v)) ⊎ (o ≡ None)) [ None ↦ inr refl | Some v ↦ inl (v, refl) ]

pub extends_on : (j : Job) (s t u : Slots) → Extends j s t → Extends j t u → Extends j s u
extends_on j s t u first second = record {
  kept = λ r v held. second.kept r v (first.kept r v held);
  added = λ r v bare held. elim (slot_cases t r) [
    | inl (w, here) ↦ some_same v w (sym held ∙ second.kept r w here) ∙ first.added r w bare here
    | inr none ↦ second.added r v none held
  ];
}

-- a slot more, with its range's value
pub extends_set : (j : Job) (s : Slots) (range : ℕ) (v : Verdict) → range < length s → slot_at s range ≡ None → v ≡ range_value j range → Extends j s (set s range (Some v))
extends_set j s range v low bare value = record {
  kept = λ r w held. elim (cases_eq r range) [
    | inl here ↦ absurd (none_some w (sym bare ∙ ap (slot_at s) (sym here) ∙ held))
    | inr ne ↦ get_or-set_other s range r (Some v) None ne ∙ held
  ];
  added = λ r w none held. elim (cases_eq r range) [
    | inl here ↦ some_same w v (sym held ∙ ap (slot_at (set s range (Some v))) here ∙ get_or-set_same s range (Some v) None low) ∙ value ∙ ap (range_value j) (sym here)
    | inr ne ↦ absurd (none_some w (sym none ∙ sym (get_or-set_other s range r (Some v) None ne) ∙ held))
  ];
}

pub goes_on_from : (j : Job) (s t : Slots) (f : List ℕ) → Extends j s t → GoesOn j t f → GoesOn j s f
goes_on_from j s t f extends goes = record { slots = goes.slots; stands = goes.stands; extends = extends_on j s t goes.slots extends goes.extends }

-- ---- options
pub went_now : {D : Type 0} (A : D → Type 0) (old new : Option D) → Went (λ d e. A e) old new → ForSome new A
went_now A None new went e is = absurd (none_some e (sym went ∙ is))
went_now A (Some d) None went e is = absurd went
went_now A (Some d) (Some k) went e is = subst A (some_same k e is) went

-- ---- the board
module _ {D T : Type 0} (face : D → Face) (b : BoardView D T) (is : IsBoard face b) where
  -- a range that was stored before the run began has a slot
  begun_held : (r : ℕ) → is_begun b.course r ≡ true → slot_at b.journal.table r ≡ None → ⊥
  begun_held r before bare = false≢true (sym (ap is_some bare) ∙ sym (is.acked r) ∙ and_left _ _ before)

  begun_grown : (table : Slots) (r : ℕ) (before : Bool) → is_begun b.course r ≡ before → Extends b.job b.journal.table table
      → (if before then slot_at table r else None) ≡ (if before then slot_at b.journal.table r else None)
  begun_grown table r false same grown = refl
  begun_grown table r true same grown = elim (slot_cases b.journal.table r) [
    | inl (w, here) ↦ grown.kept r w here ∙ sym here
    | inr none ↦ absurd (begun_held r same none)
  ]

  -- the slots at the start are those at the start of the board that follows
  pub begun_served : (table : Slots) (course : CourseView) (r : ℕ) → is_begun course r ≡ is_begun b.course r → Extends b.job b.journal.table table
      → (if is_begun course r then slot_at table r else None) ≡ begun b r
  begun_served table course r same grown = ap (λ x. if x then slot_at table r else None) same ∙ begun_grown table r (is_begun b.course r) refl grown

  start_grown : (s0 : Slots) → BeganWith b s0 → Extends b.job s0 b.journal.table
  start_grown s0 with0 = record {
    kept = λ r v held. begun_slot (is_begun b.course r) (slot_at b.journal.table r) v (sym (with0.each r) ∙ held);
    added = λ r v bare held. is.values r v held (begun_bare (is_begun b.course r) (slot_at b.journal.table r) v (sym (with0.each r) ∙ bare) held);
  }

  -- after calls of the journal that only add true slots to its table and to what is read
  pub served_board : (journal : JournalView D) (course : CourseView) (total : Running) (tally : Count) → journal.job ≡ b.journal.job
      → length course.leases ≡ length b.course.leases → Extends b.job b.journal.table journal.table
      → ((r : ℕ) → is_acked (lease_at course.leases r) ≡ is_some (slot_at journal.table r)) → ((r : ℕ) → is_begun course r ≡ is_begun b.course r)
      → IsTotalOf b.job journal.table total → tally.totals ≡ counted course.history → journal.failed ≡ is_some course.fault
      → ((n : ℕ) → course.fault ≡ Some n → ForSome journal.disk (λ d. n ≡ (face d).faults)) → ForSome journal.disk (λ d. Reads (face d) (GoesOn b.job b.journal.table))
      → IsBoard face (record b { journal = journal; course = course; total = total; tally = tally })
  served_board journal course total tally job size grown acked same sums counts halt faults reads = record {
    one_job = job ∙ is.one_job;
    ranges = size ∙ is.ranges;
    acked = acked;
    values = λ r v held not_begun. elim (slot_cases b.journal.table r) [
      | inl (w, here) ↦ some_same v w (sym held ∙ grown.kept r w here) ∙ is.values r w here (sym (same r) ∙ not_begun)
      | inr none ↦ grown.added r v none held
    ];
    total = sums;
    tally = counts;
    halt = halt;
    faults = faults;
    reads = λ s0 with0 d here f told. goes_on_from b.job s0 b.journal.table f
        (start_grown s0 (record { each = λ r. with0.each r ∙ begun_served journal.table course r (same r) grown })) (reads d here f told);
  }

-- ---- one result
-- a range has no slot, and this is its value
pub record IsDue {D T : Type 0} (b : BoardView D T) (range : ℕ) (v : Verdict) : Type 0 where
  pub low : range < length b.journal.table
  pub bare : slot_at b.journal.table range ≡ None
  pub value : v ≡ range_value b.job range

open_lease : (lease : Lease) → lease ≢ Acked → is_acked lease ≡ false
open_lease Fresh ne = refl
open_lease (Out attempt) ne = refl
open_lease (Returned attempt) ne = refl
open_lease Acked ne = absurd (ne refl)

no_slot : (slot : Option Verdict) → is_some slot ≡ false → slot ≡ None
no_slot None none = refl
no_slot (Some v) none = absurd (false≢true (sym none))

pub due_from : {D T : Type 0} (face : D → Face) (b : BoardView D T) → IsBoard face b → IsJournal face b.journal → (r : RangeResult) (range : ℕ) (v : Verdict) → r.job ≡ b.job → range ≡ r.range
    → v ≡ range_value r.job r.range → range < ranges r.job → lease_at b.course.leases r.range ≢ Acked → IsDue b range v
due_from face b is journal r range v same at value low waiting = record {
  low = subst (λ (n : ℕ). range < n) (ap (λ (j : Job). ranges j) (same ∙ sym is.one_job) ∙ sym journal.count) low;
  bare = no_slot (slot_at b.journal.table range) (sym (is.acked range) ∙ open_lease (lease_at b.course.leases range) (λ e. waiting (ap (lease_at b.course.leases) (sym at) ∙ e)));
  value = value ∙ ap (λ (j : Job). range_value j r.range) same ∙ ap (range_value b.job) (sym at);
}

-- the slots of the table, or those with the verdict, are true ones more
pub reads_on : {D : Type 0} (face : D → Face) (i j : Job) (table : Slots) (range : ℕ) (v : Verdict) (old new : Option D) → i ≡ j → range < length table → slot_at table range ≡ None → v ≡ range_value j range
    → Went (λ d e. Reads (face e) (λ f. Stands i table f ⊎ Stands i (set table range (Some v)) f)) old new → ForSome new (λ e. Reads (face e) (GoesOn j table))
reads_on {D} face i j table range v old new same low bare value went e here f told =
    let A : D → Type 0 = λ e. Reads (face e) (λ f. Stands i table f ⊎ Stands i (set table range (Some v)) f) in
    elim (went_now A old new went e here f told) [
      | inl before ↦ record { slots = table; stands = subst (λ (k : Job). Stands k table f) same before; extends = extends_same j table }
      | inr after ↦ record { slots = set table range (Some v); stands = subst (λ (k : Job). Stands k (set table range (Some v)) f) same after; extends = extends_set j table range v low bare value }
    ]

module _ {D T : Type 0} (face : D → Face) (b : BoardView D T) (is : IsBoard face b) (count : length b.journal.table ≡ ranges b.journal.job) (range : ℕ) (v : Verdict) (due : IsDue b range v) where
  in_leases : range < length b.course.leases
  in_leases = subst (λ (n : ℕ). range < n) (count ∙ ap (λ (j : Job). ranges j) is.one_job ∙ sym is.ranges) due.low

  -- the lease of the range is acknowledged, and its slot is open
  acked_stored : (attempt r : ℕ) → is_acked (lease_at (acknowledged b.course range attempt).leases r) ≡ is_some (slot_at (set b.journal.table range (Some v)) r)
  acked_stored attempt r = elim (cases_eq r range) [
    | inl here ↦ ap (λ (n : ℕ). is_acked (lease_at (set b.course.leases range Acked) n)) here ∙ ap is_acked (get_or-set_same b.course.leases range Acked Fresh in_leases)
        ∙ sym (ap (λ (n : ℕ). is_some (slot_at (set b.journal.table range (Some v)) n)) here ∙ ap is_some (get_or-set_same b.journal.table range (Some v) None due.low))
    | inr ne ↦ ap is_acked (get_or-set_other b.course.leases range r Acked Fresh ne) ∙ is.acked r ∙ sym (ap is_some (get_or-set_other b.journal.table range r (Some v) None ne))
  ]

  pub stored_board : (journal : JournalView D) (course : CourseView) (total : Running) (tally : Count) (attempt : ℕ) → b.course.fault ≡ None
      → journal ≡ record { disk = journal.disk; job = b.journal.job; table = set b.journal.table range (Some v); failed = false }
      → course ≡ acknowledged b.course range attempt → ((r : ℕ) → is_begun course r ≡ is_begun b.course r)
      → IsTotalOf b.job (set b.journal.table range (Some v)) total → tally.totals ≡ one_ack b.tally.totals
      → Went (λ d e. Reads (face e) (λ f. Stands b.journal.job b.journal.table f ⊎ Stands b.journal.job (set b.journal.table range (Some v)) f)) b.journal.disk journal.disk
      → IsBoard face (record b { journal = journal; course = course; total = total; tally = tally })
  stored_board journal course total tally attempt running after noted same sums counts went =
      let table : journal.table ≡ set b.journal.table range (Some v) = ap (λ (k : JournalView D). k.table) after in
      let fault : course.fault ≡ None = ap (λ (c : CourseView). c.fault) noted ∙ running in
      served_board face b is journal course total tally (ap (λ (k : JournalView D). k.job) after)
      (ap (λ (c : CourseView). length c.leases) noted ∙ length-set b.course.leases range Acked)
      (subst (λ (s : Slots). Extends b.job b.journal.table s) (sym table) (extends_set b.job b.journal.table range v due.low due.bare due.value))
      (λ r. ap (λ (c : CourseView). is_acked (lease_at c.leases r)) noted ∙ acked_stored attempt r ∙ ap (λ (s : Slots). is_some (slot_at s r)) (sym table))
      same
      (subst (λ (s : Slots). IsTotalOf b.job s total) (sym table) sums)
      (counts ∙ ap one_ack is.tally ∙ sym (ap (λ (c : CourseView). counted c.history) noted ∙ counted-acked b.course.history range attempt))
      (ap (λ (k : JournalView D). k.failed) after ∙ sym (ap is_some fault))
      (λ n e. absurd (none_some n (sym fault ∙ e)))
      (reads_on face b.journal.job b.job b.journal.table range v b.journal.disk journal.disk is.one_job due.low due.bare due.value went)

-- a store failed
module _ {D T : Type 0} (face : D → Face) (b : BoardView D T) (is : IsBoard face b) where
  pub halted_board : (journal : JournalView D) (course : CourseView) (n : ℕ)
      → journal ≡ record { disk = journal.disk; job = b.journal.job; table = b.journal.table; failed = true }
      → course ≡ halted b.course n → ((r : ℕ) → is_begun course r ≡ is_begun b.course r)
      → ForSome journal.disk (λ e. n ≡ (face e).faults) → ForSome journal.disk (λ e. Reads (face e) (GoesOn b.job b.journal.table))
      → IsBoard face (record b { journal = journal; course = course })
  halted_board journal course n after noted same count reads =
      let table : journal.table ≡ b.journal.table = ap (λ (k : JournalView D). k.table) after in
      let fault : course.fault ≡ Some n = ap (λ (c : CourseView). c.fault) noted in
      served_board face b is journal course b.total b.tally (ap (λ (k : JournalView D). k.job) after)
      (ap (λ (c : CourseView). length c.leases) noted)
      (subst (λ (s : Slots). Extends b.job b.journal.table s) (sym table) (extends_same b.job b.journal.table))
      (λ r. ap (λ (c : CourseView). is_acked (lease_at c.leases r)) noted ∙ is.acked r ∙ ap (λ (s : Slots). is_some (slot_at s r)) (sym table))
      same
      (subst (λ (s : Slots). IsTotalOf b.job s b.total) (sym table) is.total)
      (is.tally ∙ sym (ap (λ (c : CourseView). counted c.history) noted ∙ counted-halted b.course.history n))
      (ap (λ (k : JournalView D). k.failed) after ∙ sym (ap is_some fault))
      (λ m e d here. some_same m n (sym e ∙ fault) ∙ count d here)
      reads

-- ---- the total
pub next_from : {D T : Type 0} (face : D → Face) (b : BoardView D T) → IsBoard face b → IsJournal face b.journal → (range : ℕ) (v : Verdict) → IsDue b range v → Fits b.journal.job range v
    → (j : Job) → j ≡ b.job → IsNext j b.journal.table range v
next_from face b is journal range v due fits j same =
    let next : IsNext b.journal.job b.journal.table range v = record {
      count = journal.count;
      fit = journal.fits;
      below = subst (λ (n : ℕ). range < n) journal.count due.low;
      empty = due.bare;
      fits = fits;
    } in
    subst (λ (k : Job). IsNext k b.journal.table range v) (is.one_job ∙ sym same) next

pub held_in : {D : Type 0} (k old : JournalView D) (range : ℕ) (v : Verdict) → range < length old.table → k.table ≡ set old.table range (Some v) → slot_at k.table range ≡ Some v
held_in k old range v low after = ap (λ (s : Slots). slot_at s range) after ∙ get_or-set_same old.table range (Some v) None low

pub addable_from : {D T : Type 0} (face : D → Face) (b : BoardView D T) → IsBoard face b → IsJournal face b.journal → (range : ℕ) (v : Verdict) → IsDue b range v → Fits b.journal.job range v
    → (j : Job) → j ≡ b.job → (k : JournalView D) → k.table ≡ set b.journal.table range (Some v) → IsAddable j k.table range b.total
addable_from face b is journal range v due fits j same k after = record {
  verdict = v;
  held = held_in k b.journal range v due.low after;
  can = record {
    slots = b.journal.table;
    total = subst (λ (i : Job). IsTotalOf i b.journal.table b.total) (sym same) is.total;
    next = next_from face b is journal range v due fits j same;
  };
}
