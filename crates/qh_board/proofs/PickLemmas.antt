-- The results of a group that are recorded, and what a board is after them.
use Rattle.std.proofs.Common.{◌≡◌, ◌≢◌, ◌<◌, ◌≤◌, ◌+◌, ◌⊎◌, ℕ, zero, suc, Bool, true, false, List, [], ◌∷◌, ◌++◌, length, map, take, drop, set, get_or, Option, Some, None, refl, ap, sym, ◌∙◌, subst, inl, inr, arith}
use Rattle.std.specs.Prelude.{is_some, ◌||◌, if◌then◌else◌, nat_eq, All}
use Rattle.std.specs.List.{list_any}
use Rattle.std.proofs.lemmas.List.Elements.{All-head, All-tail}
use Rattle.std.proofs.Math.Seq.{drop-cons}
use Rattle.std.proofs.lemmas.Bool.{cases_eq, false≢true, eqb-false, eqb-true}
use Rattle.std.proofs.lemmas.List.{append_assoc, append-nil, map-append, length-append, length-set, length-map, get_or-set_same, get_or-set_other}
use Rattle.qh_plan.specs.declared.verdict.Verdict.{Verdict}
use Rattle.qh_plan.specs.Jobs.{Job, IsJob, ranges}
use Rattle.qh_plan.specs.Ranges.{Fits}
use Rattle.qh_plan.specs.Values.{range_value}
use Rattle.std.specs.Option.{ForSome}
use Rattle.qh_disk.specs.Disk.{Face, Reads}
use Rattle.qh_journal.specs.Calls.{JournalView, IsJournal, Went}
use Rattle.qh_slots.specs.Stands.{Slots, Stands, slot_at, AllFit}
use Rattle.qh_slots.specs.Record.{Extends}
use Rattle.qh_slots.specs.Moments.{GoesOn}
use Rattle.qh_parts.specs.declared.member.Member.{Member}
use Rattle.qh_parts.specs.Groups.{IsGroup, AreShut, AreValues, StandsPartly, filled, range_of, member_of, unused}
use Rattle.qh_lease.specs.declared.lease.Lease.{Lease}
use Rattle.qh_lease.specs.declared.lease.Lease.TheVariants.{Fresh, Out, Returned, Acked}
use Rattle.qh_lease.specs.declared.totals.Totals.{Totals}
use Rattle.qh_lease.specs.Lease.{lease_at, is_acked}
use Rattle.qh_lease.specs.Tally.{Count}
use Rattle.qh_range.specs.Results.{RangeResult, IsResult}
use Rattle.qh_core.specs.Noted.{counted}
use Rattle.qh_core.specs.Replay.{CourseView, is_begun}
use Rattle.qh_slots.specs.Running.{Running, IsTotalOf, IsNext}
use Rattle.qh_board.specs.declared.picking.Entry.{Entry}
use Rattle.qh_board.specs.Board.{BoardView, IsBoard, IsAddable, begun}
use Rattle.qh_board.specs.Deliveries.{acknowledged, one_ack}
use Rattle.qh_board.specs.Groups.{kept, recorded, all_acknowledged, more_acks}
use Rattle.qh_board.specs.Picking.{member_for, entry_for, IsTurn, TakeTurns, all_noted, IsWaiting, AreWaiting, IsAdded, LeadTo, IsBehind}
use Rattle.qh_board.proofs.BoardLemmas.{counted-acked}
use Rattle.qh_board.proofs.DeliverLemmas.{extends_same, extends_on, extends_set, went_now, begun_served, served_board}

-- ---- leases and slots in step
-- the acknowledged ranges are those with a slot
pub record AreInStep (leases : List Lease) (s : Slots) : Type 0 where
  pub same : length leases ≡ length s
  pub acked : (r : ℕ) → is_acked (lease_at leases r) ≡ is_some (slot_at s r)

-- and so they stay when a range gets both
pub in_step : (leases : List Lease) (s : Slots) (range : ℕ) (v : Verdict) → AreInStep leases s → range < length s → AreInStep (set leases range Acked) (set s range (Some v))
in_step leases s range v is low = record {
  same = length-set leases range Acked ∙ is.same ∙ sym (length-set s range (Some v));
  acked = λ r. elim (cases_eq r range) [
    | inl here ↦ ap (λ (n : ℕ). is_acked (lease_at (set leases range Acked) n)) here
        ∙ ap is_acked (get_or-set_same leases range Acked Fresh (subst (λ (n : ℕ). range < n) (sym is.same) low))
        ∙ sym (ap (λ (n : ℕ). is_some (slot_at (set s range (Some v)) n)) here ∙ ap is_some (get_or-set_same s range (Some v) None low))
    | inr ne ↦ ap is_acked (get_or-set_other leases range r Acked Fresh ne) ∙ is.acked r ∙ sym (ap is_some (get_or-set_other s range r (Some v) None ne))
  ];
}

none_some : {A : Type 0} (x : A) → None ≡ Some x → ⊥
none_some x e = cc

add-none : (n : ℕ) → n ≡ n + 0
add-none n = omega arith

add-one-more : (n m : ℕ) → n + 1 + m ≡ n + suc m
add-one-more n m = omega arith

below_suc : (k n : ℕ) → suc k < suc n → k < n
below_suc k n low = omega arith

-- a range that waits once another is acknowledged is another range, and waited before
other_range : (leases : List Lease) (range q : ℕ) → range < length leases → is_acked (lease_at (set leases range Acked) q) ≡ false → q ≢ range
other_range leases range q low waiting e = false≢true (sym waiting ∙ ap (λ (n : ℕ). is_acked (lease_at (set leases range Acked) n)) e ∙ ap is_acked (get_or-set_same leases range Acked Fresh low))

still_waiting : (leases : List Lease) (range q : ℕ) → range < length leases → is_acked (lease_at (set leases range Acked) q) ≡ false → is_acked (lease_at leases q) ≡ false
still_waiting leases range q low waiting = sym (ap is_acked (get_or-set_other leases range q Acked Fresh (other_range leases range q low waiting))) ∙ waiting

bare_slot : (slot : Option Verdict) → is_some slot ≡ false → slot ≡ None
bare_slot None none = refl
bare_slot (Some v) none = absurd (false≢true (sym none))

pub waiting_bare : (leases : List Lease) (s : Slots) (range : ℕ) → AreInStep leases s → is_acked (lease_at leases range) ≡ false → slot_at s range ≡ None
waiting_bare leases s range is waiting = bare_slot (slot_at s range) (sym (is.acked range) ∙ waiting)

-- ---- what was recorded
pub recorded-filled : (s : Slots) (results : List RangeResult) → recorded s results ≡ filled s (map member_for results)
recorded-filled s [] = refl
recorded-filled s (r ∷ results) = recorded-filled (set s r.range (Some r.verdict)) results

pub all_noted-map : (c : CourseView) (results : List RangeResult) → all_noted c (map entry_for results) ≡ all_acknowledged c results
all_noted-map c [] = refl
all_noted-map c (r ∷ results) = all_noted-map (acknowledged c r.range r.attempt) results

pub fault-all : (c : CourseView) (results : List RangeResult) → (all_acknowledged c results).fault ≡ c.fault
fault-all c [] = refl
fault-all c (r ∷ results) = fault-all (acknowledged c r.range r.attempt) results

pub counted-all : (c : CourseView) (results : List RangeResult) → counted (all_acknowledged c results).history ≡ more_acks (counted c.history) (length results)
counted-all c [] = λ i. record { grants = (counted c.history).grants; backs = (counted c.history).backs; acks = (add-none (counted c.history).acks) i }
counted-all c (r ∷ results) = counted-all (acknowledged c r.range r.attempt) results
    ∙ ap (λ t. more_acks t (length results)) (counted-acked c.history r.range r.attempt)
    ∙ (λ i. record { grants = (counted c.history).grants; backs = (counted c.history).backs; acks = (add-one-more (counted c.history).acks (length results)) i })

short_map : (results : List RangeResult) (k : ℕ) → k < length (map member_for results) → k < length results
short_map results k low = subst (λ (n : ℕ). k < n) (length-map results member_for) low

take-map : {A B : Type 0} (f : A → B) (xs : List A) (n : ℕ) → take n (map f xs) ≡ map f (take n xs)
take-map f xs zero = refl
take-map f [] (suc n) = refl
take-map f (x ∷ xs) (suc n) = ap (λ l. f x ∷ l) (take-map f xs n)

-- ---- results in turn
module _ (j : Job) where
  pub turns_waiting : (leases : List Lease) (results : List RangeResult) → length leases ≡ ranges j → TakeTurns j leases results → AreWaiting leases (map entry_for results)
  turns_waiting leases [] count turns = tt
  turns_waiting leases (r ∷ results) count turns = (
    record {
      known = subst (λ (n : ℕ). r.range < n) (sym count) turns.0.below;
      few = turns.0.few;
      waiting = λ e. absurd (false≢true (sym turns.0.waiting ∙ ap is_acked e));
    },
    turns_waiting (set leases r.range Acked) results (length-set leases r.range Acked ∙ count) turns.1,
  )

  -- a range that is acknowledged keeps its slot
  pub held_after : (leases : List Lease) (s : Slots) (results : List RangeResult) → AreInStep leases s → length s ≡ ranges j → TakeTurns j leases results
      → (q : ℕ) (v : Verdict) → slot_at s q ≡ Some v → slot_at (recorded s results) q ≡ Some v
  held_after leases s [] is count turns q v held = held
  held_after leases s (r ∷ results) is count turns q v held =
      let low : r.range < length s = subst (λ (n : ℕ). r.range < n) (sym count) turns.0.below in
      let bare : slot_at s r.range ≡ None = waiting_bare leases s r.range is turns.0.waiting in
      let other : q ≢ r.range = λ e. absurd (none_some v (sym bare ∙ ap (slot_at s) (sym e) ∙ held)) in
      held_after (set leases r.range Acked) (set s r.range (Some r.verdict)) results (in_step leases s r.range r.verdict is low)
      (length-set s r.range (Some r.verdict) ∙ count) turns.1 q v (get_or-set_other s r.range q (Some r.verdict) None other ∙ held)

  pub grown_after : (leases : List Lease) (s : Slots) (results : List RangeResult) → AreInStep leases s → length s ≡ ranges j → TakeTurns j leases results → Extends j s (recorded s results)
  grown_after leases s [] is count turns = extends_same j s
  grown_after leases s (r ∷ results) is count turns =
      let low : r.range < length s = subst (λ (n : ℕ). r.range < n) (sym count) turns.0.below in
      extends_on j s (set s r.range (Some r.verdict)) (recorded (set s r.range (Some r.verdict)) results)
      (extends_set j s r.range r.verdict low (waiting_bare leases s r.range is turns.0.waiting) turns.0.value)
      (grown_after (set leases r.range Acked) (set s r.range (Some r.verdict)) results (in_step leases s r.range r.verdict is low) (length-set s r.range (Some r.verdict) ∙ count) turns.1)

  pub step_after : (c : CourseView) (s : Slots) (results : List RangeResult) → AreInStep c.leases s → length s ≡ ranges j → TakeTurns j c.leases results
      → AreInStep (all_acknowledged c results).leases (recorded s results)
  step_after c s [] is count turns = is
  step_after c s (r ∷ results) is count turns =
      let low : r.range < length s = subst (λ (n : ℕ). r.range < n) (sym count) turns.0.below in
      step_after (acknowledged c r.range r.attempt) (set s r.range (Some r.verdict)) results (in_step c.leases s r.range r.verdict is low) (length-set s r.range (Some r.verdict) ∙ count) turns.1

  pub length-all : (c : CourseView) (results : List RangeResult) → length (all_acknowledged c results).leases ≡ length c.leases
  length-all c [] = refl
  length-all c (r ∷ results) = length-all (acknowledged c r.range r.attempt) results ∙ length-set c.leases r.range Acked

  -- the first of them
  pub turns_take : (leases : List Lease) (results : List RangeResult) (n : ℕ) → TakeTurns j leases results → TakeTurns j leases (take n results)
  turns_take leases results zero turns = tt
  turns_take leases [] (suc n) turns = tt
  turns_take leases (r ∷ results) (suc n) turns = (turns.0, turns_take (set leases r.range Acked) results n turns.1)

  -- ---- the total behind the table
  all_fit-set : (s : Slots) (range : ℕ) (v : Verdict) → range < length s → AllFit j s → Fits j range v → AllFit j (set s range (Some v))
  all_fit-set s range v low fit fits = record {
    each = λ q w held. elim (cases_eq q range) [
      | inl here ↦
          let now : Some v ≡ Some w = sym (get_or-set_same s range (Some v) None low) ∙ ap (slot_at (set s range (Some v))) (sym here) ∙ held in
          subst (λ (n : ℕ). Fits j n w) (sym here) (subst (Fits j range) (let e : v ≡ w = cc in e) fits)
      | inr ne ↦ fit.each q w (sym (get_or-set_other s range q (Some v) None ne) ∙ held)
    ];
  }

  pub turns_lead : ((r : ℕ) → Fits j r (range_value j r)) → (leases : List Lease) (s : Slots) (results : List RangeResult) → AreInStep leases s → length s ≡ ranges j → AllFit j s → TakeTurns j leases results
      → LeadTo j s (map entry_for results) (recorded s results)
  turns_lead law leases s [] is count fit turns = refl
  turns_lead law leases s (r ∷ results) is count fit turns =
      let low : r.range < length s = subst (λ (n : ℕ). r.range < n) (sym count) turns.0.below in
      let fits : Fits j r.range r.verdict = subst (Fits j r.range) (sym turns.0.value) (law r.range) in
      let next : AreInStep (set leases r.range Acked) (set s r.range (Some r.verdict)) = in_step leases s r.range r.verdict is low in
      let size : length (set s r.range (Some r.verdict)) ≡ ranges j = length-set s r.range (Some r.verdict) ∙ count in (
        record {
          verdict = r.verdict;
          next = record { count = count; fit = fit; below = turns.0.below; empty = waiting_bare leases s r.range is turns.0.waiting; fits = fits };
          held = held_after (set leases r.range Acked) (set s r.range (Some r.verdict)) results next size turns.1 r.range r.verdict (get_or-set_same s r.range (Some r.verdict) None low);
        },
        turns_lead law (set leases r.range Acked) (set s r.range (Some r.verdict)) results next size (all_fit-set s r.range r.verdict low fit fits) turns.1,
      )

  -- ---- the members
  -- each waits from the first on
  turn_at : (leases : List Lease) (results : List RangeResult) (k : ℕ) → length leases ≡ ranges j → TakeTurns j leases results → k < length results
      → (r : RangeResult) × (get_or (map member_for results) k unused ≡ member_for r) × IsTurn j leases r
  turn_at leases [] k count turns low = absurd (omega arith)
  turn_at leases (r ∷ results) zero count turns low = (r, refl, turns.0)
  turn_at leases (r ∷ results) (suc k) count turns low =
      let at = turn_at (set leases r.range Acked) results k (length-set leases r.range Acked ∙ count) turns.1 (below_suc k (length results) low) in
      (at.0, at.1, record { below = at.2.below; few = at.2.few; value = at.2.value; waiting = still_waiting leases r.range at.0.range (subst (λ (n : ℕ). r.range < n) (sym count) turns.0.below) at.2.waiting })

  later_other : (leases : List Lease) (r : RangeResult) (results : List RangeResult) → length leases ≡ ranges j → TakeTurns j leases (r ∷ results)
      → (k : ℕ) → k < length (map member_for results) → range_of (map member_for results) k ≢ r.range
  later_other leases r results count turns k low e =
      let at = turn_at (set leases r.range Acked) results k (length-set leases r.range Acked ∙ count) turns.1 (short_map results k low) in
      other_range leases r.range at.0.range (subst (λ (n : ℕ). r.range < n) (sym count) turns.0.below) at.2.waiting (sym (ap (λ (m : Member). m.range) at.1) ∙ e)

  -- of two the later is of another range
  turns_apart : (leases : List Lease) (results : List RangeResult) → length leases ≡ ranges j → TakeTurns j leases results
      → (i k : ℕ) → i < length (map member_for results) → k < length (map member_for results) → i ≢ k → range_of (map member_for results) i ≢ range_of (map member_for results) k
  turns_apart leases [] count turns i k low_i low_k ne = absurd (omega arith)
  turns_apart leases (r ∷ results) count turns zero zero low_i low_k ne = absurd (ne refl)
  turns_apart leases (r ∷ results) count turns zero (suc k) low_i low_k ne = λ same. later_other leases r results count turns k (below_suc k _ low_k) (sym same)
  turns_apart leases (r ∷ results) count turns (suc i) zero low_i low_k ne = later_other leases r results count turns i (below_suc i _ low_i)
  turns_apart leases (r ∷ results) count turns (suc i) (suc k) low_i low_k ne =
      turns_apart (set leases r.range Acked) results (length-set leases r.range Acked ∙ count) turns.1 i k (below_suc i _ low_i) (below_suc k _ low_k) (λ e. ne (ap (λ n. suc n) e))

  pub turns_group : (leases : List Lease) (results : List RangeResult) → length leases ≡ ranges j → ((r : ℕ) → Fits j r (range_value j r)) → TakeTurns j leases results → IsGroup j (map member_for results)
  turns_group leases results count law turns = record {
    inside = λ k low.
        let at = turn_at leases results k count turns (short_map results k low) in
        subst (λ (m : Member). m.range < ranges j) (sym at.1) at.2.below;
    fits = λ k low.
        let at = turn_at leases results k count turns (short_map results k low) in
        subst (λ (m : Member). Fits j m.range m.verdict) (sym at.1) (subst (Fits j at.0.range) (sym at.2.value) (law at.0.range));
    apart = turns_apart leases results count turns;
  }

  pub turns_shut : (leases : List Lease) (s : Slots) (results : List RangeResult) → AreInStep leases s → length leases ≡ ranges j → TakeTurns j leases results → AreShut s (map member_for results)
  turns_shut leases s results is count turns = record {
    each = λ k low.
        let at = turn_at leases results k count turns (short_map results k low) in
        ap (λ (m : Member). slot_at s m.range) at.1 ∙ waiting_bare leases s at.0.range is at.2.waiting;
  }

  pub turns_values : (leases : List Lease) (results : List RangeResult) → length leases ≡ ranges j → TakeTurns j leases results → AreValues j (map member_for results)
  turns_values leases results count turns = record {
    each = λ k low.
        let at = turn_at leases results k count turns (short_map results k low) in
        ap (λ (m : Member). m.verdict) at.1 ∙ at.2.value ∙ ap (λ (m : Member). range_value j m.range) (sym at.1);
  }

  -- what stands with some of the first members goes on from the table
  pub partly_goes_on : (leases : List Lease) (s : Slots) (results : List RangeResult) (f : List ℕ) → AreInStep leases s → length s ≡ ranges j → TakeTurns j leases results
      → StandsPartly j s (map member_for results) f → GoesOn j s f
  partly_goes_on leases s results f is count turns partly =
      let same : filled s (take partly.stored (map member_for results)) ≡ recorded s (take partly.stored results) =
      ap (filled s) (take-map member_for results partly.stored) ∙ sym (recorded-filled s (take partly.stored results)) in
      record {
        slots = recorded s (take partly.stored results);
        stands = subst (λ (t : Slots). Stands j t f) same partly.stands;
        extends = grown_after leases s (take partly.stored results) is count (turns_take leases results partly.stored turns);
      }

-- ---- picking
-- the leases once these results are recorded
abbrev pub leases_after : List Lease → List RangeResult → List Lease
leases_after leases [] = leases
leases_after leases (r ∷ results) = leases_after (set leases r.range Acked) results

leases_after-push : (leases : List Lease) (done : List RangeResult) (r : RangeResult) → leases_after leases (done ++ r ∷ []) ≡ set (leases_after leases done) r.range Acked
leases_after-push leases [] r = refl
leases_after-push leases (q ∷ done) r = leases_after-push (set leases q.range Acked) done r

length-leases_after : (leases : List Lease) (done : List RangeResult) → length (leases_after leases done) ≡ length leases
length-leases_after leases [] = refl
length-leases_after leases (q ∷ done) = length-leases_after (set leases q.range Acked) done ∙ length-set leases q.range Acked

turns-push : (j : Job) (leases : List Lease) (done : List RangeResult) (r : RangeResult) → TakeTurns j leases done → IsTurn j (leases_after leases done) r → TakeTurns j leases (done ++ r ∷ [])
turns-push j leases [] r turns turn = (turn, tt)
turns-push j leases (q ∷ done) r turns turn = (turns.0, turns-push j (set leases q.range Acked) done r turns.1 turn)

or_left : (a b : Bool) → (a || b) ≡ false → a ≡ false
or_left true b none = none
or_left false b none = refl

or_right : (a b : Bool) → (a || b) ≡ false → b ≡ false
or_right true b none = absurd (false≢true (sym none))
or_right false b none = none

or_other : (a b : Bool) → (a ≡ true → ⊥) → (a || b) ≡ true → b ≡ true
or_other true b not_a some = absurd (not_a refl)
or_other false b not_a some = some

either : (a b : Bool) → ¬ ((a ≡ false) × (b ≡ false)) → (a ≡ true) ⊎ (b ≡ true)
either true b refused = inl refl
either false true refused = inr refl
either false false refused = absurd (refused (refl, refl))

-- a range is acknowledged then where it was before, or is that of one of them
unacked_after : (j : Job) (leases : List Lease) (done : List RangeResult) → TakeTurns j leases done → (q : ℕ) → is_acked (lease_at leases q) ≡ false → list_any (λ e. nat_eq e.range q) (map entry_for done) ≡ false
    → is_acked (lease_at (leases_after leases done) q) ≡ false
unacked_after j leases [] turns q before none = before
unacked_after j leases (r ∷ done) turns q before none =
    let other : q ≢ r.range = λ e. eqb-false r.range q (or_left (nat_eq r.range q) _ none) (sym e) in
    unacked_after j (set leases r.range Acked) done turns.1 q (ap is_acked (get_or-set_other leases r.range q Acked Fresh other) ∙ before) (or_right (nat_eq r.range q) _ none)

acked_after : (j : Job) (leases : List Lease) (done : List RangeResult) → length leases ≡ ranges j → TakeTurns j leases done → (q : ℕ) → is_acked (lease_at leases q) ≡ true → is_acked (lease_at (leases_after leases done) q) ≡ true
acked_after j leases [] count turns q before = before
acked_after j leases (r ∷ done) count turns q before =
    acked_after j (set leases r.range Acked) done (length-set leases r.range Acked ∙ count) turns.1 q (elim (cases_eq q r.range) [
      | inl here ↦ ap (λ (n : ℕ). is_acked (lease_at (set leases r.range Acked) n)) here
          ∙ ap is_acked (get_or-set_same leases r.range Acked Fresh (subst (λ (n : ℕ). r.range < n) (sym count) turns.0.below))
      | inr ne ↦ ap is_acked (get_or-set_other leases r.range q Acked Fresh ne) ∙ before
    ])

among_after : (j : Job) (leases : List Lease) (done : List RangeResult) → length leases ≡ ranges j → TakeTurns j leases done → (q : ℕ) → list_any (λ e. nat_eq e.range q) (map entry_for done) ≡ true
    → is_acked (lease_at (leases_after leases done) q) ≡ true
among_after j leases [] count turns q some = absurd (false≢true some)
among_after j leases (r ∷ done) count turns q some = elim (cases_eq q r.range) [
  | inl here ↦ acked_after j (set leases r.range Acked) done (length-set leases r.range Acked ∙ count) turns.1 q
      (ap (λ (n : ℕ). is_acked (lease_at (set leases r.range Acked) n)) here ∙ ap is_acked (get_or-set_same leases r.range Acked Fresh (subst (λ (n : ℕ). r.range < n) (sym count) turns.0.below)))
  | inr ne ↦ among_after j (set leases r.range Acked) done (length-set leases r.range Acked ∙ count) turns.1 q (or_other (nat_eq r.range q) _ (λ e. ne (sym (eqb-true r.range q e))) some)
]

-- the results picked so far, and the rest of the group
pub record IsPicking (j : Job) (leases : List Lease) (group rest : List RangeResult) (members : List Member) (entries : List Entry) : Type 0 where
  pub done : List RangeResult
  pub members_are : members ≡ map member_for done
  pub entries_are : entries ≡ map entry_for done
  pub kept_are : kept leases group ≡ done ++ kept (leases_after leases done) rest
  pub room : length done + length rest ≤ 8
  pub turns : TakeTurns j leases done
  pub jobs : All (λ r. r.job ≡ j) rest

pub picking_start : (j : Job) (leases : List Lease) (group : List RangeResult) → length group ≤ 8 → All (λ r. r.job ≡ j) group → IsPicking j leases group group [] []
picking_start j leases group few jobs = record {
  done = [];
  members_are = refl;
  entries_are = refl;
  kept_are = refl;
  room = omega arith;
  turns = tt;
  jobs = jobs;
}

-- one more is picked, or is not
pub picking_more : (j : Job) (leases : List Lease) (group before rest : List RangeResult) (members : List Member) (entries : List Entry) (r : RangeResult) → length leases ≡ ranges j
    → before ≡ r ∷ rest → IsPicking j leases group before members entries → IsResult r → is_acked (lease_at leases r.range) ≡ false → list_any (λ e. nat_eq e.range r.range) entries ≡ false
    → IsPicking j leases group rest (members ++ member_for r ∷ []) (entries ++ entry_for r ∷ [])
picking_more j leases group before rest members entries r count first is result waiting none =
    let jobs : All (λ q. q.job ≡ j) (r ∷ rest) = subst (λ (l : List RangeResult). All (λ q. q.job ≡ j) l) first is.jobs in
    let job : r.job ≡ j = All-head (λ q. q.job ≡ j) r rest jobs in
    let unacked = unacked_after j leases is.done is.turns r.range waiting (subst (λ (l : List Entry). list_any (λ e. nat_eq e.range r.range) l ≡ false) is.entries_are none) in
    record {
      done = is.done ++ r ∷ [];
      members_are = ap (λ l. l ++ member_for r ∷ []) is.members_are ∙ sym (map-append member_for is.done (r ∷ []));
      entries_are = ap (λ l. l ++ entry_for r ∷ []) is.entries_are ∙ sym (map-append entry_for is.done (r ∷ []));
      kept_are = is.kept_are ∙ ap (λ (l : List RangeResult). is.done ++ kept (leases_after leases is.done) l) first
          ∙ ap (λ b. is.done ++ (if b then kept (leases_after leases is.done) rest else r ∷ kept (set (leases_after leases is.done) r.range Acked) rest)) unacked
          ∙ sym (append_assoc is.done (r ∷ []) (kept (set (leases_after leases is.done) r.range Acked) rest))
          ∙ ap (λ (l : List Lease). is.done ++ r ∷ [] ++ kept l rest) (sym (leases_after-push leases is.done r));
      room = let size = length-append is.done (r ∷ []) in let was : length before ≡ suc (length rest) = ap length first in let room = is.room in omega arith;
      turns = turns-push j leases is.done r is.turns (record {
        below = subst (λ (k : Job). r.range < ranges k) job result.below;
        few = result.few;
        value = result.value ∙ ap (λ (k : Job). range_value k r.range) job;
        waiting = unacked;
      });
      jobs = All-tail (λ q. q.job ≡ j) r rest jobs;
    }

pub picking_less : (j : Job) (leases : List Lease) (group before rest : List RangeResult) (members : List Member) (entries : List Entry) (r : RangeResult) → length leases ≡ ranges j
    → before ≡ r ∷ rest → IsPicking j leases group before members entries → ¬ ((is_acked (lease_at leases r.range) ≡ false) × (list_any (λ e. nat_eq e.range r.range) entries ≡ false))
    → IsPicking j leases group rest members entries
picking_less j leases group before rest members entries r count first is refused =
    let jobs : All (λ q. q.job ≡ j) (r ∷ rest) = subst (λ (l : List RangeResult). All (λ q. q.job ≡ j) l) first is.jobs in
    let acked : is_acked (lease_at (leases_after leases is.done) r.range) ≡ true = elim (either (is_acked (lease_at leases r.range)) (list_any (λ e. nat_eq e.range r.range) entries) refused) [
      | inl before ↦ acked_after j leases is.done count is.turns r.range before
      | inr some ↦ among_after j leases is.done count is.turns r.range (subst (λ (l : List Entry). list_any (λ e. nat_eq e.range r.range) l ≡ true) is.entries_are some)
    ] in
    record {
      done = is.done;
      members_are = is.members_are;
      entries_are = is.entries_are;
      kept_are = is.kept_are ∙ ap (λ (l : List RangeResult). is.done ++ kept (leases_after leases is.done) l) first
          ∙ ap (λ b. is.done ++ (if b then kept (leases_after leases is.done) rest else r ∷ kept (set (leases_after leases is.done) r.range Acked) rest)) acked;
      room = let was : length before ≡ suc (length rest) = ap length first in let room = is.room in omega arith;
      turns = is.turns;
      jobs = All-tail (λ q. q.job ≡ j) r rest jobs;
    }

-- all is picked
pub picking_done : (j : Job) (leases : List Lease) (group rest : List RangeResult) (members : List Member) (entries : List Entry) → rest ≡ [] → (is : IsPicking j leases group rest members entries) → is.done ≡ kept leases group
picking_done j leases group rest members entries none is =
    sym (is.kept_are ∙ ap (λ (l : List RangeResult). is.done ++ kept (leases_after leases is.done) l) none ∙ append-nil is.done)

-- ---- acknowledging in turn
-- the course, the total and the counts after so many entries
pub record IsTurning (j : Job) (table : Slots) (entries : List Entry) (n : ℕ) (first : CourseView) (c : CourseView) (t : Running) (before now : Count) (held after : Totals) : Type 0 where
  pub running : c.fault ≡ None
  pub waiting : AreWaiting c.leases (drop n entries)
  pub noted : all_noted c (drop n entries) ≡ all_noted first entries
  pub same : (r : ℕ) → is_begun c r ≡ is_begun first r
  pub behind : IsBehind j (drop n entries) table t
  pub tally : now ≡ record before { totals = more_acks before.totals n }
  pub share : after ≡ more_acks held n

no_acks : (t : Totals) → t ≡ more_acks t 0
no_acks t = λ i. record { grants = t.grants; backs = t.backs; acks = add-none t.acks i }

one_more_ack : (t : Totals) (n : ℕ) → one_ack (more_acks t n) ≡ more_acks t (n + 1)
one_more_ack t n = λ i. record { grants = t.grants; backs = t.backs; acks = (let is : t.acks + n + 1 ≡ t.acks + (n + 1) = omega arith in is) i }

pub turning_start : (j : Job) (table : Slots) (entries : List Entry) (c : CourseView) (t : Running) (tally : Count) (share : Totals) → c.fault ≡ None → AreWaiting c.leases entries → IsBehind j entries table t
    → IsTurning j table entries 0 c c t tally tally share share
turning_start j table entries c t tally share running waiting behind = record {
  running = running;
  waiting = waiting;
  noted = refl;
  same = λ r. refl;
  behind = behind;
  tally = λ i. record { out = tally.out; totals = no_acks tally.totals i; settled = tally.settled };
  share = no_acks share;
}

-- the entry that is next
pub record IsNextEntry (entries : List Entry) (n : ℕ) (e : Entry) : Type 0 where
  pub rest : drop n entries ≡ e ∷ drop (n + 1) entries

pub next_entry : (entries : List Entry) (n : ℕ) (d : Entry) → n < length entries → IsNextEntry entries n (get_or entries n d)
next_entry entries n d low = record {
  rest = drop-cons entries n d low ∙ ap (λ (k : ℕ). get_or entries n d ∷ drop k entries) (let same : suc n ≡ n + 1 = omega arith in same);
}

-- an entry more
pub turning_more : (j : Job) (table : Slots) (entries : List Entry) (n : ℕ) (first c : CourseView) (t : Running) (before now : Count) (held after : Totals) (e : Entry)
    (course : CourseView) (total : Running) (tally : Count) (share : Totals) → IsNextEntry entries n e → (is : IsTurning j table entries n first c t before now held after)
    → course ≡ acknowledged c e.range e.attempt → ((r : ℕ) → is_begun course r ≡ is_begun c r)
    → ((v : Verdict) (s : Slots) → slot_at table e.range ≡ Some v → IsTotalOf j s t → IsNext j s e.range v → IsTotalOf j (set s e.range (Some v)) total)
    → tally.totals ≡ one_ack now.totals → tally.out ≡ now.out → tally.settled ≡ now.settled → share ≡ one_ack after
    → IsTurning j table entries (n + 1) first course total before tally held share
turning_more j table entries n first c t before now held after e course total tally share next is noted same added totals out settled shared =
    let waiting : AreWaiting c.leases (e ∷ drop (n + 1) entries) = subst (λ (l : List Entry). AreWaiting c.leases l) next.rest is.waiting in
    let leads : LeadTo j is.behind.slots (e ∷ drop (n + 1) entries) table = subst (λ (l : List Entry). LeadTo j is.behind.slots l table) next.rest is.behind.leads in
    record {
      running = ap (λ (k : CourseView). k.fault) noted ∙ is.running;
      waiting = subst (λ (k : CourseView). AreWaiting k.leases (drop (n + 1) entries)) (sym noted) waiting.1;
      noted = ap (λ (k : CourseView). all_noted k (drop (n + 1) entries)) noted ∙ sym (ap (λ (l : List Entry). all_noted c l) next.rest) ∙ is.noted;
      same = λ r. same r ∙ is.same r;
      behind = record {
        slots = set is.behind.slots e.range (Some leads.0.verdict);
        total = added leads.0.verdict is.behind.slots leads.0.held is.behind.total leads.0.next;
        leads = leads.1;
      };
      tally = (λ i. record {
        out = (out ∙ ap (λ (k : Count). k.out) is.tally) i;
        totals = (totals ∙ ap (λ (k : Count). one_ack k.totals) is.tally ∙ one_more_ack before.totals n) i;
        settled = (settled ∙ ap (λ (k : Count). k.settled) is.tally) i;
      });
      share = shared ∙ ap one_ack is.share ∙ one_more_ack held n;
    }

pub turning_waits : (j : Job) (table : Slots) (entries : List Entry) (n : ℕ) (first c : CourseView) (t : Running) (before now : Count) (held after : Totals) (e : Entry)
    → IsNextEntry entries n e → IsTurning j table entries n first c t before now held after → IsWaiting c.leases e
turning_waits j table entries n first c t before now held after e next is =
    let waiting : AreWaiting c.leases (e ∷ drop (n + 1) entries) = subst (λ (l : List Entry). AreWaiting c.leases l) next.rest is.waiting in waiting.0

pub turning_addable : (j : Job) (table : Slots) (entries : List Entry) (n : ℕ) (first c : CourseView) (t : Running) (before now : Count) (held after : Totals) (e : Entry)
    → IsNextEntry entries n e → IsTurning j table entries n first c t before now held after → IsAddable j table e.range t
turning_addable j table entries n first c t before now held after e next is =
    let leads : LeadTo j is.behind.slots (e ∷ drop (n + 1) entries) table = subst (λ (l : List Entry). LeadTo j is.behind.slots l table) next.rest is.behind.leads in
    record { verdict = leads.0.verdict; held = leads.0.held; can = record { slots = is.behind.slots; total = is.behind.total; next = leads.0.next } }

drop_past : (entries : List Entry) (n : ℕ) → length entries ≤ n → drop n entries ≡ []
drop_past [] zero past = refl
drop_past [] (suc n) past = refl
drop_past (e ∷ entries) zero past = absurd (omega arith)
drop_past (e ∷ entries) (suc n) past = drop_past entries n (let le : length entries ≤ n = omega arith in le)

pub turning_end : (j : Job) (table : Slots) (entries : List Entry) (n : ℕ) (first c : CourseView) (t : Running) (before now : Count) (held after : Totals)
    → length entries ≤ n → IsTurning j table entries n first c t before now held after → (c ≡ all_noted first entries) × IsTotalOf j table t
turning_end j table entries n first c t before now held after past is =
    let none : drop n entries ≡ [] = drop_past entries n past in (
      sym (ap (λ (l : List Entry). all_noted c l) none) ∙ is.noted,
      subst (λ (s : Slots). IsTotalOf j s t) (subst (λ (l : List Entry). LeadTo j is.behind.slots l table) none is.behind.leads) is.behind.total,
    )

-- ---- the board after a group
module _ {D T : Type 0} (face : D → Face) (b : BoardView D T) (is : IsBoard face b) (journal : IsJournal face b.journal) (results : List RangeResult) (turns : TakeTurns b.job b.course.leases results) where
  table_count : length b.journal.table ≡ ranges b.job
  table_count = journal.count ∙ ap (λ (j : Job). ranges j) is.one_job

  are_in_step : AreInStep b.course.leases b.journal.table
  are_in_step = record { same = is.ranges ∙ sym table_count; acked = is.acked }

  pub group_of : ((r : ℕ) → Fits b.job r (range_value b.job r)) → IsGroup b.journal.job (map member_for results)
  group_of law = subst (λ (j : Job). IsGroup j (map member_for results)) (sym is.one_job) (turns_group b.job b.course.leases results is.ranges law turns)

  pub shut_of : AreShut b.journal.table (map member_for results)
  shut_of = turns_shut b.job b.course.leases b.journal.table results are_in_step is.ranges turns

  pub values_of : AreValues b.journal.job (map member_for results)
  values_of = subst (λ (j : Job). AreValues j (map member_for results)) (sym is.one_job) (turns_values b.job b.course.leases results is.ranges turns)

  pub waiting_of : AreWaiting b.course.leases (map entry_for results)
  waiting_of = turns_waiting b.job b.course.leases results is.ranges turns

  pub behind_of : ((r : ℕ) → Fits b.job r (range_value b.job r)) → (j : Job) → j ≡ b.job → (table : Slots) → table ≡ filled b.journal.table (map member_for results) → IsBehind j (map entry_for results) table b.total
  behind_of law j same table after = subst (λ (k : Job). IsBehind k (map entry_for results) table b.total) (sym same) (record {
    slots = b.journal.table;
    total = is.total;
    leads = subst (λ (t : Slots). LeadTo b.job b.journal.table (map entry_for results) t) (recorded-filled b.journal.table results ∙ sym after)
        (turns_lead b.job law b.course.leases b.journal.table results are_in_step table_count (subst (λ (k : Job). AllFit k b.journal.table) is.one_job journal.fits) turns);
  })

  pub reads_of : (new : Option D) → Went (λ d e. Reads (face e) (StandsPartly b.journal.job b.journal.table (map member_for results))) b.journal.disk new → ForSome new (λ e. Reads (face e) (GoesOn b.job b.journal.table))
  reads_of new went e here f told =
      let A : D → Type 0 = λ e. Reads (face e) (StandsPartly b.journal.job b.journal.table (map member_for results)) in
      partly_goes_on b.job b.course.leases b.journal.table results f are_in_step table_count turns
      (subst (λ (k : Job). StandsPartly k b.journal.table (map member_for results) f) is.one_job (went_now A b.journal.disk new went e here f told))

  grown_table : (table : Slots) → table ≡ filled b.journal.table (map member_for results) → Extends b.job b.journal.table table
  grown_table table after = subst (λ (s : Slots). Extends b.job b.journal.table s) (recorded-filled b.journal.table results ∙ sym after)
      (grown_after b.job b.course.leases b.journal.table results are_in_step table_count turns)

  pub begun_of : (table : Slots) (course : CourseView) → table ≡ filled b.journal.table (map member_for results) → ((r : ℕ) → is_begun course r ≡ is_begun b.course r)
      → (r : ℕ) → (if is_begun course r then slot_at table r else None) ≡ begun b r
  begun_of table course after same r = begun_served face b is table course r (same r) (grown_table table after)

  pub grouped_board : (k : JournalView D) (course : CourseView) (total : Running) (tally : Count) → b.course.fault ≡ None
      → k ≡ record { disk = k.disk; job = b.journal.job; table = filled b.journal.table (map member_for results); failed = false }
      → course ≡ all_acknowledged b.course results → ((r : ℕ) → is_begun course r ≡ is_begun b.course r)
      → IsTotalOf b.job k.table total → tally.totals ≡ more_acks b.tally.totals (length results)
      → Went (λ d e. Reads (face e) (StandsPartly b.journal.job b.journal.table (map member_for results))) b.journal.disk k.disk
      → IsBoard face (record b { journal = k; course = course; total = total; tally = tally })
  grouped_board k course total tally running after noted same sums counts went =
      let table : k.table ≡ filled b.journal.table (map member_for results) = ap (λ (q : JournalView D). q.table) after in
      let fault : course.fault ≡ None = ap (λ (c : CourseView). c.fault) noted ∙ fault-all b.course results ∙ running in
      served_board face b is k course total tally (ap (λ (q : JournalView D). q.job) after)
      (ap (λ (c : CourseView). length c.leases) noted ∙ length-all b.job b.course results)
      (grown_table k.table table)
      (λ r. ap (λ (c : CourseView). is_acked (lease_at c.leases r)) noted ∙ (step_after b.job b.course b.journal.table results are_in_step table_count turns).acked r
      ∙ ap (λ (s : Slots). is_some (slot_at s r)) (recorded-filled b.journal.table results ∙ sym table))
      same sums
      (counts ∙ ap (λ t. more_acks t (length results)) is.tally ∙ sym (ap (λ (c : CourseView). counted c.history) noted ∙ counted-all b.course results))
      (ap (λ (q : JournalView D). q.failed) after ∙ sym (ap is_some fault))
      (λ n e. absurd (none_some n (sym fault ∙ e)))
      (reads_of k.disk went)
