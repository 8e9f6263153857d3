-- What the calls leave of a file by which a journal is made.
use Rattle.std.proofs.Common.{◌≡◌, ◌<◌, inl, inr, ℕ, ◌+◌, ◌-◌, ◌≤◌, List, [], ◌∷◌, length, take, drop, set, get_or, Option, Some, None, Result, refl, sym, ap, subst, ◌∙◌, arith}
use Rattle.std.proofs.lemmas.Bool.{cases_eq, cases_lt}
use Rattle.std.proofs.lemmas.List.{places, ext_get_or, get_or_past, get_or-take, get_or-replicate, get_or-drop, length-drop, length-take, length-replicate, length-set, get_or-set_same, get_or-set_other}
use Rattle.qh_plan.specs.declared.verdict.Verdict.{Verdict}
use Rattle.qh_plan.specs.Jobs.{Job, ranges}
use Rattle.qh_plan.specs.Ranges.{Fits}
use Rattle.qh_disk.specs.Disk.{Face, IsSafe, Reads, Becomes, overwritten, resized, Torn, Stretched, Turns, Calls}
use Rattle.qh_disk.specs.Moments.{EachImage, EachImageSince, Runs, Lasts}
use Rattle.qh_disk.specs.Looks.{Looks}
use Rattle.qh_disk.specs.declared.failed.Failed.{Failed}
use Rattle.qh_disk.proofs.Moments.{lasts_call, lasts_on, runs_call, runs_on, turns_keeps, safe_each, each_since_call, each_since_on}
use Rattle.qh_disk.proofs.Looking.{narrows_lasts, narrows_since, lasts_absurd}
use Rattle.qh_disk.proofs.Rules.{told_before, resized_length, resized_beyond, overwritten_inside, overwritten_torn}
use Rattle.qh_slots.specs.Layout.{mark, head, place, part, slot_size, body_size}
use Rattle.qh_slots.specs.Slots.{SlotIs, spelled}
use Rattle.qh_slots.specs.Stands.{Slots, slot_at, nones, Stands, Holds}
use Rattle.qh_slots.specs.Moments.{StandsFor}
use Rattle.qh_slots.proofs.StandLemmas.{head_size, head_named}
use Rattle.qh_slots.proofs.SpellingLemmas.{spelled_size}
use Rattle.qh_slots.proofs.PlaceLemmas.{place_start, apart}
use Rattle.qh_slots.proofs.ByteLemmas.{overwritten_on, overwritten_length}
use Rattle.qh_parts.specs.Laying.{IsUnbegun, IsFresh, IsBlank, IsLaid, StaysClosed, Creates}
use Rattle.qh_parts.proofs.StepLemmas.{IsWithinSlot, begun, other_slot, part_torn}
use Rattle.qh_parts.proofs.PartLemmas.{part_overwritten}
use Rattle.qh_parts.proofs.WipeLemmas.{zero_unbegun, stretched_unbegun}

-- ---- a closed header stays closed: one call, a look, one run after another
pub closed_call : {T : Type 0} (step : List ℕ → List ℕ → Type 0) (result : Result T Failed) (old new : Face) → Calls result old new → Turns step old new → ((d c : List ℕ) → step d c → IsUnbegun d → IsUnbegun c) → StaysClosed old new
closed_call step result old new call turns keeps = record {
  runs = runs_call result old new call;
  none = lasts_call (λ _. ⊥) result old new call (turns_keeps (λ _. ⊥) step old new turns (λ d c s p. p));
  closed = λ each. each_since_call IsUnbegun result old new call each (turns_keeps IsUnbegun step old new turns keeps each);
}

pub closed_looks : (old new : Face) → Looks old new → StaysClosed old new
closed_looks old new looks = record {
  runs = looks.runs;
  none = narrows_lasts (λ _. ⊥) old new looks.narrows;
  closed = λ each c is. each c (narrows_since old new looks.runs looks.narrows c is);
}

-- the last moment of a run is one of its moments
pub each_at_end : (P : List ℕ → Type 0) (old mid : Face) → Runs old mid → EachImageSince old.clock mid P → EachImage mid P
each_at_end P old mid runs each c is = each c (record { moment = mid.clock; after = runs.later; by_now = omega arith; image = is })

pub closed_on : (old mid new : Face) → StaysClosed old mid → StaysClosed mid new → StaysClosed old new
closed_on old mid new a b = record {
  runs = runs_on old mid new a.runs b.runs;
  none = lasts_on (λ _. ⊥) old mid new a.none b.runs b.none;
  closed = λ each. each_since_on IsUnbegun old.clock mid new (a.closed each) b.runs (b.closed (each_at_end IsUnbegun old mid a.runs (a.closed each)));
}

-- ---- the same and then the journal: a run that stays closed, and one that creates, before and behind
closed_holds : (j : Job) (r : ℕ) (v : Verdict) (old new : Face) → StaysClosed old new → EachImage old IsUnbegun → Lasts (Holds j r v) old new
closed_holds j r v old new a each = lasts_absurd (Holds j r v) IsUnbegun old new (a.closed each) (λ c unbegun held. unbegun (begun j held.slots c held.stands)) a.none

closed_begun : (j : Job) (old new : Face) → StaysClosed old new → EachImage old IsUnbegun → Lasts (StandsFor j) old new
closed_begun j old new a each = lasts_absurd (StandsFor j) IsUnbegun old new (a.closed each)
    (λ c unbegun stands. unbegun (begun j stands.slots c stands.stands)) a.none

pub creates_closed : (j : Job) (s : Slots) (old new : Face) → StaysClosed old new → Creates j s old new
creates_closed j s old new a = record {
  runs = a.runs;
  none = a.none;
  since = λ each c is. inl (a.closed each c is);
  begun = λ each. closed_begun j old new a each;
  stable = λ each r v. closed_holds j r v old new a each;
}

pub creates_on : (j : Job) (s : Slots) (old mid new : Face) → StaysClosed old mid → Creates j s mid new → Creates j s old new
creates_on j s old mid new a b = record {
  runs = runs_on old mid new a.runs b.runs;
  none = lasts_on (λ _. ⊥) old mid new a.none b.runs b.none;
  since = λ each. each_since_on (IsFresh j s) old.clock mid new (λ c is. inl (a.closed each c is)) b.runs (b.since (each_at_end IsUnbegun old mid a.runs (a.closed each)));
  begun = λ each. lasts_on (StandsFor j) old mid new (closed_begun j old mid a each) b.runs (b.begun (each_at_end IsUnbegun old mid a.runs (a.closed each)));
  stable = λ each r v. lasts_on (Holds j r v) old mid new (closed_holds j r v old mid a each) b.runs (b.stable (each_at_end IsUnbegun old mid a.runs (a.closed each)) r v);
}

pub creates_looks : (j : Job) (s : Slots) (old mid new : Face) → Creates j s old mid → Looks mid new → Creates j s old new
creates_looks j s old mid new a looks = record {
  runs = runs_on old mid new a.runs looks.runs;
  none = lasts_on (λ _. ⊥) old mid new a.none looks.runs (narrows_lasts (λ _. ⊥) mid new looks.narrows);
  since = λ each. each_since_on (IsFresh j s) old.clock mid new (a.since each) looks.runs
      (λ c is. a.since each c (record { moment = mid.clock; after = a.runs.later; by_now = omega arith; image = narrows_since mid new looks.runs looks.narrows c is }));
  begun = λ each. lasts_on (StandsFor j) old mid new (a.begun each) looks.runs (narrows_lasts (StandsFor j) mid new looks.narrows);
  stable = λ each r v. lasts_on (Holds j r v) old mid new (a.stable each r v) looks.runs (narrows_lasts (Holds j r v) mid new looks.narrows);
}

-- ---- the length is set
empty_zero : (n i : ℕ) (d c : List ℕ) → Stretched n d c → d ≡ [] → get_or c i 0 ≡ 0
empty_zero n i d c stretched is = elim (cases_lt i (length c)) [
  | inl low ↦ stretched.same i low ∙ ap (λ (l : List ℕ). get_or l i 0) is
  | inr past ↦ get_or_past c i 0 past
]

pub length_closed : {T : Type 0} (n : ℕ) (result : Result T Failed) (old new : Face) → Calls result old new → Turns (Stretched n) old new → StaysClosed old new
length_closed n result old new call turns = closed_call (Stretched n) result old new call turns (stretched_unbegun n)

pub length_zeros : (n : ℕ) (old new : Face) → Turns (Stretched n) old new → Reads old (λ f. f ≡ []) → Reads new (λ f. IsBlank (length f) f)
length_zeros n old new turns empty c told = let from = turns.content c told in record { size = refl; zeros = λ i. empty_zero n i from.0 c from.2 (empty from.0 from.1) }

pub length_blank : (n : ℕ) (old new : Face) → Becomes (resized n) old new → Reads old (λ f. f ≡ []) → Reads new (IsBlank n)
length_blank n old new becomes empty f told =
    let was = told_before old.content (resized n) f (sym becomes ∙ told) in
    let none : length was.0 ≡ 0 = ap (λ (l : List ℕ). length l) (empty was.0 was.1) in
    record {
      size = ap (λ (l : List ℕ). length l) was.2 ∙ resized_length n was.0;
      zeros = λ i. ap (λ (l : List ℕ). get_or l i 0) was.2 ∙ resized_beyond n was.0 i (omega arith);
    }

-- ---- bytes behind the first are written
behind_first : (k n : ℕ) → 1 ≤ k → (d c : List ℕ) → Torn k n d c → IsUnbegun d → IsUnbegun c
behind_first k n le d c torn unbegun = λ e. unbegun (sym (torn.below 0 (omega arith)) ∙ e)

pub write_closed : {T : Type 0} (k n : ℕ) → 1 ≤ k → (result : Result T Failed) (old new : Face) → Calls result old new → Turns (Torn k n) old new → StaysClosed old new
write_closed k n le result old new call turns = closed_call (Torn k n) result old new call turns (behind_first k n le)

pub write_unbegun : (k n : ℕ) → 1 ≤ k → (old new : Face) → Turns (Torn k n) old new → Reads old IsUnbegun → Reads new IsUnbegun
write_unbegun k n le old new turns reads c told = let from = turns.content c told in behind_first k n le from.0 c from.2 (reads from.0 from.1)

pub blank_unbegun : (n : ℕ) (d : Face) → Reads d (IsBlank n) → Reads d IsUnbegun
blank_unbegun n d reads f told = zero_unbegun f ((reads f told).zeros 0)

pub zeros_unbegun : (d : Face) → Reads d (λ f. IsBlank (length f) f) → Reads d IsUnbegun
zeros_unbegun d reads f told = zero_unbegun f ((reads f told).zeros 0)

-- ---- the head, but for its first byte
pub none_at : (j : Job) (r : ℕ) → slot_at (nones j) r ≡ None
none_at j r = elim (cases_lt r (ranges j)) [
  | inl low ↦ get_or-replicate (ranges j) r None None low
  | inr past ↦ get_or_past (nones j) r None (let n = length-replicate {A = Option Verdict} (ranges j) None in omega arith)
]

pub rest_laid : (j : Job) (old new : Face) → Becomes (overwritten 1 (drop 1 (head j))) old new → Reads old (IsBlank (place (head j) j (ranges j))) → Reads new (IsLaid j (nones j))
rest_laid j old new becomes reads f told =
    let was = told_before old.content (overwritten 1 (drop 1 (head j))) f (sym becomes ∙ told) in
    let blank = reads was.0 was.1 in
    let p = place_start (head j) j (ranges j) in
    let n = head_size j in
    let l = length-drop 1 (head j) in
    let s = blank.size in
    let torn = overwritten_torn 1 (drop 1 (head j)) was.0 (omega arith) in
    record {
      size = ap (λ (x : List ℕ). length x) was.2 ∙ torn.size ∙ blank.size;
      count = length-replicate {A = Option Verdict} (ranges j) None;
      unbegun = zero_unbegun f (ap (λ (x : List ℕ). get_or x 0 0) was.2 ∙ torn.below 0 (omega arith) ∙ blank.zeros 0);
      rest = λ i from low. ap (λ (x : List ℕ). get_or x i 0) was.2 ∙ overwritten_inside 1 (drop 1 (head j)) was.0 (i - 1) i (omega arith) (omega arith) (omega arith) ∙ get_or-drop 1 (head j) (i - 1) 0 ∙ ap (λ (k : ℕ). get_or (head j) k 0) (omega arith);
      slots = λ r low. subst (SlotIs (head j) j r f) (sym (none_at j r)) (λ gate.
          let at = place_start (head j) j r in
          let z : get_or f (place (head j) j r) 0 ≡ 0 = ap (λ (x : List ℕ). get_or x (place (head j) j r) 0) was.2 ∙ torn.beyond (place (head j) j r) (omega arith) ∙ blank.zeros (place (head j) j r) in
          omega arith);
    }

-- ---- a whole slot
behind_gate : (at n m : ℕ) (xs d : List ℕ) → n ≡ length xs → at + length (m ∷ xs) ≤ length d → take n (drop (at + 1) (overwritten at (m ∷ xs) d)) ≡ xs
behind_gate at n m xs d is room =
    let long = overwritten_length at (m ∷ []) d (omega arith) in
    ap (part (at + 1) n) (sym (overwritten_on (m ∷ []) xs d at (at + 1) (omega arith) (omega arith))) ∙ part_overwritten (at + 1) n xs (overwritten at (m ∷ []) d) is (omega arith)

module _ (j : Job) (r : ℕ) (v : Verdict) (low : r < ranges j) (fits : Fits j r v) where
  abbrev slot_bytes : List ℕ
  slot_bytes = mark ∷ spelled j v

  whole_within : IsWithinSlot (head j) j r (place (head j) j r) (slot_size j)
  whole_within = record { from = omega arith; to = omega arith }

  slot_written : (s : Slots) (d : List ℕ) → IsLaid j s d → IsLaid j (set s r (Some v)) (overwritten (place (head j) j r) slot_bytes d)
  slot_written s d laid =
      let size : length slot_bytes ≡ slot_size j = let b = spelled_size j r v fits in omega arith in
      let start = place_start (head j) j r in
      let n = head_size j in
      let inside = apart (head j) j r (ranges j) low in
      let long = laid.size in
      let room : place (head j) j r + length slot_bytes ≤ length d = omega arith in
      let torn : Torn (place (head j) j r) (slot_size j) d (overwritten (place (head j) j r) slot_bytes d) = subst (λ (k : ℕ). Torn (place (head j) j r) k d (overwritten (place (head j) j r) slot_bytes d)) size (overwritten_torn (place (head j) j r) slot_bytes d room) in
      let here : r < length s = let c = laid.count in omega arith in
      record {
        size = torn.size ∙ laid.size;
        count = length-set s r (Some v) ∙ laid.count;
        unbegun = λ e. laid.unbegun (sym (torn.below 0 (omega arith)) ∙ e);
        rest = λ i from below. torn.below i (omega arith) ∙ laid.rest i from below;
        slots = λ q below. elim (cases_eq q r) [
          | inl same ↦ subst (λ (k : ℕ). SlotIs (head j) j k (overwritten (place (head j) j r) slot_bytes d) (slot_at (set s r (Some v)) k)) (sym same)
              (subst (SlotIs (head j) j r (overwritten (place (head j) j r) slot_bytes d)) (sym (get_or-set_same s r (Some v) None here))
              (overwritten_inside (place (head j) j r) slot_bytes d 0 (place (head j) j r) (omega arith) room (omega arith), behind_gate (place (head j) j r) (body_size j) mark (spelled j v) d (sym (spelled_size j r v fits)) room, fits))
          | inr ne ↦ subst (SlotIs (head j) j q (overwritten (place (head j) j r) slot_bytes d)) (sym (get_or-set_other s r q (Some v) None ne))
              (other_slot (head j) j q r (place (head j) j r) (slot_size j) d (overwritten (place (head j) j r) slot_bytes d) torn whole_within ne (slot_at s q) (laid.slots q below))
        ];
      }

  pub slot_laid : (old new : Face) → Becomes (overwritten (place (head j) j r) (mark ∷ spelled j v)) old new → (s : Slots) → Reads old (IsLaid j s) → Reads new (IsLaid j (set s r (Some v)))
  slot_laid old new becomes s reads f told =
      let was = told_before old.content (overwritten (place (head j) j r) (mark ∷ spelled j v)) f (sym becomes ∙ told) in
      subst (IsLaid j (set s r (Some v))) (sym was.2) (slot_written s was.0 (reads was.0 was.1))

-- ---- the first byte is written
laid_stands : (j : Job) (s : Slots) (d c : List ℕ) → Torn 0 1 d c → IsLaid j s d → get_or c 0 0 ≡ mark → Stands j s c
laid_stands j s d c torn laid is_open = record {
  begins = ext_get_or 0 (take (length (head j)) c) (head j) (let s = torn.size in let l = laid.size in let p = place_start (head j) j (ranges j) in grind (arith, places)) (λ i low.
      let n = length-take (length (head j)) c in
      get_or-take (length (head j)) c i 0 (omega arith) ∙ (elim (cases_eq i 0) [
        | inl first ↦ ap (λ (k : ℕ). get_or c k 0) first ∙ is_open ∙ sym (ap (λ (k : ℕ). get_or (head j) k 0) first ∙ (head_named j).0)
        | inr ne ↦ torn.beyond i (omega arith) ∙ laid.rest i (omega arith) (omega arith)
      ]));
  size = torn.size ∙ laid.size;
  count = laid.count;
  slots = λ r low. kept r (slot_at s r) (laid.slots r low);
}
  where
    kept : (r : ℕ) (o : Option Verdict) → SlotIs (head j) j r d o → SlotIs (head j) j r c o
    kept r None shut = λ e. shut (sym (torn.beyond (place (head j) j r) (let p = place_start (head j) j r in let n = head_size j in omega arith)) ∙ e)
    kept r (Some v) s =
        let p = place_start (head j) j r in
        let n = head_size j in
        (torn.beyond (place (head j) j r) (omega arith) ∙ s.0, part_torn 0 1 (place (head j) j r + 1) (body_size j) d c torn (inr (omega arith)) ∙ s.1, s.2)

laid_fresh : (j : Job) (s : Slots) (f : List ℕ) → IsLaid j s f → IsFresh j s f
laid_fresh j s f laid = inl laid.unbegun

mark_fresh : (j : Job) (s : Slots) (d c : List ℕ) → Torn 0 1 d c → IsLaid j s d → IsFresh j s c
mark_fresh j s d c torn laid = elim (cases_eq (get_or c 0 0) mark) [
  | inl is_open ↦ inr (laid_stands j s d c torn laid is_open)
  | inr still ↦ inl still
]

pub laid_reads : (j : Job) (s : Slots) (d : Face) → Reads d (IsLaid j s) → Reads d (IsFresh j s)
laid_reads j s d reads f told = laid_fresh j s f (reads f told)

pub mark_creates : {T : Type 0} (j : Job) (s : Slots) (result : Result T Failed) (old new : Face) → Calls result old new → Turns (Torn 0 1) old new → IsSafe old → Reads old (IsLaid j s) → Creates j s old new
mark_creates j s result old new call turns safe reads = record {
  runs = runs_call result old new call;
  none = lasts_call (λ _. ⊥) result old new call (turns_keeps (λ _. ⊥) (Torn 0 1) old new turns (λ d c s p. p));
  since = λ each. each_since_call (IsFresh j s) result old new call (λ c is. laid_fresh j s c (safe_each (IsLaid j s) old safe reads c is))
      (λ c is. let from = turns.images c is in mark_fresh j s from.0 c from.2 (safe_each (IsLaid j s) old safe reads from.0 from.1));
  begun = λ each. lasts_call (StandsFor j) result old new call (λ stands c is. let from = turns.images c is in
      absurd (each from.0 from.1 (begun j (stands from.0 from.1).slots from.0 (stands from.0 from.1).stands)));
  stable = λ each r v. lasts_call (Holds j r v) result old new call (λ held c is. let from = turns.images c is in
      absurd (each from.0 from.1 (begun j (held from.0 from.1).slots from.0 (held from.0 from.1).stands)));
}

pub mark_reads : (j : Job) (s : Slots) (old new : Face) → Turns (Torn 0 1) old new → Reads old (IsLaid j s) → Reads new (IsFresh j s)
mark_reads j s old new turns reads c told = let from = turns.content c told in mark_fresh j s from.0 c from.2 (reads from.0 from.1)

pub mark_stands : (j : Job) (s : Slots) (old new : Face) → Becomes (overwritten 0 (mark ∷ [])) old new → Reads old (IsLaid j s) → Reads new (Stands j s)
mark_stands j s old new becomes reads f told =
    let was = told_before old.content (overwritten 0 (mark ∷ [])) f (sym becomes ∙ told) in
    let laid = reads was.0 was.1 in
    let long = laid.size in
    let p = place_start (head j) j (ranges j) in
    let n = head_size j in
    laid_stands j s was.0 f (subst (λ (l : List ℕ). Torn 0 1 was.0 l) (sym was.2) (overwritten_torn 0 (mark ∷ []) was.0 (omega arith))) laid
    (ap (λ (l : List ℕ). get_or l 0 0) was.2 ∙ overwritten_inside 0 (mark ∷ []) was.0 0 0 (omega arith) (omega arith) (omega arith))
