-- What the writes of a store do to a disk.
use Rattle.std.proofs.Common.{◌≢◌, ◌≡◌, ◌<◌, ◌⊎◌, ℕ, ◌+◌, ◌≤◌, List, [], ◌∷◌, length, set, get_or, Some, Result, Ok, Err, sym, ap, subst, ◌∙◌, arith}
use Rattle.std.proofs.lemmas.List.{places, ext_get_or}
use Rattle.std.specs.Prelude.{OnOk}
use Rattle.qh_plan.specs.declared.verdict.Verdict.{Verdict}
use Rattle.qh_plan.specs.Jobs.{Job, IsJob, ranges}
use Rattle.qh_plan.specs.Ranges.{Fits}
use Rattle.qh_plan.specs.Values.{range_value}
use Rattle.qh_disk.specs.Disk.{Face, IsImage, Reads, Becomes, overwritten, Torn, Turns, Calls}
use Rattle.qh_disk.specs.Moments.{EachImage, Lasts}
use Rattle.qh_disk.specs.Looks.{Looks}
use Rattle.qh_disk.specs.declared.failed.Failed.{Failed}
use Rattle.qh_disk.proofs.Moments.{lasts_same, lasts_call, lasts_on, runs_same, runs_call, runs_on}
use Rattle.qh_disk.proofs.Looking.{narrows_lasts}
use Rattle.qh_disk.proofs.Rules.{overwritten_inside, overwritten_torn, told_before}
use Rattle.qh_slots.specs.Layout.{mark, head, place, part, body_size}
use Rattle.qh_slots.specs.Slots.{spelled}
use Rattle.qh_slots.specs.Stands.{Slots, Stands, Made, Holds, Shut, Behind}
use Rattle.qh_slots.specs.Moments.{StandsFor, GoesOn}
use Rattle.qh_parts.specs.Sparing.{Spares}
use Rattle.qh_slots.proofs.SpellingLemmas.{spelled_size}
use Rattle.qh_slots.proofs.PlaceLemmas.{apart}
use Rattle.qh_parts.proofs.StepLemmas.{body_step, body_shut, body_begun, body_holds, body_goes, body_made, gate_either, gate_begun, gate_holds, gate_goes, gate_made, gate_open, gate_holds_it, shut_here, body_other_shut, body_other_behind, gate_other_behind}

-- ---- what holds where a call succeeds
pub on_ok : (result : Result (Unit {0}) Failed) (A B : Type 0) → (A → B) → OnOk result A → OnOk result B
on_ok (Ok x) A B f a = f a
on_ok (Err e) A B f a = a

pub on_always : (result : Result (Unit {0}) Failed) (B : Type 0) → B → OnOk result B
on_always (Ok x) B b = b
on_always (Err e) B b = tt

-- ---- sizes
pub turns_at : (k m a n : ℕ) (old new : Face) → k ≡ a → m ≡ n → Turns (Torn k m) old new → Turns (Torn a n) old new
turns_at k m a n old new ek em turns = subst (λ (x : ℕ). Turns (Torn x n) old new) ek (subst (λ (y : ℕ). Turns (Torn k y) old new) em turns)

-- ---- spares, and a family beside it: no call, a sync, one run after another
pub spares_same : (j : Job) (d : Face) → Spares j d d
spares_same j d = record { runs = runs_same d; none = lasts_same (λ _. ⊥) d; begun = lasts_same (StandsFor j) d; stable = λ r v. lasts_same (Holds j r v) d }

pub spares_looks : (j : Job) (old new : Face) → Looks old new → Spares j old new
spares_looks j old new looks = record {
  runs = looks.runs;
  none = narrows_lasts (λ _. ⊥) old new looks.narrows;
  begun = narrows_lasts (StandsFor j) old new looks.narrows;
  stable = λ r v. narrows_lasts (Holds j r v) old new looks.narrows;
}

pub made_looks : (j : Job) (old new : Face) → Looks old new → Lasts (Made j) old new
made_looks j old new looks = narrows_lasts (Made j) old new looks.narrows

pub spares_on : (j : Job) (old mid new : Face) → Spares j old mid → Spares j mid new → Spares j old new
spares_on j old mid new a b = record {
  runs = runs_on old mid new a.runs b.runs;
  none = lasts_on (λ _. ⊥) old mid new a.none b.runs b.none;
  begun = lasts_on (StandsFor j) old mid new a.begun b.runs b.begun;
  stable = λ r v. lasts_on (Holds j r v) old mid new (a.stable r v) b.runs (b.stable r v);
}

pub made_on : (j : Job) (old mid new : Face) → Spares j old mid → Lasts (Made j) old mid → Spares j mid new → Lasts (Made j) mid new → Lasts (Made j) old new
made_on j old mid new a x b y = lasts_on (Made j) old mid new x b.runs y

pub goes_looks : (j : Job) (s0 : Slots) (old new : Face) → Looks old new → Lasts (GoesOn j s0) old new
goes_looks j s0 old new looks = narrows_lasts (GoesOn j s0) old new looks.narrows

pub goes_on : (j : Job) (s0 : Slots) (old mid new : Face) → Spares j old mid → Lasts (GoesOn j s0) old mid → Spares j mid new → Lasts (GoesOn j s0) mid new
    → Lasts (GoesOn j s0) old new
goes_on j s0 old mid new a x b y = lasts_on (GoesOn j s0) old mid new x b.runs y

pub part_overwritten : (at n : ℕ) (bytes f : List ℕ) → n ≡ length bytes → at + length bytes ≤ length f → part at n (overwritten at bytes f) ≡ bytes
part_overwritten at n bytes f is le = ext_get_or 0 (part at n (overwritten at bytes f)) bytes (grind (arith, places)) (λ i low. grind (arith, places))

-- ---- the body is written
module _ (j : Job) (is : IsJob j) (r : ℕ) (low : r < ranges j) (old new : Face) where
  module _ (turns : Turns (Torn (place (head j) j r + 1) (body_size j)) old new) (shut : EachImage old (Shut j r)) where
    -- each new image is an old one after the step
    body_keeps : (P : List ℕ → Type 0) → ((d c : List ℕ) → Torn (place (head j) j r + 1) (body_size j) d c → Shut j r d → P d → P c) → EachImage old P → EachImage new P
    body_keeps P keeps each c here = let from = turns.images c here in keeps from.0 c from.2 (shut from.0 from.1) (each from.0 from.1)

    pub body_each_shut : EachImage new (Shut j r)
    body_each_shut = body_keeps (Shut j r) (λ d c torn s p. body_shut j is r low d c torn p) shut

    pub body_others_shut : (q : ℕ) → q ≢ r → EachImage old (Shut j q) → EachImage new (Shut j q)
    body_others_shut q ne = body_keeps (Shut j q) (λ d c torn s p. body_other_shut j is r low d c q ne torn s p)

    pub body_others_behind : Reads old (IsImage old) → (q : ℕ) (w : Verdict) → q ≢ r → Reads old (Behind j q w) → Reads new (Behind j q w)
    body_others_behind current q w ne reads c told = let from = turns.content c told in body_other_behind j is r low from.0 c q ne w from.2 (shut from.0 (current from.0 from.1)) (reads from.0 from.1)

    pub body_spares : {T : Type 0} (result : Result T Failed) → Calls result old new → Spares j old new
    body_spares result call = record {
      runs = runs_call result old new call;
      none = lasts_call (λ _. ⊥) result old new call (body_keeps (λ _. ⊥) (λ d c torn s p. p));
      begun = lasts_call (StandsFor j) result old new call (body_keeps (StandsFor j) (λ d c torn s p. body_begun j is r low d c torn s p));
      stable = λ q w. lasts_call (Holds j q w) result old new call (body_keeps (Holds j q w) (λ d c torn s p. body_holds j is r low d c torn s q w p));
    }

    pub body_lasts_made : {T : Type 0} (result : Result T Failed) → Calls result old new → Lasts (Made j) old new
    body_lasts_made result call = lasts_call (Made j) result old new call (body_keeps (Made j) (λ d c torn s p. body_made j is r low d c torn s p))

    pub body_lasts_goes : {T : Type 0} (result : Result T Failed) → Calls result old new → (s0 : Slots) → Lasts (GoesOn j s0) old new
    body_lasts_goes result call s0 = lasts_call (GoesOn j s0) result old new call (body_keeps (GoesOn j s0)
        (λ d c torn s p. body_goes j is r low d c s0 torn s p))

    pub body_kept : Reads old (IsImage old) → (s : Slots) → Reads old (Stands j s) → Reads new (Stands j s)
    body_kept current s reads c told =
        let from = turns.content c told in
        let stands = reads from.0 from.1 in
        body_step j r s from.0 c low from.2 stands (shut_here j is r low from.0 c (shut from.0 (current from.0 from.1)) s stands)

    pub body_behind : (v : Verdict) → Fits j r v → Reads old (IsImage old) → Becomes (overwritten (place (head j) j r + 1) (spelled j v)) old new → Reads new (Behind j r v)
    body_behind v fits current becomes f told =
        let was = told_before old.content (overwritten (place (head j) j r + 1) (spelled j v)) f (sym becomes ∙ told) in
        let closed = shut was.0 (current was.0 was.1) in
        let size = spelled_size j r v fits in
        let inside = apart (head j) j r (ranges j) low in
        let whole = closed.stands.size in
        let room : place (head j) j r + 1 + length (spelled j v) ≤ length was.0 = omega arith in
        let torn : Torn (place (head j) j r + 1) (body_size j) was.0 f = subst (λ (l : List ℕ). Torn (place (head j) j r + 1) (body_size j) was.0 l) (sym was.2)
        (subst (λ (n : ℕ). Torn (place (head j) j r + 1) n was.0 (overwritten (place (head j) j r + 1) (spelled j v) was.0)) size (overwritten_torn (place (head j) j r + 1) (spelled j v) was.0 room)) in
        record {
          shut = body_shut j is r low was.0 f torn closed;
          body = ap (part (place (head j) j r + 1) (body_size j)) was.2 ∙ part_overwritten (place (head j) j r + 1) (body_size j) (spelled j v) was.0 (sym size) room;
          fits = fits;
        }

  -- ---- the gate is written
  module _ (v : Verdict) (turns : Turns (Torn (place (head j) j r) 1) old new) (behind : EachImage old (Behind j r v)) where
    gate_keeps : (P : List ℕ → Type 0) → ((d c : List ℕ) → Torn (place (head j) j r) 1 d c → Behind j r v d → P d → P c) → EachImage old P → EachImage new P
    gate_keeps P keeps each c here = let from = turns.images c here in keeps from.0 c from.2 (behind from.0 from.1) (each from.0 from.1)

    pub gate_others_behind : (q : ℕ) (w : Verdict) → q ≢ r → EachImage old (Behind j q w) → EachImage new (Behind j q w)
    gate_others_behind q w ne = gate_keeps (Behind j q w) (λ d c torn s p. gate_other_behind j is r low d c q ne v w torn s p)

    pub gate_held : Reads old (IsImage old) → (q : ℕ) (w : Verdict) → Reads old (Holds j q w) → Reads new (Holds j q w)
    gate_held current q w reads c told = let from = turns.content c told in gate_holds j is r low from.0 c v from.2 (behind from.0 (current from.0 from.1)) q w (reads from.0 from.1)

    pub gate_spares : {T : Type 0} (result : Result T Failed) → Calls result old new → Spares j old new
    gate_spares result call = record {
      runs = runs_call result old new call;
      none = lasts_call (λ _. ⊥) result old new call (gate_keeps (λ _. ⊥) (λ d c torn s p. p));
      begun = lasts_call (StandsFor j) result old new call (gate_keeps (StandsFor j) (λ d c torn s p. gate_begun j is r low d c v torn s p));
      stable = λ q w. lasts_call (Holds j q w) result old new call (gate_keeps (Holds j q w) (λ d c torn s p. gate_holds j is r low d c v torn s q w p));
    }

    pub gate_lasts_made : {T : Type 0} (result : Result T Failed) → Calls result old new → v ≡ range_value j r → Lasts (Made j) old new
    gate_lasts_made result call is_true = lasts_call (Made j) result old new call (gate_keeps (Made j) (λ d c torn s p. gate_made j is r low d c v is_true torn s p))

    pub gate_lasts_goes : {T : Type 0} (result : Result T Failed) → Calls result old new → v ≡ range_value j r → (s0 : Slots) → Lasts (GoesOn j s0) old new
    gate_lasts_goes result call is_true s0 = lasts_call (GoesOn j s0) result old new call (gate_keeps (GoesOn j s0)
        (λ d c torn s p. gate_goes j is r low d c v is_true s0 torn s p))

    pub gate_reads_either : Reads old (IsImage old) → (s : Slots) → Reads old (Stands j s) → Reads new (λ f. Stands j s f ⊎ Stands j (set s r (Some v)) f)
    gate_reads_either current s reads c told =
        let from = turns.content c told in
        gate_either j is r low from.0 c v from.2 (behind from.0 (current from.0 from.1)) s (reads from.0 from.1)

    -- what is read of a gate that was written whole
    pub record IsOpened (f : List ℕ) : Type 0 where
      pub before : List ℕ
      pub told : old.content ≡ Some before
      pub was_behind : Behind j r v before
      pub torn : Torn (place (head j) j r) 1 before f
      pub is_open : get_or f (place (head j) j r) 0 ≡ mark

    gate_opened : Reads old (IsImage old) → Becomes (overwritten (place (head j) j r) (mark ∷ [])) old new → Reads new IsOpened
    gate_opened current becomes f told =
        let was = told_before old.content (overwritten (place (head j) j r) (mark ∷ [])) f (sym becomes ∙ told) in
        let b = behind was.0 (current was.0 was.1) in
        let inside = apart (head j) j r (ranges j) low in
        let whole = b.shut.stands.size in
        let room : place (head j) j r + 1 ≤ length was.0 = omega arith in
        record {
          before = was.0;
          told = was.1;
          was_behind = b;
          torn = subst (λ (l : List ℕ). Torn (place (head j) j r) 1 was.0 l) (sym was.2) (overwritten_torn (place (head j) j r) (mark ∷ []) was.0 room);
          is_open = ap (λ (l : List ℕ). get_or l (place (head j) j r) 0) was.2 ∙ overwritten_inside (place (head j) j r) (mark ∷ []) was.0 0 (place (head j) j r) (omega arith) room (omega arith);
        }

    pub gate_stored : Reads old (IsImage old) → Becomes (overwritten (place (head j) j r) (mark ∷ [])) old new → Reads new (Holds j r v)
    gate_stored current becomes f told = let o = gate_opened current becomes f told in gate_holds_it j is r low o.before f v o.torn o.was_behind o.is_open

    pub gate_reads_opened : Reads old (IsImage old) → Becomes (overwritten (place (head j) j r) (mark ∷ [])) old new → (s : Slots) → Reads old (Stands j s) → Reads new (Stands j (set s r (Some v)))
    gate_reads_opened current becomes s reads f told =
        let o = gate_opened current becomes f told in
        gate_open j r v s o.before f low o.torn (reads o.before o.told) o.was_behind.body o.was_behind.fits o.is_open
