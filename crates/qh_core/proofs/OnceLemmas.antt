-- A history acknowledges each range at most once.
use Rattle.std.proofs.Common.{◌≡◌, ℕ, ◌+◌, ◌≤◌, Bool, true, false, ◌&&◌, cond, eqb, List, [], ◌∷◌, ◌++◌, inl, inr, length, sym, ◌∙◌, subst, arith}
use Rattle.std.specs.Prelude.{fold, count_by}
use Rattle.std.specs.List.{flat_map}
use Rattle.std.proofs.lemmas.Bool.{and_parts, cases_eq, eq-eqb, ne_eqb}
use Rattle.std.proofs.lemmas.List.Sums.{sum_by-cons}
use Rattle.qh_core.specs.declared.event.Event.{Event}
use Rattle.qh_core.specs.declared.event.Event.TheVariants.{Ack}
use Rattle.qh_core.specs.Machine.{State, start, answer_to, next}
use Rattle.qh_core.specs.Law.{is_done, acknowledgements}
use Rattle.qh_core.proofs.LeaseLaw.{once_law}
use Rattle.qh_core.specs.declared.noted.Noted.{Noted}
use Rattle.qh_core.specs.declared.noted.Noted.TheVariants.{Granted, Back, Acked, Halted}
use Rattle.qh_core.specs.Noted.{storing, events_of, acks_range}
use Rattle.qh_core.specs.Replay.{CourseView, is_begun, opening, replay_events, are_done, IsReplay}
use Rattle.qh_core.proofs.MoveLemmas.{are_done-append}

acknowledgements-append : (r : ℕ) (xs ys : List Event) (s : State)
    → acknowledgements r s (xs ++ ys) ≡ acknowledgements r s xs + acknowledgements r (fold next s xs) ys
acknowledgements-append r [] ys s = omega arith
acknowledgements-append r (x ∷ xs) ys s = let rest = acknowledgements-append r xs ys (next s x) in omega arith

-- an acknowledgement at the end that is done is counted
last_counts : (r range : ℕ) (xs : List Event) (s : State) → are_done s (xs ++ Ack range ∷ []) ≡ true
    → cond (eqb range r) 1 0 ≤ acknowledgements r s (xs ++ Ack range ∷ [])
last_counts r range [] s done =
    let answered : is_done (answer_to s (Ack range)) ≡ true = (and_parts (is_done (answer_to s (Ack range))) true done).0 in
    subst (λ b. cond (eqb range r) 1 0 ≤ cond (eqb range r && b) 1 0 + 0) (sym answered) (last_one (eqb range r))
  where
    last_one : (b : Bool) → cond b 1 0 ≤ cond (b && true) 1 0 + 0
    last_one true = omega arith
    last_one false = omega arith
last_counts r range (x ∷ xs) s done =
    let rest : cond (eqb range r) 1 0 ≤ acknowledgements r (next s x) (xs ++ Ack range ∷ []) =
    last_counts r range xs (next s x) (and_parts (is_done (answer_to s x)) (are_done (next s x) (xs ++ Ack range ∷ [])) done).1 in
    omega arith

eqb_comm : (a b : ℕ) → eqb a b ≡ eqb b a
eqb_comm a b = elim (cases_eq a b) [
  | inl same ↦ eq-eqb a b same ∙ sym (eq-eqb b a (sym same))
  | inr other ↦ ne_eqb a b other ∙ sym (ne_eqb b a (λ same. other (sym same)))
]

-- the events of an entry that acknowledges the range acknowledge it
entry_counts : (r : ℕ) (note : Noted) (s : State) → are_done s (events_of note) ≡ true → cond (acks_range r note) 1 0 ≤ acknowledgements r s (events_of note)
entry_counts r (Granted range attempt) s done = omega arith
entry_counts r (Back range attempt) s done = omega arith
entry_counts r (Acked range attempt) s done =
    subst (λ b. cond b 1 0 ≤ acknowledgements r s (storing range ++ Ack range ∷ [])) (eqb_comm range r)
    (last_counts r range (storing range) s done)
entry_counts r (Halted faults) s done = omega arith

-- the entries that acknowledge a range are at most as many as its acknowledgements
history_counts : (r : ℕ) (history : List Noted) (s : State) → are_done s (flat_map events_of history) ≡ true
    → count_by (acks_range r) history ≤ acknowledgements r s (flat_map events_of history)
history_counts r [] s done = omega arith
history_counts r (note ∷ history) s done =
    let events = events_of note in
    let more = flat_map events_of history in
    let parts = and_parts (are_done s events) (are_done (fold next s events) more) (sym (are_done-append events more s) ∙ done) in
    let first = entry_counts r note s parts.0 in
    let rest = history_counts r history (fold next s events) parts.1 in
    let count : count_by (acks_range r) (note ∷ history) ≡ cond (acks_range r note) 1 0 + count_by (acks_range r) history =
    sum_by-cons (λ x. cond (acks_range r x) 1 0) note history in
    let all = acknowledgements-append r events more s in
    omega arith

-- the machine acknowledges a range at most once, and so does a history that it replays
pub acked_once : (c : CourseView) (range : ℕ) → IsReplay c → count_by (acks_range range) c.history ≤ 1
acked_once c range replay =
    let first = start (length c.leases) in
    let opened = opening (length c.leases) (is_begun c) in
    let entries = flat_map events_of c.history in
    let parts = and_parts (are_done first opened) (are_done (fold next first opened) entries) (sym (are_done-append opened entries first) ∙ replay.legal) in
    let counted = history_counts range c.history (fold next first opened) parts.1 in
    let all = acknowledgements-append range opened entries first in
    let law = once_law (length c.leases) (replay_events c) range in
    omega arith
