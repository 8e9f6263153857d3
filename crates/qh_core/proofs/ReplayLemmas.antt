-- The replay of a course, at its start and with one more entry.
use Rattle.std.proofs.Common.{◌≡◌, ℕ, true, not, ◌&&◌, List, [], ◌∷◌, ◌++◌, length, map, None, sym, ap, ◌∙◌}
use Rattle.std.specs.Prelude.{fold, is_some}
use Rattle.std.specs.List.{flat_map}
use Rattle.std.proofs.lemmas.Bool.{and_from}
use Rattle.std.proofs.lemmas.List.{append-nil, flat_map_more}
use Rattle.std.proofs.lemmas.List.Sums.{fold-append}
use Rattle.std.proofs.Math.Bool.{and-true, and_assoc}
use Rattle.qh_lease.specs.Lease.{lease_at, is_acked}
use Rattle.qh_core.specs.Machine.{State, lease_of, start, after, next}
use Rattle.qh_core.specs.declared.noted.Noted.{Noted}
use Rattle.qh_core.specs.Noted.{events_of, acked_in}
use Rattle.qh_core.specs.Replay.{CourseView, is_begun, opening, replay_events, machine_of, slot_for, are_done, is_named, are_named, IsReplay}
use Rattle.qh_core.proofs.MoveLemmas.{settled, Leads, leads_on}
use Rattle.qh_core.proofs.OpeningLemmas.{is_found, opening_leads, opened_is_found}

-- the machine of a course that is not halted
pub machine_runs : (c : CourseView) → c.fault ≡ None → machine_of c ≡ settled c.leases
machine_runs c running = λ i. record { leases = c.leases; slots = map slot_for c.leases; up = true; halted = is_some (running i) }

are_named-append : (history : List Noted) (note : Noted) (s : State)
    → are_named s (history ++ note ∷ []) ≡ (are_named s history && is_named (fold next s (flat_map events_of history)) note)
are_named-append [] note s = and-true (is_named s note)
are_named-append (first ∷ history) note s =
    let s' : State = fold next s (events_of first) in
    ap (λ b. is_named s first && b) (are_named-append history note s')
    ∙ (sym (and_assoc (is_named s first) (are_named s' history) (is_named (fold next s' (flat_map events_of history)) note))
    ∙ ap (λ m. (is_named s first && are_named s' history) && is_named m note) (sym (fold-append next s (events_of first) (flat_map events_of history))))

-- one more entry, whose events the machine takes
pub replay_more : (old new : CourseView) (note : Noted) → IsReplay old → length new.leases ≡ length old.leases → new.history ≡ old.history ++ note ∷ []
    → ((r : ℕ) → is_begun new r ≡ is_begun old r)
    → Leads (machine_of old) (events_of note) (machine_of new) → is_named (machine_of old) note ≡ true
    → IsReplay new
replay_more old new note replay ranges more begun moves named =
    let first = start (length old.leases) in
    let opened = opening (length old.leases) (is_begun old) in
    let opened_is : opening (length new.leases) (is_begun new) ≡ opened = λ i. opening (ranges i) (λ r. begun r i) in
    let events_are : replay_events new ≡ replay_events old ++ events_of note =
    (λ i. opened_is i ++ flat_map events_of (more i)) ∙ sym (flat_map_more events_of opened old.history note) in
    let before : Leads first (replay_events old) (machine_of old) = record { done = replay.legal; ends = replay.state } in
    let whole : Leads first (replay_events old ++ events_of note) (machine_of new) = leads_on before moves in
    let reached : fold next (fold next first opened) (flat_map events_of old.history) ≡ machine_of old =
    sym (fold-append next first opened (flat_map events_of old.history)) ∙ replay.state in
    record {
      state = (λ i. after (ranges i) (events_are i)) ∙ whole.ends;
      legal = (λ i. are_done (start (ranges i)) (events_are i)) ∙ whole.done;
      named =
          (λ i. are_named (after (ranges i) (opened_is i)) (more i))
          ∙ (are_named-append old.history note (fold next first opened)
          ∙ and_from _ _ replay.named (ap (λ m. is_named m note) reached ∙ named));
    }

-- before the first entry the events are those of the start of the run
early_events : (c : CourseView) → c.history ≡ [] → replay_events c ≡ opening (length c.leases) (is_begun c)
early_events c early = ap (λ h. opening (length c.leases) (is_begun c) ++ flat_map events_of h) early ∙ append-nil (opening (length c.leases) (is_begun c))

-- and the acknowledged ranges are those that were stored before
early_begun : (c : CourseView) → c.history ≡ [] → is_begun c ≡ (λ r. is_acked (lease_at c.leases r))
early_begun c early = λ i. λ r. (ap (λ h. is_acked (lease_at c.leases r) && not (acked_in h r)) early ∙ and-true (is_acked (lease_at c.leases r))) i

-- so each range is fresh or acknowledged
pub early_is_found : (c : CourseView) → c.history ≡ [] → IsReplay c → (range : ℕ) → is_found (lease_at c.leases range) ≡ true
early_is_found c early replay range =
    ap (λ (s : State). is_found (lease_of s range)) (sym replay.state ∙ ap (after (length c.leases)) (early_events c early))
    ∙ opened_is_found (length c.leases) (is_begun c) range

-- where each range is, the run starts with these leases
pub replay_early : (c : CourseView) → c.history ≡ [] → c.fault ≡ None → ((range : ℕ) → is_found (lease_at c.leases range) ≡ true) → IsReplay c
replay_early c early running found =
    let opens = opening_leads c.leases found in
    let events_are = early_events c early ∙ ap (opening (length c.leases)) (early_begun c early) in
    record {
      state = ap (after (length c.leases)) events_are ∙ (opens.ends ∙ sym (machine_runs c running));
      legal = ap (are_done (start (length c.leases))) events_are ∙ opens.done;
      named = ap (are_named (after (length c.leases) (opening (length c.leases) (is_begun c)))) early;
    }
