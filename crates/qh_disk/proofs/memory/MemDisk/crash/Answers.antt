use Rattle.std.proofs.Common.{◌≡◌, ◌++◌, [], ◌∷◌, List, ℕ, map, reverse, refl, sym, ◌∙◌, ap, subst, arith}
use Rattle.std.proofs.lemmas.List.{map-append}
use Rattle.std.specs.List.{All}
use Rattle.qh_disk.specs.declared.change.Change.{Change}
use Rattle.qh_disk.specs.declared.change.Change.TheVariants.{Crashed}
use Rattle.qh_disk.specs.History.{HasRoom, History, Event, State, state_of, content_of, crashed, picked, IsPicked, current_law, after_reads, start}
use Rattle.qh_disk.specs.Event.{event_of}
use Rattle.qh_disk.proofs.Replay.{left_picked, picked_settled, picked_is, content_remade, room_push}
use Rattle.qh_disk.proofs.Events.{Pushed, state_pushed, settled_safe, crashed_content, crashed_safe, crashed_image}
use Rattle.qh_disk.proofs.Pending.{since_is, since_room, none_since}
use Rattle.qh_disk.proofs.memory.MemDisk.crash.Goals as goal

pub returns-then-self-len-clause-picked : goal.returns-then-self-len-clause-picked
returns-then-self-len-clause-picked c =
    let none : (state_of c.args.self.now).pending ≡ [] =
    ap (λ (h : History). (state_of h).pending) (sym c.self.view_is) ∙ c.self.invariant.pending ∙ none_since c.self.inside.settled c.self.inside.changes.items (omega (arith, c.self.inside.changes.ok.0)) in
    picked_settled c.args.pick (state_of c.args.self.now) (after_reads (start c.args.self.now.first) c.args.self.now.events refl) none

pub returns-then-self-len-clause-named : goal.returns-then-self-len-clause-named
returns-then-self-len-clause-named c =
    subst (λ (f : List ℕ). IsPicked c.args.pick (state_of c.args.self.now) f) (sym (returns-then-self-len-clause-picked c)) (picked_is c.args.pick (state_of c.args.self.now) (content_remade c.args.self.now.first c.args.self.now.events))

pub returns-then-self-len-clause-image : goal.returns-then-self-len-clause-image
returns-then-self-len-clause-image c = current_law c.args.self.now (content_of c.args.self.now) refl

pub returns-then-self-len-clause-safe : goal.returns-then-self-len-clause-safe
returns-then-self-len-clause-safe c =
    settled_safe c.args.self.now
    (ap (λ (h : History). (state_of h).pending) (sym c.self.view_is) ∙ c.self.invariant.pending ∙ none_since c.self.inside.settled c.self.inside.changes.items (omega (arith, c.self.inside.changes.ok.0)))

pub settle-requires-clause-sizes : goal.settle-requires-clause-sizes
settle-requires-clause-sizes c = since_room c.self.inside.room c.self.inside.settled _ c.self.inside.changes.items c.deref.ensures.value c.self.invariant.sizes

abbrev history : goal.After-self-1 → History
history c = record { first = c.self.inside.first.items; events = map event_of c.note.new.changes.items; room = c.self.inside.room; plan = c.self.inside.plan; shortages = c.self.inside.shortages; faults = c.self.inside.faults }

events_are : (c : goal.After-self-1) → map event_of c.note.new.changes.items ≡ map event_of c.self.inside.changes.items ++ crashed c.args.pick ∷ []
events_are c = ap (λ (l : List Change). map event_of l) c.note.ensures.items ∙ map-append event_of c.self.inside.changes.items (Crashed c.args.pick ∷ [])

more : (c : goal.After-self-1) → Pushed c.args.self.now (history c) (crashed c.args.pick)
more c = record {
  first = ap (λ (h : History). h.first) c.self.view_is;
  events = cc (events_are c, ap (λ (h : History). h.events) c.self.view_is);
}

-- what was safe is brought to the image that the crash leaves
safe_is : (c : goal.After-self-1) → c.settle.new.safe.items ≡ picked c.args.pick (state_of c.args.self.now)
safe_is c =
    let k = c.self.invariant in
    let was = ap state_of c.self.view_is in
    c.settle.ensures.bytes
    ∙ left_picked c.args.pick (state_of c.args.self.now) _ _
    (content_remade c.args.self.now.first c.args.self.now.events)
    (k.safe ∙ ap (λ (s : State). s.safe) was)
    (ap (λ (es : List Event). reverse es) (since_is c.self.inside.settled _ c.self.inside.changes.items c.deref.ensures.value) ∙ sym k.pending ∙ ap (λ (s : State). s.pending) was)

pub invariant_of-self : goal.invariant_of-self
invariant_of-self c =
    let is = state_pushed c.args.self.now _ (crashed c.args.pick) (more c) in
    record {
      content = cc (ap (λ (s : State). s.content) is, safe_is c, c.copy.ensures.items, c.deref-2.ensures.value);
      safe = cc (ap (λ (s : State). s.safe) is, safe_is c);
      pending = ap (λ (s : State). s.pending) is ∙ sym (none_since c.len-self-inside.result c.note.new.changes.items (omega (arith, c.note.new.changes.ok.0)));
      sizes = subst (λ (es : List Event). All (HasRoom c.self.inside.room) es) (sym (events_are c)) (room_push c.self.inside.room (map event_of c.self.inside.changes.items) (crashed c.args.pick) c.self.invariant.sizes tt);
      settled = omega arith;
      place = λ lt. absurd (omega arith);
      fits = omega arith;
      safe_fits = omega arith;
      room = omega arith;
      safe_room = omega arith;
    }

pub returns-clause-image : goal.returns-clause-image
returns-clause-image c = crashed_image _ _ c.args.pick (more c)

pub returns-clause-picked : goal.returns-clause-picked
returns-clause-picked c = crashed_content _ _ c.args.pick (more c)

pub returns-clause-safe : goal.returns-clause-safe
returns-clause-safe c = crashed_safe _ _ c.args.pick (more c)

pub returns-clause-named : goal.returns-clause-named
returns-clause-named c =
    subst (λ (f : List ℕ). IsPicked c.args.pick (state_of c.args.self.now) f) (sym (returns-clause-picked c)) (picked_is c.args.pick (state_of c.args.self.now) (content_remade c.args.self.now.first c.args.self.now.events))
