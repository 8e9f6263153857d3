use Rattle.std.proofs.Common.{◌≡◌, ◌-◌, ◌++◌, [], ◌∷◌, List, length, map, reverse, drop, take, sym, ◌∙◌, ap, subst, arith}
use Rattle.std.proofs.lemmas.List.{map-append}
use Rattle.std.specs.List.{All}
use Rattle.qh_disk.proofs.Replay.{room_push, content_remade}
use Rattle.qh_disk.specs.History.{HasRoom, History, Event, State, state_of, synced}
use Rattle.qh_disk.specs.declared.change.Change.TheVariants.{Synced}
use Rattle.qh_disk.specs.Event.{event_of}
use Rattle.qh_disk.proofs.Events.{Pushed, synced_safe, synced_shrinks, state_pushed}
use Rattle.qh_disk.proofs.Pending.{since_is, since_room, none_since}
use Rattle.qh_disk.proofs.memory.MemDiskDisk.sync.Goals as goal

abbrev history : goal.After-self-1 → History
history c = record { first = c.self.inside.first.items; events = map event_of c.note.new.changes.items; room = c.self.inside.room; plan = c.refuses.new.self; shortages = c.self.inside.shortages; faults = c.self.inside.faults }

events_are : (c : goal.After-self-1) → map event_of c.note.new.changes.items ≡ map event_of c.self.inside.changes.items ++ synced ∷ []
events_are c = let e = map-append event_of c.self.inside.changes.items (Synced ∷ []) in cc (c.make_place.ensures.items, c.note.ensures.items, e)

more : (c : goal.After-self-1) → Pushed c.args.self.now (history c) synced
more c = record {
  first = ap (λ (h : History). h.first) c.self.view_is;
  events = cc (events_are c, ap (λ (h : History). h.events) c.self.view_is);
}

-- the changes since the last sync, made again on what was safe, give what it reads as
safe_is : (c : goal.After-self-1) → c.remake.new.bytes.items ≡ (state_of c.args.self.now).content
safe_is c =
    let k = c.self.invariant in
    let was = ap state_of c.self.view_is in
    let changes : c.deref.result.now ≡ c.self.inside.changes.items = c.deref.ensures.value ∙ c.make_place.ensures.items in
    let pending : reverse (map event_of (take (length c.deref.result.now - c.self.inside.settled) (drop c.self.inside.settled c.deref.result.now))) ≡ (state_of c.args.self.now).pending =
    ap (λ (es : List Event). reverse es) (since_is c.self.inside.settled _ _ changes) ∙ sym k.pending ∙ ap (λ (s : State). s.pending) was in
    let safe : c.self.inside.safe.items ≡ (state_of c.args.self.now).safe = k.safe ∙ ap (λ (s : State). s.safe) was in
    cc (c.remake.ensures.bytes, pending, safe, content_remade c.args.self.now.first c.args.self.now.events)

pub remake-requires-clause-sizes : goal.remake-requires-clause-sizes
remake-requires-clause-sizes c = since_room c.self.inside.room c.self.inside.settled _ c.self.inside.changes.items (c.deref.ensures.value ∙ c.make_place.ensures.items) c.self.invariant.sizes

pub invariant_of-self-2 : goal.invariant_of-self-2
invariant_of-self-2 c =
    let k = c.self.invariant in
    let is = state_pushed c.args.self.now _ synced (more c) in
    let was = ap state_of c.self.view_is in
    record {
      content = cc (ap (λ (s : State). s.content) is, k.content, was);
      safe = cc (ap (λ (s : State). s.safe) is, safe_is c);
      pending = ap (λ (s : State). s.pending) is ∙ sym (none_since c.len-self-inside.result c.note.new.changes.items (omega (arith, c.note.new.changes.ok.0)));
      sizes = subst (λ (es : List Event). All (HasRoom c.self.inside.room) es) (sym (events_are c)) (room_push c.self.inside.room (map event_of c.self.inside.changes.items) synced k.sizes tt);
      settled = omega arith;
      place = λ lt. absurd (omega arith);
      fits = omega arith;
      safe_fits = omega arith;
      room = omega arith;
      safe_room = omega arith;
    }

pub returns-clause-safe : goal.returns-clause-safe
returns-clause-safe c = synced_safe _ _ (more c)

pub returns-clause-shrinks : goal.returns-clause-shrinks
returns-clause-shrinks c = synced_shrinks _ _ (more c)
