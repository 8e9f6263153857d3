use Rattle.std.proofs.Common.{◌≡◌, ◌++◌, [], ◌∷◌, List, map, reverse, drop, sym, ◌∙◌, ap, subst, arith}
use Rattle.std.proofs.lemmas.List.{map-append, length-map}
use Rattle.std.specs.List.{All}
use Rattle.qh_disk.proofs.Replay.{room_push}
use Rattle.qh_disk.specs.History.{HasRoom, History, Event, State, state_of, sized}
use Rattle.qh_disk.specs.declared.change.Change.TheVariants.{Sized}
use Rattle.qh_disk.specs.Event.{event_of}
use Rattle.qh_disk.proofs.Events.{unchanged_sized, Pushed, sized_done, sized_stretched, state_pushed, pending_pushed}
use Rattle.qh_disk.proofs.memory.MemDiskDisk.set_len.Goals as goal

abbrev history : goal.After-note → History
history c = record { first = c.self.inside.first.items; events = map event_of c.note.new.changes.items; room = c.self.inside.room; plan = c.refuses.new.self; shortages = c.self.inside.shortages; faults = c.self.inside.faults }

events_are : (c : goal.After-note) → map event_of c.note.new.changes.items ≡ map event_of c.self.inside.changes.items ++ sized c.args.length ∷ []
events_are c = let e = map-append event_of c.self.inside.changes.items (Sized c.args.length ∷ []) in cc (c.make_place.ensures.items, c.note.ensures.items, e)

more : (c : goal.After-note) → Pushed c.args.self.now (history c) (sized c.args.length)
more c = record {
  first = ap (λ (h : History). h.first) c.self.view_is;
  events = cc (events_are c, ap (λ (h : History). h.events) c.self.view_is);
}

pub invariant_of-self-2 : goal.invariant_of-self-2
invariant_of-self-2 c =
    let k = c.self.invariant in
    let is = state_pushed c.args.self.now (history c) (sized c.args.length) (more c) in
    let was = ap state_of c.self.view_is in
    record {
      content = cc (ap (λ (s : State). s.content) is, k.content, was, c.resize.ensures.items);
      safe = cc (ap (λ (s : State). s.safe) is, k.safe, was);
      pending = ap (λ (s : State). s.pending) is
          ∙ pending_pushed c.self.inside.settled (map event_of c.self.inside.changes.items) (state_of c.args.self.now).pending _ (omega (arith, k.settled, length-map c.self.inside.changes.items event_of)) (cc (k.pending, was))
          ∙ ap (λ (es : List Event). reverse (drop c.self.inside.settled es)) (sym (events_are c));
      sizes = subst (λ (es : List Event). All (HasRoom c.self.inside.room) es) (sym (events_are c)) (room_push c.self.inside.room (map event_of c.self.inside.changes.items) (sized c.args.length) k.sizes (omega arith));
      settled = omega arith;
      place = λ _. omega (arith, c.in-Ok.ensures.room);
      fits = omega arith;
      safe_fits = omega arith;
      room = omega arith;
      safe_room = omega arith;
    }

pub returns-clause-resized : goal.returns-clause-resized
returns-clause-resized c = sized_done _ (history c) _ (more c)

pub returns-clause-stretched : goal.returns-clause-stretched
returns-clause-stretched c = sized_stretched _ (history c) _ (more c)

pub returns-then-refuses-clause-stretched : goal.returns-then-refuses-clause-stretched
returns-then-refuses-clause-stretched c = unchanged_sized c.args.self.now (record c.args.self.now { first = c.self.inside.first.items; events = map event_of c.self.inside.changes.items; faults = c.failed.new.faults }) c.args.length (ap (λ (h : History). h.first) c.self.view_is) (ap (λ (h : History). h.events) c.self.view_is)

pub returns-then-length-self-clause-stretched : goal.returns-then-length-self-clause-stretched
returns-then-length-self-clause-stretched c = unchanged_sized c.args.self.now (record c.args.self.now { first = c.self.inside.first.items; events = map event_of c.self.inside.changes.items; faults = c.failed-then-length-self.new.faults }) c.args.length (ap (λ (h : History). h.first) c.self.view_is) (ap (λ (h : History). h.events) c.self.view_is)

pub returns-in_default-clause-stretched : goal.returns-in_default-clause-stretched
returns-in_default-clause-stretched c = unchanged_sized c.args.self.now (record c.args.self.now { first = c.self.inside.first.items; events = map event_of c.make_place.new.changes.items; faults = c.fell_short.new.faults }) c.args.length (ap (λ (h : History). h.first) c.self.view_is) (cc (c.make_place.ensures.items, ap (λ (h : History). h.events) c.self.view_is))
