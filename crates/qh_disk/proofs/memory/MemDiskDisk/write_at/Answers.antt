use Rattle.std.proofs.Common.{◌≡◌, ◌++◌, [], ◌∷◌, List, map, reverse, drop, refl, sym, ◌∙◌, ap, subst, arith}
use Rattle.std.proofs.lemmas.List.{map-append, length-map}
use Rattle.std.specs.List.{All}
use Rattle.qh_disk.proofs.Replay.{room_push}
use Rattle.qh_disk.specs.History.{HasRoom, History, Event, State, state_of, wrote}
use Rattle.qh_disk.specs.Event.{event_of}
use Rattle.qh_disk.proofs.Events.{Pushed, wrote_written, wrote_torn, state_pushed, pending_pushed}
use Rattle.qh_disk.proofs.memory.MemDiskDisk.write_at.Goals as goal

abbrev history : goal.After-note → History
history c = record { first = c.self.inside.first.items; events = map event_of c.note.new.changes.items; room = c.self.inside.room; plan = c.refuses.new.self; shortages = c.self.inside.shortages; faults = c.self.inside.faults }

events_are : (c : goal.After-note) → map event_of c.note.new.changes.items ≡ map event_of c.self.inside.changes.items ++ wrote c.args.at c.args.bytes.now ∷ []
events_are c = let w = c.in-Ok.ensures in let e = map-append event_of c.self.inside.changes.items (c.in-Ok.change ∷ []) in cc (w.change, w.items, c.note.ensures.items, e)

more : (c : goal.After-note) → Pushed c.args.self.now (history c) (wrote c.args.at c.args.bytes.now)
more c = record {
  first = ap (λ (h : History). h.first) c.self.view_is;
  events = cc (events_are c, ap (λ (h : History). h.events) c.self.view_is);
}

pub invariant_of-self-2 : goal.invariant_of-self-2
invariant_of-self-2 c =
    let k = c.self.invariant in
    let is = state_pushed c.args.self.now (history c) (wrote c.args.at c.args.bytes.now) (more c) in
    let was = ap state_of c.self.view_is in
    record {
      content = cc (ap (λ (s : State). s.content) is, k.content, was, c.place.ensures.items);
      safe = cc (ap (λ (s : State). s.safe) is, k.safe, was);
      pending = ap (λ (s : State). s.pending) is
          ∙ pending_pushed c.self.inside.settled (map event_of c.self.inside.changes.items) (state_of c.args.self.now).pending _ (omega (arith, k.settled, length-map c.self.inside.changes.items event_of)) (cc (k.pending, was))
          ∙ ap (λ (es : List Event). reverse (drop c.self.inside.settled es)) (sym (events_are c));
      sizes = subst (λ (es : List Event). All (HasRoom c.self.inside.room) es) (sym (events_are c)) (room_push c.self.inside.room (map event_of c.self.inside.changes.items) (wrote c.args.at c.args.bytes.now) k.sizes tt);
      settled = omega arith;
      place = λ _. omega (arith, c.in-Ok.ensures.room);
      fits = omega arith;
      safe_fits = omega arith;
      room = omega arith;
      safe_room = omega arith;
    }

pub returns-clause-written : goal.returns-clause-written
returns-clause-written c = wrote_written _ (history c) _ _ (more c) (c.requires _ refl)

pub returns-clause-torn : goal.returns-clause-torn
returns-clause-torn c = wrote_torn _ (history c) _ _ (more c)
