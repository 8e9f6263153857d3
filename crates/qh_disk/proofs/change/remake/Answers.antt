use Rattle.std.proofs.Common.{◌≡◌, ◌+◌, List, ℕ, ◌++◌, [], ◌∷◌, take, map, reverse, get_or, sym, ◌∙◌, ap, subst, arith}
use Rattle.std.proofs.lemmas.List.{length-map, take_more, get_or-map}
use Rattle.qh_disk.specs.declared.change.Change.{Change}
use Rattle.qh_disk.specs.Event.{event_of}
use Rattle.qh_disk.specs.History.{Event, synced, remade, HasRoom}
use Rattle.qh_disk.proofs.Replay.{one_more, reversed_more}
use Rattle.qh_disk.proofs.change.remake.Goals as goal

pub redo-requires-clause-size : goal.redo-requires-clause-size
redo-requires-clause-size c =
    let i = c.loop-change.change-index in
    let all = c.args.changes.now in
    let is : get_or (map event_of all) i synced ≡ event_of c.change-item.result =
    get_or-map event_of all i c.change-item.result synced c.loop-change-test.true ∙ ap event_of (sym c.change-item.is) in
    subst (λ (e : Event). HasRoom c.args.room e) is (c.requires.sizes i synced (omega (arith, c.loop-change-test.true, length-map all event_of)))

pub loop-change-preserved : goal.loop-change-preserved
loop-change-preserved c =
    let i = c.loop-change.change-index in
    let all = c.args.changes.now in
    let more : take (i + 1) all ≡ take i all ++ c.change-item.result ∷ [] =
    take_more all i c.change-item.result c.loop-change-test.true ∙ ap (λ (x : Change). take i all ++ x ∷ []) (sym c.change-item.is) in
    let events : reverse (map event_of (take (i + 1) all)) ≡ event_of c.change-item.result ∷ reverse (map event_of (take i all)) =
    ap (λ (l : List Change). reverse (map event_of l)) more ∙ reversed_more (take i all) c.change-item.result in
    record {
      bytes = c.redo.ensures.bytes
          ∙ ap (λ (f : List ℕ). remade c.args.blank f (event_of c.change-item.result ∷ [])) c.loop-change.invariant.bytes
          ∙ one_more c.args.blank c.args.bytes.now.items (reverse (map event_of (take i all))) (event_of c.change-item.result)
          ∙ ap (λ (es : List Event). remade c.args.blank c.args.bytes.now.items es) (sym events);
      fits = omega arith;
      room = omega arith;
    }
