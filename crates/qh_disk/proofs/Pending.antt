-- The changes since the last sync, as a slice of all of them.
use Rattle.std.proofs.Common.{◌≡◌, ◌-◌, ◌≤◌, ℕ, List, [], length, take, drop, map, reverse, sym, ◌∙◌, ap, subst, arith}
use Rattle.std.proofs.lemmas.List.{take_rest, drop-map, drop_all, length-map}
use Rattle.std.proofs.lemmas.List.Elements.{All-drop}
use Rattle.std.specs.List.{All}
use Rattle.qh_disk.specs.declared.change.Change.{Change}
use Rattle.qh_disk.specs.Event.{event_of}
use Rattle.qh_disk.specs.History.{Event, HasRoom}

-- the items from `settled` on
abbrev pub tail : ℕ → List Change → List Change
tail settled changes = take (length changes - settled) (drop settled changes)

pub since_is : (settled : ℕ) (all changes : List Change) → all ≡ changes → map event_of (tail settled all) ≡ drop settled (map event_of changes)
since_is settled all changes same =
    ap (λ (l : List Change). map event_of (tail settled l)) same
    ∙ ap (λ (l : List Change). map event_of l) (take_rest changes settled)
    ∙ sym (drop-map event_of settled changes)

pub since_room : (room settled : ℕ) (all changes : List Change) → all ≡ changes → All (HasRoom room) (map event_of changes) → All (HasRoom room) (map event_of (tail settled all))
since_room room settled all changes same fits =
    subst (λ (es : List Event). All (HasRoom room) es) (sym (since_is settled all changes same)) (All-drop (HasRoom room) settled (map event_of changes) fits)

-- where all is settled, nothing is pending
pub none_since : (settled : ℕ) (changes : List Change) → length changes ≤ settled → reverse (drop settled (map event_of changes)) ≡ []
none_since settled changes all =
    ap (λ (es : List Event). reverse es) (drop_all settled (map event_of changes) (omega (arith, length-map changes event_of)))
