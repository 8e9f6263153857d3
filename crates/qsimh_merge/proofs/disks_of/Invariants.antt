-- The disks so far are those of the words that came, and the words that are left follow these.
use Rattle.std.specs.Prelude.{◌≡◌, ◌++◌, length, map, false, Some}
use Rattle.std.specs.String.{string_bytes}
use Rattle.std.specs.Vec.Iter.{into_iter_items, into_iter_len}
use Rattle.qsimh_merge.proofs.disks_of.Given as goal

abbrev pub invariant-loop-word : goal.invariant-loop-word
invariant-loop-word g l =
    (l.yielded ++ into_iter_items l.word-iterator ≡ into_iter_items l.initial.word-iterator)
    × (l.disks.items ≡ map (λ w. record { path = Some (string_bytes w); changes = false; faults = 0 }) l.yielded)
    × (into_iter_len l.word-iterator ≡ length (into_iter_items l.word-iterator))
