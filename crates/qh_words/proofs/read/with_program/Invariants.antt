use Rattle.std.proofs.Common.{◌≡◌, ◌∷◌, map, string_bytes, take}
use Rattle.qh_words.specs.Command.{program}
use Rattle.qh_words.proofs.read.with_program.Given as goal

abbrev pub invariant-loop-word : goal.invariant-loop-word
invariant-loop-word l = map (λ s. s.now) l.list.items ≡ program ∷ map string_bytes (take l.word-index l.words)
