use Rattle.std.proofs.Common.{◌≡◌, ◌+◌, ◌-◌, ◌*◌, ◌≤◌, ℕ, List, ◌∷◌, ◌++◌, length, take, drop, set, refl, sym, ap, ◌∙◌, arith}
use Rattle.std.proofs.lemmas.List.{append-nil, drop_all, length-drop, length-set}
use Rattle.std.proofs.lemmas.Slice.{between_to_end}
use Rattle.qh_slots.specs.Layout.{mark}
use Rattle.qh_slots.specs.Slots.{spelled}
use Rattle.qh_slots.proofs.ByteLemmas.{first_and, overwritten_all}
use Rattle.qh_slots.proofs.SpellingLemmas.{has_space, spelled_size}
use Rattle.qh_migrate.proofs.moving.spell.Goals as goal

-- the bytes behind the gate are as many as a body has
behind : (bytes : List ℕ) (n m : ℕ) → n ≡ length (set bytes 0 mark) → length bytes ≡ 10 + m → length (take (n - 1) (drop 1 (set bytes 0 mark))) ≡ 9 + m
behind bytes n m is size =
    let s = length-set bytes 0 mark in
    let d = length-drop 1 (set bytes 0 mark) in
    ap (λ (k : ℕ). length (take (k - 1) (drop 1 (set bytes 0 mark)))) is ∙ ap (λ (l : List ℕ). length l) (between_to_end (set bytes 0 mark) 1 (length (set bytes 0 mark)) (omega arith)) ∙ omega arith

all_of : (xs ys : List ℕ) → length ys ≤ length xs → xs ≡ xs ++ drop (length xs) ys
all_of xs ys le = sym (ap (λ (l : List ℕ). xs ++ l) (drop_all (length xs) ys le) ∙ append-nil xs)

pub put_slot-requires : goal.put_slot-requires
put_slot-requires c =
    has_space c.args.job.now c.args.range _ c.args.verdict.now c.requires.fits (behind c.args.slot.now (length (set c.args.slot.now 0 mark)) (64 * length c.args.job.now.bits) refl c.requires.size)

pub returns : goal.returns
returns c =
    let j = c.args.job.now in
    let v = c.args.verdict.now in
    let bytes = c.args.slot.now in
    let s = length-set bytes 0 mark in
    let size = spelled_size j c.args.range v c.requires.fits in
    let d = length-drop 1 (set bytes 0 mark) in
    let filled : c.put_slot.new.out ≡ spelled j v = c.put_slot.ensures (length j.bits) (behind bytes (length (set bytes 0 mark)) (64 * length j.bits) refl c.requires.size) in
    first_and mark (spelled j v) bytes c.put_slot.new.out (omega arith) (filled ∙ all_of (spelled j v) (drop 1 (set bytes 0 mark)) (omega arith)) ∙ overwritten_all (mark ∷ spelled j v) bytes (omega arith)
