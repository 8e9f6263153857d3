-- How far a matrix can widen numbers.
use Rattle.std.proofs.Common.{ℕ, ◌+◌, ◌<◌, ◌≤◌, ℤ, List, arith, max}
use Rattle.qh_ring.specs.declared.matrix.Entry.{Entry}
use Rattle.qh_ring.specs.declared.matrix.Entry.TheVariants.{Zero, Unit as Power}
use Rattle.qh_ring.specs.Matrices.{entry_in}
use Rattle.qh_blocks.specs.declared.block.Block.{Block}
use Rattle.qh_blocks.specs.Blocks.{IsBlock}
use Rattle.qh_blocks.specs.Widths.{row_width, width_after}
use Rattle.qh_blocks.proofs.PartLemmas.{block_more}

row_least : (e f : Entry) (bits : ℕ) → bits ≤ row_width e f bits
row_least Zero f bits = omega arith
row_least (Power i) Zero bits = omega arith
row_least (Power i) (Power j) bits = omega arith

row_most : (e f : Entry) (bits : ℕ) → row_width e f bits ≤ bits + 1
row_most Zero f bits = omega arith
row_most (Power i) Zero bits = omega arith
row_most (Power i) (Power j) bits = omega arith

left_of_max : (a b : ℕ) → a ≤ max a b
left_of_max a b = omega arith

right_of_max : (a b : ℕ) → b ≤ max a b
right_of_max a b = omega arith

above_least : (a b c : ℕ) → a ≤ b → a ≤ max b c
above_least a b c l = omega arith

both_below : (a b c : ℕ) → a ≤ c → b ≤ c → max a b ≤ c
both_below a b c l m = omega arith

pub width_least : (rows : List (List Entry)) (bits : ℕ) → bits ≤ width_after rows bits
width_least rows bits = above_least bits (row_width (entry_in rows 0 0) (entry_in rows 0 1) bits) _ (row_least (entry_in rows 0 0) (entry_in rows 0 1) bits)

pub width_most : (rows : List (List Entry)) (bits : ℕ) → width_after rows bits ≤ bits + 1
width_most rows bits =
    both_below (row_width (entry_in rows 0 0) (entry_in rows 0 1) bits) (row_width (entry_in rows 1 0) (entry_in rows 1 1) bits) (bits + 1)
    (row_most (entry_in rows 0 0) (entry_in rows 0 1) bits) (row_most (entry_in rows 1 0) (entry_in rows 1 1) bits)

pub low_width : {V : Type 0} (lanes : V → List ℤ) (w bits : ℕ) (rows : List (List Entry)) (x : Block V) → IsBlock lanes w (row_width (entry_in rows 0 0) (entry_in rows 0 1) bits) x
    → IsBlock lanes w (width_after rows bits) x
low_width lanes w bits rows x h = block_more lanes w (row_width (entry_in rows 0 0) (entry_in rows 0 1) bits) (width_after rows bits) x (left_of_max _ _) h

pub high_width : {V : Type 0} (lanes : V → List ℤ) (w bits : ℕ) (rows : List (List Entry)) (x : Block V) → IsBlock lanes w (row_width (entry_in rows 1 0) (entry_in rows 1 1) bits) x
    → IsBlock lanes w (width_after rows bits) x
high_width lanes w bits rows x h = block_more lanes w (row_width (entry_in rows 1 0) (entry_in rows 1 1) bits) (width_after rows bits) x (right_of_max _ _) h

steps : (a b c : ℕ) → a ≤ b + 1 → b < c → a ≤ c
steps a b c l m = omega arith

pub width_room : (rows : List (List Entry)) (bits room : ℕ) → bits < room → width_after rows bits ≤ room
width_room rows bits room l = steps (width_after rows bits) bits room (width_most rows bits) l
