-- Bounds of a state's numbers and of the blocks that hold them.
use Rattle.std.proofs.Common.{◌≡◌, ℕ, ◌+◌, ◌-◌, ◌*◌, ◌/◌, ◌%◌, ◌^◌, ◌<◌, ◌≤◌, inl, inr, ℤ, List, length, get_or, map, arith, ap, sym, subst, ◌∙◌}
use Rattle.std.specs.List.{All}
use Rattle.std.proofs.lemmas.Nat.{pow_pos, mod_below}
use Rattle.std.proofs.lemmas.Bool.{cases_lt}
use Rattle.std.proofs.Math.Pow.{pow_mono}
use Rattle.std.proofs.lemmas.List.{length-map, get_or-map, get_or_past}
use Rattle.std.proofs.lemmas.List.Elements.{All-map}
use Rattle.std.proofs.lemmas.List.FromFn.{get_or-map-range_with_len, length-map-range_with_len}
use Rattle.qh_ring.specs.declared.number.Omega.{Omega}
use Rattle.qh_ring.specs.Numbers.{IsWithin, nothing}
use Rattle.qh_ring.specs.States.{applied, at_index, applied_list, listed}
use Rattle.qh_ring.proofs.ListedLemmas.{length-listed, at_listed, applied_listed}
use Rattle.qh_kernel.proofs.DoneLemmas.{AreQubits}
use Rattle.qh_blocks.specs.declared.block.Block.{Block}
use Rattle.qh_blocks.specs.Blocks.{lane, IsBlock}
use Rattle.qh_blocks.specs.Numbers.{number_at, number_in_block, numbers}
use Rattle.qh_blocks.proofs.NumbersLemmas.{length_numbers, block_below}
use Rattle.qh_blocks.proofs.PartLemmas.{applied_at, block_more, blocks_more}
use Rattle.qh_blocks.proofs.ScanLemmas.{blocks_of_numbers}
use Rattle.qh_blocks.proofs.FitLemmas.{lane_is_within}
use Rattle.qh_narrow.specs.Columns.{first_numbers, AreBlocksOf}
use Rattle.qh_narrow.proofs.BlocksLemmas.{room_of, applied_above}

within_more : (m n : ℕ) (z : Omega) → m ≤ n → IsWithin m z → IsWithin n z
within_more m n z l h =
    let p : 2 ^ m ≤ 2 ^ n = pow_mono l in
    let ha = h.a in let hb = h.b in let hc = h.c in let hd = h.d in
    record { a = omega arith; b = omega arith; c = omega arith; d = omega arith }

pub within_nothing : (n : ℕ) → IsWithin n nothing
within_nothing n = record { a = pow_pos n; b = pow_pos n; c = pow_pos n; d = pow_pos n }

below_room : (k m n : ℕ) → k < m → m ≤ n → k < n
below_room k m n l h = omega arith

-- ---- a list of a state
pub all_listed : (q n : ℕ) (f : ℕ → Omega) → ((k : ℕ) → k < 2 ^ q → IsWithin n (f k)) → All (IsWithin n) (listed q f)
unfolding listed
all_listed q n f h i d l =
    let li : i < 2 ^ q = subst (λ t. i < t) (length-listed q f) l in
    let z : 0 + i ≡ i = omega arith in
    subst (IsWithin n) (sym (get_or-map-range_with_len f 0 (2 ^ q) i i d li z)) (h i li)

each_listed : (q n : ℕ) (f : ℕ → Omega) (k : ℕ) → All (IsWithin n) (listed q f) → k < 2 ^ q → IsWithin n (f k)
each_listed q n f k h l = subst (IsWithin n) (at_listed q f k l) (h k nothing (subst (λ t. k < t) (sym (length-listed q f)) l))

-- ---- what a matrix makes of all that the blocks hold
each_applied : {V : Type 0} (lanes : V → List ℤ) (b n : ℕ) (m : ℕ → ℕ → Omega) (qs : List ℕ) (v : List (Block V)) (k : ℕ) → All (IsWithin n) (applied_list m qs (numbers lanes b v))
    → k < 2 ^ b * length v → IsWithin n (applied m qs (number_at lanes b v) k)
unfolding applied_list
each_applied lanes b n m qs v k h l =
    let len = length (numbers lanes b v) in
    let f = applied m qs (at_index (numbers lanes b v)) in
    let ln : k < len = subst (λ t. k < t) (sym (length_numbers lanes b v)) l in
    let z : 0 + k ≡ k = omega arith in
    subst (IsWithin n) (get_or-map-range_with_len f 0 len k k nothing ln z ∙ sym (applied_at lanes b m qs v k)) (h k nothing (subst (λ t. k < t) (sym (length-map-range_with_len f 0 len)) ln))

all_applied : {V : Type 0} (lanes : V → List ℤ) (b n : ℕ) (m : ℕ → ℕ → Omega) (qs : List ℕ) (v : List (Block V)) → ((k : ℕ) → IsWithin n (applied m qs (number_at lanes b v) k))
    → All (IsWithin n) (applied_list m qs (numbers lanes b v))
unfolding applied_list
all_applied lanes b n m qs v h i d l =
    let len = length (numbers lanes b v) in
    let f = applied m qs (at_index (numbers lanes b v)) in
    let li : i < len = subst (λ t. i < t) (length-map-range_with_len f 0 len) l in
    let z : 0 + i ≡ i = omega arith in
    subst (IsWithin n) (applied_at lanes b m qs v i ∙ sym (get_or-map-range_with_len f 0 len i i d li z)) (h i)

-- the new numbers of the state fit exactly where all in the blocks do
pub first_fit : {V : Type 0} (lanes : V → List ℤ) (b q n : ℕ) (m : ℕ → ℕ → Omega) (qs : List ℕ) (v : List (Block V)) → AreQubits q qs → AreBlocksOf lanes b q v
    → All (IsWithin n) (applied_list m qs (numbers lanes b v)) → All (IsWithin n) (applied_list m qs (first_numbers lanes b q v))
first_fit lanes b q n m qs v are h all =
    let f = number_at lanes b v in
    subst (All (IsWithin n)) (sym (applied_listed q m qs f are.less))
    (all_listed q n (applied m qs f) (λ k l. each_applied lanes b n m qs v k all (below_room k (2 ^ q) (2 ^ b * length v) l (room_of lanes b q v h))))

pub all_fit : {V : Type 0} (lanes : V → List ℤ) (b q n : ℕ) (m : ℕ → ℕ → Omega) (qs : List ℕ) (v : List (Block V)) → AreQubits q qs → AreBlocksOf lanes b q v
    → All (IsWithin n) (applied_list m qs (first_numbers lanes b q v)) → All (IsWithin n) (applied_list m qs (numbers lanes b v))
all_fit lanes b q n m qs v are h first =
    let f = number_at lanes b v in
    let new : All (IsWithin n) (listed q (applied m qs f)) = subst (All (IsWithin n)) (applied_listed q m qs f are.less) first in
    all_applied lanes b n m qs v (λ k. elim (cases_lt k (2 ^ q)) [
      | inl l ↦ each_listed q n (applied m qs f) k new l
      | inr g ↦ subst (IsWithin n) (sym (applied_above q m qs f k are h.others g)) (within_nothing n)
    ])

-- ---- the bound of the numbers is that of the blocks
pub first_within : {V : Type 0} (lanes : V → List ℤ) (b q bits : ℕ) (v : List (Block V)) → AreBlocksOf lanes b q v → All (IsBlock lanes (2 ^ b) bits) v
    → All (IsWithin bits) (first_numbers lanes b q v)
first_within lanes b q bits v o h = all_listed q bits (number_at lanes b v) (λ k l.
    let r : k % 2 ^ b < 2 ^ b = mod_below k (2 ^ b) (pow_pos b) in
    let i : k / 2 ^ b < length v = block_below k b (length v) (below_room k (2 ^ q) (2 ^ b * length v) l (room_of lanes b q v o)) in
    All-map (IsWithin bits) (lane lanes (k % 2 ^ b)) v (λ j d m. lane_is_within lanes (2 ^ b) bits (get_or v j d) (k % 2 ^ b) r (h j d m)) (k / 2 ^ b) nothing
    (subst (λ t. k / 2 ^ b < t) (sym (length-map v (lane lanes (k % 2 ^ b)))) i))

last_bit : (bits room : ℕ) → bits < room → bits ≤ room - 1
last_bit bits room l = omega arith

pub first_below : {V : Type 0} (lanes : V → List ℤ) (b q bits room : ℕ) (v : List (Block V)) → bits < room → AreBlocksOf lanes b q v → All (IsBlock lanes (2 ^ b) bits) v
    → All (IsWithin (room - 1)) (first_numbers lanes b q v)
first_below lanes b q bits room v l o h i d m =
    within_more bits (room - 1) (get_or (first_numbers lanes b q v) i d) (last_bit bits room l) (first_within lanes b q bits v o h i d m)

all_numbers : {V : Type 0} (lanes : V → List ℤ) (b q n : ℕ) (v : List (Block V)) → AreBlocksOf lanes b q v → All (IsWithin n) (first_numbers lanes b q v) → All (IsWithin n) (numbers lanes b v)
unfolding numbers
all_numbers lanes b q n v o h i d l =
    let f = number_at lanes b v in
    let li : i < 2 ^ b * length v = subst (λ t. i < t) (length-map-range_with_len f 0 (2 ^ b * length v)) l in
    let z : 0 + i ≡ i = omega arith in
    subst (IsWithin n) (sym (get_or-map-range_with_len f 0 (2 ^ b * length v) i i d li z)) (elim (cases_lt i (2 ^ q)) [
      | inl s ↦ each_listed q n f i h s
      | inr g ↦ subst (IsWithin n) (sym (o.others i g)) (within_nothing n)
    ])

pub blocks_within : {V : Type 0} (lanes : V → List ℤ) (b q bits n : ℕ) (v : List (Block V)) → AreBlocksOf lanes b q v → All (IsBlock lanes (2 ^ b) bits) v
    → All (IsWithin n) (first_numbers lanes b q v) → All (IsBlock lanes (2 ^ b) n) v
blocks_within lanes b q bits n v o h first = blocks_of_numbers lanes b bits n v h (all_numbers lanes b q n v o first)

-- ---- one number
pub number_here : {V : Type 0} (lanes : V → List ℤ) (b q : ℕ) (v : List (Block V)) (i k r : ℕ) (x : Block V) → i < 2 ^ q → k < length v → k ≡ i / 2 ^ b → r ≡ i % 2 ^ b
    → x ≡ get_or v k x → lane lanes r x ≡ at_index (first_numbers lanes b q v) i
number_here lanes b q v i k r x l lk ek er e =
    ap (λ n. lane lanes n x) er
    ∙ ap (lane lanes (i % 2 ^ b)) e
    ∙ sym (get_or-map (lane lanes (i % 2 ^ b)) v k x nothing lk)
    ∙ ap (λ n. number_in_block lanes v n (i % 2 ^ b)) ek
    ∙ sym (at_listed q (number_at lanes b v) i l)

-- a block that is not there has the numbers 0
pub number_past : {V : Type 0} (lanes : V → List ℤ) (b q : ℕ) (v : List (Block V)) (i k : ℕ) → i < 2 ^ q → length v ≤ k → k ≡ i / 2 ^ b → nothing ≡ at_index (first_numbers lanes b q v) i
number_past lanes b q v i k l past e =
    sym (get_or_past (map (lane lanes (i % 2 ^ b)) v) (i / 2 ^ b) nothing (subst (λ n. n ≤ i / 2 ^ b) (sym (length-map v (lane lanes (i % 2 ^ b)))) (subst (λ n. length v ≤ n) e past)))
    ∙ sym (at_listed q (number_at lanes b v) i l)

pub kept_more : {V : Type 0} (lanes : V → List ℤ) (w bits room : ℕ) (v : List (Block V)) → bits < room → All (IsBlock lanes w bits) v → All (IsBlock lanes w (room - 1)) v
kept_more lanes w bits room v l h = blocks_more lanes w bits (room - 1) v (last_bit bits room l) h

pub block_room : {V : Type 0} (lanes : V → List ℤ) (w room : ℕ) (v : List (Block V)) (k : ℕ) (x : Block V) → All (IsBlock lanes w (room - 1)) v → k < length v → x ≡ get_or v k x → IsBlock lanes w room x
block_room lanes w room v k x h l e = block_more lanes w (room - 1) room x (omega arith) (subst (IsBlock lanes w (room - 1)) (sym e) (h k x l))

-- the number of a lane is within the bound of its block
pub lane_here : {V : Type 0} (lanes : V → List ℤ) (w bits : ℕ) (v : List (Block V)) (k r : ℕ) (x : Block V) → All (IsBlock lanes w bits) v → k < length v → r < w → x ≡ get_or v k x → IsWithin bits (lane lanes r x)
lane_here lanes w bits v k r x h l lr e = lane_is_within lanes w bits x r lr (subst (IsBlock lanes w bits) (sym e) (h k x l))
