-- How far a run has been applied to blocks: to those before place a, which are whole tiles.
use Rattle.std.proofs.Common.{◌≡◌, ℕ, zero, ◌+◌, ◌-◌, ◌*◌, ◌/◌, ◌%◌, ◌^◌, ◌<◌, ◌≤◌, inl, inr, ℤ, List, [], ◌∷◌, ◌++◌, length, get_or, take, drop, length-append, arith, refl, sym, ap, subst, ◌∙◌, map}
use Rattle.std.proofs.Math.Path.{ap₂}
use Rattle.std.proofs.Math.Pow.{pow_mono}
use Rattle.std.proofs.Math.Seq.{take-add}
use Rattle.std.specs.List.{All}
use borrow.Rule.Slice.PartMut.{mid_of, put_mid}
use Rattle.std.proofs.lemmas.Bool.{cases_lt}
use Rattle.std.proofs.lemmas.Slice.{take-put_mid, drop-put_mid}
use Rattle.std.proofs.lemmas.List.{map-append, get_or_append_left, get_or-append-add, length-map, length-take-le, length-drop, take_all, take_more, take-append-drop, drop-drop}
use Rattle.std.proofs.Math.Seq.{get_or-append_right}
use Rattle.std.proofs.lemmas.List.Elements.{All-append, All-take, All-drop}
use Rattle.std.proofs.lemmas.List.FromFn.{fill_by_all}
use Rattle.std.proofs.lemmas.Nat.{pow_pos, pow-add, mod_below, mul-le}
use Rattle.qh_limits.specs.Limits.{max_part_qubits}
use Rattle.qh_ring.specs.declared.number.Omega.{Omega}
use Rattle.qh_ring.specs.Numbers.{nothing}
use Rattle.qh_ring.specs.States.{at_index}
use Rattle.qh_blocks.specs.declared.block.Block.{Block}
use Rattle.qh_blocks.specs.Blocks.{lane, IsBlock}
use Rattle.qh_blocks.specs.Numbers.{number_in_block, number_at, numbers}
use Rattle.qh_blocks.proofs.NumbersLemmas.{parts_of, block_below, length_numbers, number_of_list}
use Rattle.qh_blocks.proofs.PartLemmas.{number_there}
use Rattle.qh_passes.specs.declared.turn.Turn.{Turn}
use Rattle.qh_passes.specs.Turns.{turned, after_turns, IsTurnIn, width_turned, width_after_turns}
use Rattle.qh_passes.proofs.RunLemmas.{length_after, run_append, turns_append, widths_append, widths_least}

-- ---- the numbers of two lists of blocks
first_numbers_at : {V : Type 0} (lanes : V → List ℤ) (b : ℕ) (xs ys : List (Block V)) (k : ℕ) → k < 2 ^ b * length xs → number_at lanes b xs k ≡ number_at lanes b (xs ++ ys) k
first_numbers_at lanes b xs ys k l =
    let f = lane lanes (k % 2 ^ b) in
    let h : k / 2 ^ b < length (map f xs) = subst (λ n. k / 2 ^ b < n) (sym (length-map xs f)) (block_below k b (length xs) l) in
    sym (ap (λ u. at_index u (k / 2 ^ b)) (map-append f xs ys) ∙ get_or_append_left (map f xs) (map f ys) nothing (k / 2 ^ b) h)

second_numbers_at : {V : Type 0} (lanes : V → List ℤ) (b : ℕ) (xs ys : List (Block V)) (k : ℕ) → number_at lanes b ys k ≡ number_at lanes b (xs ++ ys) (k + 2 ^ b * length xs)
second_numbers_at lanes b xs ys k =
    let r = k % 2 ^ b in
    let q = k / 2 ^ b in
    let f = lane lanes r in
    let p = parts_of k b in
    let c : 2 ^ b * length xs ≡ length xs * 2 ^ b = omega arith in
    let d : (length xs + q) * 2 ^ b ≡ length xs * 2 ^ b + q * 2 ^ b = omega arith in
    let e : k + 2 ^ b * length xs ≡ r + (length xs + q) * 2 ^ b = omega arith in
    sym (ap (number_at lanes b (xs ++ ys)) e
    ∙ number_there lanes b (xs ++ ys) (length xs + q) r (mod_below k (2 ^ b) (pow_pos b))
    ∙ ap (λ u. at_index u (length xs + q)) (map-append f xs ys)
    ∙ ap (λ n. at_index (map f xs ++ map f ys) (n + q)) (sym (length-map xs f))
    ∙ get_or-append-add (map f xs) (map f ys) q nothing)

pub numbers_append : {V : Type 0} (lanes : V → List ℤ) (b : ℕ) (xs ys : List (Block V)) → numbers lanes b xs ++ numbers lanes b ys ≡ numbers lanes b (xs ++ ys)
unfolding numbers
numbers_append lanes b xs ys =
    let us = numbers lanes b xs in
    let ws = numbers lanes b ys in
    let lu : length us ≡ 2 ^ b * length xs = length_numbers lanes b xs in
    let lw : length ws ≡ 2 ^ b * length ys = length_numbers lanes b ys in
    let all : 2 ^ b * length (xs ++ ys) ≡ 2 ^ b * length xs + 2 ^ b * length ys =
    ap (λ n. 2 ^ b * n) (length-append xs ys) ∙ spread (2 ^ b) (length xs) (length ys) in
    fill_by_all (number_at lanes b (xs ++ ys)) (us ++ ws) (2 ^ b * length (xs ++ ys)) nothing
    (length-append us ws ∙ ap₂ (λ i j. i + j) lu lw ∙ sym all)
    (λ k l. elim (cases_lt k (2 ^ b * length xs)) [
      | inl h ↦ get_or_append_left us ws nothing k (omega (arith, lu)) ∙ number_of_list lanes b xs k h ∙ first_numbers_at lanes b xs ys k h
      | inr g ↦
          let y = k - 2 ^ b * length xs in
          let ey : k - length us ≡ y = ap (λ n. k - n) lu in
          let ek : y + 2 ^ b * length xs ≡ k = omega arith in
          get_or-append_right us ws k nothing (omega (arith, lu))
          ∙ ap (at_index ws) ey
          ∙ number_of_list lanes b ys y (omega (arith, all))
          ∙ second_numbers_at lanes b xs ys y
          ∙ ap (number_at lanes b (xs ++ ys)) ek
    ])
  where
    spread : (p m n : ℕ) → p * (m + n) ≡ p * m + p * n
    spread p m n = omega arith

-- ---- places of tiles
pub tiles_end : (qubits tile : ℕ) → tile ≤ qubits → 2 ^ (qubits - tile) * 2 ^ tile ≡ 2 ^ qubits
tiles_end qubits tile l = let e : qubits - tile + tile ≡ qubits = omega arith in sym (pow-add 2 (qubits - tile) tile) ∙ ap (λ k. 2 ^ k) e

pub tile_end : (qubits tile n : ℕ) → tile ≤ qubits → n < 2 ^ (qubits - tile) → n * 2 ^ tile + 2 ^ tile ≤ 2 ^ qubits
tile_end qubits tile n l h =
    let p = tiles_end qubits tile l in
    let m : (n + 1) * 2 ^ tile ≤ 2 ^ (qubits - tile) * 2 ^ tile = mul-le (n + 1) (2 ^ tile) (2 ^ (qubits - tile)) (2 ^ tile) (omega arith) (omega arith) in
    let d : (n + 1) * 2 ^ tile ≡ n * 2 ^ tile + 2 ^ tile = omega arith in
    omega arith

pub all_tiles : (qubits tile n count len : ℕ) → tile ≤ qubits → count ≡ 2 ^ (qubits - tile) → count ≤ n → len ≡ 2 ^ qubits → len ≤ n * 2 ^ tile
all_tiles qubits tile n count len l ec h el =
    let p = tiles_end qubits tile l in
    let m : 2 ^ (qubits - tile) * 2 ^ tile ≤ n * 2 ^ tile = mul-le (2 ^ (qubits - tile)) (2 ^ tile) n (2 ^ tile) (omega arith) (omega arith) in
    omega arith

pub next_tile : (n p : ℕ) → (n + 1) * p ≡ n * p + p
next_tile n p = omega arith

-- it is a number of the machine
pub tile_small : (qubits tile n : ℕ) → qubits ≤ max_part_qubits → tile ≤ qubits → n < 2 ^ (qubits - tile) → n * 2 ^ tile + 2 ^ tile ≤ 2 ^ 20
tile_small qubits tile n few l h = let e = tile_end qubits tile n l h in let p : 2 ^ qubits ≤ 2 ^ 20 = pow_mono few in omega arith

-- ---- so far
pub record IsTiled {V : Type 0} (lanes : V → List ℤ) (b out : ℕ) (run : List Turn) (v0 v : List (Block V)) (a : ℕ) : Type 0 where
  pub same_length : length v ≡ length v0
  pub done : numbers lanes b (take a v) ≡ after_turns run (numbers lanes b (take a v0))
  pub rest : drop a v ≡ drop a v0
  pub bounded : All (IsBlock lanes (2 ^ b) out) (take a v)

both_empty : {A : Type 0} (xs ys : List A) → length xs ≡ 0 → length ys ≡ 0 → xs ≡ ys
both_empty [] [] e f = refl
both_empty [] (y ∷ ys) e f = absurd (omega arith)
both_empty (x ∷ xs) ys e f = absurd (omega arith)

pub tiled_none : {V : Type 0} (lanes : V → List ℤ) (b out : ℕ) (run : List Turn) (v : List (Block V)) (a : ℕ) → a ≡ 0 → IsTiled lanes b out run v v a
tiled_none lanes b out run v a z = subst (IsTiled lanes b out run v v) (sym z) (record {
  same_length = refl;
  done =
      let e : length (numbers lanes b []) ≡ 0 = length_numbers lanes b [] ∙ omega arith in
      both_empty (numbers lanes b []) (after_turns run (numbers lanes b [])) e (length_after run (numbers lanes b []) ∙ e);
  rest = refl;
  bounded = λ i d l. absurd (omega arith);
})

-- a tile that was not done
pub tile_bounded : {V : Type 0} (lanes : V → List ℤ) (b bits out : ℕ) (run : List Turn) (v0 v : List (Block V)) (a k : ℕ) → All (IsBlock lanes (2 ^ b) bits) v0
    → IsTiled lanes b out run v0 v a → All (IsBlock lanes (2 ^ b) bits) (mid_of a k v)
tile_bounded lanes b bits out run v0 v a k all h =
    subst (λ u. All (IsBlock lanes (2 ^ b) bits) (take k u)) (sym h.rest) (All-take (IsBlock lanes (2 ^ b) bits) k (drop a v0) (All-drop (IsBlock lanes (2 ^ b) bits) a v0 all))

-- one more tile, from place p to place e
pub tiled_more : {V : Type 0} (lanes : V → List ℤ) (b out tile n p e a size : ℕ) (run : List Turn) (v0 v w : List (Block V)) → p ≡ n * 2 ^ tile → e ≡ n * 2 ^ tile + 2 ^ tile → a ≡ e → size ≡ e - p → e ≤ length v0
    → All (IsTurnIn (tile + b)) run → IsTiled lanes b out run v0 v p → length w ≡ length (mid_of p size v) → numbers lanes b w ≡ after_turns run (numbers lanes b (mid_of p size v))
    → All (IsBlock lanes (2 ^ b) out) w → IsTiled lanes b out run v0 (put_mid p size v w) a
tiled_more {V} lanes b out tile n p e a size run v0 v w ep ee ea es fits turns h lw ew bw = record {
  same_length = length_put ∙ h.same_length;
  done =
      ap (numbers lanes b) front
      ∙ sym (numbers_append lanes b (take p v) w)
      ∙ ap₂ (λ xs ys. xs ++ ys) h.done (ew ∙ ap (λ u. after_turns run (numbers lanes b (take size u))) h.rest)
      ∙ run_append (tile + b) n run (numbers lanes b (take p v0)) (numbers lanes b (take size (drop p v0))) turns whole
      ∙ ap (after_turns run) (numbers_append lanes b (take p v0) (take size (drop p v0)) ∙ ap (numbers lanes b) (sym front_old));
  rest = drop-put_mid p size v w a (omega (arith, ends)) here long ∙ past v ∙ ap (drop size) h.rest ∙ sym (past v0);
  bounded = subst (All (IsBlock lanes (2 ^ b) out)) (sym front) (All-append (IsBlock lanes (2 ^ b) out) (take p v) w h.bounded bw);
}
  where
    ends : a ≡ p + size
    ends = omega arith

    here : p ≤ length v
    here = let s = h.same_length in omega arith

    long : length w ≡ size
    long = let s = h.same_length in lw ∙ length-take-le size (drop p v) (let d = length-drop p v in omega arith)

    front : take a (put_mid p size v w) ≡ take p v ++ w
    front = take-put_mid p size v w a (omega (arith, ends, long)) here

    front_old : take a v0 ≡ take p v0 ++ take size (drop p v0)
    front_old = ap (λ k. take k v0) ends ∙ take-add p size v0

    past : (u : List (Block V)) → drop a u ≡ drop size (drop p u)
    past u = ap (λ k. drop k u) ends ∙ sym (drop-drop size p u)

    turned_round : (x y z : ℕ) → x * (y * z) ≡ y * (z * x)
    turned_round x y z = omega arith

    whole : length (numbers lanes b (take p v0)) ≡ n * 2 ^ (tile + b)
    whole =
        length_numbers lanes b (take p v0) ∙ ap (λ k. 2 ^ b * k) (length-take-le p v0 (omega arith) ∙ ep)
        ∙ turned_round (2 ^ b) n (2 ^ tile) ∙ ap (λ k. n * k) (sym (pow-add 2 tile b))

    length_put : length (put_mid p size v w) ≡ length v
    length_put =
        let s = h.same_length in
        length-append (take p v) (w ++ drop size (drop p v)) ∙ ap₂ (λ i j. i + j) (length-take-le p v here) (length-append w (drop size (drop p v)) ∙ ap₂ (λ i j. i + j) long (length-drop size (drop p v) ∙ ap (λ k. k - size) (length-drop p v)))
        ∙ omega (arith, ends)

pub tiled_exact : {V : Type 0} (lanes : V → List ℤ) (b out : ℕ) (run : List Turn) (v0 v : List (Block V)) (a : ℕ) → length v0 ≤ a → IsTiled lanes b out run v0 v a
    → numbers lanes b v ≡ after_turns run (numbers lanes b v0)
tiled_exact lanes b out run v0 v a l h =
    let e = h.same_length in
    ap (numbers lanes b) (sym (take_all a v (omega arith))) ∙ h.done ∙ ap (λ u. after_turns run (numbers lanes b u)) (take_all a v0 l)

pub tiled_bounded : {V : Type 0} (lanes : V → List ℤ) (b out : ℕ) (run : List Turn) (v0 v : List (Block V)) (a : ℕ) → length v0 ≤ a → IsTiled lanes b out run v0 v a
    → All (IsBlock lanes (2 ^ b) out) v
tiled_bounded lanes b out run v0 v a l h = let e = h.same_length in subst (All (IsBlock lanes (2 ^ b) out)) (take_all a v (omega arith)) h.bounded

-- ---- one tile: how far the run has come
pub record IsTurned {V : Type 0} (lanes : V → List ℤ) (b bits width : ℕ) (run : List Turn) (v0 v : List (Block V)) (i : ℕ) : Type 0 where
  pub same_length : length v ≡ length v0
  pub width_is : width ≡ width_after_turns (take i run) bits
  pub exact : numbers lanes b v ≡ after_turns (take i run) (numbers lanes b v0)
  pub bounded : All (IsBlock lanes (2 ^ b) width) v

pub turned_none : {V : Type 0} (lanes : V → List ℤ) (b bits : ℕ) (run : List Turn) (v : List (Block V)) → All (IsBlock lanes (2 ^ b) bits) v → IsTurned lanes b bits bits run v v 0
turned_none lanes b bits run v h = record { same_length = refl; width_is = refl; exact = refl; bounded = h }

pub turned_more : {V : Type 0} (lanes : V → List ℤ) (b bits width width' : ℕ) (run : List Turn) (v0 v v' : List (Block V)) (i : ℕ) (turn : Turn) → i < length run → turn ≡ get_or run i turn
    → IsTurned lanes b bits width run v0 v i → length v' ≡ length v → width' ≡ width_turned turn width
    → numbers lanes b v' ≡ turned turn (numbers lanes b v) → All (IsBlock lanes (2 ^ b) width') v' → IsTurned lanes b bits width' run v0 v' (i + 1)
turned_more lanes b bits width width' run v0 v v' i turn l is h len ew en bounded =
    let more : take (i + 1) run ≡ take i run ++ turn ∷ [] = take_more run i turn l ∙ ap (λ t. take i run ++ t ∷ []) (sym is) in
    record {
      same_length = len ∙ h.same_length;
      width_is = ew ∙ ap (width_turned turn) h.width_is ∙ sym (ap (λ ts. width_after_turns ts bits) more ∙ widths_append (take i run) (turn ∷ []) bits);
      exact = en ∙ ap (turned turn) h.exact
          ∙ sym (ap (λ ts. after_turns ts (numbers lanes b v0)) more ∙ turns_append (take i run) (turn ∷ []) (numbers lanes b v0));
      bounded = bounded;
    }

pub turned_room : {V : Type 0} (lanes : V → List ℤ) (b bits width room : ℕ) (run : List Turn) (v0 v : List (Block V)) (i : ℕ) → width_after_turns run bits < room
    → IsTurned lanes b bits width run v0 v i → width < room
turned_room lanes b bits width room run v0 v i r h =
    let w = h.width_is in
    let all : width_after_turns run bits ≡ width_after_turns (drop i run) (width_after_turns (take i run) bits) =
    ap (λ ts. width_after_turns ts bits) (sym (take-append-drop i run)) ∙ widths_append (take i run) (drop i run) bits in
    let l = widths_least (drop i run) (width_after_turns (take i run) bits) in
    omega arith

pub turned_exact : {V : Type 0} (lanes : V → List ℤ) (b bits width : ℕ) (run : List Turn) (v0 v : List (Block V)) (i : ℕ) → length run ≤ i → IsTurned lanes b bits width run v0 v i
    → numbers lanes b v ≡ after_turns run (numbers lanes b v0)
turned_exact lanes b bits width run v0 v i l h = h.exact ∙ ap (λ ts. after_turns ts (numbers lanes b v0)) (take_all i run l)

pub turned_bounded : {V : Type 0} (lanes : V → List ℤ) (b bits width : ℕ) (run : List Turn) (v0 v : List (Block V)) (i : ℕ) → length run ≤ i → IsTurned lanes b bits width run v0 v i
    → All (IsBlock lanes (2 ^ b) (width_after_turns run bits)) v
turned_bounded lanes b bits width run v0 v i l h =
    subst (λ n. All (IsBlock lanes (2 ^ b) n) v) (h.width_is ∙ ap (λ ts. width_after_turns ts bits) (take_all i run l)) h.bounded
