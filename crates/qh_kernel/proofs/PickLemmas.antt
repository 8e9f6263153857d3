-- Lanes of shuffled vectors. A list of positions is told from the function that it lists, by computing it.
use Rattle.std.proofs.Common.{◌≡◌, ℕ, ◌<◌, ◌≤◌, ◌+◌, ◌-◌, ◌^◌, ℤ, pos, List, ◌++◌, map, length, get_or, sym, ap, ◌∙◌, arith, if◌then◌else◌, nat_eq, Bool, true, false}
use Rattle.std.specs.Int.{bit_at}
use Rattle.std.specs.List.{range_with_len}
use Rattle.std.proofs.lemmas.List.{get_or-map, length-map, get_or_append_left, get_or-append_right}
use Rattle.std.proofs.lemmas.List.FromFn.{get_or-map-range_with_len, length-map-range_with_len}
use Rattle.qh_kernel.specs.Lanes.{at_lane, AreBelow, flipped, chosen}
use Rattle.qh_kernel.proofs.BoundLemmas.{below_more, flipped_below}
use Rattle.qh_kernel.proofs.WordLemmas.{word_back}
use mir.Syntax.{Width}
use mir.Val.{to_z, of_z, hbits}

-- the lanes at these positions of two joined vectors
abbrev pub picked : Width → List ℤ → List ℤ → List ℕ → List ℤ
picked w xs ys ks = map (λ k. to_z w (get_or (map (of_z w) xs ++ map (of_z w) ys) k 0)) ks

-- the positions that f gives for n lanes
abbrev pub listed_places : (ℕ → ℕ) → ℕ → List ℕ
listed_places f n = map f (range_with_len 0 n)

first_lane : (w : Width) (n : ℕ) (xs ys : List ℤ) (k : ℕ) → AreBelow n (hbits w) xs → k < n → to_z w (get_or (map (of_z w) xs ++ map (of_z w) ys) k 0) ≡ at_lane xs k
first_lane w n xs ys k h l =
    let e = h.len in
    let lx : length (map (of_z w) xs) ≡ n = length-map xs (of_z w) ∙ h.len in
    ap (to_z w) (get_or_append_left (map (of_z w) xs) (map (of_z w) ys) 0 k (omega arith) ∙ get_or-map (of_z w) xs k (pos 0) 0 (omega arith)) ∙ word_back w (get_or xs k (pos 0)) (h.each k l)

second_lane : (w : Width) (n : ℕ) (xs ys : List ℤ) (k : ℕ) → AreBelow n (hbits w) xs → AreBelow n (hbits w) ys → k < n → to_z w (get_or (map (of_z w) xs ++ map (of_z w) ys) (n + k) 0) ≡ at_lane ys k
second_lane w n xs ys k g h l =
    let e = h.len in
    let lx : length (map (of_z w) xs) ≡ n = length-map xs (of_z w) ∙ g.len in
    let d : n + k - n ≡ k = omega arith in
    ap (to_z w) (get_or-append_right (map (of_z w) xs) (map (of_z w) ys) n (n + k) 0 lx (omega arith) ∙ ap (λ i. get_or (map (of_z w) ys) i 0) d ∙ get_or-map (of_z w) ys k (pos 0) 0 (omega arith)) ∙ word_back w (get_or ys k (pos 0)) (h.each k l)

-- what stands at the place that f gives
pub picked_lane : (w : Width) (xs ys : List ℤ) (f : ℕ → ℕ) (n : ℕ) (r : ℕ) → r < n
    → at_lane (picked w xs ys (listed_places f n)) r ≡ to_z w (get_or (map (of_z w) xs ++ map (of_z w) ys) (f r) 0)
picked_lane w xs ys f n r l =
    let len : length (listed_places f n) ≡ n = length-map-range_with_len f 0 n in
    let z : 0 + r ≡ r = omega arith in
    get_or-map (λ k. to_z w (get_or (map (of_z w) xs ++ map (of_z w) ys) k 0)) (listed_places f n) r 0 (pos 0) (omega arith)
    ∙ ap (λ k. to_z w (get_or (map (of_z w) xs ++ map (of_z w) ys) k 0)) (get_or-map-range_with_len f 0 n r r 0 l z)

pub partner_lanes : (w : Width) (p q bits place : ℕ) (xs : List ℤ) → place ≡ q → q < p → bits ≤ hbits w → AreBelow (2 ^ p) bits xs
    → (r : ℕ) → r < 2 ^ p → at_lane (picked w xs xs (listed_places (flipped q) (2 ^ p))) r ≡ at_lane xs (flipped place r)
partner_lanes w p q bits place xs e b room h r l =
    picked_lane w xs xs (flipped q) (2 ^ p) r l
    ∙ first_lane w (2 ^ p) xs xs (flipped q r) (below_more (2 ^ p) bits (hbits w) xs room h) (flipped_below q p r b l)
    ∙ ap (λ t. at_lane xs (flipped t r)) (sym e)

-- the lane itself, or the one of the second vector
abbrev pub blend_place : ℕ → ℕ → ℕ → ℕ
blend_place n q r = chosen q r r (n + r)

pub blend_lanes : (w : Width) (n q bits place : ℕ) (xs ys : List ℤ) → place ≡ q → bits ≤ hbits w → AreBelow n bits xs → AreBelow n bits ys
    → (r : ℕ) → r < n → at_lane (picked w xs ys (listed_places (blend_place n q) n)) r ≡ chosen place r (at_lane xs r) (at_lane ys r)
blend_lanes w n q bits place xs ys e room h k r l =
    picked_lane w xs ys (blend_place n q) n r l
    ∙ by_bit (nat_eq (bit_at r q) 0)
    ∙ ap (λ t. chosen t r (at_lane xs r) (at_lane ys r)) (sym e)
  where
    by_bit : (b : Bool) → to_z w (get_or (map (of_z w) xs ++ map (of_z w) ys) (if b then r else n + r) 0) ≡ if b then at_lane xs r else at_lane ys r
    by_bit true = first_lane w n xs ys r (below_more n bits (hbits w) xs room h) l
    by_bit false = second_lane w n xs ys r (below_more n bits (hbits w) xs room h) (below_more n bits (hbits w) ys room k) l
