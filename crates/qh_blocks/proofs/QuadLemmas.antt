-- A matrix on two qubits, of which one or both may lie in the lanes.
use Rattle.std.proofs.Common.{◌≡◌, ◌≢◌, ℕ, zero, suc, ◌+◌, ◌-◌, ◌*◌, ◌^◌, ◌<◌, ℤ, List, [], ◌∷◌, length, set, get_or, arith, refl, sym, ap, ◌∙◌, if◌then◌else◌, nat_eq}
use Rattle.std.proofs.Math.Path.{ap₂}
use Rattle.std.proofs.Math.Nat.{mod-eq_of_lt}
use Rattle.std.specs.Int.{bit_at}
use Rattle.std.proofs.lemmas.Nat.Bits.{bit_at-lt}
use Rattle.qh_ring.specs.declared.number.Omega.{Omega}
use Rattle.qh_ring.specs.declared.matrix.Entry.{Entry}
use Rattle.qh_ring.specs.Numbers.{product}
use Rattle.qh_ring.specs.Matrices.{number_in}
use Rattle.qh_ring.specs.States.{sum_below, place_on, with_bit, applied}
use Rattle.qh_ring.proofs.BitLemmas.{bit_weight, bit_other, bit_low, with_low, with_bit_below}
use Rattle.qh_ring.proofs.AgreeLemmas.{bits_twice, place_bits}
use Rattle.qh_ring.proofs.SumLemmas.{sum_below_same}
use Rattle.qh_kernel.proofs.PlaceLemmas.{rank2, HasPlacesOf, below_four}
use Rattle.qh_kernel.proofs.GroupLemmas.{two_qubits, IsQuadAt}
use Rattle.qh_kernel.proofs.DoneLemmas.{AreQubits}
use Rattle.qh_kernel.specs.Lanes.{flipped, chosen}
use Rattle.qh_blocks.specs.declared.block.Block.{Block}
use Rattle.qh_blocks.specs.Blocks.{lane, block_of, IsBlock, AreFour}
use Rattle.qh_blocks.specs.Numbers.{number_at, one_of_four, row_of_four}
use Rattle.qh_blocks.proofs.PartLemmas.{IsPart, IsGroupReady, part_more}
use Rattle.qh_blocks.proofs.ValueLemmas.{bit_above, set_above, quad_value}

-- the sum over four columns where each number is told
pub columns_are : (row : ℕ → Omega) (x y z t : Omega) (g : ℕ → Omega) → x ≡ g 0 → y ≡ g 1 → z ≡ g 2 → t ≡ g 3
    → sum_below 4 (λ c. product (row c) (one_of_four x y z t c)) ≡ sum_below 4 (λ c. product (row c) (g c))
columns_are row x y z t g ex ey ez et = sum_below_same 4 _ _ (λ c d. ap (product (row c)) (below_four (λ c. one_of_four x y z t c ≡ g c) ex ey ez et c d))

pub four_columns : (rows : List (List Entry)) (j : ℕ) (x x' y y' z z' t t' : Omega) → x ≡ x' → y ≡ y' → z ≡ z' → t ≡ t' → row_of_four rows j x y z t ≡ row_of_four rows j x' y' z' t'
four_columns rows j x x' y y' z z' t t' ex ey ez et = columns_are (number_in rows j) x y z t (one_of_four x' y' z' t') ex ey ez et

-- ---- both qubits above the lanes
abbrev pub four_places : ℕ → ℕ → ℕ → List ℕ
four_places x low high = x ∷ (x + low) ∷ (x + high) ∷ (x + high + low) ∷ []

pub quad_more : {V : Type 0} (lanes : V → List ℤ) (b : ℕ) (m : ℕ → ℕ → Omega) (qubits q0 q1 near far bits p x low high : ℕ) (v0 v : List (Block V)) (old new : Block V × Block V × Block V × Block V)
    → q0 < qubits → q1 < qubits → q0 ≢ q1 → length v0 ≡ 2 ^ qubits → IsQuadAt qubits q0 q1 near far p x low high
    → IsGroupReady lanes b bits (q0 ∷ q1 ∷ []) (four_places x low high) v0 v → IsPart lanes b m ((q0 + b) ∷ (q1 + b) ∷ []) (rank2 near far) bits v0 v p
    → old.0 ≡ get_or v x old.0 → old.1 ≡ get_or v (x + low) old.1 → old.2 ≡ get_or v (x + high) old.2 → old.3 ≡ get_or v (x + high + low) old.3
    → ((j r : ℕ) → j < 4 → r < 2 ^ b → lane lanes r (block_of new j) ≡ sum_below 4 (λ c. product (m j c) (one_of_four (lane lanes r old.0) (lane lanes r old.1) (lane lanes r old.2) (lane lanes r old.3) c)))
    → AreFour lanes (2 ^ b) bits new
    → IsPart lanes b m ((q0 + b) ∷ (q1 + b) ∷ []) (rank2 near far) bits v0 (set (set (set (set v x new.0) (x + low) new.1) (x + high) new.2) (x + high + low) new.3) (p + 1)
quad_more {V} lanes b m qubits q0 q1 near far bits p x low high v0 v old new l0 l1 ne e at ready h e0 e1 e2 e3 value bounded =
    part_more lanes b m ((q0 + b) ∷ (q1 + b) ∷ []) (rank2 near far) bits v0 v p (q0 ∷ q1 ∷ []) qubits x (four_places x low high) (new.0 ∷ new.1 ∷ new.2 ∷ new.3 ∷ []) new.0
    (two_qubits qubits q0 q1 l0 l1 ne) e at.below at.group at.places h
    (λ j r lj lr.
    below_four (λ j. lane lanes r (get_or (new.0 ∷ new.1 ∷ new.2 ∷ new.3 ∷ []) j new.0) ≡ applied m ((q0 + b) ∷ (q1 + b) ∷ []) (number_at lanes b v0) (r + get_or (four_places x low high) j 0 * 2 ^ b))
    (one 0 r (omega arith) lr) (one 1 r (omega arith) lr) (one 2 r (omega arith) lr) (one 3 r (omega arith) lr) j lj)
    (below_four (λ j. IsBlock lanes (2 ^ b) bits (get_or (new.0 ∷ new.1 ∷ new.2 ∷ new.3 ∷ []) j new.0)) bounded.first bounded.second bounded.third bounded.fourth)
  where
    one : (j r : ℕ) → j < 4 → r < 2 ^ b → lane lanes r (block_of new j) ≡ applied m ((q0 + b) ∷ (q1 + b) ∷ []) (number_at lanes b v0) (r + get_or (four_places x low high) j 0 * 2 ^ b)
    one j r lj lr =
        quad_value b m qubits q0 q1 (number_at lanes b v0) x (four_places x low high) (lane lanes r old.0) (lane lanes r old.1) (lane lanes r old.2) (lane lanes r old.3) (lane lanes r (block_of new j)) r j
        (two_qubits qubits q0 q1 l0 l1 ne) at.places lj lr
        (ready.number 0 old.0 (omega arith) e0 r lr) (ready.number 1 old.1 (omega arith) e1 r lr) (ready.number 2 old.2 (omega arith) e2 r lr) (ready.number 3 old.3 (omega arith) e3 r lr)
        (value j r lj lr)

-- ---- a bit set to what it is
bit_kept : (q r : ℕ) → with_bit q (bit_at r q) r ≡ r
unfolding with_bit
bit_kept q r = let w = bit_weight r q in omega arith

kept_at : (q r b : ℕ) → bit_at r q ≡ b → r ≡ with_bit q b r
kept_at q r b e = sym (ap (λ t. with_bit q t r) (sym e) ∙ bit_kept q r)

turned_at : (q r b c : ℕ) → bit_at r q ≡ b → 1 - b ≡ c → flipped q r ≡ with_bit q c r
turned_at q r b c e f = ap (λ t. with_bit q (1 - t) r) e ∙ ap (λ t. with_bit q t r) f

bit_zero : (a : ℕ) → a < 2 → bit_at a 0 ≡ a
bit_zero zero l = refl
bit_zero (suc zero) l = refl
bit_zero (suc (suc a)) l = absurd (omega arith)

-- the other block of a pair
other_place : (n q low high j c : ℕ) → AreQubits n (q ∷ []) → HasPlacesOf (q ∷ []) low (low ∷ high ∷ []) → j < 2 → c < 2 → with_bit q c (get_or (low ∷ high ∷ []) j 0) ≡ get_or (low ∷ high ∷ []) c 0
other_place n q low high j c h at lj lc = ap₂ (λ s t. with_bit q s t) (sym (bit_zero c lc)) (sym (at j lj)) ∙ bits_twice (q ∷ []) c j low ∙ at c lc

pair_bit : (n q low high j : ℕ) → AreQubits n (q ∷ []) → HasPlacesOf (q ∷ []) low (low ∷ high ∷ []) → j < 2 → bit_at (get_or (low ∷ high ∷ []) j 0) q ≡ j
pair_bit n q low high j h at lj =
    let e : bit_at (get_or (low ∷ high ∷ []) j 0) q * 1 + 0 ≡ j = ap (place_on (q ∷ [])) (sym (at j lj)) ∙ place_bits (q ∷ []) j low h.distinct ∙ mod-eq_of_lt lj in
    omega arith

-- ---- the first qubit above the lanes, the second one of the lanes
high_low_applied : (b : ℕ) (m : ℕ → ℕ → Omega) (n q l : ℕ) (f : ℕ → Omega) (low high j r : ℕ) → AreQubits n (q ∷ []) → HasPlacesOf (q ∷ []) low (low ∷ high ∷ []) → l < b → j < 2 → r < 2 ^ b
    → applied m ((q + b) ∷ l ∷ []) f (r + get_or (low ∷ high ∷ []) j 0 * 2 ^ b)
    ≡ sum_below 4 (λ c. product (m (j * 2 + bit_at r l) c) (f (with_bit l (bit_at c 0) r + get_or (low ∷ high ∷ []) (bit_at c 1) 0 * 2 ^ b)))
unfolding applied
high_low_applied b m n q l f low high j r h at lb lj lr =
    let k = get_or (low ∷ high ∷ []) j 0 in
    let eh : bit_at (r + k * 2 ^ b) (q + b) ≡ j = bit_above b q r k lr ∙ pair_bit n q low high j h at lj in
    let el : bit_at (r + k * 2 ^ b) l ≡ bit_at r l = bit_low l b k r lb in
    let place : place_on ((q + b) ∷ l ∷ []) (r + k * 2 ^ b) ≡ j * 2 + bit_at r l = omega arith in
    sum_below_same 4 _ _ (λ c d. ap₂ product (ap (λ t. m t c) place)
    (ap f (ap (with_bit (q + b) (bit_at c 1)) (with_low l b k (bit_at c 0) r lb)
    ∙ set_above b q (bit_at c 1) (with_bit l (bit_at c 0) r) k (with_bit_below l b (bit_at c 0) r (bit_at-lt c 0) lb lr)
    ∙ ap (λ i. with_bit l (bit_at c 0) r + i * 2 ^ b) (other_place n q low high j (bit_at c 1) h at lj (bit_at-lt c 1)))))

pub high_low_value : (b : ℕ) (m : ℕ → ℕ → Omega) (n q l : ℕ) (f : ℕ → Omega) (low high : ℕ) (x px y py one two new : Omega) (j r : ℕ) → AreQubits n (q ∷ []) → HasPlacesOf (q ∷ []) low (low ∷ high ∷ []) → l < b → j < 2 → r < 2 ^ b
    → x ≡ f (r + low * 2 ^ b) → px ≡ f (flipped l r + low * 2 ^ b) → y ≡ f (r + high * 2 ^ b) → py ≡ f (flipped l r + high * 2 ^ b)
    → one ≡ sum_below 4 (λ c. product (m (j * 2 + 0) c) (one_of_four x px y py c)) → two ≡ sum_below 4 (λ c. product (m (j * 2 + 1) c) (one_of_four px x py y c))
    → new ≡ chosen l r one two → new ≡ applied m ((q + b) ∷ l ∷ []) f (r + get_or (low ∷ high ∷ []) j 0 * 2 ^ b)
high_low_value b m n q l f low high x px y py one two new j r h at lb lj lr ex epx ey epy ea eb e = e ∙ by_bit (bit_at r l) refl (bit_at-lt r l) ∙ sym (high_low_applied b m n q l f low high j r h at lb lj lr)
  where
    g : ℕ → Omega
    g c = f (with_bit l (bit_at c 0) r + get_or (low ∷ high ∷ []) (bit_at c 1) 0 * 2 ^ b)

    by_bit : (t : ℕ) → bit_at r l ≡ t → t < 2 → chosen l r one two ≡ sum_below 4 (λ c. product (m (j * 2 + bit_at r l) c) (g c))
    by_bit zero z s =
        ap (λ t. if nat_eq t 0 then one else two) z ∙ ea
        ∙ columns_are (m (j * 2 + 0)) x px y py g
        (ex ∙ ap (λ i. f (i + low * 2 ^ b)) (kept_at l r 0 z)) (epx ∙ ap (λ i. f (i + low * 2 ^ b)) (turned_at l r 0 1 z refl))
        (ey ∙ ap (λ i. f (i + high * 2 ^ b)) (kept_at l r 0 z)) (epy ∙ ap (λ i. f (i + high * 2 ^ b)) (turned_at l r 0 1 z refl))
        ∙ sym (ap (λ t. sum_below 4 (λ c. product (m (j * 2 + t) c) (g c))) z)
    by_bit (suc zero) z s =
        ap (λ t. if nat_eq t 0 then one else two) z ∙ eb
        ∙ columns_are (m (j * 2 + 1)) px x py y g
        (epx ∙ ap (λ i. f (i + low * 2 ^ b)) (turned_at l r 1 0 z refl)) (ex ∙ ap (λ i. f (i + low * 2 ^ b)) (kept_at l r 1 z))
        (epy ∙ ap (λ i. f (i + high * 2 ^ b)) (turned_at l r 1 0 z refl)) (ey ∙ ap (λ i. f (i + high * 2 ^ b)) (kept_at l r 1 z))
        ∙ sym (ap (λ t. sum_below 4 (λ c. product (m (j * 2 + t) c) (g c))) z)
    by_bit (suc (suc t)) z s = absurd (omega arith)

-- ---- the first qubit one of the lanes, the second above them
low_high_applied : (b : ℕ) (m : ℕ → ℕ → Omega) (n q l : ℕ) (f : ℕ → Omega) (low high j r : ℕ) → AreQubits n (q ∷ []) → HasPlacesOf (q ∷ []) low (low ∷ high ∷ []) → l < b → j < 2 → r < 2 ^ b
    → applied m (l ∷ (q + b) ∷ []) f (r + get_or (low ∷ high ∷ []) j 0 * 2 ^ b)
    ≡ sum_below 4 (λ c. product (m (bit_at r l * 2 + j) c) (f (with_bit l (bit_at c 1) r + get_or (low ∷ high ∷ []) (bit_at c 0) 0 * 2 ^ b)))
unfolding applied
low_high_applied b m n q l f low high j r h at lb lj lr =
    let k = get_or (low ∷ high ∷ []) j 0 in
    let eh : bit_at (r + k * 2 ^ b) (q + b) ≡ j = bit_above b q r k lr ∙ pair_bit n q low high j h at lj in
    let el : bit_at (r + k * 2 ^ b) l ≡ bit_at r l = bit_low l b k r lb in
    let place : place_on (l ∷ (q + b) ∷ []) (r + k * 2 ^ b) ≡ bit_at r l * 2 + j = omega arith in
    sum_below_same 4 _ _ (λ c d. ap₂ product (ap (λ t. m t c) place)
    (ap f (ap (with_bit l (bit_at c 1)) (set_above b q (bit_at c 0) r k lr
    ∙ ap (λ i. r + i * 2 ^ b) (other_place n q low high j (bit_at c 0) h at lj (bit_at-lt c 0)))
    ∙ with_low l b (get_or (low ∷ high ∷ []) (bit_at c 0) 0) (bit_at c 1) r lb)))

pub low_high_value : (b : ℕ) (m : ℕ → ℕ → Omega) (n q l : ℕ) (f : ℕ → Omega) (low high : ℕ) (x px y py one two new : Omega) (j r : ℕ) → AreQubits n (q ∷ []) → HasPlacesOf (q ∷ []) low (low ∷ high ∷ []) → l < b → j < 2 → r < 2 ^ b
    → x ≡ f (r + low * 2 ^ b) → px ≡ f (flipped l r + low * 2 ^ b) → y ≡ f (r + high * 2 ^ b) → py ≡ f (flipped l r + high * 2 ^ b)
    → one ≡ sum_below 4 (λ c. product (m (0 * 2 + j) c) (one_of_four x y px py c)) → two ≡ sum_below 4 (λ c. product (m (1 * 2 + j) c) (one_of_four px py x y c))
    → new ≡ chosen l r one two → new ≡ applied m (l ∷ (q + b) ∷ []) f (r + get_or (low ∷ high ∷ []) j 0 * 2 ^ b)
low_high_value b m n q l f low high x px y py one two new j r h at lb lj lr ex epx ey epy ea eb e = e ∙ by_bit (bit_at r l) refl (bit_at-lt r l) ∙ sym (low_high_applied b m n q l f low high j r h at lb lj lr)
  where
    g : ℕ → Omega
    g c = f (with_bit l (bit_at c 1) r + get_or (low ∷ high ∷ []) (bit_at c 0) 0 * 2 ^ b)

    by_bit : (t : ℕ) → bit_at r l ≡ t → t < 2 → chosen l r one two ≡ sum_below 4 (λ c. product (m (bit_at r l * 2 + j) c) (g c))
    by_bit zero z s =
        ap (λ t. if nat_eq t 0 then one else two) z ∙ ea
        ∙ columns_are (m (0 * 2 + j)) x y px py g
        (ex ∙ ap (λ i. f (i + low * 2 ^ b)) (kept_at l r 0 z)) (ey ∙ ap (λ i. f (i + high * 2 ^ b)) (kept_at l r 0 z))
        (epx ∙ ap (λ i. f (i + low * 2 ^ b)) (turned_at l r 0 1 z refl)) (epy ∙ ap (λ i. f (i + high * 2 ^ b)) (turned_at l r 0 1 z refl))
        ∙ sym (ap (λ t. sum_below 4 (λ c. product (m (t * 2 + j) c) (g c))) z)
    by_bit (suc zero) z s =
        ap (λ t. if nat_eq t 0 then one else two) z ∙ eb
        ∙ columns_are (m (1 * 2 + j)) px py x y g
        (epx ∙ ap (λ i. f (i + low * 2 ^ b)) (turned_at l r 1 0 z refl)) (epy ∙ ap (λ i. f (i + high * 2 ^ b)) (turned_at l r 1 0 z refl))
        (ex ∙ ap (λ i. f (i + low * 2 ^ b)) (kept_at l r 1 z)) (ey ∙ ap (λ i. f (i + high * 2 ^ b)) (kept_at l r 1 z))
        ∙ sym (ap (λ t. sum_below 4 (λ c. product (m (t * 2 + j) c) (g c))) z)
    by_bit (suc (suc t)) z s = absurd (omega arith)

-- ---- both qubits of the lanes
pub low_low_value : (m : ℕ → ℕ → Omega) (k l : ℕ) (g : ℕ → Omega) (r : ℕ) (a b c d new : Omega) → k ≢ l
    → a ≡ sum_below 4 (λ i. product (m 0 i) (one_of_four (g r) (g (flipped l r)) (g (flipped k r)) (g (flipped k (flipped l r))) i))
    → b ≡ sum_below 4 (λ i. product (m 1 i) (one_of_four (g (flipped l r)) (g r) (g (flipped k (flipped l r))) (g (flipped k r)) i))
    → c ≡ sum_below 4 (λ i. product (m 2 i) (one_of_four (g (flipped k r)) (g (flipped k (flipped l r))) (g r) (g (flipped l r)) i))
    → d ≡ sum_below 4 (λ i. product (m 3 i) (one_of_four (g (flipped k (flipped l r))) (g (flipped k r)) (g (flipped l r)) (g r) i))
    → new ≡ chosen k r (chosen l r a b) (chosen l r c d) → new ≡ applied m (k ∷ l ∷ []) g r
unfolding applied
low_low_value m k l g r a b c d new ne ea eb ec ed e = e ∙ by_bits (bit_at r k) (bit_at r l) refl refl (bit_at-lt r k) (bit_at-lt r l)
  where
    h : ℕ → ℕ → Omega
    h s t = g (with_bit k s (with_bit l t r))

    other : bit_at (flipped l r) k ≡ bit_at r k
    other = bit_other l k (1 - bit_at r l) r (omega arith) ne

    same : (s t : ℕ) → bit_at r k ≡ s → bit_at r l ≡ t → g r ≡ h s t
    same s t es et = ap g (kept_at k r s es ∙ ap (with_bit k s) (kept_at l r t et))

    turn_l : (s t u : ℕ) → bit_at r k ≡ s → bit_at r l ≡ t → 1 - t ≡ u → g (flipped l r) ≡ h s u
    turn_l s t u es et f = ap g (kept_at k (flipped l r) s (other ∙ es) ∙ ap (with_bit k s) (turned_at l r t u et f))

    turn_k : (s t u : ℕ) → bit_at r k ≡ s → bit_at r l ≡ t → 1 - s ≡ u → g (flipped k r) ≡ h u t
    turn_k s t u es et f = ap g (turned_at k r s u es f ∙ ap (with_bit k u) (kept_at l r t et))

    turn_both : (s t u w : ℕ) → bit_at r k ≡ s → bit_at r l ≡ t → 1 - s ≡ u → 1 - t ≡ w → g (flipped k (flipped l r)) ≡ h u w
    turn_both s t u w es et f i = ap g (turned_at k (flipped l r) s u (other ∙ es) f ∙ ap (with_bit k u) (turned_at l r t w et i))

    pick : ℕ → ℕ → Omega
    pick u w = if nat_eq u 0 then (if nat_eq w 0 then a else b) else (if nat_eq w 0 then c else d)

    row : (s t : ℕ) → Omega
    row s t = sum_below 4 (λ i. product (m (s * 2 + (t * 1 + 0)) i) (h (bit_at i 1) (bit_at i 0)))

    by_bits : (s t : ℕ) → bit_at r k ≡ s → bit_at r l ≡ t → s < 2 → t < 2 → chosen k r (chosen l r a b) (chosen l r c d) ≡ row (bit_at r k) (bit_at r l)
    by_bits zero zero es et ls lt =
        ap₂ pick es et ∙ ea ∙ columns_are (m 0) _ _ _ _ (λ i. h (bit_at i 1) (bit_at i 0)) (same 0 0 es et) (turn_l 0 0 1 es et refl) (turn_k 0 0 1 es et refl) (turn_both 0 0 1 1 es et refl refl)
        ∙ sym (ap₂ row es et)
    by_bits zero (suc zero) es et ls lt =
        ap₂ pick es et ∙ eb ∙ columns_are (m 1) _ _ _ _ (λ i. h (bit_at i 1) (bit_at i 0)) (turn_l 0 1 0 es et refl) (same 0 1 es et) (turn_both 0 1 1 0 es et refl refl) (turn_k 0 1 1 es et refl)
        ∙ sym (ap₂ row es et)
    by_bits (suc zero) zero es et ls lt =
        ap₂ pick es et ∙ ec ∙ columns_are (m 2) _ _ _ _ (λ i. h (bit_at i 1) (bit_at i 0)) (turn_k 1 0 0 es et refl) (turn_both 1 0 0 1 es et refl refl) (same 1 0 es et) (turn_l 1 0 1 es et refl)
        ∙ sym (ap₂ row es et)
    by_bits (suc zero) (suc zero) es et ls lt =
        ap₂ pick es et ∙ ed ∙ columns_are (m 3) _ _ _ _ (λ i. h (bit_at i 1) (bit_at i 0)) (turn_both 1 1 0 0 es et refl refl) (turn_k 1 1 0 es et refl) (turn_l 1 1 0 es et refl) (same 1 1 es et)
        ∙ sym (ap₂ row es et)
    by_bits (suc (suc s)) t es et ls lt = absurd (omega arith)
    by_bits zero (suc (suc t)) es et ls lt = absurd (omega arith)
    by_bits (suc zero) (suc (suc t)) es et ls lt = absurd (omega arith)
