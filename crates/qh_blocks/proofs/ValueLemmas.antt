-- What a matrix makes of the number in a lane of a block: qubits above the lanes act on the block's index, the others on the lane's.
use Rattle.std.proofs.Common.{◌≡◌, ℕ, ◌+◌, ◌*◌, ◌^◌, ◌<◌, List, [], ◌∷◌, length, get_or, refl, sym, ap, ◌∙◌, map}
use Rattle.std.proofs.Math.Path.{ap₂}
use Rattle.std.proofs.Math.Nat.{mod-eq_of_lt}
use Rattle.std.proofs.lemmas.List.{length-map}
use Rattle.std.specs.Int.{bit_at}
use Rattle.qh_ring.specs.declared.number.Omega.{Omega}
use Rattle.qh_ring.specs.Numbers.{sum, product}
use Rattle.qh_ring.specs.Laws.{AllLess}
use Rattle.qh_ring.specs.States.{sum_below, place_on, with_bit, with_bits, applied}
use Rattle.qh_ring.proofs.BitLemmas.{bit_low, with_low}
use Rattle.qh_ring.proofs.AgreeLemmas.{bits_twice, place_bits, bits_below}
use Rattle.qh_ring.proofs.SumLemmas.{sum_below_same, nothing_sum}
use Rattle.qh_kernel.specs.Rows.{row_sum2}
use Rattle.qh_kernel.proofs.PlaceLemmas.{HasPlacesOf, below_four}
use Rattle.qh_kernel.proofs.DoneLemmas.{AreQubits}
use Rattle.qh_blocks.specs.Numbers.{one_of_four}
use Rattle.qh_blocks.proofs.NumbersLemmas.{div_of, mod_of, high_bit, high_set}

-- ---- a bit of an index above the lanes
pub bit_above : (b q r k : ℕ) → r < 2 ^ b → bit_at (r + k * 2 ^ b) (q + b) ≡ bit_at k q
bit_above b q r k l = high_bit b q (r + k * 2 ^ b) ∙ ap (λ n. bit_at n q) (div_of k b r l)

pub set_above : (b q c r k : ℕ) → r < 2 ^ b → with_bit (q + b) c (r + k * 2 ^ b) ≡ r + with_bit q c k * 2 ^ b
set_above b q c r k l = high_set b q c (r + k * 2 ^ b) ∙ ap₂ (λ m n. m + with_bit q c n * 2 ^ b) (mod_of k b r l) (div_of k b r l)

abbrev pub raised : ℕ → List ℕ → List ℕ
raised b qs = map (λ q. q + b) qs

bits_above : (b : ℕ) (qs : List ℕ) (c r k : ℕ) → r < 2 ^ b → with_bits (raised b qs) c (r + k * 2 ^ b) ≡ r + with_bits qs c k * 2 ^ b
bits_above b [] c r k l = refl
bits_above b (q ∷ qs) c r k l =
    ap₂ (λ n x. with_bit (q + b) (bit_at c n) x) (length-map qs (λ q. q + b)) (bits_above b qs c r k l) ∙ set_above b q (bit_at c (length qs)) r (with_bits qs c k) l

place_above : (b : ℕ) (qs : List ℕ) (r k : ℕ) → r < 2 ^ b → place_on (raised b qs) (r + k * 2 ^ b) ≡ place_on qs k
place_above b [] r k l = refl
place_above b (q ∷ qs) r k l =
    ap₂ (λ x y. x + y) (ap₂ (λ t n. t * 2 ^ n) (bit_above b q r k l) (length-map qs (λ q. q + b))) (place_above b qs r k l)

-- a matrix on qubits above the lanes acts on the blocks' index
pub applied_above : (b : ℕ) (m : ℕ → ℕ → Omega) (qs : List ℕ) (f : ℕ → Omega) (r k : ℕ) → r < 2 ^ b → applied m (raised b qs) f (r + k * 2 ^ b) ≡ applied m qs (λ i. f (r + i * 2 ^ b)) k
unfolding applied
applied_above b m qs f r k l =
    ap (λ n. sum_below (2 ^ n) (λ c. product (m (place_on (raised b qs) (r + k * 2 ^ b)) c) (f (with_bits (raised b qs) c (r + k * 2 ^ b))))) (length-map qs (λ q. q + b))
    ∙ sum_below_same (2 ^ length qs) _ _ (λ c d. ap₂ product (ap (λ t. m t c) (place_above b qs r k l)) (ap f (bits_above b qs c r k l)))

-- ---- a bit of an index within the lanes
bits_within : (b : ℕ) (qs : List ℕ) (c r k : ℕ) → AllLess b qs → with_bits qs c (r + k * 2 ^ b) ≡ with_bits qs c r + k * 2 ^ b
bits_within b [] c r k h = refl
bits_within b (q ∷ qs) c r k h = ap (with_bit q (bit_at c (length qs))) (bits_within b qs c r k h.1) ∙ with_low q b k (bit_at c (length qs)) (with_bits qs c r) h.0

place_within_lanes : (b : ℕ) (qs : List ℕ) (r k : ℕ) → AllLess b qs → place_on qs (r + k * 2 ^ b) ≡ place_on qs r
place_within_lanes b [] r k h = refl
place_within_lanes b (q ∷ qs) r k h = ap₂ (λ x y. x * 2 ^ length qs + y) (bit_low q b k r h.0) (place_within_lanes b qs r k h.1)

-- a matrix on qubits of the lanes acts within each block
pub applied_within : (b : ℕ) (m : ℕ → ℕ → Omega) (qs : List ℕ) (f g : ℕ → Omega) (r k : ℕ) → AllLess b qs → r < 2 ^ b → ((s : ℕ) → s < 2 ^ b → g s ≡ f (s + k * 2 ^ b))
    → applied m qs g r ≡ applied m qs f (r + k * 2 ^ b)
unfolding applied
applied_within b m qs f g r k h l e =
    sum_below_same (2 ^ length qs) _ _ (λ c d.
    ap₂ product (ap (λ t. m t c) (sym (place_within_lanes b qs r k h))) (e (with_bits qs c r) (bits_below b c qs r h l) ∙ ap f (sym (bits_within b qs c r k h))))

-- ---- a group's indices
pub group_applied : (m : ℕ → ℕ → Omega) (n : ℕ) (qs : List ℕ) (f : ℕ → Omega) (x : ℕ) (places : List ℕ) → AreQubits n qs → HasPlacesOf qs x places → (j : ℕ) → j < 2 ^ length qs
    → applied m qs f (get_or places j 0) ≡ sum_below (2 ^ length qs) (λ c. product (m j c) (f (get_or places c 0)))
unfolding applied
group_applied m n qs f x places h at j l =
    ap (applied m qs f) (sym (at j l))
    ∙ sum_below_same (2 ^ length qs) _ _ (λ c d.
    ap₂ (λ s t. product (m s c) (f t)) (place_bits qs j x h.distinct ∙ mod-eq_of_lt l) (bits_twice qs c j x ∙ at c d))

-- both blocks of a pair
pub pair_value : (b : ℕ) (m : ℕ → ℕ → Omega) (n q : ℕ) (f : ℕ → Omega) (low high : ℕ) (x y z : Omega) (r j : ℕ) → AreQubits n (q ∷ []) → HasPlacesOf (q ∷ []) low (low ∷ high ∷ []) → j < 2 → r < 2 ^ b
    → x ≡ f (r + low * 2 ^ b) → y ≡ f (r + high * 2 ^ b) → z ≡ row_sum2 (m j 0) (m j 1) x y
    → z ≡ applied m ((q + b) ∷ []) f (r + get_or (low ∷ high ∷ []) j 0 * 2 ^ b)
pair_value b m n q f low high x y z r j h at lj lr ex ey e =
    e ∙ ap₂ (row_sum2 (m j 0) (m j 1)) ex ey
    ∙ sym (ap (λ t. sum t (product (m j 1) (f (r + high * 2 ^ b)))) (nothing_sum _))
    ∙ sym (group_applied m n (q ∷ []) (λ i. f (r + i * 2 ^ b)) low (low ∷ high ∷ []) h at j lj)
    ∙ sym (applied_above b m (q ∷ []) f r (get_or (low ∷ high ∷ []) j 0) lr)

-- all four blocks of a quad
pub quad_value : (b : ℕ) (m : ℕ → ℕ → Omega) (n p q : ℕ) (f : ℕ → Omega) (base : ℕ) (places : List ℕ) (x y z t new : Omega) (r j : ℕ) → AreQubits n (p ∷ q ∷ []) → HasPlacesOf (p ∷ q ∷ []) base places → j < 4 → r < 2 ^ b
    → x ≡ f (r + get_or places 0 0 * 2 ^ b) → y ≡ f (r + get_or places 1 0 * 2 ^ b) → z ≡ f (r + get_or places 2 0 * 2 ^ b) → t ≡ f (r + get_or places 3 0 * 2 ^ b)
    → new ≡ sum_below 4 (λ c. product (m j c) (one_of_four x y z t c))
    → new ≡ applied m ((p + b) ∷ (q + b) ∷ []) f (r + get_or places j 0 * 2 ^ b)
quad_value b m n p q f base places x y z t new r j h at lj lr ex ey ez et e =
    e ∙ sum_below_same 4 _ _ (λ c d. ap (product (m j c)) (below_four (λ c. one_of_four x y z t c ≡ f (r + get_or places c 0 * 2 ^ b)) ex ey ez et c d))
    ∙ sym (group_applied m n (p ∷ q ∷ []) (λ i. f (r + i * 2 ^ b)) base places h at j lj)
    ∙ sym (applied_above b m (p ∷ q ∷ []) f r (get_or places j 0) lr)
