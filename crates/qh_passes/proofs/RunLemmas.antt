-- A matrix on qubits below b acts within each 2^b numbers, and so does a run of them: what it makes of two lists in a row is what it makes of each.
use Rattle.std.proofs.Common.{◌≡◌, ◌≢◌, ℕ, suc, ◌+◌, ◌-◌, ◌*◌, ◌/◌, ◌%◌, ◌^◌, ◌<◌, ◌≤◌, inl, inr, List, [], ◌∷◌, ◌++◌, length, get_or, take, length-append, arith, refl, sym, ap, subst, ◌∙◌, IsTrue}
use Rattle.std.proofs.Math.Path.{ap₂}
use Rattle.std.proofs.Math.Seq.{get_or-append_right}
use Rattle.std.specs.Int.{bit_at}
use Rattle.std.specs.List.{All}
use Rattle.std.proofs.lemmas.Bool.{cases_lt}
use Rattle.std.proofs.lemmas.List.{get_or_append_left, get_or-append-add}
use Rattle.std.proofs.lemmas.List.FromFn.{fill_by_all, get_or-map-range_with_len, length-map-range_with_len}
use Rattle.std.proofs.lemmas.Nat.{pow_pos, mod_below, mul-le}
use Rattle.std.proofs.lemmas.Nat.Bits.{bit_at-lt}
use Rattle.qh_ring.specs.declared.number.Omega.{Omega}
use Rattle.qh_ring.specs.Numbers.{product, nothing}
use Rattle.qh_ring.specs.Laws.{AllLess}
use Rattle.qh_ring.specs.States.{place_on, with_bit, with_bits, applied, at_index, applied_list}
use Rattle.qh_ring.proofs.BitLemmas.{bit_low, with_low, with_bit_below}
use Rattle.qh_ring.proofs.SumLemmas.{sum_below_same}
use Rattle.qh_blocks.specs.Widths.{width_after}
use Rattle.qh_blocks.proofs.NumbersLemmas.{parts_of, block_below}
use Rattle.qh_blocks.proofs.WidthLemmas.{width_least}
use Rattle.qh_passes.specs.declared.turn.Turn.{Turn}
use Rattle.qh_passes.specs.declared.turn.Turn.TheVariants.{One, Two}
use Rattle.qh_passes.specs.Turns.{matrix_in, qubits_in, turned, after_turns, IsTurnIn, width_turned, width_after_turns}

-- ---- indices of the first k * 2^b
next_below : (j k p s : ℕ) → j < k → s < p → s + j * p < k * p
next_below j k p s l m = let h : (j + 1) * p ≤ k * p = mul-le (j + 1) p k p (omega arith) (omega arith) in let e : (j + 1) * p ≡ j * p + p = omega arith in omega arith

bit_stays : (b k q c x : ℕ) → c < 2 → q < b → x < k * 2 ^ b → with_bit q c x < k * 2 ^ b
bit_stays b k q c x lc l h =
    let w : x < 2 ^ b * k = let e : 2 ^ b * k ≡ k * 2 ^ b = omega arith in omega arith in
    let e : with_bit q c x ≡ with_bit q c (x % 2 ^ b) + x / 2 ^ b * 2 ^ b = ap (with_bit q c) (parts_of x b) ∙ with_low q b (x / 2 ^ b) c (x % 2 ^ b) l in
    subst (λ n. n < k * 2 ^ b) (sym e) (next_below (x / 2 ^ b) k (2 ^ b) (with_bit q c (x % 2 ^ b)) (block_below x b k w) (with_bit_below q b c (x % 2 ^ b) lc l (mod_below x (2 ^ b) (pow_pos b))))

bits_stay : (b k : ℕ) (qs : List ℕ) (c x : ℕ) → AllLess b qs → x < k * 2 ^ b → with_bits qs c x < k * 2 ^ b
bits_stay b k [] c x h l = l
bits_stay b k (q ∷ qs) c x h l = bit_stays b k q (bit_at c (length qs)) (with_bits qs c x) (bit_at-lt c (length qs)) h.0 (bits_stay b k qs c x h.1 l)

-- ---- indices past them
bits_past : (b k : ℕ) (qs : List ℕ) (c x : ℕ) → AllLess b qs → with_bits qs c (x + k * 2 ^ b) ≡ with_bits qs c x + k * 2 ^ b
bits_past b k [] c x h = refl
bits_past b k (q ∷ qs) c x h = ap (with_bit q (bit_at c (length qs))) (bits_past b k qs c x h.1) ∙ with_low q b k (bit_at c (length qs)) (with_bits qs c x) h.0

place_past : (b k : ℕ) (qs : List ℕ) (x : ℕ) → AllLess b qs → place_on qs (x + k * 2 ^ b) ≡ place_on qs x
place_past b k [] x h = refl
place_past b k (q ∷ qs) x h = ap₂ (λ i j. i * 2 ^ length qs + j) (bit_low q b k x h.0) (place_past b k qs x h.1)

-- ---- one matrix
module _ (m : ℕ → ℕ → Omega) (qs : List ℕ) (b k : ℕ) (xs ys : List Omega) (less : AllLess b qs) (len : length xs ≡ k * 2 ^ b) where
  first_part : (x : ℕ) → x < length xs → applied m qs (at_index (xs ++ ys)) x ≡ applied m qs (at_index xs) x
  unfolding applied
  first_part x l = sum_below_same (2 ^ length qs) _ _ (λ c d.
      ap (product (m (place_on qs x) c)) (get_or_append_left xs ys nothing (with_bits qs c x) (subst (λ n. with_bits qs c x < n) (sym len) (bits_stay b k qs c x less (subst (λ n. x < n) len l)))))

  at_past : (x : ℕ) → at_index (xs ++ ys) (x + k * 2 ^ b) ≡ at_index ys x
  at_past x = let e : x + k * 2 ^ b ≡ length xs + x = omega (arith, len) in ap (at_index (xs ++ ys)) e ∙ get_or-append-add xs ys x nothing

  second_part : (x : ℕ) → applied m qs (at_index (xs ++ ys)) (x + k * 2 ^ b) ≡ applied m qs (at_index ys) x
  unfolding applied
  second_part x = sum_below_same (2 ^ length qs) _ _ (λ c d.
      ap₂ product (ap (λ t. m t c) (place_past b k qs x less)) (ap (at_index (xs ++ ys)) (bits_past b k qs c x less) ∙ at_past (with_bits qs c x)))

pub length_applied : (m : ℕ → ℕ → Omega) (qs : List ℕ) (v : List Omega) → length (applied_list m qs v) ≡ length v
unfolding applied_list
length_applied m qs v = length-map-range_with_len (applied m qs (at_index v)) 0 (length v)

at_applied : (m : ℕ → ℕ → Omega) (qs : List ℕ) (v : List Omega) (x : ℕ) → x < length v → at_index (applied_list m qs v) x ≡ applied m qs (at_index v) x
unfolding applied_list
at_applied m qs v x l = get_or-map-range_with_len (applied m qs (at_index v)) 0 (length v) x x nothing l (omega arith)

pub applied_append : (m : ℕ → ℕ → Omega) (qs : List ℕ) (b k : ℕ) (xs ys : List Omega) → AllLess b qs → length xs ≡ k * 2 ^ b
    → applied_list m qs xs ++ applied_list m qs ys ≡ applied_list m qs (xs ++ ys)
unfolding applied_list
applied_append m qs b k xs ys less len =
    let us = applied_list m qs xs in
    let ws = applied_list m qs ys in
    let lu : length us ≡ length xs = length_applied m qs xs in
    let lw : length ws ≡ length ys = length_applied m qs ys in
    fill_by_all (applied m qs (at_index (xs ++ ys))) (us ++ ws) (length (xs ++ ys)) nothing
    (length-append us ws ∙ ap₂ (λ i j. i + j) lu lw ∙ sym (length-append xs ys))
    (λ x l.
    let all : length (xs ++ ys) ≡ length xs + length ys = length-append xs ys in
    elim (cases_lt x (length xs)) [
      | inl h ↦ get_or_append_left us ws nothing x (omega (arith, lu)) ∙ at_applied m qs xs x h ∙ sym (first_part m qs b k xs ys less len x h)
      | inr g ↦
          let y = x - length xs in
          let ey : x - length us ≡ y = ap (λ n. x - n) lu in
          let ex : x ≡ y + k * 2 ^ b = omega (arith, len) in
          get_or-append_right us ws x nothing (omega (arith, lu))
          ∙ ap (at_index ws) ey
          ∙ at_applied m qs ys y (omega (arith, all))
          ∙ sym (second_part m qs b k xs ys less len y)
          ∙ ap (applied m qs (at_index (xs ++ ys))) (sym ex)
    ])

-- ---- runs
pub turn_less : (n : ℕ) (turn : Turn) → IsTurnIn n turn → AllLess n (qubits_in turn)
turn_less n (One matrix qubit) h = (h, tt)
turn_less n (Two matrix first second) h = (h.0, (h.1, tt))

pub length_after : (run : List Turn) (v : List Omega) → length (after_turns run v) ≡ length v
length_after [] v = refl
length_after (turn ∷ run) v = length_after run (turned turn v) ∙ length_applied (matrix_in turn) (qubits_in turn) v

pub all_rest : {A : Type 0} (P : A → Type 0) (x : A) (xs : List A) → All P (x ∷ xs) → All P xs
all_rest P x xs h i d l = h (suc i) d (omega arith)

pub all_first : {A : Type 0} (P : A → Type 0) (x : A) (xs : List A) → All P (x ∷ xs) → P x
all_first P x xs h = h 0 x (omega arith)

pub run_append : (b k : ℕ) (run : List Turn) (xs ys : List Omega) → All (IsTurnIn b) run → length xs ≡ k * 2 ^ b
    → after_turns run xs ++ after_turns run ys ≡ after_turns run (xs ++ ys)
run_append b k [] xs ys h len = refl
run_append b k (turn ∷ run) xs ys h len =
    run_append b k run (turned turn xs) (turned turn ys) (all_rest (IsTurnIn b) turn run h) (length_applied (matrix_in turn) (qubits_in turn) xs ∙ len)
    ∙ ap (after_turns run) (applied_append (matrix_in turn) (qubits_in turn) b k xs ys (turn_less b turn (all_first (IsTurnIn b) turn run h)) len)

pub turns_append : (run more : List Turn) (v : List Omega) → after_turns (run ++ more) v ≡ after_turns more (after_turns run v)
turns_append [] more v = refl
turns_append (turn ∷ run) more v = turns_append run more (turned turn v)

pub widths_append : (run more : List Turn) (bits : ℕ) → width_after_turns (run ++ more) bits ≡ width_after_turns more (width_after_turns run bits)
widths_append [] more bits = refl
widths_append (turn ∷ run) more bits = widths_append run more (width_turned turn bits)

pub turned_least : (turn : Turn) (bits : ℕ) → bits ≤ width_turned turn bits
turned_least (One matrix qubit) bits = width_least matrix.rows bits
turned_least (Two matrix first second) bits = omega arith

pub widths_least : (run : List Turn) (bits : ℕ) → bits ≤ width_after_turns run bits
widths_least [] bits = omega arith
widths_least (turn ∷ run) bits = let l = turned_least turn bits in let m = widths_least run (width_turned turn bits) in omega arith
