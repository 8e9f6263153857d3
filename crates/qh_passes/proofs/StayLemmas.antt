-- How wide the numbers are all along a run.
use Rattle.std.proofs.Common.{◌≡◌, ◌≢◌, ℕ, zero, suc, ◌+◌, ◌*◌, ◌^◌, ◌<◌, ◌≤◌, inl, inr, ℤ, List, [], ◌∷◌, length, get_or, arith, refl, sym, ap, subst, ◌∙◌, IsTrue, nat_le, max, cond, Bool, true, false, ◌&&◌}
use Rattle.std.specs.List.{All, count_by, list_all}
use Rattle.std.specs.Int.{bit_at}
use Rattle.std.proofs.Math.Pow.{pow_mono}
use Rattle.std.proofs.lemmas.Bool.{cases_lt}
use Rattle.std.proofs.lemmas.Int.{ints}
use Rattle.std.proofs.lemmas.Nat.{pow_pos, pow-add}
use Rattle.std.proofs.lemmas.Nat.Bits.{bit_at-lt}
use Rattle.std.proofs.lemmas.List.{get_or_past}
use Rattle.std.proofs.lemmas.List.Sums.{sum_by-cons}
use Rattle.std.proofs.lemmas.List.FromFn.{get_or-map-range_with_len, length-map-range_with_len}
use Rattle.qh_ring.specs.declared.number.Omega.{Omega}
use Rattle.qh_ring.specs.declared.matrix.Entry.{Entry}
use Rattle.qh_ring.specs.declared.matrix.Entry.TheVariants.{Zero, Unit as Power}
use Rattle.qh_ring.specs.Numbers.{IsWithin, sum, product, nothing, unit_power}
use Rattle.qh_ring.specs.Matrices.{number_of, entry_in, number_in}
use Rattle.qh_ring.specs.States.{sum_below, place_on, with_bits, applied, at_index, applied_list}
use Rattle.qh_ring.proofs.NumberLemmas.{within_unit_power, nothing_times}
use Rattle.qh_ring.proofs.SumLemmas.{nothing_sum, sum_nothing, sum_below_one, sum_below_none}
use Rattle.qh_kernel.specs.Rows.{is_entry, is_single, are_single}
use Rattle.qh_kernel.proofs.RowLemmas.{at_most}
use Rattle.qh_blocks.specs.Widths.{row_width, width_after}
use Rattle.qh_passes.specs.declared.turn.Turn.{Turn}
use Rattle.qh_passes.specs.declared.turn.Turn.TheVariants.{One, Two}
use Rattle.qh_passes.specs.Turns.{matrix_in, qubits_in, turned, after_turns, IsTurnIn, width_turned, width_after_turns, StayWithin}
use Rattle.qh_passes.proofs.RunLemmas.{all_first, all_rest, turned_least, widths_least}

-- ---- a number
within_more : (m n : ℕ) (z : Omega) → m ≤ n → IsWithin m z → IsWithin n z
within_more m n z l h =
    let p : 2 ^ m ≤ 2 ^ n = pow_mono l in
    let ha = h.a in let hb = h.b in let hc = h.c in let hd = h.d in
    record { a = omega arith; b = omega arith; c = omega arith; d = omega arith }

within_nothing : (n : ℕ) → IsWithin n nothing
within_nothing n = record { a = pow_pos n; b = pow_pos n; c = pow_pos n; d = pow_pos n }

within_sum : (n : ℕ) (x y : Omega) → IsWithin n x → IsWithin n y → IsWithin (n + 1) (sum x y)
within_sum n x y h k =
    let p : 2 ^ (n + 1) ≡ 2 ^ n * 2 = pow-add 2 n 1 in
    let ha = h.a in let hb = h.b in let hc = h.c in let hd = h.d in
    let ka = k.a in let kb = k.b in let kc = k.c in let kd = k.d in
    record { a = omega (arith, ints); b = omega (arith, ints); c = omega (arith, ints); d = omega (arith, ints) }

within_entry : (n : ℕ) (e : Entry) (z : Omega) → IsWithin n z → IsWithin n (product (number_of e) z)
within_entry n Zero z h = subst (IsWithin n) (sym (nothing_times z)) (within_nothing n)
within_entry n (Power j) z h = within_unit_power n j z (product (unit_power j) z) h refl

-- ---- a row of two entries
within_row : (n : ℕ) (e f : Entry) (x y : Omega) → IsWithin n x → IsWithin n y → IsWithin (row_width e f n) (sum (sum nothing (product (number_of e) x)) (product (number_of f) y))
within_row n Zero f x y h k =
    let z : sum (sum nothing (product nothing x)) (product (number_of f) y) ≡ product (number_of f) y =
    ap (λ (t : Omega). sum t (product (number_of f) y)) (nothing_sum (product nothing x) ∙ nothing_times x) ∙ nothing_sum (product (number_of f) y) in
    subst (IsWithin n) (sym z) (within_entry n f y k)
within_row n (Power i) Zero x y h k =
    let z : sum (sum nothing (product (unit_power i) x)) (product nothing y) ≡ product (unit_power i) x =
    ap (λ (t : Omega). sum t (product nothing y)) (nothing_sum (product (unit_power i) x)) ∙ ap (sum (product (unit_power i) x)) (nothing_times y) ∙ sum_nothing (product (unit_power i) x) in
    subst (IsWithin n) (sym z) (within_entry n (Power i) x h)
within_row n (Power i) (Power j) x y h k =
    let z : sum (sum nothing (product (unit_power i) x)) (product (unit_power j) y) ≡ sum (product (unit_power i) x) (product (unit_power j) y) =
    ap (λ (t : Omega). sum t (product (unit_power j) y)) (nothing_sum (product (unit_power i) x)) in
    subst (IsWithin (n + 1)) (sym z) (within_sum n (product (unit_power i) x) (product (unit_power j) y) (within_entry n (Power i) x h) (within_entry n (Power j) y k))

within_rows : (n : ℕ) (rows : List (List Entry)) (i : ℕ) (x y : Omega) → i < 2 → IsWithin n x → IsWithin n y
    → IsWithin (width_after rows n) (sum (sum nothing (product (number_in rows i 0) x)) (product (number_in rows i 1) y))
within_rows n rows zero x y l h k =
    within_more (row_width (entry_in rows 0 0) (entry_in rows 0 1) n) (width_after rows n) _ (omega arith) (within_row n (entry_in rows 0 0) (entry_in rows 0 1) x y h k)
within_rows n rows (suc zero) x y l h k =
    within_more (row_width (entry_in rows 1 0) (entry_in rows 1 1) n) (width_after rows n) _ (omega arith) (within_row n (entry_in rows 1 0) (entry_in rows 1 1) x y h k)
within_rows n rows (suc (suc i)) x y l h k = absurd (omega arith)

-- ---- a row of at most one entry
-- where it stands, if there is one
only_place : List Entry → ℕ
only_place [] = 0
only_place (Zero ∷ row) = suc (only_place row)
only_place (Power j ∷ row) = 0

count_entry : (j : ℕ) (row : List Entry) → count_by is_entry (Power j ∷ row) ≡ 1 + count_by is_entry row
count_entry j row = sum_by-cons (λ x. cond (is_entry x) 1 0) (Power j) row

count_zero : (row : List Entry) → count_by is_entry (Zero ∷ row) ≡ count_by is_entry row
count_zero row = sum_by-cons (λ x. cond (is_entry x) 1 0) Zero row ∙ omega arith

none_of : (row : List Entry) (d : ℕ) → count_by is_entry row ≡ 0 → get_or row d Zero ≡ Zero
none_of [] d e = refl
none_of (Zero ∷ row) zero e = refl
none_of (Zero ∷ row) (suc d) e = none_of row d (sym (count_zero row) ∙ e)
none_of (Power j ∷ row) d e = absurd (omega (arith, count_entry j row))

elsewhere : (row : List Entry) (d : ℕ) → count_by is_entry row ≤ 1 → d ≢ only_place row → get_or row d Zero ≡ Zero
unfolding only_place
elsewhere [] d l ne = refl
elsewhere (Zero ∷ row) zero l ne = refl
elsewhere (Zero ∷ row) (suc d) l ne = elsewhere row d (omega (arith, count_zero row)) (λ e. ne (ap suc e))
elsewhere (Power j ∷ row) zero l ne = absurd (ne refl)
elsewhere (Power j ∷ row) (suc d) l ne = none_of row d (omega (arith, count_entry j row))

within_single : (n k : ℕ) (row : List Entry) (f : ℕ → Omega) → count_by is_entry row ≤ 1 → ((c : ℕ) → IsWithin n (f c))
    → IsWithin n (sum_below k (λ c. product (number_of (get_or row c Zero)) (f c)))
within_single n k row f l h =
    let g : ℕ → Omega = λ c. product (number_of (get_or row c Zero)) (f c) in
    let i = only_place row in
    let gone : (c : ℕ) → c ≢ i → g c ≡ nothing = λ c ne. ap (λ t. product (number_of t) (f c)) (elsewhere row c l ne) ∙ nothing_times (f c) in
    elim (cases_lt i k) [
      | inl b ↦ subst (IsWithin n) (sym (sum_below_one k i g b (λ c lc ne. gone c ne))) (within_entry n (get_or row i Zero) (f i) (h i))
      | inr past ↦ subst (IsWithin n) (sym (sum_below_none k g (λ c lc. gone c (apart c i k lc past)))) (within_nothing n)
    ]
  where
    apart : (c i k : ℕ) → c < k → k ≤ i → c ≢ i
    apart c i k l m = omega arith

both : (a b : Bool) → IsTrue (a && b) → IsTrue a × IsTrue b
both true b u = (refl, u)
both false b u = absurd (cc)

single_row : (rows : List (List Entry)) (r : ℕ) → IsTrue (are_single rows) → count_by is_entry (get_or rows r []) ≤ 1
single_row [] r h = omega arith
single_row (row ∷ rows) zero h = at_most (count_by is_entry row) (both (is_single row) (list_all is_single rows) h).0
single_row (row ∷ rows) (suc r) h = single_row rows r (both (is_single row) (list_all is_single rows) h).1

-- ---- a turn
all_at : (n : ℕ) (v : List Omega) (x : ℕ) → All (IsWithin n) v → IsWithin n (at_index v x)
all_at n v x h = elim (cases_lt x (length v)) [
  | inl l ↦ h x nothing l
  | inr past ↦ subst (IsWithin n) (sym (get_or_past v x nothing past)) (within_nothing n)
]

within_one : (n q : ℕ) (rows : List (List Entry)) (f : ℕ → Omega) (x : ℕ) → ((y : ℕ) → IsWithin n (f y)) → IsWithin (width_after rows n) (applied (number_in rows) (q ∷ []) f x)
unfolding applied
within_one n q rows f x h =
    let e : bit_at x q * 1 + 0 ≡ bit_at x q = omega arith in
    subst (λ i. IsWithin (width_after rows n) (sum (sum nothing (product (number_in rows i 0) (f (with_bits (q ∷ []) 0 x)))) (product (number_in rows i 1) (f (with_bits (q ∷ []) 1 x))))) (sym e)
    (within_rows n rows (bit_at x q) (f (with_bits (q ∷ []) 0 x)) (f (with_bits (q ∷ []) 1 x)) (bit_at-lt x q) (h _) (h _))

within_two : (n : ℕ) (qs : List ℕ) (rows : List (List Entry)) (f : ℕ → Omega) (x : ℕ) → IsTrue (are_single rows) → ((y : ℕ) → IsWithin n (f y)) → IsWithin n (applied (number_in rows) qs f x)
unfolding applied
within_two n qs rows f x single h = within_single n (2 ^ length qs) (get_or rows (place_on qs x) []) (λ c. f (with_bits qs c x)) (single_row rows (place_on qs x) single) (λ c. h (with_bits qs c x))

all_applied : (n : ℕ) (m : ℕ → ℕ → Omega) (qs : List ℕ) (v : List Omega) → ((x : ℕ) → IsWithin n (applied m qs (at_index v) x)) → All (IsWithin n) (applied_list m qs v)
unfolding applied_list
all_applied n m qs v h i d l =
    let li : i < length v = subst (λ t. i < t) (length-map-range_with_len (applied m qs (at_index v)) 0 (length v)) l in
    subst (IsWithin n) (sym (get_or-map-range_with_len (applied m qs (at_index v)) 0 (length v) i i d li (omega arith))) (h i)

within_turned : (b n : ℕ) (turn : Turn) (v : List Omega) → IsTurnIn b turn → All (IsWithin n) v → All (IsWithin (width_turned turn n)) (turned turn v)
within_turned b n (One matrix qubit) v t h =
    all_applied (width_after matrix.rows n) (number_in matrix.rows) (qubit ∷ []) v (λ x. within_one n qubit matrix.rows (at_index v) x (λ y. all_at n v y h))
within_turned b n (Two matrix first second) v t h =
    all_applied n (number_in matrix.rows) (first ∷ second ∷ []) v (λ x. within_two n (first ∷ second ∷ []) matrix.rows (at_index v) x t.3 (λ y. all_at n v y h))

-- ---- a run
pub all_more : (m n : ℕ) (v : List Omega) → m ≤ n → All (IsWithin m) v → All (IsWithin n) v
all_more m n v l h i d b = within_more m n (get_or v i d) l (h i d b)

pub run_stays : (b n most : ℕ) (run : List Turn) (v : List Omega) → All (IsTurnIn b) run → All (IsWithin n) v → width_after_turns run n ≤ most → StayWithin most run v
run_stays b n most [] v t h l = all_more n most v l h
run_stays b n most (turn ∷ run) v t h l =
    let w = turned_least turn n in
    let r = widths_least run (width_turned turn n) in (
      all_more n most v (omega arith) h,
      run_stays b (width_turned turn n) most run (turned turn v) (all_rest (IsTurnIn b) turn run t) (within_turned b n turn v (all_first (IsTurnIn b) turn run t) h) l,
    )

-- the last numbers too
pub stay_last : (bits : ℕ) (run : List Turn) (v : List Omega) → StayWithin bits run v → All (IsWithin bits) (after_turns run v)
stay_last bits [] v h = h
stay_last bits (turn ∷ run) v h = stay_last bits run (turned turn v) h.1
