-- Rows of a matrix by their entries.
use Rattle.std.proofs.Common.{◌≡◌, ℕ, ◌<◌, List, [], ◌∷◌, length, get_or, arith, refl, ap, subst, ◌∙◌, IsTrue, map}
use Rattle.std.proofs.Math.Path.{ap₂}
use Rattle.qh_ring.specs.declared.number.Omega.{Omega}
use Rattle.qh_ring.specs.declared.matrix.Entry.{Entry}
use Rattle.qh_ring.specs.declared.matrix.Entry.TheVariants.{Zero, Unit as Power}
use Rattle.qh_ring.specs.Numbers.{sum, product, nothing, unit_power}
use Rattle.qh_ring.specs.Matrices.{number_of, number_in}
use Rattle.std.specs.List.{range_with_len}
use Rattle.qh_ring.specs.States.{sum_below, place_on, with_bits, at_index, applied, applied_list}
use Rattle.qh_ring.proofs.StateLemmas.{place_below}
use Rattle.qh_ring.proofs.NumberLemmas.{nothing_times}
use Rattle.qh_ring.proofs.SumLemmas.{nothing_sum, sum_nothing, sum_below_none, sum_below_same}
use Rattle.qh_kernel.specs.Rows.{row_sum2, is_single}
use Rattle.qh_blocks.specs.Widths.{two_rows}
use Rattle.qh_kernel.proofs.RowLemmas.{row_sum_one}
use Rattle.qh_kernel.proofs.PlaceLemmas.{below_two, below_four}

pub zero_entry : (e : Entry) (z : Omega) → e ≡ Zero → product (number_of e) z ≡ nothing
zero_entry e z h = ap (λ t. product (number_of t) z) h ∙ nothing_times z

pub first_zero : (e f : Entry) (x y : Omega) → e ≡ Zero → row_sum2 (number_of e) (number_of f) x y ≡ product (number_of f) y
first_zero e f x y h = ap (λ t. sum t (product (number_of f) y)) (zero_entry e x h) ∙ nothing_sum _

pub second_zero : (e f : Entry) (x y : Omega) (i : ℕ) → e ≡ Power i → f ≡ Zero → row_sum2 (number_of e) (number_of f) x y ≡ product (unit_power i) x
second_zero e f x y i g h = ap₂ (λ s t. sum (product (number_of s) x) t) g (zero_entry f y h) ∙ sum_nothing _

-- four columns of which one has an entry
pub four_one : (row : List Entry) (f : ℕ → Omega) (c j : ℕ) → length row ≡ 4 → c < 4 → IsTrue (is_single row) → get_or row c Zero ≡ Power j
    → sum_below 4 (λ d. product (number_of (get_or row d Zero)) (f d)) ≡ product (unit_power j) (f c)
four_one row f c j len l single e =
    subst (λ n. sum_below n (λ d. product (number_of (get_or row d Zero)) (f d)) ≡ product (unit_power j) (f c)) len (row_sum_one row f c j (omega arith) single e)

pub four_none : (row : List Entry) (f : ℕ → Omega) → get_or row 0 Zero ≡ Zero → get_or row 1 Zero ≡ Zero → get_or row 2 Zero ≡ Zero → get_or row 3 Zero ≡ Zero
    → sum_below 4 (λ d. product (number_of (get_or row d Zero)) (f d)) ≡ nothing
four_none row f a b c d =
    sum_below_none 4 (λ i. product (number_of (get_or row i Zero)) (f i))
    (below_four (λ i. product (number_of (get_or row i Zero)) (f i) ≡ nothing)
    (zero_entry _ (f 0) a) (zero_entry _ (f 1) b) (zero_entry _ (f 2) c) (zero_entry _ (f 3) d))

-- ---- a matrix by its four entries
abbrev pub entries_of : List (List Entry) → List (List Entry)
entries_of rows = two_rows (get_or (get_or rows 0 []) 0 Zero) (get_or (get_or rows 0 []) 1 Zero) (get_or (get_or rows 1 []) 0 Zero) (get_or (get_or rows 1 []) 1 Zero)

entries_same : (rows : List (List Entry)) (r c : ℕ) → r < 2 → c < 2 → number_in (entries_of rows) r c ≡ number_in rows r c
entries_same rows r c l m =
    below_two (λ r. number_in (entries_of rows) r c ≡ number_in rows r c)
    (below_two (λ c. number_in (entries_of rows) 0 c ≡ number_in rows 0 c) refl refl c m)
    (below_two (λ c. number_in (entries_of rows) 1 c ≡ number_in rows 1 c) refl refl c m) r l

applied_entries : (rows : List (List Entry)) (q : ℕ) (f : ℕ → Omega) (x : ℕ) → applied (number_in (entries_of rows)) (q ∷ []) f x ≡ applied (number_in rows) (q ∷ []) f x
unfolding applied
applied_entries rows q f x =
    sum_below_same 2 _ _ (λ c l. ap (λ z. product z (f (with_bits (q ∷ []) c x))) (entries_same rows (place_on (q ∷ []) x) c (place_below (q ∷ []) x) l))

pub list_entries : (rows : List (List Entry)) (q : ℕ) (v : List Omega) → applied_list (number_in (entries_of rows)) (q ∷ []) v ≡ applied_list (number_in rows) (q ∷ []) v
unfolding applied_list
list_entries rows q v = ap (λ (f : ℕ → Omega). map f (range_with_len 0 (length v))) (λ i x. applied_entries rows q (at_index v) x i)
