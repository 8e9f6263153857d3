-- A row with at most one entry.
use Rattle.std.proofs.Common.{◌≡◌, ◌≢◌, ℕ, zero, suc, ◌+◌, ◌<◌, ◌≤◌, List, [], ◌∷◌, length, get_or, arith, refl, sym, ap, ◌∙◌, IsTrue, nat_le, cond, Bool, true, false, ◌&&◌}
use Rattle.std.specs.List.{count_by, list_all}
use Rattle.qh_ring.specs.declared.number.Omega.{Omega}
use Rattle.qh_ring.specs.declared.matrix.Entry.{Entry}
use Rattle.qh_ring.specs.declared.matrix.Entry.TheVariants.{Zero, Unit as Power}
use Rattle.qh_ring.specs.Numbers.{product, nothing, unit_power}
use Rattle.qh_ring.specs.Matrices.{number_of}
use Rattle.qh_ring.specs.Units.{is_unit}
use Rattle.qh_ring.specs.States.{sum_below}
use Rattle.qh_ring.proofs.NumberLemmas.{nothing_times}
use Rattle.qh_ring.proofs.SumLemmas.{sum_below_one, sum_below_none}
use Rattle.qh_kernel.specs.Rows.{is_entry, is_single}
use Rattle.std.proofs.lemmas.List.Sums.{sum_by-cons}

count_entry : (j : ℕ) (row : List Entry) → count_by is_entry (Power j ∷ row) ≡ 1 + count_by is_entry row
count_entry j row = sum_by-cons (λ x. cond (is_entry x) 1 0) (Power j) row

count_zero : (row : List Entry) → count_by is_entry (Zero ∷ row) ≡ count_by is_entry row
count_zero row = sum_by-cons (λ x. cond (is_entry x) 1 0) Zero row ∙ omega arith

-- a row without entries
none_of : (row : List Entry) (d : ℕ) → count_by is_entry row ≡ 0 → get_or row d Zero ≡ Zero
none_of [] d e = refl
none_of (Zero ∷ row) zero e = refl
none_of (Zero ∷ row) (suc d) e = none_of row d (sym (count_zero row) ∙ e)
none_of (Power j ∷ row) d e = absurd (omega (arith, count_entry j row))

-- beside its one entry, a row has none
pub beside : (row : List Entry) (c d j : ℕ) → count_by is_entry row ≤ 1 → get_or row c Zero ≡ Power j → d ≢ c → get_or row d Zero ≡ Zero
beside [] c d j l e ne = refl
beside (Zero ∷ row) zero d j l e ne = absurd (cc)
beside (Power i ∷ row) zero zero j l e ne = absurd (ne refl)
beside (Power i ∷ row) zero (suc d) j l e ne = none_of row d (omega (arith, count_entry i row))
beside (Zero ∷ row) (suc c) zero j l e ne = refl
beside (Zero ∷ row) (suc c) (suc d) j l e ne = beside row c d j (omega (arith, count_zero row)) e (λ f. ne (ap suc f))
beside (Power i ∷ row) (suc c) d j l e ne = absurd (let z = none_of row c (omega (arith, count_entry i row)) in not_both (get_or row c Zero) z e)
  where
    not_both : (t : Entry) → t ≡ Zero → t ≡ Power j → ⊥
    not_both t z p = cc

pub at_most : (n : ℕ) → IsTrue (nat_le n 1) → n ≤ 1
at_most n t = grind arith

-- the sum that a row makes of the old numbers f
abbrev pub row_sum : List Entry → (ℕ → Omega) → Omega
row_sum row f = sum_below (length row) (λ c. product (number_of (get_or row c Zero)) (f c))

pub row_sum_none : (row : List Entry) (f : ℕ → Omega) → ((c : ℕ) → c < length row → get_or row c Zero ≡ Zero) → row_sum row f ≡ nothing
row_sum_none row f h =
    sum_below_none (length row) (λ d. product (number_of (get_or row d Zero)) (f d)) (λ d l.
    ap (λ t. product (number_of t) (f d)) (h d l) ∙ nothing_times (f d))

pub row_sum_one : (row : List Entry) (f : ℕ → Omega) (c j : ℕ) → c < length row → IsTrue (is_single row) → get_or row c Zero ≡ Power j → row_sum row f ≡ product (unit_power j) (f c)
row_sum_one row f c j l single e =
    sum_below_one (length row) c (λ d. product (number_of (get_or row d Zero)) (f d)) l (λ d b ne.
    ap (λ t. product (number_of t) (f d)) (beside row c d j (at_most (count_by is_entry row) single) e ne) ∙ nothing_times (f d))
    ∙ ap (λ t. product (number_of t) (f c)) e

-- the powers of a row are below the eighth
pub unit_below : (row : List Entry) (c j : ℕ) → c < length row → IsTrue (list_all is_unit row) → get_or row c Zero ≡ Power j → j < 8
unit_below [] c j l u e = absurd (omega arith)
unit_below (x ∷ row) zero j l u e = first x j u e
  where
    first : (x : Entry) (j : ℕ) → IsTrue (is_unit x && list_all is_unit row) → x ≡ Power j → j < 8
    first Zero j u e = absurd (cc)
    first (Power i) j u e = let f : i ≡ j = cc in grind (arith, f)
unit_below (x ∷ row) (suc c) j l u e = unit_below row c j (omega arith) (rest (is_unit x) (list_all is_unit row) u) e
  where
    rest : (a b : Bool) → IsTrue (a && b) → IsTrue b
    rest true b u = u
    rest false b u = absurd (cc)
