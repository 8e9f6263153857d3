-- The terms of each gate on two qubits add up to its matrix.
use Rattle.std.proofs.Common.{◌≡◌, ℕ, zero, suc, ◌<◌, length, arith, refl}
use Rattle.qh_ring.specs.Numbers.{product}
use Rattle.qh_ring.specs.Matrices.{number_in}
use Rattle.qh_ring.specs.States.{sum_below}
use Rattle.qh_gates.specs.declared.kind.Kind.{Kind}
use Rattle.qh_gates.specs.declared.kind.Kind.TheVariants.{H, T, X, Y, Z, X12, Y12, Hz12, Cz, Cnot, Is, S, Sw, Id1, Id2}
use Rattle.qh_gates.specs.Tables.{qubits_of, matrix_of}
use Rattle.qh_gates.specs.Terms.{terms_of, term_at, term_matrix, AddsUp}

-- what holds of 0 to 3 holds of each number below 4
pub below_four : (P : ℕ → Type 0) → P 0 → P 1 → P 2 → P 3 → (i : ℕ) → i < 4 → P i
below_four P a b c d zero l = a
below_four P a b c d (suc zero) l = b
below_four P a b c d (suc (suc zero)) l = c
below_four P a b c d (suc (suc (suc zero))) l = d
below_four P a b c d (suc (suc (suc (suc i)))) l = absurd (omega arith)

abbrev EntryAddsUp : Kind → ℕ → ℕ → Type 0
EntryAddsUp kind i j = sum_below (length (terms_of kind)) (λ t. term_matrix (term_at kind t) i j) ≡ number_in (matrix_of kind) i j

cz_adds : AddsUp Cz
unfolding product
cz_adds = below_four (λ i. (j : ℕ) → j < 4 → EntryAddsUp Cz i j)
    (below_four (EntryAddsUp Cz 0) refl refl refl refl)
    (below_four (EntryAddsUp Cz 1) refl refl refl refl)
    (below_four (EntryAddsUp Cz 2) refl refl refl refl)
    (below_four (EntryAddsUp Cz 3) refl refl refl refl)

cnot_adds : AddsUp Cnot
unfolding product
cnot_adds = below_four (λ i. (j : ℕ) → j < 4 → EntryAddsUp Cnot i j)
    (below_four (EntryAddsUp Cnot 0) refl refl refl refl)
    (below_four (EntryAddsUp Cnot 1) refl refl refl refl)
    (below_four (EntryAddsUp Cnot 2) refl refl refl refl)
    (below_four (EntryAddsUp Cnot 3) refl refl refl refl)

is_adds : AddsUp Is
unfolding product
is_adds = below_four (λ i. (j : ℕ) → j < 4 → EntryAddsUp Is i j)
    (below_four (EntryAddsUp Is 0) refl refl refl refl)
    (below_four (EntryAddsUp Is 1) refl refl refl refl)
    (below_four (EntryAddsUp Is 2) refl refl refl refl)
    (below_four (EntryAddsUp Is 3) refl refl refl refl)

sw_adds : AddsUp Sw
unfolding product
sw_adds = below_four (λ i. (j : ℕ) → j < 4 → EntryAddsUp Sw i j)
    (below_four (EntryAddsUp Sw 0) refl refl refl refl)
    (below_four (EntryAddsUp Sw 1) refl refl refl refl)
    (below_four (EntryAddsUp Sw 2) refl refl refl refl)
    (below_four (EntryAddsUp Sw 3) refl refl refl refl)

id2_adds : AddsUp Id2
unfolding product
id2_adds = below_four (λ i. (j : ℕ) → j < 4 → EntryAddsUp Id2 i j)
    (below_four (EntryAddsUp Id2 0) refl refl refl refl)
    (below_four (EntryAddsUp Id2 1) refl refl refl refl)
    (below_four (EntryAddsUp Id2 2) refl refl refl refl)
    (below_four (EntryAddsUp Id2 3) refl refl refl refl)

pub terms_add : (kind : Kind) → qubits_of kind ≡ 2 → AddsUp kind
terms_add Cz e = cz_adds
terms_add Cnot e = cnot_adds
terms_add Is e = is_adds
terms_add Sw e = sw_adds
terms_add Id2 e = id2_adds
terms_add H e = absurd (omega arith)
terms_add T e = absurd (omega arith)
terms_add X e = absurd (omega arith)
terms_add Y e = absurd (omega arith)
terms_add Z e = absurd (omega arith)
terms_add X12 e = absurd (omega arith)
terms_add Y12 e = absurd (omega arith)
terms_add Hz12 e = absurd (omega arith)
terms_add S e = absurd (omega arith)
terms_add Id1 e = absurd (omega arith)
