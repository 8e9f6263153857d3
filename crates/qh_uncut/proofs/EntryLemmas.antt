-- The new number at one index.
use Rattle.std.proofs.Common.{◌≡◌, ℕ, ◌+◌, ◌-◌, ◌*◌, ◌^◌, ◌<◌, ◌≤◌, ◌==◌, cond, List, [], ◌∷◌, length, Option, Some, None, get_or, arith, refl, sym, ap, subst, ◌∙◌}
use Rattle.std.proofs.Math.Path.{ap₂}
use Rattle.std.specs.Int.{bit_at}
use Rattle.std.proofs.lemmas.Nat.{pow_pos}
use Rattle.std.proofs.lemmas.List.FromFn.{fill_by_all}
use Rattle.qh_ring.specs.declared.number.Omega.{Omega}
use Rattle.qh_ring.specs.declared.matrix.Entry.{Entry}
use Rattle.qh_ring.specs.Numbers.{sum, product, nothing, unit_power}
use Rattle.qh_ring.specs.Matrices.{number_in}
use Rattle.qh_ring.specs.States.{sum_below, with_bit, with_bits, applied, applied_list, at_index}
use Rattle.qh_ring.proofs.SumLemmas.{nothing_sum}
use Rattle.qh_ring.proofs.BitLemmas.{with_bit_below}
use Rattle.qh_gates.specs.declared.gate.Gate.{Gate}
use Rattle.qh_gates.specs.Tables.{qubits_of}
use Rattle.qh_gates.specs.Evolution.{wires}
use Rattle.qh_kernel.specs.Rows.{row_sum2}
use Rattle.qh_kernel.proofs.GroupLemmas.{few_numbers}
use Rattle.qh_uncut.specs.declared.entries.Turn.{Turn}
use Rattle.qh_uncut.specs.Rows.{turned_number, HasColumn, IsOnly, AreOnly}

-- ---- places
pub bit_product : (n q b : ℕ) → n ≤ 20 → q < n → b < 2 → b * 2 ^ q < 2 ^ 20
unfolding with_bit
bit_product n q b few less bit = few_numbers n (b * 2 ^ q) few (subst (λ y. y < 2 ^ n) (omega arith) (with_bit_below q n b 0 bit less (pow_pos n)))

pub with_bit_is : (x q bit b w : ℕ) → b ≡ bit_at x q → w ≡ 2 ^ q → x - b * w + bit * w ≡ with_bit q bit x
unfolding with_bit
with_bit_is x q bit b w eb ew = ap₂ (λ b w. x - b * w + bit * w) eb ew

-- ---- one qubit
pub applied_one : (rows : List (List Entry)) (q : ℕ) (v : List Omega) (x b low high : ℕ) → b ≡ bit_at x q → low ≡ with_bit q 0 x → high ≡ with_bit q 1 x
    → row_sum2 (number_in rows b 0) (number_in rows b 1) (at_index v low) (at_index v high) ≡ applied (number_in rows) (q ∷ []) (at_index v) x
unfolding applied
applied_one rows q v x b low high eb el eh =
    let m = number_in rows in
    let place : bit_at x q * 2 ^ 0 + 0 ≡ b = omega (arith, eb) in
    sym (ap (λ t. sum t (product (m (bit_at x q * 2 ^ 0 + 0) 1) (at_index v (with_bit q 1 x)))) (nothing_sum _)
    ∙ ap₂ sum (ap₂ product (ap (λ k. m k 0) place) (ap (at_index v) (sym el))) (ap₂ product (ap (λ k. m k 1) place) (ap (at_index v) (sym eh))))

-- ---- two qubits
pub applied_two : (rows : List (List Entry)) (p q : ℕ) (v : List Omega) (x a b row : ℕ) (only : Option Turn) → a ≡ bit_at x p → b ≡ bit_at x q → row ≡ 2 * a + b
    → IsOnly 4 (get_or rows row []) only → applied (number_in rows) (p ∷ q ∷ []) (at_index v) x ≡ turned_number only (λ c. at_index v (with_bits (p ∷ q ∷ []) c x))
unfolding applied
applied_two rows p q v x a b row only ea eb er is =
    let place : bit_at x p * 2 ^ 1 + (bit_at x q * 2 ^ 0 + 0) ≡ row = omega (arith, ea, eb, er) in
    ap (λ k. sum_below 4 (λ c. product (number_in rows k c) (at_index v (with_bits (p ∷ q ∷ []) c x)))) place
    ∙ is.value (λ c. at_index v (with_bits (p ∷ q ∷ []) c x))

two_bits : (a b : ℕ) → a < 2 → b < 2 → 2 * a + b < 4
two_bits a b la lb = omega arith

module _ (rows : List (List Entry)) (onlys : List (Option Turn)) (p q : ℕ) (v : List Omega) (x a b : ℕ) (are : AreOnly rows onlys)
    (ea : a ≡ bit_at x p) (eb : b ≡ bit_at x q) (la : a < 2) (lb : b < 2) where
  pub quad_none : get_or onlys (2 * a + b) None ≡ None → nothing ≡ applied (number_in rows) (p ∷ q ∷ []) (at_index v) x
  quad_none none = sym (applied_two rows p q v x a b (2 * a + b) None ea eb refl (subst (IsOnly 4 (get_or rows (2 * a + b) [])) none (are (2 * a + b) (two_bits a b la lb))))

  pub quad_some : (turn : Turn) (source : ℕ) → get_or onlys (2 * a + b) None ≡ Some turn → source ≡ with_bits (p ∷ q ∷ []) turn.column x
      → product (unit_power turn.power) (at_index v source) ≡ applied (number_in rows) (p ∷ q ∷ []) (at_index v) x
  quad_some turn source some is =
      ap (λ k. product (unit_power turn.power) (at_index v k)) is
      ∙ sym (applied_two rows p q v x a b (2 * a + b) (Some turn) ea eb refl (subst (IsOnly 4 (get_or rows (2 * a + b) [])) some (are (2 * a + b) (two_bits a b la lb))))

  -- its column is one of the four
  pub quad_column : (turn : Turn) → get_or onlys (2 * a + b) None ≡ Some turn → (turn.column < 4) × (turn.power < 8)
  quad_column turn some = subst (HasColumn 4) some (are (2 * a + b) (two_bits a b la lb)).column

-- ---- the whole vector
pub made_whole : (m : ℕ → ℕ → Omega) (qs : List ℕ) (v new : List Omega) → length new ≡ length v
    → ((k : ℕ) → k < length v → get_or new k nothing ≡ applied m qs (at_index v) k) → new ≡ applied_list m qs v
unfolding applied_list
made_whole m qs v new same each = fill_by_all (applied m qs (at_index v)) new (length v) nothing same each

pub two_wires : (g : Gate) → qubits_of g.kind ≡ 2 → wires g ≡ g.q0 ∷ g.q1 ∷ []
two_wires g e = subst (λ n. cond (n == 2) (g.q0 ∷ g.q1 ∷ []) (g.q0 ∷ []) ≡ g.q0 ∷ g.q1 ∷ []) (sym e) refl
