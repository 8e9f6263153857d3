-- How fast the numbers grow: a row of the table has at most two entries.
use Rattle.std.proofs.Common.{◌≡◌, ◌≢◌, ℕ, zero, suc, ◌+◌, ◌*◌, ◌^◌, ◌<◌, ◌≤◌, inl, inr, Bool, true, false, cond, IsTrue, List, [], ◌∷◌, length, map, take, get_or, ◌⊎◌, ◌&&◌, ◌||◌, ◌==◌, arith, refl, sym, ap, subst, ◌∙◌}
use Rattle.std.specs.Prelude.{Result, Ok, Err, IfErr}
use Rattle.std.specs.List.{count_by, list_all}
use Rattle.std.proofs.lemmas.Int.{ints}
use Rattle.std.proofs.lemmas.Bool.{or_cases, and_parts, eqb-true}
use Rattle.std.proofs.lemmas.List.{length-take}
use Rattle.std.proofs.Math.Nat.{pow-succ'}
use Rattle.std.proofs.Math.Pow.{pow_mono}
use Rattle.qh_ring.specs.declared.number.Omega.{Omega}
use Rattle.qh_ring.specs.declared.matrix.Entry.{Entry}
use Rattle.qh_ring.specs.declared.matrix.Entry.TheVariants.{Zero, Unit as Power}
use Rattle.qh_ring.specs.Numbers.{sum, product, nothing}
use Rattle.qh_ring.specs.Matrices.{number_of, number_in}
use Rattle.qh_ring.specs.States.{sum_below, place_on, with_bits, applied, ground}
use Rattle.qh_ring.proofs.NumberLemmas.{turned, turned_by, unit_power_times, nothing_times}
use Rattle.qh_ring.proofs.SumLemmas.{sum_nothing, nothing_sum, sum_below_none}
use Rattle.qh_gates.specs.declared.gate.Gate.{Gate}
use Rattle.qh_gates.specs.declared.kind.Kind.{Kind}
use Rattle.qh_gates.specs.Tables.{matrix_of, qubits_of}
use Rattle.qh_gates.specs.Evolution.{evolved, wires, operation_of, uncut, StateFits, IsUncutOver}
use Rattle.qh_gates.specs.Circuits.{Circuit}
use Rattle.qh_gates.proofs.KindLemmas.{each_kind}
use Rattle.qh_kernel.specs.Rows.{is_entry, is_single, are_single}
use Rattle.qh_kernel.proofs.RowLemmas.{beside, at_most}
use Rattle.qh_uncut.specs.declared.fault.UncutFault.{UncutFault}
use Rattle.qh_uncut.specs.declared.fault.UncutFault.TheVariants.{Over, Memory}
use Rattle.qh_uncut.specs.Bounds.{IsAtMost}
use Rattle.qh_uncut.specs.Faults.{IsCause}

at_most_turned : (b : ℕ) (z : Omega) → IsAtMost b z → IsAtMost b (turned z)
at_most_turned b z h =
    let hd = h.d in record { a = omega (arith, ints); b = h.a; c = h.b; d = h.c }

at_most_turned_by : (b j : ℕ) (z : Omega) → IsAtMost b z → IsAtMost b (turned_by j z)
at_most_turned_by b zero z h = h
at_most_turned_by b (suc j) z h = at_most_turned b (turned_by j z) (at_most_turned_by b j z h)

at_most_nothing : (b : ℕ) → IsAtMost b nothing
at_most_nothing b = record { a = omega (arith, ints); b = omega (arith, ints); c = omega (arith, ints); d = omega (arith, ints) }

at_most_sum : (b c : ℕ) (y z : Omega) → IsAtMost b y → IsAtMost c z → IsAtMost (b + c) (sum y z)
at_most_sum b c y z h g =
    let ha = h.a in let hb = h.b in let hc = h.c in let hd = h.d in
    let ga = g.a in let gb = g.b in let gc = g.c in let gd = g.d in
    record { a = omega (arith, ints); b = omega (arith, ints); c = omega (arith, ints); d = omega (arith, ints) }

at_most_more : (b c : ℕ) (z : Omega) → b ≤ c → IsAtMost b z → IsAtMost c z
at_most_more b c z l h =
    let ha = h.a in let hb = h.b in let hc = h.c in let hd = h.d in
    record { a = omega arith; b = omega arith; c = omega arith; d = omega arith }

-- an entry does not make a number greater
at_most_entry : (b : ℕ) (e : Entry) (z : Omega) → IsAtMost b z → IsAtMost b (product (number_of e) z)
at_most_entry b Zero z h = subst (IsAtMost b) (sym (nothing_times z)) (at_most_nothing b)
at_most_entry b (Power j) z h = subst (IsAtMost b) (sym (unit_power_times j z)) (at_most_turned_by b j z h)

-- one more entry of a row with at most one
one_more : (b k : ℕ) (row : List Entry) (f : ℕ → Omega) → count_by is_entry row ≤ 1 → ((c : ℕ) → IsAtMost b (f c)) → (e : Entry) → get_or row k Zero ≡ e
    → IsAtMost b (sum_below k (λ c. product (number_of (get_or row c Zero)) (f c)))
    → IsAtMost b (sum (sum_below k (λ c. product (number_of (get_or row c Zero)) (f c))) (product (number_of (get_or row k Zero)) (f k)))
one_more b k row f l h Zero e before = subst (IsAtMost b)
    (sym (ap (sum (sum_below k (λ c. product (number_of (get_or row c Zero)) (f c)))) (ap (λ t. product (number_of t) (f k)) e ∙ nothing_times (f k)) ∙ sum_nothing _))
    before
one_more b k row f l h (Power j) e before = subst (IsAtMost b)
    (sym (ap (λ t. sum t (product (number_of (get_or row k Zero)) (f k)))
    (sum_below_none k (λ c. product (number_of (get_or row c Zero)) (f c)) (λ c m.
    ap (λ t. product (number_of t) (f c)) (beside row k c j l e (apart c k m)) ∙ nothing_times (f c)))
    ∙ nothing_sum _))
    (at_most_entry b (get_or row k Zero) (f k) (h k))
  where
    apart : (c k : ℕ) → c < k → c ≢ k
    apart c k m = omega arith

-- nor does a row with at most one entry make a number greater
at_most_single : (b k : ℕ) (row : List Entry) (f : ℕ → Omega) → count_by is_entry row ≤ 1 → ((c : ℕ) → IsAtMost b (f c))
    → IsAtMost b (sum_below k (λ c. product (number_of (get_or row c Zero)) (f c)))
at_most_single b zero row f l h = at_most_nothing b
at_most_single b (suc k) row f l h = one_more b k row f l h (get_or row k Zero) refl (at_most_single b k row f l h)

-- a row of a table of single rows
single_row : (rows : List (List Entry)) (r : ℕ) → IsTrue (list_all is_single rows) → count_by is_entry (get_or rows r []) ≤ 1
single_row [] r t = omega arith
single_row (row ∷ rows) zero t = at_most (count_by is_entry row) (first (is_single row) (list_all is_single rows) t)
  where
    first : (a b : Bool) → IsTrue (a && b) → IsTrue a
    first true b u = refl
    first false b u = absurd (cc)
single_row (row ∷ rows) (suc r) t = single_row rows r (rest (is_single row) (list_all is_single rows) t)
  where
    rest : (a b : Bool) → IsTrue (a && b) → IsTrue b
    rest true b u = u
    rest false b u = absurd (cc)

is_simple : Kind → Bool
is_simple k = qubits_of k == 1 || (qubits_of k == 2 && are_single (matrix_of k))

-- a gate acts on one qubit, or on two by single rows
pub one_or_single : (k : Kind) → (qubits_of k ≡ 1) ⊎ ((qubits_of k ≡ 2) × IsTrue (are_single (matrix_of k)))
unfolding is_simple
one_or_single k = elim (or_cases _ _ (each_kind is_simple refl k)) [
  | inl one ↦ inl (eqb-true _ _ one)
  | inr two ↦ let both = and_parts _ _ two in inr (eqb-true _ _ both.0, both.1)
]

at_most_one : (b : ℕ) (rows : List (List Entry)) (q : ℕ) (v : ℕ → Omega) (x : ℕ) → ((y : ℕ) → IsAtMost b (v y)) → IsAtMost (2 * b) (applied (number_in rows) (q ∷ []) v x)
unfolding applied
at_most_one b rows q v x h =
    let row = place_on (q ∷ []) x in
    let first = at_most_sum 0 b nothing (product (number_in rows row 0) (v (with_bits (q ∷ []) 0 x))) (at_most_nothing 0) (at_most_entry b _ _ (h (with_bits (q ∷ []) 0 x))) in
    at_most_more (0 + b + b) (2 * b) _ (omega arith)
    (at_most_sum (0 + b) b _ (product (number_in rows row 1) (v (with_bits (q ∷ []) 1 x))) first (at_most_entry b _ _ (h (with_bits (q ∷ []) 1 x))))

at_most_two : (b : ℕ) (rows : List (List Entry)) (p q : ℕ) (v : ℕ → Omega) (x : ℕ) → IsTrue (are_single rows) → ((y : ℕ) → IsAtMost b (v y)) → IsAtMost (2 * b) (applied (number_in rows) (p ∷ q ∷ []) v x)
unfolding applied
at_most_two b rows p q v x t h =
    let r = place_on (p ∷ q ∷ []) x in
    at_most_more b (2 * b) _ (omega arith)
    (at_most_single b 4 (get_or rows r []) (λ c. v (with_bits (p ∷ q ∷ []) c x)) (single_row rows r t) (λ c. h (with_bits (p ∷ q ∷ []) c x)))

pub one_wire : (g : Gate) → (qubits_of g.kind ≡ 2 → ⊥) → wires g ≡ g.q0 ∷ []
one_wire g other = elim (one_or_single g.kind) [
  | inl e ↦ subst (λ n. cond (n == 2) (g.q0 ∷ g.q1 ∷ []) (g.q0 ∷ []) ≡ g.q0 ∷ []) (sym e) refl
  | inr e ↦ absurd (other e.0)
]

pub gate_doubles : (b : ℕ) (g : Gate) (v : ℕ → Omega) (x : ℕ) → ((y : ℕ) → IsAtMost b (v y)) → IsAtMost (2 * b) (applied (number_in (matrix_of g.kind)) (wires g) v x)
gate_doubles b g v x h = elim (one_or_single g.kind) [
  | inl e ↦ subst (λ n. IsAtMost (2 * b) (applied (number_in (matrix_of g.kind)) (cond (n == 2) (g.q0 ∷ g.q1 ∷ []) (g.q0 ∷ [])) v x)) (sym e) (at_most_one b (matrix_of g.kind) g.q0 v x h)
  | inr e ↦ subst (λ n. IsAtMost (2 * b) (applied (number_in (matrix_of g.kind)) (cond (n == 2) (g.q0 ∷ g.q1 ∷ []) (g.q0 ∷ [])) v x)) (sym e.0) (at_most_two b (matrix_of g.kind) g.q0 g.q1 v x e.1 h)
]

pub gates_double : (gates : List Gate) (b : ℕ) (v : ℕ → Omega) → ((y : ℕ) → IsAtMost b (v y)) → (x : ℕ) → IsAtMost (b * 2 ^ length gates) (evolved v (map operation_of gates) x)
gates_double [] b v h x = at_most_more b (b * 2 ^ 0) _ (omega arith) (h x)
gates_double (g ∷ gates) b v h x =
    at_most_more (2 * b * 2 ^ length gates) (b * 2 ^ suc (length gates)) _ (let w = pow-succ' 2 (length gates) in rw w (omega arith))
    (gates_double gates (2 * b) (applied (number_in (matrix_of g.kind)) (wires g) v) (λ y. gate_doubles b g v y h) x)

at_most_ground : (x : ℕ) → IsAtMost 1 (ground x)
at_most_ground zero = record { a = omega (arith, ints); b = omega (arith, ints); c = omega (arith, ints); d = omega (arith, ints) }
at_most_ground (suc x) = at_most_nothing 1

-- after n gates each coefficient's magnitude is at most 2^n
pub uncut_at_most : (gates : List Gate) (x : ℕ) → IsAtMost (2 ^ length gates) (uncut gates x)
uncut_at_most gates x = at_most_more (1 * 2 ^ length gates) (2 ^ length gates) _ (omega arith) (gates_double gates 1 ground at_most_ground x)

-- so no state after at most 125 gates overflows
pub short_fits : (n : ℕ) (gates : List Gate) → length gates < 126 → StateFits n (uncut gates)
short_fits n gates l x b =
    let few : length gates ≤ 125 = omega arith in
    let m : 2 ^ length gates ≤ 2 ^ 125 = pow_mono few in
    let h = uncut_at_most gates x in
    let ha = h.a in let hb = h.b in let hc = h.c in let hd = h.d in
    record { a = omega arith; b = omega arith; c = omega arith; d = omega arith }

-- a circuit of at most 125 gates has no gate that overflows
pub short_never : (c : Circuit) (gate : ℕ) → length c.gates < 126 → IsUncutOver c gate → ⊥
short_never c gate l o = o.over (short_fits c.qubits (take (gate + 1) c.gates) (let t = length-take (gate + 1) c.gates in omega arith))

-- so its evolution wants memory, where it fails
pub only_memory : (c : Circuit) (fault : UncutFault) → length c.gates < 126 → IsCause c fault → fault ≡ Memory
only_memory c (Over gate) l o = absurd (short_never c gate l o)
only_memory c Memory l o = refl

pub short_memory : {T : Type 0} (c : Circuit) (r : Result T UncutFault) → length c.gates < 126 → IfErr r (IsCause c) → IfErr r (λ fault. fault ≡ Memory)
short_memory c (Ok x) l o = tt
short_memory c (Err fault) l o = only_memory c fault l o
