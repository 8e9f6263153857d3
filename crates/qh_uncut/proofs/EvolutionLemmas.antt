-- The state after some gates, and the list that the code keeps of it.
use Rattle.std.proofs.Common.{◌≡◌, ℕ, ◌+◌, ◌^◌, ◌<◌, ◌≤◌, ◌⊎◌, inl, inr, Bool, true, false, cond, List, [], ◌∷◌, ◌++◌, length, map, take, get_or, arith, refl, sym, ap, subst, ◌∙◌, ◌==◌}
use Rattle.std.specs.List.{All}
use Rattle.std.proofs.lemmas.List.{take_more, map-append}
use Rattle.std.proofs.lemmas.List.Elements.{All-from_get_or}
use Rattle.std.proofs.lemmas.Bool.{cases_lt}
use Rattle.qh_ring.specs.declared.number.Omega.{Omega}
use Rattle.qh_ring.specs.Numbers.{IsWithin, nothing}
use Rattle.qh_ring.specs.Matrices.{number_in}
use Rattle.qh_ring.specs.States.{applied, applied_list, ground, listed}
use Rattle.qh_ring.specs.Laws.{AllLess}
use Rattle.qh_ring.proofs.ListedLemmas.{length-listed, at_listed, applied_listed}
use Rattle.qh_gates.specs.declared.gate.Gate.{Gate}
use Rattle.qh_gates.specs.Tables.{matrix_of, qubits_of}
use Rattle.qh_gates.specs.Circuits.{Circuit, IsCircuit, Fits}
use Rattle.qh_gates.specs.Evolution.{Operation, evolved, wires, operation_of, uncut, StateFits, IsUncutOver}

evolved_more : (os : List Operation) (o : Operation) (v : ℕ → Omega) → evolved v (os ++ o ∷ []) ≡ applied o.matrix o.qubits (evolved v os)
evolved_more [] o v = refl
evolved_more (p ∷ os) o v = evolved_more os o (applied p.matrix p.qubits v)

-- one more gate
pub uncut_more : (gates : List Gate) (n : ℕ) (z : Gate) → n < length gates
    → uncut (take (n + 1) gates) ≡ applied (number_in (matrix_of (get_or gates n z).kind)) (wires (get_or gates n z)) (uncut (take n gates))
uncut_more gates n z l =
    ap uncut (take_more gates n z l)
    ∙ ap (evolved ground) (map-append operation_of (take n gates) (get_or gates n z ∷ []))
    ∙ evolved_more (map operation_of (take n gates)) (operation_of (get_or gates n z)) ground

pub fits_listed : (n : ℕ) (f : ℕ → Omega) → StateFits n f → All (IsWithin 126) (listed n f)
fits_listed n f h = All-from_get_or (IsWithin 126) (listed n f) nothing (λ k l.
    let b : k < 2 ^ n = rw (sym (length-listed n f)) l in subst (IsWithin 126) (sym (at_listed n f k b)) (h k b))

pub listed_fits : (n : ℕ) (f : ℕ → Omega) → All (IsWithin 126) (listed n f) → StateFits n f
listed_fits n f h x l = subst (IsWithin 126) (at_listed n f x l) (h x nothing (rw (length-listed n f) l))

pub wires_less : (n : ℕ) (g : Gate) → Fits n g → AllLess n (wires g)
wires_less n g h = either (qubits_of g.kind == 2) g.q0 g.q1 h.first h.second
  where
    either : (b : Bool) (p q : ℕ) → p < n → q < n → AllLess n (cond b (p ∷ q ∷ []) (p ∷ []))
    either true p q l m = (l, (m, tt))
    either false p q l m = (l, tt)

-- the first n gates are done in v, and none of them overflowed
pub record IsRunning (c : Circuit) (n : ℕ) (v : List Omega) : Type 0 where
  pub now : v ≡ listed c.qubits (uncut (take n c.gates))
  pub fits : (k : ℕ) → k ≤ n → StateFits c.qubits (uncut (take k c.gates))

pub running_numbers : (c : Circuit) (n : ℕ) (v : List Omega) → IsRunning c n v → length v ≡ 2 ^ c.qubits
running_numbers c n v d = ap length d.now ∙ length-listed c.qubits (uncut (take n c.gates))

pub running_within : (c : Circuit) (n : ℕ) (v : List Omega) → IsRunning c n v → All (IsWithin 126) v
running_within c n v d = subst (All (IsWithin 126)) (sym d.now) (fits_listed c.qubits (uncut (take n c.gates)) (d.fits n (omega arith)))

pub running_none : (c : Circuit) (v : List Omega) → v ≡ listed c.qubits ground → All (IsWithin 126) v → IsRunning c 0 v
running_none c v e h = record {
  now = e;
  fits = λ k l. let z : 0 ≡ k = omega arith in
      subst (λ m. StateFits c.qubits (uncut (take m c.gates))) z (listed_fits c.qubits ground (subst (All (IsWithin 126)) e h));
}

-- what one more gate makes of the list
after_more : (c : Circuit) (n : ℕ) (z : Gate) (v : List Omega) → n < length c.gates → Fits c.qubits (get_or c.gates n z) → IsRunning c n v
    → applied_list (number_in (matrix_of (get_or c.gates n z).kind)) (wires (get_or c.gates n z)) v ≡ listed c.qubits (uncut (take (n + 1) c.gates))
after_more c n z v l h d =
    let g = get_or c.gates n z in
    ap (applied_list (number_in (matrix_of g.kind)) (wires g)) d.now
    ∙ applied_listed c.qubits (number_in (matrix_of g.kind)) (wires g) (uncut (take n c.gates)) (wires_less c.qubits g h)
    ∙ ap (listed c.qubits) (sym (uncut_more c.gates n z l))

pub running_more : (c : Circuit) (n : ℕ) (z : Gate) (v new : List Omega) → n < length c.gates → Fits c.qubits (get_or c.gates n z) → IsRunning c n v
    → new ≡ applied_list (number_in (matrix_of (get_or c.gates n z).kind)) (wires (get_or c.gates n z)) v → All (IsWithin 126) new → IsRunning c (n + 1) new
running_more c n z v new l h d e all =
    let f : new ≡ listed c.qubits (uncut (take (n + 1) c.gates)) = e ∙ after_more c n z v l h d in
    record {
      now = f;
      fits = λ k b. elim (last_or_before k n b) [
        | inl m ↦ d.fits k m
        | inr m ↦ subst (λ t. StateFits c.qubits (uncut (take t c.gates))) (sym m) (listed_fits c.qubits (uncut (take (n + 1) c.gates)) (subst (All (IsWithin 126)) f all))
      ];
    }
  where
    last_or_before : (k n : ℕ) → k ≤ n + 1 → (k ≤ n) ⊎ (k ≡ n + 1)
    last_or_before k n b = elim (cases_lt n k) [ inl h ↦ inr (omega arith) | inr h ↦ inl h ]

pub first_over : (c : Circuit) (n : ℕ) (z : Gate) (v : List Omega) → n < length c.gates → Fits c.qubits (get_or c.gates n z) → IsRunning c n v
    → (All (IsWithin 126) (applied_list (number_in (matrix_of (get_or c.gates n z).kind)) (wires (get_or c.gates n z)) v) → ⊥) → IsUncutOver c n
first_over c n z v l h d over = record {
  within = l;
  before = d.fits;
  over = λ fits. over (subst (All (IsWithin 126)) (sym (after_more c n z v l h d)) (fits_listed c.qubits (uncut (take (n + 1) c.gates)) fits));
}

-- ---- the same by a list that is the circuit's gates
same_gate : (c : Circuit) (gs : List Gate) (n : ℕ) (z : Gate) (v : List Omega) → gs ≡ c.gates
    → applied_list (number_in (matrix_of (get_or gs n z).kind)) (wires (get_or gs n z)) v ≡ applied_list (number_in (matrix_of (get_or c.gates n z).kind)) (wires (get_or c.gates n z)) v
same_gate c gs n z v e = ap (λ (xs : List Gate). applied_list (number_in (matrix_of (get_or xs n z).kind)) (wires (get_or xs n z)) v) e

pub gate_done : (c : Circuit) (gs : List Gate) (n : ℕ) (z : Gate) (v new : List Omega) → gs ≡ c.gates → IsCircuit c → n < length gs → IsRunning c n v
    → new ≡ applied_list (number_in (matrix_of (get_or gs n z).kind)) (wires (get_or gs n z)) v → All (IsWithin 126) new → IsRunning c (n + 1) new
gate_done c gs n z v new e h l d f all =
    let m : n < length c.gates = subst (λ (xs : List Gate). n < length xs) e l in
    running_more c n z v new m (h.fit n z m) d (f ∙ same_gate c gs n z v e) all

pub gate_over : (c : Circuit) (gs : List Gate) (n : ℕ) (z : Gate) (v : List Omega) → gs ≡ c.gates → IsCircuit c → n < length gs → IsRunning c n v
    → (All (IsWithin 126) (applied_list (number_in (matrix_of (get_or gs n z).kind)) (wires (get_or gs n z)) v) → ⊥) → IsUncutOver c n
gate_over c gs n z v e h l d over =
    let m : n < length c.gates = subst (λ (xs : List Gate). n < length xs) e l in
    first_over c n z v m (h.fit n z m) d (λ all. over (subst (All (IsWithin 126)) (sym (same_gate c gs n z v e)) all))
