-- One qubit more, and one time more.
use Rattle.std.proofs.Common.{◌≡◌, ℕ, suc, ◌+◌, ◌-◌, ◌*◌, ◌<◌, ◌≤◌, ◌/◌, ◌%◌, ◌^◌, Bool, true, false, cond, List, [], ◌∷◌, ◌++◌, length, map, refl, sym, ap, subst, ◌∙◌, arith, append_assoc, append-nil}
use Rattle.std.specs.List.{range_with_len}
use Rattle.std.proofs.lemmas.Nat.{div-add-mod'}
use Rattle.std.proofs.lemmas.Nat.{mod-mul-add, mod_below}
use Rattle.qh_gates.specs.declared.kind.Kind.{Kind}
use Rattle.qh_gates.specs.declared.kind.Kind.TheVariants.{Cz}
use Rattle.qh_gates.specs.declared.gate.Gate.{Gate}
use Rattle.qh_gates.specs.Circuits.{Circuit, IsCircuit}
use Rattle.qh_gen.specs.Drawings.{next_state, drawn_kind, single, state_after, drawn_gates}
use Rattle.qh_gen.specs.Grids.{distance, is_lower, is_alone, pattern_at, alone_among, alone_at, pair_gate, pairs_among, pairs_at, gates_between, with_gates}
use Rattle.qh_gen.proofs.CircuitLemmas.{circuit_front}

pub range_step : (n q : ℕ) → q < n → range_with_len q (n - q) ≡ q ∷ range_with_len (q + 1) (n - (q + 1))
range_step n q l = let e : n - q ≡ suc (n - (q + 1)) = omega arith in ap (range_with_len q) e

pub range_done : (n q : ℕ) → n ≤ q → range_with_len q (n - q) ≡ []
range_done n q l = let e : n - q ≡ 0 = omega arith in ap (range_with_len q) e

-- the pair of the first of some qubits, and those of the others
pub pairs_step : (rows cols time q : ℕ) (qs : List ℕ) → pairs_among rows cols time (q ∷ qs) ≡ pairs_among rows cols time (q ∷ []) ++ pairs_among rows cols time qs
pairs_step rows cols time q qs = by (is_lower rows cols (pattern_at time) q) _
  where
    by : (b : Bool) (xs : List ℕ) → map (pair_gate cols time) (cond b (q ∷ xs) xs) ≡ map (pair_gate cols time) (cond b (q ∷ []) []) ++ map (pair_gate cols time) xs
    by true xs = refl
    by false xs = refl

-- the drawn gate of the first of some qubits, and those of the others
pub drawn_step : (rows cols time s q : ℕ) (qs : List ℕ)
    → drawn_gates time s (alone_among rows cols time (q ∷ qs))
    ≡ drawn_gates time s (alone_among rows cols time (q ∷ [])) ++ drawn_gates time (state_after (length (alone_among rows cols time (q ∷ []))) s) (alone_among rows cols time qs)
drawn_step rows cols time s q qs = by (is_alone rows cols (pattern_at time) q) _
  where
    by : (b : Bool) (xs : List ℕ)
        → drawn_gates time s (cond b (q ∷ xs) xs) ≡ drawn_gates time s (cond b (q ∷ []) []) ++ drawn_gates time (state_after (length (cond b (q ∷ []) [])) s) xs
    by true xs = refl
    by false xs = refl

pub state_step : (rows cols time s q : ℕ) (qs : List ℕ)
    → state_after (length (alone_among rows cols time (q ∷ qs))) s
    ≡ state_after (length (alone_among rows cols time qs)) (state_after (length (alone_among rows cols time (q ∷ []))) s)
state_step rows cols time s q qs = by (is_alone rows cols (pattern_at time) q) _
  where
    by : (b : Bool) (xs : List ℕ) → state_after (length (cond b (q ∷ xs) xs)) s ≡ state_after (length xs) (state_after (length (cond b (q ∷ []) [])) s)
    by true xs = refl
    by false xs = refl

-- a circuit that takes all of some gates takes the first of them, when the ones before these have been pushed
pub step_fits : (c now : Circuit) (all front rest : List Gate) → IsCircuit (with_gates c all) → now.qubits ≡ c.qubits
    → now.gates ++ (front ++ rest) ≡ c.gates ++ all → IsCircuit (with_gates now front)
step_fits c now all front rest h q e =
    circuit_front now.qubits (now.gates ++ front) rest
    (subst (λ (gs : List Gate). IsCircuit (record { qubits = now.qubits; gates = gs })) (sym e ∙ sym (append_assoc now.gates front rest))
    (subst (λ n. IsCircuit (record { qubits = n; gates = c.gates ++ all })) (sym q) h))

pub step_next : (now next : Circuit) (front rest whole : List Gate) → next ≡ with_gates now front → now.gates ++ (front ++ rest) ≡ whole → next.gates ++ rest ≡ whole
step_next now next front rest whole e h = ap (λ (c : Circuit). c.gates ++ rest) e ∙ append_assoc now.gates front rest ∙ h

pub step_qubits : (c now next : Circuit) (front : List Gate) → next ≡ with_gates now front → now.qubits ≡ c.qubits → next.qubits ≡ c.qubits
step_qubits c now next front e h = ap (λ (c : Circuit). c.qubits) e ∙ h

-- all of the gates have been pushed
pub step_done : (c now : Circuit) (all rest : List Gate) → now.qubits ≡ c.qubits → rest ≡ [] → now.gates ++ rest ≡ c.gates ++ all → now ≡ with_gates c all
step_done c now all rest q none e =
    let same : now.gates ≡ c.gates ++ all = sym (append-nil now.gates) ∙ ap (λ gs. now.gates ++ gs) (sym none) ∙ e in
    λ i. record { qubits = q i; gates = same i }

abbrev pub cz_gate : ℕ → ℕ → ℕ → Gate
cz_gate time q r = record { time = time; kind = Cz; q0 = q; q1 = r }

-- the one gate of a lower qubit, and of a qubit in no pair
pub pair_one : (rows cols time q p d : ℕ) → p ≡ pattern_at time → is_lower rows cols p q ≡ true → d ≡ distance cols p
    → pairs_among rows cols time (q ∷ []) ≡ cz_gate time q (q + d) ∷ []
pair_one rows cols time q p d e h f =
    let test : is_lower rows cols (pattern_at time) q ≡ true = ap (λ x. is_lower rows cols x q) (sym e) ∙ h in
    let far : distance cols (pattern_at time) ≡ d = ap (distance cols) (sym e) ∙ sym f in
    ap (λ b. map (pair_gate cols time) (cond b (q ∷ []) [])) test ∙ ap (λ x. cz_gate time q (q + x) ∷ []) far

pub pair_none : (rows cols time q p : ℕ) → p ≡ pattern_at time → is_lower rows cols p q ≡ false → pairs_among rows cols time (q ∷ []) ≡ []
pair_none rows cols time q p e h = ap (λ b. map (pair_gate cols time) (cond b (q ∷ []) [])) (ap (λ x. is_lower rows cols x q) (sym e) ∙ h)

pub alone_one : (rows cols time q p : ℕ) → p ≡ pattern_at time → is_alone rows cols p q ≡ true → alone_among rows cols time (q ∷ []) ≡ q ∷ []
alone_one rows cols time q p e h = ap (λ b. cond b (q ∷ []) []) (ap (λ x. is_alone rows cols x q) (sym e) ∙ h)

pub alone_none : (rows cols time q p : ℕ) → p ≡ pattern_at time → is_alone rows cols p q ≡ false → alone_among rows cols time (q ∷ []) ≡ []
alone_none rows cols time q p e h = ap (λ b. cond b (q ∷ []) []) (ap (λ x. is_alone rows cols x q) (sym e) ∙ h)

-- a drawing on one qubit
pub drawn_one : (rows cols time s q p t : ℕ) (kind : Kind) → p ≡ pattern_at time → is_alone rows cols p q ≡ true → t ≡ next_state s → kind ≡ drawn_kind (t / 2 ^ 33)
    → drawn_gates time s (alone_among rows cols time (q ∷ [])) ≡ single time kind q ∷ []
drawn_one rows cols time s q p t kind e h f g =
    let same : drawn_kind (next_state s / 2 ^ 33) ≡ kind = ap (λ x. drawn_kind (x / 2 ^ 33)) (sym f) ∙ sym g in
    ap (drawn_gates time s) (alone_one rows cols time q p e h) ∙ ap (λ k. single time k q ∷ []) same

mod_more : (k m x : ℕ) → 0 < m → (k * m + x) % m ≡ x % m
mod_more k m x some =
    let place : (k + x / m) * m + x % m ≡ k * m + x = (let e : (k + x / m) * m ≡ k * m + x / m * m = omega arith in omega (arith, div-add-mod' x m)) in
    ap (λ y. y % m) (sym place) ∙ mod-mul-add (k + x / m) m (x % m) (mod_below x m some)

-- a remainder may be taken before a sum, too
pub mod_before : (a c m : ℕ) → 0 < m → (a % m + c) % m ≡ (a + c) % m
mod_before a c m some =
    let place : a / m * m + (a % m + c) ≡ a + c = omega (arith, div-add-mod' a m) in
    sym (mod_more (a / m) m (a % m + c) some) ∙ ap (λ y. y % m) place

-- the gates of one time more
pub between_step : (rows cols depth time s : ℕ) → time < depth + 1
    → gates_between rows cols (depth + 1 - time) time s
    ≡ pairs_at rows cols time ++ (drawn_gates time s (alone_at rows cols time) ++ gates_between rows cols (depth + 1 - (time + 1)) (time + 1) (state_after (length (alone_at rows cols time)) s))
between_step rows cols depth time s l =
    let e : depth + 1 - time ≡ suc (depth + 1 - (time + 1)) = omega arith in
    ap (λ n. gates_between rows cols n time s) e
    ∙ append_assoc (pairs_at rows cols time) (drawn_gates time s (alone_at rows cols time)) (gates_between rows cols (depth + 1 - (time + 1)) (time + 1) (state_after (length (alone_at rows cols time)) s))

pub between_done : (rows cols depth time s : ℕ) → depth + 1 ≤ time → gates_between rows cols (depth + 1 - time) time s ≡ []
between_done rows cols depth time s l = let e : depth + 1 - time ≡ 0 = omega arith in ap (λ n. gates_between rows cols n time s) e

pub regroup : (gs whole between p d b h : List Gate) → between ≡ p ++ (d ++ b) → gs ++ (between ++ h) ≡ whole → gs ++ (p ++ (d ++ (b ++ h))) ≡ whole
regroup gs whole between p d b h e inv =
    ap (λ x. gs ++ x) (sym (append_assoc p (d ++ b) h ∙ ap (λ x. p ++ x) (append_assoc d b h)) ∙ ap (λ x. x ++ h) (sym e)) ∙ inv

pub regroup_last : (gs whole between h : List Gate) → between ≡ [] → gs ++ (between ++ h) ≡ whole → gs ++ (h ++ []) ≡ whole
regroup_last gs whole between h e inv = ap (λ x. gs ++ x) (append-nil h ∙ ap (λ x. x ++ h) (sym e)) ∙ inv
