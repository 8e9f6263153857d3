-- The generated circuit is a valid one.
use Rattle.std.proofs.Common.{◌≡◌, ℕ, zero, suc, ◌+◌, ◌*◌, ◌/◌, ◌^◌, ◌<◌, ◌≤◌, ◌||◌, Bool, true, false, not, cond, List, ◌∷◌, ◌++◌, length, map, All, refl, sym, ap, subst, ◌∙◌, arith, length-append}
use Rattle.std.specs.List.{AllPairs, range_with_len}
use Rattle.std.proofs.lemmas.Nat.{mul-le}
use Rattle.std.proofs.lemmas.Bool.{false≢true}
use Rattle.std.proofs.lemmas.List.Elements.{All-nil, All-cons, All-weaker, All-append}
use Rattle.std.proofs.lemmas.List.Kept.{AllPairs-cons}
use Rattle.qh_gates.specs.declared.kind.Kind.{Kind}
use Rattle.qh_gates.specs.declared.kind.Kind.TheVariants.{H, T, X12, Y12}
use Rattle.qh_gates.specs.declared.gate.Gate.{Gate}
use Rattle.qh_gates.specs.Tables.{qubits_of}
use Rattle.qh_gates.specs.Circuits.{IsCircuit, Fits, InOrder}
use Rattle.qh_gen.specs.Drawings.{next_state, state_after, drawn_kind, single, drawn_gates}
use Rattle.qh_gen.specs.Grids.{distance, is_lower, is_upper, pattern_at, alone_among, alone_at, pair_gate, pairs_among, pairs_at, gates_between, hadamards_at, generated_gates, generated}
use Rattle.qh_gen.proofs.CircuitLemmas.{ordered_join, AreGates, gates_join}
use Rattle.qh_gen.proofs.PairLemmas.{pairs_apart, distance_some, pair_within, upper_of}

kind_by : (a b : Bool) → qubits_of (cond a T (cond b X12 Y12)) ≡ 1
kind_by true b = refl
kind_by false true = refl
kind_by false false = refl

-- a gate on one qubit, from a qubit on
record IsSingle (n time low : ℕ) (g : Gate) : Type 0 where
  at : low ≤ g.q0
  below : g.q0 < n
  same : g.q1 ≡ g.q0
  when : g.time ≡ time
  one : qubits_of g.kind ≡ 1

single_weaker : (n time q : ℕ) (g : Gate) → IsSingle n time (q + 1) g → IsSingle n time q g
single_weaker n time q g h = record { at = let a = h.at in omega arith; below = h.below; same = h.same; when = h.when; one = h.one }

singles_in_order : (n time low : ℕ) (g h : Gate) → IsSingle n time low g → IsSingle n time (g.q0 + 1) h → InOrder g h
singles_in_order n time low g h a b =
    let ea = a.same in let eb = b.same in let ta = a.when in let tb = b.when in let more = b.at in
    record {
      time = omega arith;
      apart00 = λ t e. omega arith;
      apart01 = λ t e. omega arith;
      apart10 = λ t e. omega arith;
      apart11 = λ t e. omega arith;
    }

single_fits : (n time low : ℕ) (g : Gate) → IsSingle n time low g → Fits n g
single_fits n time low g h = record {
  first = h.below;
  second = let b = h.below in let e = h.same in omega arith;
  one = λ _. h.same;
  two = λ e. absurd (let o = h.one in omega arith);
}

hadamards_from : (n time q k : ℕ) → q + k ≤ n → All (IsSingle n time q) (map (single time H) (range_with_len q k))
hadamards_from n time q zero l = All-nil (IsSingle n time q)
hadamards_from n time q (suc k) l =
    All-cons (IsSingle n time q) (single time H q) (map (single time H) (range_with_len (q + 1) k))
    (record { at = omega arith; below = omega arith; same = refl; when = refl; one = refl })
    (All-weaker (IsSingle n time (q + 1)) (IsSingle n time q) (single_weaker n time q) (map (single time H) (range_with_len (q + 1) k)) (hadamards_from n time (q + 1) k (omega arith)))

hadamards_ordered : (n time q k : ℕ) → q + k ≤ n → AllPairs InOrder (map (single time H) (range_with_len q k))
hadamards_ordered n time q zero l = λ i j d u m. absurd (omega arith)
hadamards_ordered n time q (suc k) l =
    let rest = map (single time H) (range_with_len (q + 1) k) in
    AllPairs-cons InOrder (single time H q) rest
    (All-weaker (IsSingle n time (q + 1)) (InOrder (single time H q))
    (λ h b. singles_in_order n time q (single time H q) h (record { at = omega arith; below = omega arith; same = refl; when = refl; one = refl }) b)
    rest (hadamards_from n time (q + 1) k (omega arith)))
    (hadamards_ordered n time (q + 1) k (omega arith))

hadamards_length : (time q k : ℕ) → length (map (single time H) (range_with_len q k)) ≡ k
hadamards_length time q zero = refl
hadamards_length time q (suc k) = ap suc (hadamards_length time (q + 1) k)

hadamards_are : (rows cols time : ℕ) → AreGates (rows * cols) time (time + 1) (rows * cols) (hadamards_at rows cols time)
hadamards_are rows cols time =
    let n = rows * cols in
    let all = hadamards_from n time 0 n (omega arith) in
    record {
      from = All-weaker (IsSingle n time 0) (λ g. time ≤ g.time) (λ g h. let t = h.when in omega arith) (hadamards_at rows cols time) all;
      before = All-weaker (IsSingle n time 0) (λ g. g.time < time + 1) (λ g h. let t = h.when in omega arith) (hadamards_at rows cols time) all;
      ordered = hadamards_ordered n time 0 n (omega arith);
      fit = All-weaker (IsSingle n time 0) (Fits n) (single_fits n time 0) (hadamards_at rows cols time) all;
      short = let e = hadamards_length time 0 n in omega arith;
    }

module _ (rows cols time : ℕ) (some : 0 < cols) where
  -- the `cz` of a pair, from a lower qubit on
  record IsPair (low : ℕ) (g : Gate) : Type 0 where
    at : low ≤ g.q0
    below : g.q0 < rows * cols
    lower : is_lower rows cols (pattern_at time) g.q0 ≡ true
    upper : g.q1 ≡ g.q0 + distance cols (pattern_at time)
    when : g.time ≡ time
    kind : qubits_of g.kind ≡ 2

  -- a drawn gate, from a qubit on
  record IsDrawn (low : ℕ) (g : Gate) : Type 0 where
    single : IsSingle (rows * cols) time low g
    lower : is_lower rows cols (pattern_at time) g.q0 ≡ false
    upper : is_upper rows cols (pattern_at time) g.q0 ≡ false

  pair_weaker : (q : ℕ) (g : Gate) → IsPair (q + 1) g → IsPair q g
  pair_weaker q g h = record { at = let a = h.at in omega arith; below = h.below; lower = h.lower; upper = h.upper; when = h.when; kind = h.kind }

  drawn_weaker : (q : ℕ) (g : Gate) → IsDrawn (q + 1) g → IsDrawn q g
  drawn_weaker q g h = record { single = single_weaker (rows * cols) time q g h.single; lower = h.lower; upper = h.upper }

  pairs_in_order : (low : ℕ) (g h : Gate) → IsPair low g → IsPair (g.q0 + 1) h → InOrder g h
  pairs_in_order low g h a b =
      let ea = a.upper in let eb = b.upper in let ta = a.when in let tb = b.when in let more = b.at in
      record {
        time = omega arith;
        apart00 = λ t e. omega arith;
        apart01 = λ t e. omega arith;
        apart10 = λ t e. pairs_apart rows cols (pattern_at time) g.q0 h.q0 some a.lower b.lower (omega arith);
        apart11 = λ t e. omega arith;
      }

  mixed_in_order : (g h : Gate) → IsPair 0 g → IsDrawn 0 h → InOrder g h
  mixed_in_order g h a b =
      let s = b.single in
      let ea = a.upper in let eb = s.same in let ta = a.when in let tb = s.when in
      let first : g.q0 ≡ h.q0 → ⊥ = λ e. false≢true (sym b.lower ∙ ap (is_lower rows cols (pattern_at time)) (sym e) ∙ a.lower) in
      let second : g.q1 ≡ h.q0 → ⊥ = λ e. false≢true (sym b.upper ∙ upper_of rows cols (pattern_at time) g.q0 h.q0 a.lower (sym ea ∙ e)) in
      record {
        time = omega arith;
        apart00 = λ t e. first e;
        apart01 = λ t e. first (e ∙ eb);
        apart10 = λ t e. second e;
        apart11 = λ t e. second (e ∙ eb);
      }

  pair_fits : (low : ℕ) (g : Gate) → IsPair low g → Fits (rows * cols) g
  pair_fits low g h =
      let far = distance_some cols (pattern_at time) some in
      let e = h.upper in
      record {
        first = h.below;
        second = let w = pair_within rows cols (pattern_at time) g.q0 some h.below h.lower in omega arith;
        one = λ o. absurd (let k = h.kind in omega arith);
        two = λ _ o. omega arith;
      }

  pair_at : (q : ℕ) → q < rows * cols → is_lower rows cols (pattern_at time) q ≡ true → IsPair q (pair_gate cols time q)
  pair_at q l e = record { at = omega arith; below = l; lower = e; upper = refl; when = refl; kind = refl }

  pairs_from_by : (q : ℕ) (xs : List ℕ) (b : Bool) → q < rows * cols → is_lower rows cols (pattern_at time) q ≡ b
      → All (IsPair (q + 1)) (map (pair_gate cols time) xs) → All (IsPair q) (map (pair_gate cols time) (cond b (q ∷ xs) xs))
  pairs_from_by q xs false l e h = All-weaker (IsPair (q + 1)) (IsPair q) (pair_weaker q) (map (pair_gate cols time) xs) h
  pairs_from_by q xs true l e h =
      All-cons (IsPair q) (pair_gate cols time q) (map (pair_gate cols time) xs) (pair_at q l e)
      (All-weaker (IsPair (q + 1)) (IsPair q) (pair_weaker q) (map (pair_gate cols time) xs) h)

  pairs_from : (q k : ℕ) → q + k ≤ rows * cols → All (IsPair q) (pairs_among rows cols time (range_with_len q k))
  pairs_from q zero l = All-nil (IsPair q)
  pairs_from q (suc k) l = pairs_from_by q _ _ (omega arith) refl (pairs_from (q + 1) k (omega arith))

  pairs_ordered_by : (q : ℕ) (xs : List ℕ) (b : Bool) → q < rows * cols → is_lower rows cols (pattern_at time) q ≡ b
      → All (IsPair (q + 1)) (map (pair_gate cols time) xs) → AllPairs InOrder (map (pair_gate cols time) xs)
      → AllPairs InOrder (map (pair_gate cols time) (cond b (q ∷ xs) xs))
  pairs_ordered_by q xs false l e h o = o
  pairs_ordered_by q xs true l e h o =
      AllPairs-cons InOrder (pair_gate cols time q) (map (pair_gate cols time) xs)
      (All-weaker (IsPair (q + 1)) (InOrder (pair_gate cols time q)) (λ g b. pairs_in_order q (pair_gate cols time q) g (pair_at q l e) b) (map (pair_gate cols time) xs) h) o

  pairs_ordered : (q k : ℕ) → q + k ≤ rows * cols → AllPairs InOrder (pairs_among rows cols time (range_with_len q k))
  pairs_ordered q zero l = λ i j d u m. absurd (omega arith)
  pairs_ordered q (suc k) l = pairs_ordered_by q _ _ (omega arith) refl (pairs_from (q + 1) k (omega arith)) (pairs_ordered (q + 1) k (omega arith))

  single_at : (q : ℕ) (kind : Kind) → q < rows * cols → qubits_of kind ≡ 1 → IsSingle (rows * cols) time q (single time kind q)
  single_at q kind l e = record { at = omega arith; below = l; same = refl; when = refl; one = e }

  drawn_from_by : (q s : ℕ) (xs : List ℕ) (a b : Bool) → q < rows * cols → is_lower rows cols (pattern_at time) q ≡ a → is_upper rows cols (pattern_at time) q ≡ b
      → ((r : ℕ) → All (IsDrawn (q + 1)) (drawn_gates time r xs)) → All (IsDrawn q) (drawn_gates time s (cond (not (a || b)) (q ∷ xs) xs))
  drawn_from_by q s xs true b l e f h = All-weaker (IsDrawn (q + 1)) (IsDrawn q) (drawn_weaker q) (drawn_gates time s xs) (h s)
  drawn_from_by q s xs false true l e f h = All-weaker (IsDrawn (q + 1)) (IsDrawn q) (drawn_weaker q) (drawn_gates time s xs) (h s)
  drawn_from_by q s xs false false l e f h =
      All-cons (IsDrawn q) (single time (drawn_kind (next_state s / 2 ^ 33)) q) (drawn_gates time (next_state s) xs)
      (record { single = single_at q (drawn_kind (next_state s / 2 ^ 33)) l (kind_by _ _); lower = e; upper = f })
      (All-weaker (IsDrawn (q + 1)) (IsDrawn q) (drawn_weaker q) (drawn_gates time (next_state s) xs) (h (next_state s)))

  drawn_from : (q k s : ℕ) → q + k ≤ rows * cols → All (IsDrawn q) (drawn_gates time s (alone_among rows cols time (range_with_len q k)))
  drawn_from q zero s l = All-nil (IsDrawn q)
  drawn_from q (suc k) s l = drawn_from_by q s _ _ _ (omega arith) refl refl (λ r. drawn_from (q + 1) k r (omega arith))

  drawn_ordered_by : (q s : ℕ) (xs : List ℕ) (b : Bool) → q < rows * cols
      → ((r : ℕ) → All (IsDrawn (q + 1)) (drawn_gates time r xs)) → ((r : ℕ) → AllPairs InOrder (drawn_gates time r xs))
      → AllPairs InOrder (drawn_gates time s (cond b (q ∷ xs) xs))
  drawn_ordered_by q s xs false l h o = o s
  drawn_ordered_by q s xs true l h o =
      AllPairs-cons InOrder (single time (drawn_kind (next_state s / 2 ^ 33)) q) (drawn_gates time (next_state s) xs)
      (All-weaker (IsDrawn (q + 1)) (InOrder (single time (drawn_kind (next_state s / 2 ^ 33)) q))
      (λ g b. singles_in_order (rows * cols) time q (single time (drawn_kind (next_state s / 2 ^ 33)) q) g (single_at q (drawn_kind (next_state s / 2 ^ 33)) l (kind_by _ _)) b.single)
      (drawn_gates time (next_state s) xs) (h (next_state s)))
      (o (next_state s))

  drawn_ordered : (q k s : ℕ) → q + k ≤ rows * cols → AllPairs InOrder (drawn_gates time s (alone_among rows cols time (range_with_len q k)))
  drawn_ordered q zero s l = λ i j d u m. absurd (omega arith)
  drawn_ordered q (suc k) s l = drawn_ordered_by q s _ _ (omega arith) (λ r. drawn_from (q + 1) k r (omega arith)) (λ r. drawn_ordered (q + 1) k r (omega arith))

  -- each qubit has at most one gate of its own
  layer_length_by : (q k s : ℕ) (xs ys : List ℕ) (a b : Bool)
      → ((r : ℕ) → length (map (pair_gate cols time) xs) + length (drawn_gates time r ys) ≤ k)
      → length (map (pair_gate cols time) (cond a (q ∷ xs) xs)) + length (drawn_gates time s (cond (not (a || b)) (q ∷ ys) ys)) ≤ suc k
  layer_length_by q k s xs ys true b h = let l = h s in omega arith
  layer_length_by q k s xs ys false true h = let l = h s in omega arith
  layer_length_by q k s xs ys false false h = let l = h (next_state s) in omega arith

  layer_length : (q k s : ℕ)
      → length (pairs_among rows cols time (range_with_len q k)) + length (drawn_gates time s (alone_among rows cols time (range_with_len q k))) ≤ k
  layer_length q zero s = omega arith
  layer_length q (suc k) s = layer_length_by q k s _ _ _ _ (λ r. layer_length (q + 1) k r)

  layer_are : (s : ℕ) → AreGates (rows * cols) time (time + 1) (rows * cols) (pairs_at rows cols time ++ drawn_gates time s (alone_at rows cols time))
  layer_are s =
      let n = rows * cols in
      let xs = pairs_at rows cols time in
      let ys = drawn_gates time s (alone_at rows cols time) in
      let p = pairs_from 0 n (omega arith) in
      let d = drawn_from 0 n s (omega arith) in
      record {
        from = All-append (λ g. time ≤ g.time) xs ys
            (All-weaker (IsPair 0) (λ g. time ≤ g.time) (λ g h. let t = h.when in omega arith) xs p)
            (All-weaker (IsDrawn 0) (λ g. time ≤ g.time) (λ g h. let t = h.single.when in omega arith) ys d);
        before = All-append (λ g. g.time < time + 1) xs ys
            (All-weaker (IsPair 0) (λ g. g.time < time + 1) (λ g h. let t = h.when in omega arith) xs p)
            (All-weaker (IsDrawn 0) (λ g. g.time < time + 1) (λ g h. let t = h.single.when in omega arith) ys d);
        ordered = ordered_join (IsPair 0) (IsDrawn 0) xs ys mixed_in_order p d (pairs_ordered 0 n (omega arith)) (drawn_ordered 0 n s (omega arith));
        fit = All-append (Fits n) xs ys
            (All-weaker (IsPair 0) (Fits n) (pair_fits 0) xs p)
            (All-weaker (IsDrawn 0) (Fits n) (λ g h. single_fits n time 0 g h.single) ys d);
        short = let h = layer_length 0 n s in omega (arith, length-append xs ys);
      }

between_are : (rows cols k time s : ℕ) → 0 < cols → AreGates (rows * cols) time (time + k) (k * (rows * cols)) (gates_between rows cols k time s)
between_are rows cols zero time s some = record {
  from = All-nil (λ g. time ≤ g.time);
  before = All-nil (λ g. g.time < time + 0);
  ordered = λ i j d u m. absurd (omega arith);
  fit = All-nil (Fits (rows * cols));
  short = omega arith;
}
between_are rows cols (suc k) time s some =
    let n = rows * cols in
    let next = state_after (length (alone_at rows cols time)) s in
    let rest : AreGates n (time + 1) (time + suc k) (k * n) (gates_between rows cols k (time + 1) next) =
    (let e : time + 1 + k ≡ time + suc k = omega arith in
    subst (λ c. AreGates n (time + 1) c (k * n) (gates_between rows cols k (time + 1) next)) e (between_are rows cols k (time + 1) next some)) in
    let room : n + k * n ≡ suc k * n = omega arith in
    subst (λ r. AreGates n time (time + suc k) r (gates_between rows cols (suc k) time s)) room
    (gates_join n time (time + 1) (time + suc k) n (k * n) (pairs_at rows cols time ++ drawn_gates time s (alone_at rows cols time)) (gates_between rows cols k (time + 1) next)
    (omega arith) (omega arith) (layer_are rows cols time some s) rest)

generated_are : (start rows cols depth : ℕ) → 1 ≤ cols
    → AreGates (rows * cols) 0 (depth + 1 + 1) (rows * cols + depth * (rows * cols) + rows * cols) (generated_gates start rows cols depth)
generated_are start rows cols depth some =
    let n = rows * cols in
    let middle : AreGates n 1 (depth + 1) (depth * n) (gates_between rows cols depth 1 start) =
    (let e : 1 + depth ≡ depth + 1 = omega arith in
    subst (λ b. AreGates n 1 b (depth * n) (gates_between rows cols depth 1 start)) e (between_are rows cols depth 1 start some)) in
    let front = gates_join n 0 1 (depth + 1) n (depth * n) (hadamards_at rows cols 0) (gates_between rows cols depth 1 start) (omega arith) (omega arith) (hadamards_are rows cols 0) middle in
    gates_join n 0 (depth + 1) (depth + 1 + 1) (n + depth * n) n (hadamards_at rows cols 0 ++ gates_between rows cols depth 1 start) (hadamards_at rows cols (depth + 1))
    (omega arith) (omega arith) front (hadamards_are rows cols (depth + 1))

-- the generated circuit has at most 40 * 102 gates
pub generated_short : (start rows cols depth : ℕ) → 1 ≤ cols → rows * cols ≤ 40 → depth ≤ 100 → length (generated_gates start rows cols depth) ≤ 4080
generated_short start rows cols depth some few shallow =
    let room : depth * (rows * cols) ≤ 100 * 40 = mul-le depth (rows * cols) 100 40 shallow few in
    let s = (generated_are start rows cols depth some).short in
    omega arith

-- the generated circuit is valid
pub generated_valid : (start rows cols depth : ℕ) → 1 ≤ rows → 1 ≤ cols → rows * cols ≤ 40 → depth ≤ 100 → IsCircuit (generated start rows cols depth)
generated_valid start rows cols depth r c few shallow =
    let whole = generated_are start rows cols depth c in
    record {
      some = mul-le 1 1 rows cols r c;
      few = few;
      short = let s = generated_short start rows cols depth c few shallow in omega arith;
      fit = whole.fit;
      times = All-weaker (λ g. g.time < depth + 1 + 1) (λ g. g.time < 2 ^ 32) (λ g early. omega arith) (generated_gates start rows cols depth) whole.before;
      ordered = whole.ordered;
    }
