-- Circuits whose gates are the front of a valid circuit's gates.
use Rattle.std.proofs.Common.{◌≡◌, ℕ, zero, suc, ◌+◌, ◌^◌, ◌<◌, ◌≤◌, inl, inr, List, [], ◌∷◌, ◌++◌, length, get_or, All, refl, sym, subst, ◌∙◌, arith, length-append}
use Rattle.std.specs.List.{AllPairs}
use Rattle.std.proofs.lemmas.List.{get_or_append_left, get_or_at}
use Rattle.std.proofs.lemmas.List.Elements.{All-append, All-head, All-tail}
use Rattle.std.proofs.lemmas.List.Kept.{AllPairs-cons}
use Rattle.qh_gates.specs.declared.gate.Gate.{Gate}
use Rattle.qh_gates.specs.declared.gate.GateFault.{GateFault}
use Rattle.qh_gates.specs.declared.gate.GateFault.TheVariants.{BadQubit, SameQubit, TimeBack, Overlap, Full}
use Rattle.qh_gates.specs.Circuits.{IsCircuit, Fits, InOrder}
use Rattle.qh_gates.specs.Faults.{Applies, Shares, IsAccepted}

-- the front of a valid list is valid
pub circuit_front : (n : ℕ) (xs ys : List Gate) → IsCircuit (record { qubits = n; gates = xs ++ ys }) → IsCircuit (record { qubits = n; gates = xs })
circuit_front n xs ys h = record {
  some = h.some;
  few = h.few;
  short = let s = h.short in omega (arith, length-append xs ys);
  fit = λ k d l. subst (Fits n) (get_or_append_left xs ys d k l) (h.fit k d (omega (arith, length-append xs ys)));
  times = λ k d l. subst (λ (g : Gate). g.time < 2 ^ 32) (get_or_append_left xs ys d k l) (h.times k d (omega (arith, length-append xs ys)));
  ordered = λ i j d l m.
      subst (λ x. InOrder x (get_or xs j d)) (get_or_append_left xs ys d i (omega arith))
      (subst (λ y. InOrder (get_or (xs ++ ys) i d) y) (get_or_append_left xs ys d j m) (h.ordered i j d l (omega (arith, length-append xs ys))));
}

-- no fault applies to the next gate of a circuit
accepted : (n : ℕ) (gs others : List Gate) (g : Gate) (f : GateFault) → IsCircuit (record { qubits = n; gates = gs ++ g ∷ others }) → Applies (record { qubits = n; gates = gs }) g f → ⊥
accepted n gs others g f h = by_fault f
  where
    fits : Fits n g
    fits = subst (Fits n) (get_or_at gs g others g (length gs) refl) (h.fit (length gs) g (omega (arith, length-append gs (g ∷ others))))

    ordered : (k : ℕ) (x : Gate) → k < length gs → get_or gs k x ≡ x → InOrder x g
    ordered k x l e = subst (λ y. InOrder y g) (get_or_append_left gs (g ∷ others) x k l ∙ e)
        (subst (λ y. InOrder (get_or (gs ++ g ∷ others) k x) y) (get_or_at gs g others x (length gs) refl) (h.ordered k (length gs) x l (omega (arith, length-append gs (g ∷ others)))))

    by_fault : (f : GateFault) → Applies (record { qubits = n; gates = gs }) g f → ⊥
    by_fault BadQubit (inl a) = let b = fits.first in omega arith
    by_fault BadQubit (inr a) = let b = fits.second in omega arith
    by_fault SameQubit a = fits.two a.0 (sym a.1)
    by_fault TimeBack a = let o = (ordered a.0 a.1 a.2 a.3).time in let p = a.4 in omega arith
    by_fault Overlap a = shared a.1 (ordered a.0 a.1 a.2 a.3) a.4.0 a.4.1
      where
        shared : (x : Gate) → InOrder x g → x.time ≡ g.time → Shares g x → ⊥
        shared x o t (inl e) = o.apart00 t (sym e)
        shared x o t (inr (inl e)) = o.apart10 t (sym e)
        shared x o t (inr (inr (inl e))) = o.apart01 t (sym e)
        shared x o t (inr (inr (inr e))) = o.apart11 t (sym e)
    by_fault Full a = let s = h.short in omega (arith, length-append gs (g ∷ others))

-- the next gate of a circuit may be pushed
pub may_push : (n : ℕ) (gs : List Gate) (g : Gate) → IsCircuit (record { qubits = n; gates = gs ++ g ∷ [] }) → IsAccepted (record { qubits = n; gates = gs }) g
may_push n gs g h = ((accepted n gs [] g BadQubit h, accepted n gs [] g SameQubit h, accepted n gs [] g TimeBack h, accepted n gs [] g Overlap h), accepted n gs [] g Full h)

pairs_head : (x : Gate) (xs : List Gate) → AllPairs InOrder (x ∷ xs) → All (InOrder x) xs
pairs_head x xs h k d l = h zero (suc k) d (omega arith) (omega arith)

pairs_tail : (x : Gate) (xs : List Gate) → AllPairs InOrder (x ∷ xs) → AllPairs InOrder xs
pairs_tail x xs h i j d l m = h (suc i) (suc j) d (omega arith) (omega arith)

ordered_append : (xs ys : List Gate) → AllPairs InOrder xs → AllPairs InOrder ys → All (λ x. All (InOrder x) ys) xs → AllPairs InOrder (xs ++ ys)
ordered_append [] ys p q c = q
ordered_append (x ∷ xs) ys p q c =
    AllPairs-cons InOrder x (xs ++ ys) (All-append (InOrder x) xs ys (pairs_head x xs p) (All-head (λ x. All (InOrder x) ys) x xs c))
    (ordered_append xs ys (pairs_tail x xs p) q (All-tail (λ x. All (InOrder x) ys) x xs c))

-- lists whose elements stand in order with each other's
pub ordered_join : (P Q : Gate → Type 0) (xs ys : List Gate) → ((x y : Gate) → P x → Q y → InOrder x y) → All P xs → All Q ys
    → AllPairs InOrder xs → AllPairs InOrder ys → AllPairs InOrder (xs ++ ys)
ordered_join P Q xs ys r p q a b = ordered_append xs ys a b (λ k d l j e m. r (get_or xs k d) (get_or ys j e) (p k d l) (q j e m))

-- gates in order, each of which fits, at times from low on and below high
pub record AreGates (n low high room : ℕ) (xs : List Gate) : Type 0 where
  pub from : All (λ g. low ≤ g.time) xs
  pub before : All (λ g. g.time < high) xs
  pub ordered : AllPairs InOrder xs
  pub fit : All (Fits n) xs
  pub short : length xs ≤ room

later : (b : ℕ) (x y : Gate) → x.time < b → b ≤ y.time → InOrder x y
later b x y l m = record {
  time = omega arith;
  apart00 = λ e. absurd (omega arith);
  apart01 = λ e. absurd (omega arith);
  apart10 = λ e. absurd (omega arith);
  apart11 = λ e. absurd (omega arith);
}

pub gates_join : (n a b c r s : ℕ) (xs ys : List Gate) → a ≤ b → b ≤ c → AreGates n a b r xs → AreGates n b c s ys → AreGates n a c (r + s) (xs ++ ys)
gates_join n a b c r s xs ys l m p q = record {
  from = All-append (λ g. a ≤ g.time) xs ys p.from (λ k d u. let f = q.from k d u in omega arith);
  before = All-append (λ g. g.time < c) xs ys (λ k d u. let f = p.before k d u in omega arith) q.before;
  ordered = ordered_join (λ g. g.time < b) (λ g. b ≤ g.time) xs ys (later b) p.before q.from p.ordered q.ordered;
  fit = All-append (Fits n) xs ys p.fit q.fit;
  short = let s1 = p.short in let s2 = q.short in omega (arith, length-append xs ys);
}
