-- The qubits of part 1, and the gates that cross.
use Rattle.std.proofs.Common.{◌≡◌, ◌==◌, ℕ, zero, suc, ◌+◌, ◌<◌, ◌≤◌, inl, inr, Bool, true, false, if◌then◌else◌, List, [], ◌∷◌, ◌++◌, length, get_or, take, drop, arith, refl, sym, ap, ◌∙◌, All, Some, nat_le, length-append}
use Rattle.std.specs.List.{list_any}
use Rattle.std.specs.List.Sorted.{IsStrictlyIncreasing}
use Rattle.std.proofs.lemmas.List.{drop_more, take_more, get_or_at, get_or_append_left}
use Rattle.std.proofs.lemmas.List.Elements.{All-nil, All-cons, All-head, All-tail, All-push, All-weaker}
use Rattle.std.proofs.lemmas.Bool.{cases_Bool, cases_lt}
use Rattle.qh_gates.specs.declared.gate.Gate.{Gate}
use Rattle.qh_gates.specs.Tables.{qubits_of}
use Rattle.qh_gates.specs.Terms.{terms_of}
use Rattle.qh_gates.proofs.KindLemmas.{one_or_two, radix_of}
use Rattle.qh_plan.specs.Paths.{differ, crosses, radices}
use Rattle.qh_plan.specs.declared.fault.PlanFault.TheVariants.{NoSuchQubit, QubitTwice}
use Rattle.qh_plan.specs.Plans.{item_fault, rising, IsRadix}

-- ---- the items of part 1

-- the items from i on begin with that at i
pub item_next : (n : ℕ) (items : List ℕ) (i d : ℕ) → i < length items
    → item_fault n (take i items) (drop i items) ≡ (if nat_le n (get_or items i d) then Some (NoSuchQubit (get_or items i d))
    else (if list_any (λ k. k == get_or items i d) (take i items) then Some (QubitTwice (get_or items i d))
    else item_fault n (take (i + 1) items) (drop (i + 1) items)))
item_next n items i d l = rw (drop_more items i d l, take_more items i d l) refl

-- ---- the gates that cross

differ_self : (b : Bool) → differ b b ≡ false
differ_self true = refl
differ_self false = refl

-- a gate that crosses acts on two qubits
pub crossing_two : (one : ℕ → Bool) (g : Gate) → (qubits_of g.kind ≡ 1 → g.q1 ≡ g.q0) → crosses one g ≡ true → qubits_of g.kind ≡ 2
crossing_two one g h e = elim (one_or_two g.kind) [
  | inl single ↦ absurd (never (sym (differ_self (one g.q0)) ∙ ap (λ q. differ (one g.q0) (one q)) (sym (h single)) ∙ e))
  | inr two ↦ two
]
  where
    never : false ≡ true → ⊥
    never x = (cc)

pub radices_known : (one : ℕ → Bool) (gs : List Gate) → All (λ (g : Gate). qubits_of g.kind ≡ 1 → g.q1 ≡ g.q0) gs → All IsRadix (radices one gs)
radices_known one [] h = All-nil IsRadix
radices_known one (g ∷ gs) h =
    let P : Gate → Type 0 = λ (x : Gate). qubits_of x.kind ≡ 1 → x.q1 ≡ x.q0 in
    let rest = radices_known one gs (All-tail P g gs h) in
    elim (cases_Bool (crosses one g)) [
      | inl e ↦ rw e (All-cons IsRadix (length (terms_of g.kind)) (radices one gs) (radix_of g.kind (crossing_two one g (All-head P g gs h) e)) rest)
      | inr e ↦ rw e rest
    ]

pub radices_next : (one : ℕ → Bool) (gs : List Gate) (i : ℕ) (d : Gate) → i < length gs
    → radices one (drop i gs) ≡ (if crosses one (get_or gs i d) then length (terms_of (get_or gs i d).kind) ∷ radices one (drop (i + 1) gs) else radices one (drop (i + 1) gs))
radices_next one gs i d l = ap (radices one) (drop_more gs i d l)

-- ---- part 1 in rising order

pub rising_length : (n : ℕ) (items : List ℕ) → length (rising n items) ≤ n
rising_length zero items = omega arith
rising_length (suc n) items = elim (cases_Bool (list_any (λ k. k == n) items)) [
  | inl e ↦ rw e (let h = rising_length n items in omega (arith, length-append (rising n items) (n ∷ [])))
  | inr e ↦ rw e (let h = rising_length n items in omega arith)
]

pub rising_below : (n : ℕ) (items : List ℕ) → All (λ q. q < n) (rising n items)
rising_below zero items = All-nil (λ q. q < 0)
rising_below (suc n) items =
    let h : All (λ q. q < suc n) (rising n items) = All-weaker (λ q. q < n) (λ q. q < suc n) (λ q l. omega arith) (rising n items) (rising_below n items) in
    elim (cases_Bool (list_any (λ k. k == n) items)) [
      | inl e ↦ rw e (All-push (λ q. q < suc n) (rising n items) n h (omega arith))
      | inr e ↦ rw e h
    ]

increasing_push : (xs : List ℕ) (y : ℕ) → IsStrictlyIncreasing xs → All (λ q. q < y) xs → IsStrictlyIncreasing (xs ++ y ∷ [])
increasing_push xs y h below k l = elim (cases_lt (k + 1) (length xs)) [
  | inl inside ↦
      let a = get_or_append_left xs (y ∷ []) 0 k (omega arith) in
      let b = get_or_append_left xs (y ∷ []) 0 (k + 1) inside in
      let s = h k inside in omega arith
  | inr last ↦
      let len = length-append xs (y ∷ []) in
      let e : length xs ≡ k + 1 = omega arith in
      let a = get_or_append_left xs (y ∷ []) 0 k (omega arith) in
      let b = get_or_at xs y [] 0 (k + 1) e in
      let s = below k 0 (omega arith) in omega arith
]

pub rising_increasing : (n : ℕ) (items : List ℕ) → IsStrictlyIncreasing (rising n items)
rising_increasing zero items = λ k l. absurd (omega arith)
rising_increasing (suc n) items = elim (cases_Bool (list_any (λ k. k == n) items)) [
  | inl e ↦ rw e (increasing_push (rising n items) n (rising_increasing n items) (rising_below n items))
  | inr e ↦ rw e (rising_increasing n items)
]
