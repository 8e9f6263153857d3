-- The last time and the qubits used at it, one gate line later, and what they tell of an overlap.
use Rattle.std.proofs.Common.{◌≡◌, ◌≢◌, ℕ, ◌<◌, ◌≤◌, ◌⊎◌, inl, inr, Bool, true, false, ◌&&◌, ◌||◌, cond, List, [], ◌∷◌, ◌++◌, refl, sym, ap, ◌∙◌, arith}
use Rattle.std.specs.Prelude.{◌==◌, fold}
use Rattle.std.specs.Int.{bit_at}
use Rattle.std.specs.List.{All, list_any}
use Rattle.std.proofs.lemmas.Bool.{cases_eq, eq-eqb, ne_eqb, and_left, or_left, or_right, cond-true, cond-false}
use Rattle.std.proofs.lemmas.List.Elements.{All-push, All-weaker}
use Rattle.std.proofs.lemmas.List.Folds.{list_any-append, list_any_none}
use Rattle.std.proofs.lemmas.Nat.Bits.{bit_at-zero}
use Rattle.qh_gates.specs.declared.gate.Gate.{Gate}
use Rattle.qh_circuit.specs.declared.latest.Latest.{Latest}
use Rattle.qh_circuit.specs.GateLines.{last_time, uses, uses_at, overlaps}
use Rattle.qh_circuit.specs.Order.{IsLatest}

last_from : (start : ℕ) (gates : List Gate) (gate : Gate) → fold (λ _ g. g.time) start (gates ++ gate ∷ []) ≡ gate.time
last_from start [] gate = refl
last_from start (g ∷ gs) gate = last_from g.time gs gate

-- the last time is that of the last gate
last_time-push : (gates : List Gate) (gate : Gate) → last_time (gates ++ gate ∷ []) ≡ gate.time
last_time-push gates gate = last_from 0 gates gate

or_false : (b : Bool) → (b || false) ≡ b
or_false true = refl
or_false false = refl

any_push : (p : Gate → Bool) (gates : List Gate) (gate : Gate) → list_any p (gates ++ gate ∷ []) ≡ (list_any p gates || p gate)
any_push p gates gate = list_any-append p gates (gate ∷ []) ∙ ap (λ b. list_any p gates || b) (or_false (p gate))

abbrev one_if : Bool → ℕ
one_if b = cond b 1 0

-- before a later time nothing was used at it
none_at : (latest : Latest) (gates : List Gate) (time qubit : ℕ) → All (λ g. g.time ≤ latest.time) gates → latest.time < time → list_any (uses_at time qubit) gates ≡ false
none_at latest gates time qubit rising later =
    list_any_none (uses_at time qubit) gates (All-weaker (λ g. g.time ≤ latest.time) (λ g. uses_at time qubit g ≡ false)
    (λ g small. and_left _ _ (ne_eqb g.time time (λ e. omega arith))) gates rising)

-- the qubits used at a time that is not before the last
used_at_is : (latest : Latest) (before : List Gate) (time qubit used : ℕ) → IsLatest latest before → latest.time ≤ time → qubit < 64
    → used ≡ cond (time == latest.time) latest.used 0 → bit_at used qubit ≡ cond (list_any (uses_at time qubit) before) 1 0
used_at_is latest before time qubit used h late small is = by_case (cases_eq time latest.time)
  where
    by_case : (time ≡ latest.time) ⊎ (time ≡ latest.time → ⊥) → bit_at used qubit ≡ cond (list_any (uses_at time qubit) before) 1 0
    by_case (inl e) =
        let same : used ≡ latest.used = is ∙ cond-true _ _ _ (eq-eqb time latest.time e) in
        ap (λ u. bit_at u qubit) same ∙ h.used qubit small ∙ ap (λ t. cond (list_any (uses_at t qubit) before) 1 0) (sym e)
    by_case (inr f) =
        let none : used ≡ 0 = is ∙ cond-false _ _ _ (ne_eqb time latest.time f) in
        let later : latest.time < time = omega arith in
        ap (λ u. bit_at u qubit) none ∙ bit_at-zero qubit ∙ ap one_if (sym (none_at latest before time qubit h.rising later))

uses_itself : (gate : Gate) (qubit : ℕ) → uses_at gate.time qubit gate ≡ uses qubit gate
uses_itself gate qubit = ap (λ b. b && uses qubit gate) (eq-eqb gate.time gate.time refl)

-- with a qubit that the gate uses, and another
used_push : (gate : Gate) (before : List Gate) (qubit used first second : ℕ)
    → bit_at used qubit ≡ cond (list_any (uses_at gate.time qubit) before) 1 0
    → (qubit ≡ gate.q0 → bit_at first qubit ≡ 1) → (qubit ≢ gate.q0 → bit_at first qubit ≡ bit_at used qubit)
    → (qubit ≡ gate.q1 → bit_at second qubit ≡ 1) → (qubit ≢ gate.q1 → bit_at second qubit ≡ bit_at first qubit)
    → bit_at second qubit ≡ cond (list_any (uses_at gate.time qubit) (before ++ gate ∷ [])) 1 0
used_push gate before qubit used first second was same0 other0 same1 other1 = by_case (cases_eq qubit gate.q0) (cases_eq qubit gate.q1)
  where
    now : list_any (uses_at gate.time qubit) (before ++ gate ∷ []) ≡ (list_any (uses_at gate.time qubit) before || uses qubit gate)
    now = any_push (uses_at gate.time qubit) before gate ∙ ap (λ b. list_any (uses_at gate.time qubit) before || b) (uses_itself gate qubit)

    used_now : uses qubit gate ≡ true → one_if (list_any (uses_at gate.time qubit) (before ++ gate ∷ [])) ≡ 1
    used_now e = cond-true _ 1 0 (now ∙ or_right _ _ e)

    by_case : (qubit ≡ gate.q0) ⊎ (qubit ≡ gate.q0 → ⊥) → (qubit ≡ gate.q1) ⊎ (qubit ≡ gate.q1 → ⊥)
        → bit_at second qubit ≡ cond (list_any (uses_at gate.time qubit) (before ++ gate ∷ [])) 1 0
    by_case a (inl e) = same1 e ∙ sym (used_now (or_right _ _ (eq-eqb gate.q1 qubit (sym e))))
    by_case (inl e) (inr f) = other1 f ∙ same0 e ∙ sym (used_now (or_left _ _ (eq-eqb gate.q0 qubit (sym e))))
    by_case (inr e) (inr f) =
        let unused : uses qubit gate ≡ false = ap (λ b. b || (gate.q1 == qubit)) (ne_eqb gate.q0 qubit (λ g. e (sym g))) ∙ ne_eqb gate.q1 qubit (λ g. f (sym g)) in
        other1 f ∙ other0 e ∙ was ∙ ap one_if (sym (now ∙ ap (λ b. list_any (uses_at gate.time qubit) before || b) unused ∙ or_false _))

-- one gate line later
pub latest_push : (old new : Latest) (before : List Gate) (gate : Gate) (used first : ℕ) → IsLatest old before → old.time ≤ gate.time → new.time ≡ gate.time
    → used ≡ cond (gate.time == old.time) old.used 0
    → bit_at first gate.q0 ≡ 1 → ((other : ℕ) → other ≢ gate.q0 → bit_at first other ≡ bit_at used other)
    → bit_at new.used gate.q1 ≡ 1 → ((other : ℕ) → other ≢ gate.q1 → bit_at new.used other ≡ bit_at first other)
    → IsLatest new (before ++ gate ∷ [])
latest_push old new before gate used first h late time is same0 other0 same1 other1 = record {
  time = time ∙ sym (last_time-push before gate);
  rising = All-push (λ g. g.time ≤ new.time) before gate (All-weaker (λ g. g.time ≤ old.time) (λ g. g.time ≤ new.time) (λ g small. omega arith) before h.rising) (omega arith);
  used = λ qubit small.
      used_push gate before qubit used first new.used (used_at_is old before gate.time qubit used h late small is)
      (λ e. ap (bit_at first) e ∙ same0) (other0 qubit) (λ e. ap (bit_at new.used) e ∙ same1) (other1 qubit)
      ∙ ap (λ t. cond (list_any (uses_at t qubit) (before ++ gate ∷ [])) 1 0) (sym time);
}

-- at some gate the one or the other, and at some gate the one or at some gate the other
either : (t a b p q : Bool) → ((t && (a || b)) || (p || q)) ≡ (((t && a) || p) || ((t && b) || q))
either false a b p q = refl
either true true b p q = refl
either true false true true q = refl
either true false true false q = refl
either true false false p q = refl

overlaps_either : (gate : Gate) (before : List Gate)
    → list_any (overlaps gate) before ≡ (list_any (uses_at gate.time gate.q0) before || list_any (uses_at gate.time gate.q1) before)
overlaps_either gate [] = refl
overlaps_either gate (g ∷ gs) =
    ap (λ b. overlaps gate g || b) (overlaps_either gate gs) ∙ either (g.time == gate.time) (uses gate.q0 g) (uses gate.q1 g) _ _

bit_tells : (bit : ℕ) (b : Bool) → bit ≡ cond b 1 0 → (bit == 1) ≡ b
bit_tells bit true e = eq-eqb bit 1 e
bit_tells bit false e = ne_eqb bit 1 (λ f. omega arith)

-- whether a gate line overlaps one before it
pub overlap_is : (latest : Latest) (before : List Gate) (gate : Gate) → IsLatest latest before → latest.time ≤ gate.time → gate.q0 < 64 → gate.q1 < 64
    → list_any (overlaps gate) before ≡ (gate.time == latest.time && (bit_at latest.used gate.q0 == 1 || bit_at latest.used gate.q1 == 1))
overlap_is latest before gate h late small0 small1 = overlaps_either gate before ∙ by_case (cases_eq gate.time latest.time)
  where
    by_case : (gate.time ≡ latest.time) ⊎ (gate.time ≡ latest.time → ⊥)
        → (list_any (uses_at gate.time gate.q0) before || list_any (uses_at gate.time gate.q1) before)
        ≡ (gate.time == latest.time && (bit_at latest.used gate.q0 == 1 || bit_at latest.used gate.q1 == 1))
    by_case (inl e) =
        ap (λ t. list_any (uses_at t gate.q0) before || list_any (uses_at t gate.q1) before) e
        ∙ ap (λ b. b || list_any (uses_at latest.time gate.q1) before) (sym (bit_tells _ _ (h.used gate.q0 small0)))
        ∙ ap (λ b. bit_at latest.used gate.q0 == 1 || b) (sym (bit_tells _ _ (h.used gate.q1 small1)))
        ∙ ap (λ b. b && (bit_at latest.used gate.q0 == 1 || bit_at latest.used gate.q1 == 1)) (sym (eq-eqb gate.time latest.time e))
    by_case (inr f) =
        let later : latest.time < gate.time = omega arith in
        ap (λ b. b || list_any (uses_at gate.time gate.q1) before) (none_at latest before gate.time gate.q0 h.rising later)
        ∙ none_at latest before gate.time gate.q1 h.rising later
        ∙ sym (and_left _ _ (ne_eqb gate.time latest.time f))
