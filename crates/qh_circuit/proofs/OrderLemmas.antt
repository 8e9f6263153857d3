-- Which fault a gate line has by those before it, and that a gate without one may be pushed.
use Rattle.std.proofs.Common.{◌≡◌, ℕ, ◌<◌, ◌≤◌, ◌⊎◌, inl, inr, ⊎_elim, Bool, true, false, ◌&&◌, ◌||◌, cond, nat_le, List, length, get_or, Some, None, refl, sym, ap, subst, ◌∙◌, arith}
use Rattle.std.specs.declared.option.Option.{Option}
use Rattle.std.specs.List.{All, Any, list_any}
use Rattle.std.proofs.lemmas.Bool.{cond-true, cond-false, eq-eqb, lt-ltb, le-ltb, le-leb, lt-leb, ltb-false, and_left, and_right, and_from, and_cases, or_left, or_right, both_ways, leb-false, false_from_ne_true}
use Rattle.std.proofs.lemmas.List.Elements.{All-filter}
use Rattle.std.proofs.lemmas.List.Folds.{list_any_at}
use Rattle.qh_gates.specs.declared.gate.Gate.{Gate}
use Rattle.qh_gates.specs.Circuits.{Circuit, Fits}
use Rattle.qh_gates.specs.Faults.{Shares, IsAccepted}
use Rattle.qh_circuit.specs.declared.latest.Latest.{Latest}
use Rattle.qh_circuit.specs.declared.fault.Why.{Why}
use Rattle.qh_circuit.specs.declared.fault.Why.TheVariants.{TimeBack, Overlap, TooManyGates}
use Rattle.qh_circuit.specs.GateLines.{kept, last_time, overlaps, uses}
use Rattle.qh_circuit.specs.Faults.{first_fault, order_faults}
use Rattle.qh_circuit.specs.Order.{IsLatest}

-- the faults, in their order
pub time_back : (max_time : ℕ) (before : List Gate) (gate : Gate) → gate.time < last_time before → Some TimeBack ≡ first_fault (order_faults max_time before gate)
unfolding order_faults
time_back max_time before gate early = sym (cond-true _ _ _ (lt-ltb _ _ early))

pub overlap : (max_time : ℕ) (before : List Gate) (gate : Gate) → last_time before ≤ gate.time → list_any (overlaps gate) before ≡ true
    → Some Overlap ≡ first_fault (order_faults max_time before gate)
unfolding order_faults
overlap max_time before gate late shares = sym (cond-false _ _ _ (le-ltb _ _ late) ∙ cond-true _ _ _ shares)

pub left_out : (max_time : ℕ) (before : List Gate) (gate : Gate) → last_time before ≤ gate.time → list_any (overlaps gate) before ≡ false → max_time < gate.time
    → None ≡ first_fault (order_faults max_time before gate)
unfolding order_faults
left_out max_time before gate late apart past =
    sym (cond-false _ _ _ (le-ltb _ _ late) ∙ cond-false _ _ _ apart ∙ cond-false _ _ _ (and_left _ _ (lt-leb gate.time max_time past)))

pub kept_too : (max_time : ℕ) (before : List Gate) (gate : Gate) → last_time before ≤ gate.time → list_any (overlaps gate) before ≡ false → length (kept max_time before) < 4096
    → None ≡ first_fault (order_faults max_time before gate)
unfolding order_faults
kept_too max_time before gate late apart few =
    sym (cond-false _ _ _ (le-ltb _ _ late) ∙ cond-false _ _ _ apart ∙ cond-false _ _ _ (and_right _ _ (lt-leb 4096 (length (kept max_time before)) few)))

pub too_many : (max_time : ℕ) (before : List Gate) (gate : Gate) → last_time before ≤ gate.time → list_any (overlaps gate) before ≡ false → gate.time ≤ max_time
    → 4096 ≤ length (kept max_time before) → Some TooManyGates ≡ first_fault (order_faults max_time before gate)
unfolding order_faults
too_many max_time before gate late apart within many =
    sym (cond-false _ _ _ (le-ltb _ _ late) ∙ cond-false _ _ _ apart ∙ cond-true _ _ _ (and_from _ _ (le-leb gate.time max_time within) (le-leb 4096 (length (kept max_time before)) many)))

-- no fault by the lines before
pub record InPlace (max_time : ℕ) (before : List Gate) (gate : Gate) : Type 0 where
  pub late : last_time before ≤ gate.time
  pub apart : list_any (overlaps gate) before ≡ false
  pub few : gate.time ≤ max_time → length (kept max_time before) < 4096

pub some_none : {X : Type 0} (x : X) → ◌≡◌ {A = Option X} (Some x) None → ⊥
some_none x e = (cc)

-- a test whose row is not the fault fails, and the fault comes from the rows behind it
row_fails : (why : Why) (test : Bool) (rest : Option Why) → cond test (Some why) rest ≡ None → (test ≡ false) × (rest ≡ None)
row_fails why true rest h = absurd (some_none why h)
row_fails why false rest h = (refl, h)

few_kept : (time max_time count : ℕ) → (nat_le time max_time && nat_le 4096 count) ≡ false → time ≤ max_time → count < 4096
few_kept time max_time count fails within =
    ⊎_elim (λ e. absurd (both_ways _ e (le-leb time max_time within))) (λ e. leb-false 4096 count e) (and_cases (nat_le time max_time) (nat_le 4096 count) fails)

pub in_place : (max_time : ℕ) (before : List Gate) (gate : Gate) → first_fault (order_faults max_time before gate) ≡ None → InPlace max_time before gate
unfolding order_faults
in_place max_time before gate none =
    let late = row_fails _ _ _ none in
    let apart = row_fails _ _ _ late.1 in
    let few = row_fails _ _ _ apart.1 in
    record {
      late = ltb-false _ _ late.0;
      apart = apart.0;
      few = few_kept gate.time max_time (length (kept max_time before)) few.0;
    }

-- the time of a gate without a fault is not before the last
pub not_back : (max_time : ℕ) (before : List Gate) (latest : Latest) (gate : Gate) → IsLatest latest before → None ≡ first_fault (order_faults max_time before gate) → latest.time ≤ gate.time
not_back max_time before latest gate h none =
    let late : last_time before ≤ gate.time = (in_place max_time before gate (sym none)).late in
    let last : latest.time ≡ last_time before = h.time in
    omega arith

shares_true : (gate other : Gate) → Shares gate other → (uses gate.q0 other || uses gate.q1 other) ≡ true
shares_true gate other (inl e) = or_left _ _ (or_left _ _ (eq-eqb other.q0 gate.q0 (sym e)))
shares_true gate other (inr (inl e)) = or_left _ _ (or_right _ _ (eq-eqb other.q1 gate.q0 (sym e)))
shares_true gate other (inr (inr (inl e))) = or_right _ _ (or_left _ _ (eq-eqb other.q0 gate.q1 (sym e)))
shares_true gate other (inr (inr (inr e))) = or_right _ _ (or_right _ _ (eq-eqb other.q1 gate.q1 (sym e)))

-- where none passes, each fails
each_fails : (p : Gate → Bool) (gates : List Gate) → list_any p gates ≡ false → All (λ g. p g ≡ false) gates
each_fails p gates none k d within = false_from_ne_true _ (λ e. both_ways _ none (list_any_at p gates k d within e))

-- what holds of each gate holds of one that is there
at_place : (P : Gate → Type 0) (gates : List Gate) (k : ℕ) (gate : Gate) → All P gates → k < length gates → get_or gates k gate ≡ gate → P gate
at_place P gates k gate all within here = subst P here (all k gate within)

-- a gate without a fault may be pushed behind those that are kept
pub accepted : (max_time : ℕ) (before : List Gate) (latest : Latest) (circuit : Circuit) (gate : Gate) → IsLatest latest before → Fits circuit.qubits gate
    → circuit.gates ≡ kept max_time before → first_fault (order_faults max_time before gate) ≡ None → gate.time ≤ max_time → IsAccepted circuit gate
accepted max_time before latest circuit gate h fits are none within =
    ((out_of_range, λ p. fits.two p.0 (sym p.1), late, apart), λ many. full (place.few within) many)
  where
    place : InPlace max_time before gate
    place = in_place max_time before gate none

    out_of_range : (circuit.qubits ≤ gate.q0) ⊎ (circuit.qubits ≤ gate.q1) → ⊥
    out_of_range (inl l) = let f = fits.first in omega arith
    out_of_range (inr l) = let f = fits.second in omega arith

    rising : All (λ g. g.time ≤ latest.time) circuit.gates
    rising = subst (All (λ g. g.time ≤ latest.time)) (sym are) (All-filter (λ g. nat_le g.time max_time) (λ g. g.time ≤ latest.time) before h.rising)

    separate : All (λ g. overlaps gate g ≡ false) circuit.gates
    separate = subst (All (λ g. overlaps gate g ≡ false)) (sym are)
        (All-filter (λ g. nat_le g.time max_time) (λ g. overlaps gate g ≡ false) before (each_fails (overlaps gate) before place.apart))

    late : Any (λ g. gate.time < g.time) circuit.gates → ⊥
    late a =
        let small : a.1.time ≤ latest.time = at_place (λ g. g.time ≤ latest.time) circuit.gates a.0 a.1 rising a.2 a.3 in
        let last : latest.time ≡ last_time before = h.time in
        let order : last_time before ≤ gate.time = place.late in
        let above : gate.time < a.1.time = a.4 in
        omega arith

    apart : Any (λ g. (g.time ≡ gate.time) × Shares gate g) circuit.gates → ⊥
    apart a =
        both_ways _ (at_place (λ g. overlaps gate g ≡ false) circuit.gates a.0 a.1 separate a.2 a.3)
        (and_from _ _ (eq-eqb a.1.time gate.time a.4.0) (shares_true gate a.1 a.4.1))

    full : length (kept max_time before) < 4096 → 4096 ≤ length circuit.gates → ⊥
    full few many = omega (arith, ap (length {A = Gate}) are)
