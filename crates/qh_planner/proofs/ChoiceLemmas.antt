-- The first row of least cost.
use Rattle.std.proofs.Common.{◌≡◌, ◌≢◌, ℕ, zero, suc, ◌+◌, ◌-◌, ◌<◌, ◌≤◌, inl, inr, List, [], ◌∷◌, ◌++◌, length, All, Option, Some, None, arith, refl, sym, ap, subst, ◌∙◌, append_assoc, length-append}
use Rattle.std.specs.Option.{ForSome}
use Rattle.std.proofs.lemmas.Bool.{cases_lt, cases_eq}
use Rattle.std.proofs.lemmas.List.Elements.{All-nil, All-cons, All-head, All-tail, All-push, All-weaker}
use Rattle.qh_plan.specs.declared.fault.PlanFault.{PlanFault}
use Rattle.qh_planner.specs.declared.row.CutAnswer.{CutAnswer}
use Rattle.qh_planner.specs.declared.row.CutAnswer.TheVariants.{Allowed, Refused}
use Rattle.qh_planner.specs.declared.row.CutRow.{CutRow}
use Rattle.qh_planner.specs.declared.choice.Choice.{Choice}
use Rattle.qh_planner.specs.Cuts.{Asked, refusal, cost, IsAnswer, IsRow, AreRows, IsTable}
use Rattle.qh_planner.specs.Choice.{cost_of, IsRefused, IsDearer, IsNoCheaper, IsCheapest, IsBestCut}
use Rattle.qh_planner.specs.Best.{IsBest}
use Rattle.qh_planner.proofs.TableLemmas.{rows_split}

some_same : (m n : ℕ) → ◌≡◌ {A = Option ℕ} (Some m) (Some n) → m ≡ n
some_same m n e = cc

none_some : {X : Type 0} (x : X) → ◌≡◌ {A = Option X} None (Some x) → ⊥
none_some x e = (cc)

-- ---- one row more

dearer_refused : (units : ℕ) (row : CutRow) → IsRefused row → IsDearer units row
dearer_refused units row h other e = absurd (none_some other (sym h ∙ e))

pub best_past_refused : (rows : List CutRow) (best : Option Choice) (row : CutRow) → IsBest rows best → IsRefused row → IsBest (rows ++ row ∷ []) best
best_past_refused rows None row h out = All-push IsRefused rows row h out
best_past_refused rows (Some best) row h out = record {
  before = h.before;
  row = h.row;
  after = h.after ++ row ∷ [];
  is = ap (λ (t : List CutRow). t ++ row ∷ []) h.is ∙ append_assoc h.before (h.row ∷ h.after) (row ∷ []);
  size_is = h.size_is;
  allowed = h.allowed;
  dearer = h.dearer;
  no_cheaper = All-push (IsNoCheaper best.cost) h.after row h.no_cheaper (λ other e. absurd (none_some other (sym out ∙ e)));
}

best_kept : (rows : List CutRow) (best found : Choice) (row : CutRow) → IsBest rows (Some best) → cost_of row.answer ≡ Some found.cost → best.cost ≤ found.cost
    → IsBest (rows ++ row ∷ []) (Some best)
best_kept rows best found row h e l = record {
  before = h.before;
  row = h.row;
  after = h.after ++ row ∷ [];
  is = ap (λ (t : List CutRow). t ++ row ∷ []) h.is ∙ append_assoc h.before (h.row ∷ h.after) (row ∷ []);
  size_is = h.size_is;
  allowed = h.allowed;
  dearer = h.dearer;
  no_cheaper = All-push (IsNoCheaper best.cost) h.after row h.no_cheaper (λ other f. let s = some_same found.cost other (sym e ∙ f) in omega arith);
}

-- every row that was looked at costs more
all_dearer : (rows : List CutRow) (best : Option Choice) (units : ℕ) → IsBest rows best → ((c : Choice) → best ≡ Some c → units < c.cost) → All (IsDearer units) rows
all_dearer rows None units h l = All-weaker IsRefused (IsDearer units) (λ row out. dearer_refused units row out) rows h
all_dearer rows (Some best) units h l =
    let small = l best refl in
    subst (All (IsDearer units)) (sym h.is)
    (joined h.before h.after h.row
    (All-weaker (IsDearer best.cost) (IsDearer units) (λ row d other e. let m = d other e in omega arith) h.before h.dearer)
    (λ other e. let s = some_same best.cost other (sym h.allowed ∙ e) in omega arith)
    (All-weaker (IsNoCheaper best.cost) (IsDearer units) (λ row d other e. let m = d other e in omega arith) h.after h.no_cheaper))
  where
    joined : (before after : List CutRow) (row : CutRow) → All (IsDearer units) before → IsDearer units row → All (IsDearer units) after → All (IsDearer units) (before ++ row ∷ after)
    joined [] after row hb hr ha = All-cons (IsDearer units) row after hr ha
    joined (first ∷ before) after row hb hr ha =
        All-cons (IsDearer units) first (before ++ row ∷ after) (All-head (IsDearer units) first before hb) (joined before after row (All-tail (IsDearer units) first before hb) hr ha)

best_new : (rows : List CutRow) (best : Option Choice) (found : Choice) (row : CutRow) → IsBest rows best → row.size ≡ found.size → cost_of row.answer ≡ Some found.cost
    → ((c : Choice) → best ≡ Some c → found.cost < c.cost) → IsBest (rows ++ row ∷ []) (Some found)
best_new rows best found row h size e l = record {
  before = rows;
  row = row;
  after = [];
  is = refl;
  size_is = size;
  allowed = e;
  dearer = all_dearer rows best found.cost h l;
  no_cheaper = All-nil (IsNoCheaper found.cost);
}

same_choice : (b c : Choice) → ◌≡◌ {A = Option Choice} (Some b) (Some c) → b ≡ c
same_choice b c e = cc

-- the first allowed row, and the better of two
pub best_first : (rows : List CutRow) (best : Option Choice) (found : Choice) (row : CutRow) → best ≡ None → IsBest rows best → row.size ≡ found.size
    → cost_of row.answer ≡ Some found.cost → IsBest (rows ++ row ∷ []) (Some found)
best_first rows best found row none h size e = best_new rows best found row h size e (λ c f. absurd (none_some c (sym none ∙ f)))

pub best_of_two : (rows : List CutRow) (best : Option Choice) (choice found new : Choice) (row : CutRow) → best ≡ Some choice → IsBest rows best → row.size ≡ found.size
    → cost_of row.answer ≡ Some found.cost → (choice.cost ≤ found.cost → new ≡ choice) → (found.cost < choice.cost → new ≡ found) → IsBest (rows ++ row ∷ []) (Some new)
best_of_two rows best choice found new row is h size e first second = elim (cases_lt found.cost choice.cost) [
  | inl l ↦
      subst (λ t. IsBest (rows ++ row ∷ []) (Some t)) (sym (second l))
      (best_new rows best found row h size e (λ c f. let s = ap (λ (b : Choice). b.cost) (same_choice choice c (sym is ∙ f)) in omega arith))
  | inr l ↦ subst (λ t. IsBest (rows ++ row ∷ []) (Some t)) (sym (first l)) (best_kept rows choice found row (subst (IsBest rows) is h) e l)
]

-- ---- what the rows say of the cuts

-- an allowed cut's row has its cost
row_cost : (a : Asked) (k : ℕ) (row : CutRow) → IsRow a k row → refusal a k ≡ None → cost_of row.answer ≡ Some (cost a k)
row_cost a k row h none = by row.answer h.answer
  where
    by : (answer : CutAnswer) → IsAnswer a k answer → cost_of answer ≡ Some (cost a k)
    by (Allowed log2 units) is = ap (λ (t : ℕ). Some t) is.2
    by (Refused fault) is = absurd (none_some fault (sym none ∙ is))

-- what holds of the cost of each row holds of the cost of each allowed cut
each_cost : (a : Asked) (m : ℕ) (rows : List CutRow) (P : ℕ → Type 0) → AreRows a m rows → All (λ row. ForSome (cost_of row.answer) P) rows
    → (k : ℕ) → m ≤ k → k < m + length rows → refusal a k ≡ None → P (cost a k)
each_cost a m [] P h all k l b none = absurd (omega arith)
each_cost a m (row ∷ rows) P h all k l b none = elim (cases_eq m k) [
  | inl e ↦ All-head (λ row. ForSome (cost_of row.answer) P) row rows all (cost a k) (row_cost a k row (subst (λ i. IsRow a i row) e h.0) none)
  | inr ne ↦ each_cost a (m + 1) rows P h.1 (All-tail (λ row. ForSome (cost_of row.answer) P) row rows all) k (omega arith) (omega arith) none
]

allowed_row : (a : Asked) (k units : ℕ) (row : CutRow) → IsRow a k row → cost_of row.answer ≡ Some units → (refusal a k ≡ None) × (units ≡ cost a k)
allowed_row a k units row h e = by row.answer h.answer e
  where
    by : (answer : CutAnswer) → IsAnswer a k answer → cost_of answer ≡ Some units → (refusal a k ≡ None) × (units ≡ cost a k)
    by (Allowed log2 other) is f = (is.0, sym (some_same other units f) ∙ is.2)
    by (Refused fault) is f = absurd (none_some units f)

-- the first row of least cost is that of the best cut
pub chosen_best : (a : Asked) (rows : List CutRow) (m units : ℕ) → IsTable a rows → IsCheapest rows m units → IsBestCut a m
chosen_best a rows m units table h =
    let parts = rows_split a 1 h.before h.row h.after (subst (AreRows a 1) h.is table.each) in
    let size : m ≡ 1 + length h.before = sym h.size_is ∙ parts.1.size in
    let count : length rows ≡ length h.before + suc (length h.after) = ap (length {A = CutRow}) h.is ∙ length-append h.before (h.row ∷ h.after) in
    let total = table.count in
    let here = allowed_row a (1 + length h.before) units h.row parts.1 h.allowed in
    let price : units ≡ cost a m = here.1 ∙ ap (cost a) (sym size) in
    record {
      some_in_one = omega arith;
      some_in_two = omega arith;
      allowed = ap (refusal a) size ∙ here.0;
      least = λ k l b none. elim (cases_lt k m) [
        | inl low ↦ let d = each_cost a 1 h.before (λ other. units < other) parts.0 h.dearer k l (omega arith) none in omega arith
        | inr high ↦ elim (cases_eq k m) [
          | inl e ↦ let f = ap (cost a) e in omega arith
          | inr ne ↦ let d = each_cost a (1 + length h.before + 1) h.after (λ other. units ≤ other) parts.2 h.no_cheaper k (omega arith) (omega arith) none in omega arith
        ]
      ];
      first = λ k l b none. let d = each_cost a 1 h.before (λ other. units < other) parts.0 h.dearer k l (omega arith) none in omega arith;
    }

-- where each row is refused no cut is allowed
pub none_allowed : (a : Asked) (rows : List CutRow) (k : ℕ) → IsTable a rows → All IsRefused rows → 1 ≤ k → k < a.circuit.qubits → refusal a k ≢ None
none_allowed a rows k table all l b none =
    each_cost a 1 rows (λ other. ⊥) table.each (All-weaker IsRefused (λ row. ForSome (cost_of row.answer) (λ other. ⊥)) (λ row out other e. none_some other (sym out ∙ e)) rows all) k l (let e = table.count in omega arith) none
