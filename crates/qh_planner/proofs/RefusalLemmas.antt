-- The first refusal of a cut is the one that its counts say.
use Rattle.std.proofs.Common.{◌≡◌, ◌==◌, ℕ, zero, suc, ◌+◌, ◌-◌, ◌*◌, ◌^◌, ◌<◌, ◌≤◌, inl, inr, Bool, true, false, cond, nat_lt, nat_le, List, [], ◌∷◌, length, take, drop, All, Option, Some, None, arith, refl, sym, ap, subst, ◌∙◌}
use Rattle.std.specs.List.{list_any}
use Rattle.std.proofs.lemmas.Bool.{cases_lt, lt-ltb, le-ltb}
use Rattle.std.proofs.lemmas.List.Elements.{All-take, All-drop}
use Rattle.qh_gates.specs.declared.gate.Gate.{Gate}
use Rattle.qh_gates.specs.Tables.{qubits_of}
use Rattle.qh_gates.specs.Circuits.{Circuit, IsCircuit}
use Rattle.qh_plan.specs.declared.fault.PlanFault.{PlanFault}
use Rattle.qh_plan.specs.declared.fault.PlanFault.TheVariants.{TooManyCrossing, TooManyPaths, PrefixRoot, PrefixValue, Memory}
use Rattle.qh_plan.specs.Paths.{radices, path_count}
use Rattle.qh_plan.specs.Jobs.{Job, job_radices, in_one, paths, prefixes, roots, ranges}
use Rattle.qh_plan.specs.Texts.{job_text, journal_length}
use Rattle.qh_plan.specs.Plans.{IsRadix, first_fault, or_else, item_fault, width_fault, path_fault, path_bits, split_fault, is_past, size_fault, range_count, rising}
use Rattle.qh_plan.proofs.CutLemmas.{radices_known}
use Rattle.qh_plan.proofs.PlanLemmas.{singles, journal_is}
use Rattle.qh_plan.proofs.DigitLemmas.{count_power, many_paths, few_paths}
use Rattle.qh_plan.proofs.RunLemmas.{ranges_are}
use Rattle.qh_planner.specs.declared.crossing.Crossing.{Crossing}
use Rattle.qh_planner.specs.declared.row.CutAnswer.{CutAnswer}
use Rattle.qh_planner.specs.declared.row.CutAnswer.TheVariants.{Allowed, Refused}
use Rattle.qh_planner.specs.Cuts.{Asked, first_qubits, refusal, cut_job, cost, IsAnswer}
use Rattle.qh_planner.specs.Counts.{IsCounted, below, path_refusal, split_refusal, range_total, size_refusal, counted_refusal, counted_cost, IsCountedAnswer}
use Rattle.qh_planner.proofs.PartLemmas.{first_are, no_item_fault, rising_first, range_length, same_radices}

many_or_few : (rs : List ℕ) → All IsRadix rs → nat_lt (2 ^ 32) (path_count rs) ≡ nat_lt 32 (path_bits rs)
many_or_few rs known = elim (cases_lt 32 (path_bits rs)) [
  | inl l ↦ lt-ltb (2 ^ 32) (path_count rs) (many_paths rs known l) ∙ sym (lt-ltb 32 (path_bits rs) l)
  | inr l ↦ le-ltb (2 ^ 32) (path_count rs) (few_paths rs known l) ∙ sym (le-ltb 32 (path_bits rs) l)
]

paths_same : (rs : List ℕ) (p r : ℕ) (x : Crossing) → All IsRadix rs → IsCounted rs p r x → path_fault rs ≡ path_refusal x
paths_same rs p r x known h = step (length rs) x.gates (path_bits rs) x.paths (nat_lt (2 ^ 32) (path_count rs)) (sym h.gates) (sym h.paths) (many_or_few rs known)
  where
    step : (l g b n : ℕ) (t : Bool) → l ≡ g → b ≡ n → t ≡ nat_lt 32 b
        → cond (nat_lt 32 l) (Some (TooManyCrossing l)) (cond t (Some (TooManyPaths b)) None) ≡ cond (nat_lt 32 g) (Some (TooManyCrossing g)) (cond (nat_lt 32 n) (Some (TooManyPaths n)) None)
    step l g b n t e f k = rw (k, f, e) refl

front_count : (rs : List ℕ) (p r : ℕ) (x : Crossing) → All IsRadix rs → IsCounted rs p r x → path_count (take p rs) ≡ 2 ^ x.prefixes
front_count rs p r x known h = count_power (take p rs) (All-take IsRadix p rs known) ∙ ap (λ k. 2 ^ k) (sym h.prefixes)

back_count : (rs : List ℕ) (p r : ℕ) (x : Crossing) → All IsRadix rs → IsCounted rs p r x → path_count (take r (drop p rs)) ≡ 2 ^ x.roots
back_count rs p r x known h =
    count_power (take r (drop p rs)) (All-take IsRadix r (drop p rs) (All-drop IsRadix p rs known)) ∙ ap (λ k. 2 ^ k) (sym h.roots)

split_same : (rs : List ℕ) (p r : ℕ) (prefix : Option ℕ) (x : Crossing) → All IsRadix rs → IsCounted rs p r x → split_fault rs p r prefix ≡ split_refusal x p r prefix
split_same rs p r prefix x known h = step (length rs) x.gates (path_count (take p rs)) (2 ^ x.prefixes) (sym h.gates) (front_count rs p r x known h)
  where
    step : (l g c n : ℕ) → l ≡ g → c ≡ n
        → cond (nat_lt l (p + r)) (Some (PrefixRoot l)) (cond (is_past c prefix) (Some (PrefixValue c)) None)
        ≡ cond (nat_lt g (p + r)) (Some (PrefixRoot g)) (cond (is_past n prefix) (Some (PrefixValue n)) None)
    step l g c n e f = rw (e, f) refl

module _ (a : Asked) (m : ℕ) (x : Crossing) (valid : IsCircuit a.circuit) (inside : m < a.circuit.qubits) (counted : IsCounted (radices (below m) a.circuit.gates) a.p a.r x) where
  abbrev n : ℕ
  n = a.circuit.qubits

  abbrev rs : List ℕ
  rs = radices (below m) a.circuit.gates

  abbrev j : Job
  j = cut_job a m

  known : All IsRadix rs
  known = radices_known (below m) a.circuit.gates (singles n a.circuit.gates valid.fit)

  part_is : j.part ≡ first_qubits m
  part_is = rising_first n m (omega arith)

  pub part_length : length j.part ≡ m
  part_length = ap (length {A = ℕ}) part_is ∙ range_length 0 m

  radices_are : job_radices j ≡ rs
  radices_are = same_radices (in_one j) (below m) a.circuit.gates (λ q. ap (λ (t : List ℕ). list_any (λ k. k == q) t) part_is ∙ first_are m q)

  paths_are : paths j ≡ 2 ^ x.paths
  paths_are = ap path_count radices_are ∙ count_power rs known ∙ ap (λ k. 2 ^ k) (sym counted.paths)

  ranges_is : ranges j ≡ range_total x a.prefix
  ranges_is =
      sym (ranges_are j)
      ∙ ap (λ k. range_count k (roots j) a.prefix) (ap (λ t. path_count (take a.p t)) radices_are ∙ front_count rs a.p a.r x known counted)
      ∙ ap (λ k. range_count (2 ^ x.prefixes) k a.prefix) (ap (λ t. path_count (take a.r (drop a.p t))) radices_are ∙ back_count rs a.p a.r x known counted)

  size_same : (text : ℕ) → text ≡ length (job_text j) → size_fault (ranges j) (journal_length j) ≡ size_refusal x a.prefix text (length a.bits)
  size_same text e =
      ap (size_fault (ranges j)) (journal_is j ∙ ap (λ t. 32 + t + ranges j * (10 + 64 * length a.bits)) (sym e))
      ∙ ap (λ k. size_fault k (32 + text + k * (10 + 64 * length a.bits))) ranges_is

  pub refusal_is : (text : ℕ) → text ≡ length (job_text j) → refusal a m ≡ counted_refusal n m x a.p a.r a.prefix text (length a.bits)
  unfolding first_fault counted_refusal
  refusal_is text e =
      let items = no_item_fault n m (omega arith) in
      let width = ap (width_fault n) part_length in
      let path = ap path_fault radices_are ∙ paths_same rs a.p a.r x known counted in
      let split = ap (λ t. split_fault t a.p a.r a.prefix) radices_are ∙ split_same rs a.p a.r a.prefix x known counted in
      let size = size_same text e in
      λ i. or_else (items i) (or_else (width i) (or_else (path i) (or_else (split i) (size i))))

  pub cost_is : cost a m ≡ counted_cost n m x
  unfolding cost
  cost_is = ap (λ k. k * (2 ^ m + 2 ^ (n - m))) paths_are

  pub answer_is : (text : ℕ) (answer : CutAnswer) → text ≡ length (job_text j)
      → IsCountedAnswer n m x (counted_refusal n m x a.p a.r a.prefix text (length a.bits)) answer → IsAnswer a m answer
  answer_is text (Allowed log2 units) e h = (refusal_is text e ∙ h.0, paths_are ∙ ap (λ k. 2 ^ k) (sym h.1), h.2 ∙ sym cost_is)
  answer_is text (Refused fault) e h = refusal_is text e ∙ h

-- ---- the first refusal, one test after the other
module _ (n m : ℕ) (x : Crossing) (p r : ℕ) (prefix : Option ℕ) (text bits : ℕ) where
  pub first_width : (f : PlanFault) → Some f ≡ width_fault n m → Some f ≡ counted_refusal n m x p r prefix text bits
  unfolding counted_refusal
  first_width f e = λ i. or_else (e i) (or_else (path_refusal x) (or_else (split_refusal x p r prefix) (size_refusal x prefix text bits)))

  pub first_path : (f : PlanFault) → None ≡ width_fault n m → Some f ≡ path_refusal x → Some f ≡ counted_refusal n m x p r prefix text bits
  unfolding counted_refusal
  first_path f a e = λ i. or_else (a i) (or_else (e i) (or_else (split_refusal x p r prefix) (size_refusal x prefix text bits)))

  pub first_split : (f : PlanFault) → None ≡ width_fault n m → None ≡ path_refusal x → Some f ≡ split_refusal x p r prefix
      → Some f ≡ counted_refusal n m x p r prefix text bits
  unfolding counted_refusal
  first_split f a b e = λ i. or_else (a i) (or_else (b i) (or_else (e i) (size_refusal x prefix text bits)))

  pub first_size : (o : Option PlanFault) → None ≡ width_fault n m → None ≡ path_refusal x → None ≡ split_refusal x p r prefix → o ≡ size_refusal x prefix text bits
      → o ≡ counted_refusal n m x p r prefix text bits
  unfolding counted_refusal
  first_size o a b d e = λ i. or_else (a i) (or_else (b i) (or_else (d i) (e i)))

-- ---- no refusal is want of memory

abbrev NotMemory : Option PlanFault → Type 0
NotMemory o = o ≡ Some Memory → ⊥

differ : (f g : PlanFault) → ◌≡◌ {A = Option PlanFault} (Some f) (Some g) → f ≡ g
differ f g e = cc

abbrev is_memory : PlanFault → Bool
is_memory Memory = true
is_memory _ = false

not_memory : (f : PlanFault) → is_memory f ≡ false → NotMemory (Some f)
not_memory f e g = absurd (never (sym e ∙ ap is_memory (differ f Memory g)))
  where
    never : ◌≡◌ {A = Bool} false true → ⊥
    never k = cc

none_not : NotMemory None
none_not e = never e
  where
    never : ◌≡◌ {A = Option PlanFault} None (Some Memory) → ⊥
    never k = (cc)

chosen_not : (t : Bool) (f : PlanFault) (o : Option PlanFault) → is_memory f ≡ false → NotMemory o → NotMemory (cond t (Some f) o)
chosen_not true f o e h = not_memory f e
chosen_not false f o e h = h

else_not : (o u : Option PlanFault) → NotMemory o → NotMemory u → NotMemory (or_else o u)
else_not None u h g = g
else_not (Some f) u h g = h

pub counted_not_memory : (n m : ℕ) (x : Crossing) (p r : ℕ) (prefix : Option ℕ) (text bits : ℕ) → counted_refusal n m x p r prefix text bits ≡ Some Memory → ⊥
unfolding counted_refusal
counted_not_memory n m x p r prefix text bits =
    let none = none_not in
    else_not _ _ (chosen_not (m == 0) _ _ refl (chosen_not (m == n) _ _ refl (chosen_not (nat_lt 20 m) _ _ refl (chosen_not (nat_lt 20 (n - m)) _ _ refl none))))
    (else_not _ _ (chosen_not (nat_lt 32 x.gates) _ _ refl (chosen_not (nat_lt 32 x.paths) _ _ refl none))
    (else_not _ _ (chosen_not (nat_lt x.gates (p + r)) _ _ refl (chosen_not (is_past (2 ^ x.prefixes) prefix) _ _ refl none))
    (chosen_not (nat_lt 16384 (range_total x prefix)) _ _ refl (chosen_not (nat_lt 1073741824 (32 + text + range_total x prefix * (10 + 64 * bits))) _ _ refl none))))

pub told_answer : (n m : ℕ) (x : Crossing) (p r : ℕ) (prefix : Option ℕ) (text bits : ℕ) (answer : CutAnswer)
    → IsCountedAnswer n m x (counted_refusal n m x p r prefix text bits) answer → answer ≡ Refused Memory → ⊥
told_answer n m x p r prefix text bits answer h e = counted_not_memory n m x p r prefix text bits (subst (IsCountedAnswer n m x (counted_refusal n m x p r prefix text bits)) e h)
