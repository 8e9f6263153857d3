-- True journals of all prefix values give the answer of the whole circuit.
use Rattle.std.proofs.Common.{◌≡◌, ℕ, inl, inr, ◌+◌, ◌*◌, ◌/◌, ◌%◌, ◌<◌, Bool, true, false, List, [], ◌∷◌, length, map, get_or, Option, Some, None, arith, refl, sym, ap, subst, ◌∙◌}
use Rattle.std.specs.Prelude.{IsSome, if◌then◌else◌}
use Rattle.std.proofs.lemmas.List.{get_or-take}
use Rattle.std.proofs.Math.Nat.{div-lt_iff_lt-mul, mod-lt}
use Rattle.std.proofs.lemmas.Nat.{div-add-mod'}
use Rattle.std.proofs.lemmas.Bool.{cases_eq, false≢true, ne_eqb}
use Rattle.std.proofs.lemmas.Option.{none-some}
use Rattle.qh_ring.specs.declared.number.Omega.{Omega}
use Rattle.qh_gates.specs.Evolution.{uncut}
use Rattle.qh_gates.specs.Circuits.{total_weight}
use Rattle.qh_plan.specs.declared.verdict.Verdict.{Verdict}
use Rattle.qh_plan.specs.declared.verdict.Verdict.TheVariants.{Sum}
use Rattle.qh_plan.specs.Jobs.{Job, IsJob, ranges, roots, per_range}
use Rattle.qh_plan.specs.Ranges.{IsSameButPrefix}
use Rattle.qh_plan.proofs.PlanLemmas.{counted_job}
use Rattle.qh_plan.specs.Values.{range_value, run_value, value_of}
use Rattle.qh_plan.specs.MeaningLimits.{path_fits}
use Rattle.qh_plan.specs.Laws.{NoneOver}
use Rattle.qh_plan.proofs.SlotLemmas.{total_same}
use Rattle.qh_plan.proofs.OverLemmas.{names_least}
use Rattle.qh_plan.proofs.RunValueLemmas.{AllFit, HasCut, has_cut, run_value_is}
use Rattle.qh_print.specs.Output.{IsText}
use Rattle.qh_slots.specs.Layout.{head}
use Rattle.qh_slots.specs.Stands.{AreTrue, slot_at}
use Rattle.qh_slots.proofs.StandLemmas.{head_named, head_size, one_list}
use Rattle.qh_merge.specs.declared.merging.Merged.TheVariants.{Lines, Overflow}
use Rattle.qh_merge.specs.Inputs.{Input}
use Rattle.qh_merge.specs.Gathered.{OfFamily}
use Rattle.qh_merge.specs.Union.{AreTaken, IsFinished, IsTaken, elder, first_with, is_value, slot_in, union_slots, union_total, whole}
use Rattle.qh_merge.specs.Merging.{AreComplete, IsFamily}
use Rattle.qh_merge.specs.Laws.{AreAllTrue, MadeLaw, UncutLaw}
use Rattle.qh_merge.proofs.UnionLemmas.{is_under, under}

-- ---- made by runs
pub made_true : MadeLaw
made_true j s f is (inl unbegun) stands =
    absurd (unbegun (sym (get_or-take (length (head j)) f 0 0 (let n = head_size j in omega arith)) ∙ ap (λ (l : List ℕ). get_or l 0 0) stands.begins ∙ (head_named j).0))
made_true j s f is (inr made) stands = subst (AreTrue j) (sym (one_list (head j) j is s made.slots f stands made.stands)) made.true_slots

-- ---- the first input with a prefix value
-- it is one of the family, finished and true
record IsGood (j : Job) (w : ℕ) (y : Input) : Type 0 where
  family : IsSameButPrefix j y.job
  prefix : y.job.prefix ≡ Some w
  finished : IsFinished y
  are_true : AreTrue y.job y.slots

of_rest : (j : Job) (x : Input) (earlier : List Input) → OfFamily j (x ∷ earlier) → OfFamily j earlier
of_rest j x [] e = tt
of_rest j x (y ∷ earlier) e = e

is_some : (w : ℕ) (o : Option ℕ) → is_value w o ≡ true → o ≡ Some w
is_some w None e = absurd cc
is_some w (Some v) e = elim (cases_eq v w) [
  | inl s ↦ ap Some s
  | inr ne ↦ absurd (wrong (sym (ne_eqb v w ne) ∙ e))
]
  where
    wrong : false ≡ true → ⊥
    wrong e = cc

if_some : (b : Bool) (x y : Input) → (if b then Some x else None) ≡ Some y → (b ≡ true) × (x ≡ y)
if_some true x y e = (refl, cc)
if_some false x y e = absurd (none-some y e)

by_first : (j : Job) (w : ℕ) (x : Input) (earlier : List Input) (y : Input) → OfFamily j (x ∷ earlier) → IsTaken x earlier → AreTrue x.job x.slots → (o : Option Input)
    → (o ≡ Some y → IsGood j w y) → elder o (if is_value w x.job.prefix then Some x else None) ≡ Some y → IsGood j w y
by_first j w x earlier y of taken is (Some z) before g = before g
by_first j w x earlier y of taken is None before g =
    let p = if_some (is_value w x.job.prefix) x y g in
    subst (IsGood j w) p.1 (record {
      family = subst (λ (k : Job). IsSameButPrefix k x.job) of taken.family;
      prefix = is_some w x.job.prefix p.0;
      finished = taken.finished;
      are_true = is;
    })

first_good : (j : Job) (w : ℕ) (inputs : List Input) (y : Input) → OfFamily j inputs → AreTaken inputs → AreAllTrue inputs → first_with w inputs ≡ Some y → IsGood j w y
first_good j w [] y of taken is e = absurd (none-some y e)
first_good j w (x ∷ earlier) y of taken is e =
    by_first j w x earlier y of taken.0 is.0 (first_with w earlier) (λ f. first_good j w earlier y (of_rest j x earlier of) taken.1 is.1 f) e

-- ---- its slots
value_whole : (j : Job) (w i : ℕ) → range_value (under j (Some w)) i ≡ range_value (whole j) (w * roots j + i)
unfolding range_value path_fits
value_whole j w i = ap (λ (f : ℕ). value_of (whole j) f (per_range j)) (place (per_range j) (w * roots j + i))
  where
    place : (n a : ℕ) → a * n ≡ (0 + a) * n
    place n a = omega arith

slot_true : (j : Job) (w i : ℕ) (o : Option Input) → ((y : Input) → o ≡ Some y → IsGood j w y) → IsSome o → i < roots j → slot_in o i ≡ Some (range_value (whole j) (w * roots j + i))
slot_true j w i None good is low = absurd (false≢true is)
slot_true j w i (Some y) good is low =
    let g = good y refl in
    let same = is_under j y.job (Some w) g.family g.prefix in
    by_slot (slot_at y.slots i) refl (g.finished i (subst (λ (n : ℕ). i < n) (ap ranges same) low)) same g
  where
    by_slot : (s : Option Verdict) → slot_at y.slots i ≡ s → IsSome (slot_at y.slots i) → under j (Some w) ≡ y.job → IsGood j w y → slot_at y.slots i ≡ Some (range_value (whole j) (w * roots j + i))
    by_slot None e some same g = absurd (false≢true (subst (λ (o : Option Verdict). IsSome o) e some))
    by_slot (Some v) e some same g = e ∙ ap Some (g.are_true i v e ∙ ap (λ (k : Job). range_value k i) (sym same) ∙ value_whole j w i)

each_slot : (j : Job) (inputs : List Input) → IsJob j → OfFamily j inputs → AreTaken inputs → AreComplete j inputs → AreAllTrue inputs
    → (q : ℕ) → q < ranges (whole j) → union_slots j inputs q ≡ Some (range_value (whole j) q)
each_slot j inputs h of taken complete is q low =
    let k = counted_job j h in
    let parts = div-add-mod' q (roots j) in
    slot_true j (q / roots j) (q % roots j) (first_with (q / roots j) inputs) (λ y e. first_good j (q / roots j) inputs y of taken is e)
    (complete (q / roots j) ((div-lt_iff_lt-mul k.some_root).1 low)) (mod-lt q k.some_root)
    ∙ ap (λ (r : ℕ). Some (range_value (whole j) r)) parts

-- ---- the total
is_run : (j : Job) (inputs : List Input) → IsJob j → OfFamily j inputs → AreTaken inputs → AreComplete j inputs → AreAllTrue inputs → union_total j inputs ≡ run_value (whole j)
unfolding run_value
is_run j inputs h of taken complete is = total_same (whole j) (union_slots j inputs) (λ i. Some (range_value (whole j) i)) (each_slot j inputs h of taken complete is)

cut_whole : (j : Job) → IsJob j → HasCut (whole j)
cut_whole j h = let c = has_cut j h in record { lies = c.lies; cut = c.cut; below = c.below }

sum_same : (s t : List Omega) → ◌≡◌ {A = Verdict} (Sum s) (Sum t) → s ≡ t
sum_same s t e = cc

of_family : (j : Job) (inputs : List Input) → IsFamily j inputs → OfFamily j inputs
of_family j [] is = tt
of_family j (x ∷ earlier) is = is

pub is_uncut : UncutLaw
is_uncut j inputs (Lines text) h fam taken complete is answer =
    let run = sym (is_run j inputs h (of_family j inputs fam) taken complete is) ∙ answer.1 in
    let none : NoneOver (whole j) = (names_least (whole j)).sum answer.0 run in
    let fit : AllFit (whole j) = λ i k l m. none _ (record { range = i; place = k; range_below = l; place_below = m; is = refl }) in
    let same = sum_same answer.0 (map (uncut j.circuit.gates) j.bits) (sym run ∙ run_value_is (whole j) (cut_whole j h) fit) in
    (none, subst (λ (s : List Omega). IsText j.circuit.qubits (total_weight j.circuit.gates) j.bits s text) same answer.2)
is_uncut j inputs (Overflow path) h fam taken complete is answer =
    (names_least (whole j)).over path (sym (is_run j inputs h (of_family j inputs fam) taken complete is) ∙ answer)
