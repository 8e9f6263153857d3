-- The slots of the union as inputs are taken.
use Rattle.std.proofs.Common.{◌≡◌, ◌≢◌, ℕ, zero, suc, inl, inr, ◌+◌, ◌*◌, ◌/◌, ◌%◌, ◌<◌, ◌≤◌, Bool, List, [], ◌∷◌, ◌++◌, length, take, Option, Some, None, arith, refl, sym, ap, subst, ◌∙◌}
use Rattle.std.specs.Prelude.{IsSome, if◌then◌else◌}
use Rattle.std.proofs.Math.Path.{ap₂}
use Rattle.std.proofs.lemmas.Nat.{mul-le, div-mul-add, mod-mul-add, div-add-mod'}
use Rattle.std.proofs.lemmas.Bool.{cases_eq, cases_lt, eq-eqb, false≢true, ne_eqb}
use Rattle.std.proofs.lemmas.List.{take_all, take_more, get_or-take, get_or_past, length-take}
use Rattle.std.proofs.lemmas.List.Sums.{fold-append}
use Rattle.std.proofs.lemmas.Option.{none-some}
use Rattle.qh_ring.specs.declared.number.Omega.{Omega}
use Rattle.qh_plan.specs.declared.verdict.Verdict.{Verdict}
use Rattle.qh_plan.specs.declared.verdict.Verdict.TheVariants.{Sum, Over}
use Rattle.qh_plan.specs.Jobs.{Job, prefixes, ranges, roots}
use Rattle.qh_plan.specs.Ranges.{Fits, IsSameButPrefix}
use Rattle.qh_plan.specs.Slots.{AreFit, AreFullBelow, IsFilled, least_over, slot_sums}
use Rattle.qh_plan.proofs.SlotLemmas.{one_more}
use Rattle.qh_slots.specs.Stands.{AllFit, Slots, slot_at}
use Rattle.qh_merge.specs.Inputs.{Input}
use Rattle.qh_merge.specs.Union.{added_slot, elder, first_with, is_value, lesser_slot, least_after, slot_in, sums_after, union, union_slots, whole}

-- ---- the job under a prefix value
abbrev pub under : Job → Option ℕ → Job
under j o = record { circuit = j.circuit; part = j.part; p = j.p; r = j.r; prefix = o; bits = j.bits }

pub is_under : (j k : Job) (o : Option ℕ) → IsSameButPrefix j k → k.prefix ≡ o → under j o ≡ k
is_under j k o s e = λ i. record { circuit = s.circuit i; part = s.part i; p = s.p i; r = s.r i; prefix = sym e i; bits = s.bits i }

-- ---- the first input with a prefix value, where one more is listed
pub record IsNew (w : ℕ) (x : Input) (earlier : List Input) : Type 0 where
  pub prefix : x.job.prefix ≡ Some w
  pub none : first_with w earlier ≡ None

at_new : (w : ℕ) (x : Input) (earlier : List Input) (r : ℕ) → IsNew w x earlier → union (x ∷ earlier) w r ≡ slot_at x.slots r
at_new w x earlier r new =
    ap₂ (λ (o : Option Input) (b : Bool). slot_in (elder o (if b then Some x else None)) r) new.none (ap (is_value w) new.prefix ∙ eq-eqb w w refl)

elder_none : (o : Option Input) → elder o None ≡ o
elder_none None = refl
elder_none (Some y) = refl

at_other : (w v : ℕ) (x : Input) (earlier : List Input) → x.job.prefix ≡ Some w → v ≢ w → first_with v (x ∷ earlier) ≡ first_with v earlier
at_other w v x earlier e ne =
    ap (λ (b : Bool). elder (first_with v earlier) (if b then Some x else None)) (ap (is_value v) e ∙ ne_eqb w v (λ s. ne (sym s)))
    ∙ elder_none (first_with v earlier)

pub old_stays : (v : ℕ) (x y : Input) (earlier : List Input) → first_with v earlier ≡ Some y → first_with v (x ∷ earlier) ≡ Some y
old_stays v x y earlier e = ap (λ (o : Option Input). elder o (if is_value v x.job.prefix then Some x else None)) e

-- a repeat changes nothing
repeated : (w : ℕ) (x y : Input) (earlier : List Input) → x.job.prefix ≡ Some w → first_with w earlier ≡ Some y → (v : ℕ) → first_with v (x ∷ earlier) ≡ first_with v earlier
repeated w x y earlier e f v = elim (cases_eq v w) [
  | inl s ↦ subst (λ (u : ℕ). first_with u (x ∷ earlier) ≡ first_with u earlier) (sym s) (old_stays w x y earlier f ∙ sym f)
  | inr ne ↦ at_other w v x earlier e ne
]

pub same_slots : (j : Job) (w : ℕ) (x y : Input) (earlier : List Input) → x.job.prefix ≡ Some w → first_with w earlier ≡ Some y → union_slots j earlier ≡ union_slots j (x ∷ earlier)
same_slots j w x y earlier e f = λ i q. slot_in (sym (repeated w x y earlier e f (q / roots j)) i) (q % roots j)

-- ---- an input of which the first n slots are added
abbrev pub part_of : ℕ → Input → Input
part_of n x = record { job = x.job; slots = take n x.slots }

-- an input of a new prefix value in a family, each of whose slots has a verdict; there may be fewer of them than ranges
pub record Joins (j : Job) (w : ℕ) (x : Input) (earlier : List Input) : Type 0 where
  pub family : IsSameButPrefix j x.job
  pub new : IsNew w x earlier
  pub below : w < prefixes j
  pub count : length x.slots ≤ ranges x.job
  pub finished : (r : ℕ) → r < length x.slots → IsSome (slot_at x.slots r)
  pub fits : AllFit x.job x.slots

part_new : (j : Job) (w n : ℕ) (x : Input) (earlier : List Input) → Joins j w x earlier → IsNew w (part_of n x) earlier
part_new j w n x earlier h = record { prefix = h.new.prefix; none = h.new.none }

taken_past : (n r : ℕ) (s : Slots) → n ≤ r → slot_at (take n s) r ≡ None
taken_past n r s le = get_or_past (take n s) r None (let l = length-take n s in omega arith)

-- the slots where n of the input's are added
part_slots : (j : Job) (n : ℕ) (x : Input) (earlier : List Input) → ℕ → Option Verdict
part_slots j n x earlier = union_slots j (part_of n x ∷ earlier)

pub roots_of : (j : Job) (w : ℕ) (x : Input) (earlier : List Input) → Joins j w x earlier → ranges x.job ≡ roots j
roots_of j w x earlier h = ap ranges (sym (is_under j x.job (Some w) h.family h.new.prefix))

in_prefix : (j : Job) (n : ℕ) (w q : ℕ) (x : Input) (earlier : List Input) → Joins j w x earlier → q / roots j ≡ w → part_slots j n x earlier q ≡ slot_at (take n x.slots) (q % roots j)
unfolding part_slots
in_prefix j n w q x earlier h e =
    ap (λ (v : ℕ). union (part_of n x ∷ earlier) v (q % roots j)) e ∙ at_new w (part_of n x) earlier (q % roots j) (part_new j w n x earlier h)

out_of_prefix : (j : Job) (n : ℕ) (w q : ℕ) (x : Input) (earlier : List Input) → Joins j w x earlier → q / roots j ≢ w → part_slots j n x earlier q ≡ union_slots j earlier q
unfolding part_slots
out_of_prefix j n w q x earlier h ne = ap (λ (o : Option Input). slot_in o (q % roots j)) (at_other w (q / roots j) (part_of n x) earlier h.new.prefix ne)

-- none of them
pub part_zero : (j : Job) (w : ℕ) (x : Input) (earlier : List Input) → Joins j w x earlier → union_slots j earlier ≡ union_slots j (part_of 0 x ∷ earlier)
unfolding part_slots
part_zero j w x earlier h = λ i q. sym (each q) i
  where
    each : (q : ℕ) → part_slots j 0 x earlier q ≡ union_slots j earlier q
    each q = elim (cases_eq (q / roots j) w) [
      | inl e ↦ in_prefix j 0 w q x earlier h e ∙ sym (ap (λ (v : ℕ). union earlier v (q % roots j)) e ∙ ap (λ (o : Option Input). slot_in o (q % roots j)) h.new.none)
      | inr ne ↦ out_of_prefix j 0 w q x earlier h ne
    ]

-- all of them
pub part_all : (j : Job) (w n : ℕ) (x : Input) (earlier : List Input) → Joins j w x earlier → length x.slots ≤ n → union_slots j (part_of n x ∷ earlier) ≡ union_slots j (x ∷ earlier)
part_all j w n x earlier h le = ap (λ (s : Slots). union_slots j (record { job = x.job; slots = s } ∷ earlier)) (take_all n x.slots le)

some_is : (o : Option Verdict) → IsSome o → (v : Verdict) × (o ≡ Some v)
some_is None is = absurd (false≢true is)
some_is (Some v) is = (v, refl)

filled : (j : Job) (w n : ℕ) (v : Verdict) (x : Input) (earlier : List Input) → Joins j w x earlier → n < roots j → slot_at x.slots n ≡ Some v
    → IsFilled (whole j) (union_slots j (part_of n x ∷ earlier)) (union_slots j (part_of (suc n) x ∷ earlier)) (w * roots j + n) v
unfolding part_slots
filled j w n v x earlier h low is = record {
  below = let m = mul-le (suc w) (roots j) (prefixes j) (roots j) h.below (omega arith) in omega arith;
  empty = in_prefix j n w (w * roots j + n) x earlier h (div-mul-add w (roots j) n low) ∙ ap (slot_at (take n x.slots)) (mod-mul-add w (roots j) n low) ∙ taken_past n n x.slots (omega arith);
  filled = in_prefix j (suc n) w (w * roots j + n) x earlier h (div-mul-add w (roots j) n low) ∙ ap (slot_at (take (suc n) x.slots)) (mod-mul-add w (roots j) n low)
      ∙ get_or-take (suc n) x.slots n None (omega arith) ∙ is;
  elsewhere = λ q ne. elim (cases_eq (q / roots j) w) [
    | inl e ↦ in_prefix j (suc n) w q x earlier h e ∙ same q (q % roots j) (λ s. ne (whole_of q e ∙ ap (λ (r : ℕ). w * roots j + r) s)) ∙ sym (in_prefix j n w q x earlier h e)
    | inr other ↦ out_of_prefix j (suc n) w q x earlier h other ∙ sym (out_of_prefix j n w q x earlier h other)
  ];
}
  where
    whole_of : (q : ℕ) → q / roots j ≡ w → q ≡ w * roots j + q % roots j
    whole_of q e = sym (div-add-mod' q (roots j)) ∙ ap (λ (v : ℕ). v * roots j + q % roots j) e

    same : (q r : ℕ) → r ≢ n → slot_at (take (suc n) x.slots) r ≡ slot_at (take n x.slots) r
    same q r ne = elim (cases_lt r n) [
      | inl l ↦ get_or-take (suc n) x.slots r None (omega arith) ∙ sym (get_or-take n x.slots r None l)
      | inr g ↦ taken_past (suc n) r x.slots (omega arith) ∙ sym (taken_past n r x.slots g)
    ]

-- ---- what the slots are
fits_whole : (j : Job) (w i : ℕ) (v : Verdict) → Fits (under j (Some w)) i v → Fits (whole j) (w * roots j + i) v
fits_whole j w i (Sum sums) fit = fit
fits_whole j w i (Over path) fit = record { from = let f = fit.from in omega arith; below = let b = fit.below in omega arith }

fits_in : (j : Job) (w i : ℕ) (v : Verdict) (x : Input) (earlier : List Input) → Joins j w x earlier → Fits x.job i v → Fits (whole j) (w * roots j + i) v
fits_in j w i v x earlier h fit = fits_whole j w i v (subst (λ (k : Job). Fits k i v) (sym (is_under j x.job (Some w) h.family h.new.prefix)) fit)

pub taken_is : (n r : ℕ) (s : Slots) (v : Verdict) → slot_at (take n s) r ≡ Some v → slot_at s r ≡ Some v
taken_is n r s v e = elim (cases_lt r n) [
  | inl l ↦ sym (get_or-take n s r None l) ∙ e
  | inr g ↦ absurd (none-some v (sym (taken_past n r s g) ∙ e))
]

pub fit_part : (j : Job) (w n : ℕ) (x : Input) (earlier : List Input) → Joins j w x earlier → AreFit (whole j) (union_slots j earlier) → AreFit (whole j) (union_slots j (part_of n x ∷ earlier))
unfolding part_slots
fit_part j w n x earlier h fit = record {
  each = λ q v below e. elim (cases_eq (q / roots j) w) [
    | inl s ↦
        subst (λ (r : ℕ). Fits (whole j) r v) (ap (λ (u : ℕ). u * roots j + q % roots j) (sym s) ∙ div-add-mod' q (roots j))
        (fits_in j w (q % roots j) v x earlier h (h.fits.each (q % roots j) v (taken_is n (q % roots j) x.slots v (sym (in_prefix j n w q x earlier h s) ∙ e))))
    | inr ne ↦ fit.each q v below (sym (out_of_prefix j n w q x earlier h ne) ∙ e)
  ];
}

pub full_of : (j : Job) (slots : ℕ → Option Verdict) → AreFit j slots → AreFullBelow j slots
full_of j slots fit = record { each = λ r sums low e. (fit.each r (Sum sums) low e).0 }

-- ---- what they give together, as the input's slots are added
abbrev pub start_sums : Job → List Input → List Omega
start_sums j earlier = slot_sums (whole j) (union_slots j earlier)

abbrev pub start_least : Job → List Input → Option ℕ
start_least j earlier = least_over (whole j) (union_slots j earlier)

-- after the first n of them
pub record AreAdded (j : Job) (n : ℕ) (x : Input) (earlier : List Input) : Type 0 where
  pub sums : sums_after (start_sums j earlier) (take n x.slots) ≡ start_sums j (part_of n x ∷ earlier)
  pub least : least_after (start_least j earlier) (take n x.slots) ≡ start_least j (part_of n x ∷ earlier)

taken_more : (s : Slots) (n : ℕ) → n < length s → take (suc n) s ≡ take n s ++ slot_at s n ∷ []
taken_more s n low = let e : suc n ≡ n + 1 = omega arith in ap (λ (m : ℕ). take m s) e ∙ take_more s n None low

pub added_parts : (j : Job) (w n : ℕ) (x : Input) (earlier : List Input) → Joins j w x earlier → AreFit (whole j) (union_slots j earlier) → n ≤ length x.slots → AreAdded j n x earlier
added_parts j w zero x earlier h fit le = record {
  sums = ap (slot_sums (whole j)) (part_zero j w x earlier h);
  least = ap (least_over (whole j)) (part_zero j w x earlier h);
}
added_parts j w (suc n) x earlier h fit le =
    let before = added_parts j w n x earlier h fit (omega arith) in
    let inside : n < length x.slots = omega arith in
    let inside_job : n < roots j = let r = roots_of j w x earlier h in let m = h.count in omega arith in
    let some = some_is (slot_at x.slots n) (h.finished n inside) in
    let more = one_more (whole j) (union_slots j (part_of n x ∷ earlier)) (union_slots j (part_of (suc n) x ∷ earlier)) (w * roots j + n) some.0
    (full_of (whole j) (union_slots j (part_of (suc n) x ∷ earlier)) (fit_part j w (suc n) x earlier h fit)) (filled j w n some.0 x earlier h inside_job some.1) in
    record {
      sums = ap (sums_after (start_sums j earlier)) (taken_more x.slots n inside)
          ∙ fold-append added_slot (start_sums j earlier) (take n x.slots) (slot_at x.slots n ∷ [])
          ∙ ap₂ added_slot before.sums some.1 ∙ sym more.sums;
      least = ap (least_after (start_least j earlier)) (taken_more x.slots n inside)
          ∙ fold-append lesser_slot (start_least j earlier) (take n x.slots) (slot_at x.slots n ∷ [])
          ∙ ap₂ lesser_slot before.least some.1 ∙ sym more.least;
    }

-- after all of them
pub record AreJoined (j : Job) (x : Input) (earlier : List Input) : Type 0 where
  pub sums : sums_after (start_sums j earlier) x.slots ≡ start_sums j (x ∷ earlier)
  pub least : least_after (start_least j earlier) x.slots ≡ start_least j (x ∷ earlier)
  pub fit : AreFit (whole j) (union_slots j (x ∷ earlier))

pub joined : (j : Job) (w : ℕ) (x : Input) (earlier : List Input) → Joins j w x earlier → AreFit (whole j) (union_slots j earlier) → AreJoined j x earlier
joined j w x earlier h fit =
    let all = added_parts j w (length x.slots) x earlier h fit (omega arith) in
    let taken = take_all (length x.slots) x.slots (omega arith) in
    let same = part_all j w (length x.slots) x earlier h (omega arith) in
    record {
      sums = ap (sums_after (start_sums j earlier)) (sym taken) ∙ all.sums ∙ ap (slot_sums (whole j)) same;
      least = ap (least_after (start_least j earlier)) (sym taken) ∙ all.least ∙ ap (least_over (whole j)) same;
      fit = subst (AreFit (whole j)) same (fit_part j w (length x.slots) x earlier h fit);
    }

-- a repeat
pub repeat_fit : (j : Job) (w : ℕ) (x y : Input) (earlier : List Input) → x.job.prefix ≡ Some w → first_with w earlier ≡ Some y → AreFit (whole j) (union_slots j earlier) → AreFit (whole j) (union_slots j (x ∷ earlier))
repeat_fit j w x y earlier e f fit = subst (AreFit (whole j)) (same_slots j w x y earlier e f) fit
