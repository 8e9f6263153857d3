-- An input that repeats a prefix value, and why it is not taken.
use Rattle.std.proofs.Common.{◌≡◌, ◌≢◌, inl, inr, ℕ, ◌+◌, ◌<◌, zero, suc, Bool, true, false, List, [], ◌∷◌, length, get_or, Option, Some, None, arith, refl, sym, ap, subst, ◌∙◌}
use Rattle.std.specs.Prelude.{IsSome, slice_get, if◌then◌else◌}
use Rattle.std.specs.Option.{IsSomeAnd}
use Rattle.std.proofs.lemmas.Bool.{cases_eq, false≢true, ne_eqb}
use Rattle.std.proofs.lemmas.Option.{none-some}
use Rattle.qh_limits.proofs.Chains.{rose_before}
use Rattle.qh_plan.specs.Jobs.{Job}
use Rattle.qh_plan.specs.Ranges.{IsSameButPrefix}
use Rattle.qh_disk.specs.Disk.{Face}
use Rattle.qh_slots.specs.Stands.{slot_at}
use Rattle.qh_parts.specs.Naming.{IsFound}
use Rattle.qh_merge.specs.declared.fault.MergeFault.{MergeFault}
use Rattle.qh_merge.specs.declared.fault.MergeFault.TheVariants.{NoInput, DiskFault, Unread, WholeJob, OtherFamily, Unfinished, Unequal, Missing, Memory}
use Rattle.qh_merge.specs.Inputs.{AllLook, Input, IsRead, IsUnread}
use Rattle.qh_merge.specs.Union.{AreTaken, IsTaken, elder, family, first_with, is_value}
use Rattle.qh_merge.specs.Gathered.{Adds, IsGathered, Lists, OfFamily, State}
use Rattle.qh_merge.specs.Merging.{AllTell, AreGood, IsUnreadAt, MergeMayFail, RoseAt}
use Rattle.qh_merge.specs.Parts.{Goes, IsProgress, Repeated, RereadMayFail}
use Rattle.qh_merge.proofs.ListLemmas.{good_on, input_on}
use Rattle.qh_merge.proofs.UnionEndLemmas.{family_on}
use Rattle.qh_merge.proofs.MergeLemmas.{joins_from, known_at, progress_new, progress_repeat, stops}
use Rattle.qh_merge.proofs.OneLemmas.{both_at, first_inputs, one_at, one_input}
use Rattle.qh_merge.proofs.PlaceLemmas.{IsFirstAt, first_kept, length_prefixes, none_kept}
use Rattle.qh_merge.proofs.UnionLemmas.{Joins}

-- ---- the first input with a prefix value goes with the family under it
of_rest : (j : Job) (x : Input) (earlier : List Input) → OfFamily j (x ∷ earlier) → OfFamily j earlier
of_rest j x [] e = tt
of_rest j x (y ∷ earlier) e = e

value_is : (w : ℕ) (o : Option ℕ) → is_value w o ≡ true → o ≡ Some w
value_is w None e = absurd (false≢true e)
value_is w (Some v) e = elim (cases_eq v w) [
  | inl s ↦ ap Some s
  | inr ne ↦ absurd (false≢true (sym (ne_eqb v w ne) ∙ e))
]

if_some : (b : Bool) (x y : Input) → (if b then Some x else None) ≡ Some y → (b ≡ true) × (x ≡ y)
if_some true x y e = (refl, cc)
if_some false x y e = absurd (none-some y e)

by_first : (j : Job) (w : ℕ) (x : Input) (earlier : List Input) (y : Input) → OfFamily j (x ∷ earlier) → IsTaken x earlier → (o : Option Input)
    → (o ≡ Some y → Goes j y w) → elder o (if is_value w x.job.prefix then Some x else None) ≡ Some y → Goes j y w
by_first j w x earlier y of taken (Some z) before g = before g
by_first j w x earlier y of taken None before g =
    let p = if_some (is_value w x.job.prefix) x y g in
    subst (λ (z : Input). Goes j z w) p.1 (record {
      prefix = value_is w x.job.prefix p.0;
      family = subst (λ (k : Job). IsSameButPrefix k x.job) of taken.family;
      finished = taken.finished;
    })

pub first_goes : (j : Job) (w : ℕ) (inputs : List Input) (y : Input) → OfFamily j inputs → AreTaken inputs → first_with w inputs ≡ Some y → Goes j y w
first_goes j w [] y of taken e = absurd (none-some y e)
first_goes j w (x ∷ earlier) y of taken e = by_first j w x earlier y of taken.0 (first_with w earlier) (λ f. first_goes j w earlier y (of_rest j x earlier of) taken.1 f) e

-- ---- a count that rose after calls that looked
none_at : {D : Type 0} (o p : Option D) → IsSomeAnd o (λ _. ⊥) → IsSomeAnd p (λ _. ⊥)
none_at None p none = absurd none
none_at (Some x) p none = absurd none

pub rose_at : {D : Type 0} (face : D → Face) (loans : D → List ℕ) (old mid new : List D) (k : ℕ) → AllLook face loans old mid → RoseAt face k mid new → RoseAt face k old new
rose_at face loans [] [] new k a rose = rose
rose_at face loans [] (e ∷ es) new k a rose = absurd a
rose_at face loans (d ∷ ds) [] new k a rose = absurd a
rose_at face loans (d ∷ ds) (e ∷ es) [] zero a rose = absurd rose
rose_at face loans (d ∷ ds) (e ∷ es) (f ∷ fs) zero a rose = rose_before (face d).faults (face e).faults (face f).faults a.0.looks.runs.faults rose
rose_at face loans (d ∷ ds) (e ∷ es) [] (suc k) a rose = none_at (slice_get es k) (slice_get ds k) rose
rose_at face loans (d ∷ ds) (e ∷ es) (f ∷ fs) (suc k) a rose = rose_at face loans ds es fs k a.1 rose

none_before : {D : Type 0} (face : D → Face) (loans : D → List ℕ) (old mid : List D) → AllLook face loans old mid → mid ≡ [] → old ≡ []
none_before face loans [] mid looks e = refl
none_before face loans (d ∷ ds) [] looks e = absurd looks
none_before face loans (d ∷ ds) (f ∷ fs) looks e = absurd cc

-- why the inputs are not merged, after calls that looked
pub fails_before : {D : Type 0} (face : D → Face) (loans : D → List ℕ) (old mid new : List D) (u : MergeFault) → AllLook face loans old mid → MergeMayFail face u mid new → MergeMayFail face u old new
fails_before face loans old mid new NoInput looks why = none_before face loans old mid looks why
fails_before face loans old mid new (DiskFault i) looks why = rose_at face loans old mid new i looks why
fails_before face loans old mid new (Unread i) looks why = why
fails_before face loans old mid new (WholeJob i) looks why = why
fails_before face loans old mid new (OtherFamily i) looks why = why
fails_before face loans old mid new (Unfinished i r) looks why = why
fails_before face loans old mid new (Unequal p r u v) looks why = why
fails_before face loans old mid new (Missing p) looks why = why
fails_before face loans old mid new Memory looks why = tt

-- ---- why an input is not taken, where its prefix value is not new
changed_at : {D : Type 0} (face : D → Face) (j : Job) (w : ℕ) (y z : Input) (d : D) → Goes j y w → (Goes j z w → ⊥) → IsRead z (face d) → IsRead y (face d) → IsFound IsUnread (face d)
changed_at face j w y z d goes other p q = record {
  safe = p.safe;
  reads = λ f told.
      let some : IsSome (face d).content = subst (λ o. IsSome o) (sym told) refl in
      absurd (other (subst (λ (i : Input). Goes j i w) (one_input y z (face d) some q p) goes));
}

pub repeat_fails : {D : Type 0} (face : D → Face) (loans : D → List ℕ) (old mid new : List D) (n k w : ℕ) (x : Input) (earlier : List Input) (s : State) (u : MergeFault)
    → AreGood face new n earlier → IsGathered earlier s → family x earlier ≡ s.job → IsSomeAnd (slice_get new n) (λ d. IsRead x (face d)) → Goes s.job x w → IsFirstAt face new w k earlier
    → k < n → n < length new → AllLook face loans old mid → RereadMayFail face s.job k w x u mid new → MergeMayFail face u old new
repeat_fails face loans old mid new n k w x earlier s NoInput good kept fam at goes first low inside looks why = absurd why
repeat_fails face loans old mid new n k w x earlier s (DiskFault i) good kept fam at goes first low inside looks why =
    subst (λ (m : ℕ). RoseAt face m old new) (sym why.0) (rose_at face loans old mid new k looks why.1)
repeat_fails face loans old mid new n k w x earlier s (Unread i) good kept fam at goes first low inside looks why =
    let some = first_inputs face new n k earlier good (omega arith) in
    let here = first_goes s.job w earlier first.input kept.family good.taken first.first in
    subst (λ (m : ℕ). IsUnreadAt face new m) (sym why.0) (record {
      earlier = some.0;
      good = some.1;
      unread = elim why.1 [
        | inl unread ↦ unread
        | inr changed ↦ both_at (λ d. IsRead changed.input (face d)) (λ d. IsRead first.input (face d)) (λ d. IsFound IsUnread (face d))
            (λ d p q. changed_at face s.job w first.input changed.input d here changed.other p q) (slice_get new k) changed.read first.read
      ];
    })
repeat_fails face loans old mid new n k w x earlier s (WholeJob i) good kept fam at goes first low inside looks why = absurd why
repeat_fails face loans old mid new n k w x earlier s (OtherFamily i) good kept fam at goes first low inside looks why = absurd why
repeat_fails face loans old mid new n k w x earlier s (Unfinished i r) good kept fam at goes first low inside looks why = absurd why
repeat_fails face loans old mid new n k w x earlier s (Unequal p r v z) good kept fam at goes first low inside looks why = λ told.
    let again = why.0 in
    let one : first.input ≡ again = one_at face new k first.input again told (omega arith) first.read why.1.read in
    let differs = why.2.1 in (
      n,
      stops face new n n x earlier _ good at refl (record {
        prefix = goes.prefix ∙ ap Some (sym why.2.0);
        family = subst (λ (j : Job). IsSameButPrefix j x.job) (sym fam) goes.family;
        finished = goes.finished;
        repeated = first.input;
        first = ap (λ (v : ℕ). first_with v earlier) why.2.0 ∙ first.first;
        one = ap (λ (i : Input). slot_at i.slots r) one ∙ differs.one;
        two = differs.two;
        unequal = differs.unequal;
        least = λ q l. ap (λ (i : Input). slot_at i.slots q) one ∙ differs.least q l;
      }),
    )
repeat_fails face loans old mid new n k w x earlier s (Missing p) good kept fam at goes first low inside looks why = absurd why
repeat_fails face loans old mid new n k w x earlier s Memory good kept fam at goes first low inside looks why = tt

-- what it says, where the disks tell
pub repeat_same : {D : Type 0} (face : D → Face) (ds : List D) (k w : ℕ) (j : Job) (x : Input) (earlier : List Input) → k < length ds → (again : Repeated face ds k j w x)
    → (first : IsFirstAt face ds w k earlier) → AllTell face ds → first.input.slots ≡ x.slots
repeat_same face ds k w j x earlier low again first told =
    ap (λ (i : Input). i.slots) (one_at face ds k first.input again.input told low first.read again.rereads.read) ∙ again.same

-- ---- an input behind the first, as it is taken
pub record Taking {D : Type 0} (face : D → Face) (disks : List D) (n : ℕ) (s : State) (x : Input) : Type 0 where
  pub earlier : List Input
  pub good : AreGood face disks n earlier
  pub kept : IsGathered earlier s
  pub family : family x earlier ≡ s.job
  pub at : IsSomeAnd (slice_get disks n) (λ d. IsRead x (face d))

pub taking : {D : Type 0} (face : D → Face) (loans : D → List ℕ) (old new : List D) (n : ℕ) (s : State) (x : Input) → IsProgress face old n s → AllLook face loans old new → 0 < n
    → IsSomeAnd (slice_get new n) (λ d. IsRead x (face d)) → Taking face new n s x
taking face loans old new n s x p looks some at = record {
  earlier = p.inputs;
  good = good_on face loans old new n p.inputs looks p.good;
  kept = p.kept;
  family = family_on s.job x p.inputs p.kept.family (let c = p.good.count in omega arith);
  at = at;
}

-- the disks are looked at again
pub taking_on : {D : Type 0} (face : D → Face) (loans : D → List ℕ) (old new : List D) (n : ℕ) (s : State) (x : Input) → Taking face old n s x → AllLook face loans old new → Taking face new n s x
taking_on face loans old new n s x t looks = record {
  earlier = t.earlier;
  good = good_on face loans old new n t.earlier looks t.good;
  kept = t.kept;
  family = t.family;
  at = input_on face loans old new n x looks t.at;
}

pub is_new : {D : Type 0} (face : D → Face) (ds : List D) (n w : ℕ) (s : State) (x : Input) (t : Taking face ds n s x) → ((q : ℕ) → q < length s.prefixes → get_or s.prefixes q 0 ≢ w)
    → first_with w t.earlier ≡ None
is_new face ds n w s x t none =
    none_kept w t.earlier t.good.taken (λ q low. subst (λ (ps : List ℕ). get_or ps q 0 ≢ w) t.kept.prefixes
    (none q (subst (λ (ps : List ℕ). q < length ps) (sym t.kept.prefixes) (let l = length_prefixes t.earlier in omega arith))))

pub taking_joins : {D : Type 0} (face : D → Face) (ds : List D) (n w : ℕ) (s : State) (x : Input) (t : Taking face ds n s x) → Goes s.job x w → ((q : ℕ) → q < length s.prefixes → get_or s.prefixes q 0 ≢ w)
    → Joins s.job w x t.earlier
taking_joins face ds n w s x t goes none = joins_from s.job w x t.earlier goes (known_at face x (slice_get ds n) t.at) (is_new face ds n w s x t none)

pub take_new : {D : Type 0} (face : D → Face) (ds : List D) (n w : ℕ) (s u : State) (x : Input) → Taking face ds n s x → Goes s.job x w → ((q : ℕ) → q < length s.prefixes → get_or s.prefixes q 0 ≢ w)
    → Adds s w x.slots u → IsProgress face ds (n + 1) u
take_new face ds n w s u x t goes none adds = progress_new face ds n w x t.earlier s u t.good t.kept t.family t.at goes (is_new face ds n w s x t none) adds

pub first_at : {D : Type 0} (face : D → Face) (ds : List D) (n k w : ℕ) (s : State) (x : Input) (t : Taking face ds n s x) → k < length s.prefixes → get_or s.prefixes k 0 ≡ w
    → ((q : ℕ) → q < k → get_or s.prefixes q 0 ≢ w) → IsFirstAt face ds w k t.earlier
first_at face ds n k w s x t low is none =
    let e = t.kept.prefixes in
    first_kept face ds w k t.earlier t.good.taken t.good.read (let l = length_prefixes t.earlier in let m = ap (λ (ps : List ℕ). length ps) e in omega arith)
    (subst (λ (ps : List ℕ). get_or ps k 0 ≡ w) e is) (λ q l. subst (λ (ps : List ℕ). get_or ps q 0 ≢ w) e (none q l))

pub kept_below : {D : Type 0} (face : D → Face) (ds : List D) (n k : ℕ) (s : State) (x : Input) → Taking face ds n s x → k < length s.prefixes → k < n
kept_below face ds n k s x t low = let l = length_prefixes t.earlier in let m = ap (λ (ps : List ℕ). length ps) t.kept.prefixes in let c = t.good.count in omega arith

pub take_repeat : {D : Type 0} (face : D → Face) (ds : List D) (n k w : ℕ) (s u : State) (x : Input) (t : Taking face ds n s x) → Goes s.job x w → k < length ds → IsFirstAt face ds w k t.earlier
    → Repeated face ds k s.job w x → Lists s w u → IsProgress face ds (n + 1) u
take_repeat face ds n k w s u x t goes low first again lists =
    progress_repeat face ds n w x first.input t.earlier s u t.good t.kept t.family t.at goes first.first (λ told. repeat_same face ds k w s.job x t.earlier low again first told) lists
