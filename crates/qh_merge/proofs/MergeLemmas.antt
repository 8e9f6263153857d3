-- The inputs, one after the other: what is kept of them, and why they are not merged.
use Rattle.std.proofs.Common.{◌≡◌, ℕ, ◌+◌, ◌<◌, List, [], ◌∷◌, length, replicate, Option, Some, None, arith, refl, sym, ap, subst, ◌∙◌}
use Rattle.std.specs.Prelude.{IsSome, slice_get}
use Rattle.std.specs.Option.{IsSomeAnd}
use Rattle.std.proofs.lemmas.Option.{none-some}
use Rattle.qh_ring.specs.Numbers.{nothing}
use Rattle.qh_plan.specs.Jobs.{Job, prefixes, ranges}
use Rattle.qh_plan.specs.Plans.{IsPlanned}
use Rattle.qh_plan.specs.Ranges.{IsSameButPrefix}
use Rattle.qh_disk.specs.Disk.{Face}
use Rattle.qh_slots.specs.Stands.{AllFit}
use Rattle.qh_merge.specs.declared.fault.MergeFault.{MergeFault}
use Rattle.qh_merge.specs.declared.fault.MergeFault.TheVariants.{NoInput, DiskFault, Unread, WholeJob, OtherFamily, Unfinished, Unequal, Missing, Memory}
use Rattle.qh_merge.specs.declared.input.ReadFault.{ReadFault}
use Rattle.qh_merge.specs.declared.input.ReadFault.TheVariants as read
use Rattle.qh_merge.specs.Inputs.{Input, IsRead}
use Rattle.qh_merge.specs.Union.{IsTaken, Repeats, family, first_with}
use Rattle.qh_merge.specs.Gathered.{Adds, IsGathered, Lists, State}
use Rattle.qh_merge.specs.Merging.{AllTell, AreGood, MergeMayFail, StopsAt}
use Rattle.qh_merge.specs.Parts.{Goes, IsProgress, Misses, ReadMayFailAt, fault_at}
use Rattle.qh_merge.proofs.GatherLemmas.{gathered_new, gathered_repeat, gathered_start}
use Rattle.qh_merge.proofs.UnionLemmas.{Joins, is_under}

-- ---- what is known of an input that is read
pub record IsKnown (x : Input) : Type 0 where
  pub planned : IsPlanned x.job
  pub count : length x.slots ≡ ranges x.job
  pub fits : AllFit x.job x.slots

pub known_at : {D : Type 0} (face : D → Face) (x : Input) (o : Option D) → IsSomeAnd o (λ d. IsRead x (face d)) → IsKnown x
known_at face x None p = absurd p
known_at face x (Some d) p = record { planned = p.planned; count = p.count; fits = p.fits }

pub joins_from : (j : Job) (w : ℕ) (x : Input) (earlier : List Input) → Goes j x w → IsKnown x → first_with w earlier ≡ None → Joins j w x earlier
joins_from j w x earlier goes known none = record {
  family = goes.family;
  new = record { prefix = goes.prefix; none = none };
  below = subst (λ (k : Job). w < prefixes k) (sym (is_under j x.job (Some w) goes.family goes.prefix)) (known.planned.valid.has_prefix w goes.prefix);
  count = let c = known.count in omega arith;
  finished = λ r low. goes.finished r (subst (λ (n : ℕ). r < n) known.count low);
  fits = known.fits;
}

taken_from : (j : Job) (w : ℕ) (x : Input) (earlier : List Input) → family x earlier ≡ j → Goes j x w → IsTaken x earlier
taken_from j w x earlier fam goes = record {
  prefix = subst (λ (o : Option ℕ). IsSome o) (sym goes.prefix) refl;
  family = subst (λ (k : Job). IsSameButPrefix k x.job) (sym fam) goes.family;
  finished = goes.finished;
}

-- ---- one more input is good
good_more : {D : Type 0} (face : D → Face) (ds : List D) (n : ℕ) (x : Input) (earlier : List Input) → AreGood face ds n earlier → IsSomeAnd (slice_get ds n) (λ d. IsRead x (face d))
    → IsTaken x earlier → (AllTell face ds → Repeats x earlier) → AreGood face ds (n + 1) (x ∷ earlier)
good_more face ds n x earlier good at taken repeats = record {
  count = let c = good.count in omega arith;
  read = (subst (λ (k : ℕ). IsSomeAnd (slice_get ds k) (λ d. IsRead x (face d))) (sym good.count) at, good.read);
  taken = (taken, good.taken);
  equal = λ told. (repeats told, good.equal told);
}

never_first : (w : ℕ) (x : Input) (earlier : List Input) → x.job.prefix ≡ Some w → first_with w earlier ≡ None → Repeats x earlier
never_first w x earlier e none v y f g =
    let same : v ≡ w = some_same (sym f ∙ e) in
    absurd (none-some y (sym none ∙ ap (λ (u : ℕ). first_with u earlier) (sym same) ∙ g))
  where
    some_same : {a b : ℕ} → ◌≡◌ {A = Option ℕ} (Some a) (Some b) → a ≡ b
    some_same e = cc

pub progress_new : {D : Type 0} (face : D → Face) (ds : List D) (n w : ℕ) (x : Input) (earlier : List Input) (s t : State) → AreGood face ds n earlier → IsGathered earlier s
    → family x earlier ≡ s.job → IsSomeAnd (slice_get ds n) (λ d. IsRead x (face d)) → Goes s.job x w → first_with w earlier ≡ None → Adds s w x.slots t → IsProgress face ds (n + 1) t
progress_new face ds n w x earlier s t good kept fam at goes none adds = record {
  inputs = x ∷ earlier;
  good = good_more face ds n x earlier good at (taken_from s.job w x earlier fam goes) (λ told. never_first w x earlier goes.prefix none);
  kept = gathered_new w x earlier s t kept fam (joins_from s.job w x earlier goes (known_at face x (slice_get ds n) at) none) adds;
}

pub progress_repeat : {D : Type 0} (face : D → Face) (ds : List D) (n w : ℕ) (x y : Input) (earlier : List Input) (s t : State) → AreGood face ds n earlier → IsGathered earlier s
    → family x earlier ≡ s.job → IsSomeAnd (slice_get ds n) (λ d. IsRead x (face d)) → Goes s.job x w → first_with w earlier ≡ Some y → (AllTell face ds → y.slots ≡ x.slots) → Lists s w t
    → IsProgress face ds (n + 1) t
progress_repeat face ds n w x y earlier s t good kept fam at goes first same lists = record {
  inputs = x ∷ earlier;
  good = good_more face ds n x earlier good at (taken_from s.job w x earlier fam goes) (λ told v z f g.
      let one : z ≡ y = some_same (sym g ∙ ap (λ (u : ℕ). first_with u earlier) (value_same (sym f ∙ goes.prefix)) ∙ first) in
      ap (λ (i : Input). i.slots) one ∙ same told);
  kept = gathered_repeat w x y earlier s t kept fam goes.prefix first lists;
}
  where
    value_same : {a b : ℕ} → ◌≡◌ {A = Option ℕ} (Some a) (Some b) → a ≡ b
    value_same e = cc

    some_same : {a b : Input} → ◌≡◌ {A = Option Input} (Some a) (Some b) → a ≡ b
    some_same e = cc

-- ---- why they are not merged
pub read_fails : {D : Type 0} (face : D → Face) (old new : List D) (n : ℕ) (u : ReadFault) (earlier : List Input) → AreGood face new n earlier → ReadMayFailAt face u n old new
    → MergeMayFail face (fault_at n u) old new
read_fails face old new n read.DiskFault earlier good why = why
read_fails face old new n read.Unread earlier good why = record { earlier = earlier; good = good; unread = why }
read_fails face old new n read.Memory earlier good why = tt

pub stops : {D : Type 0} (face : D → Face) (ds : List D) (n i : ℕ) (x : Input) (earlier : List Input) (P : Input → List Input → Type 0) → AreGood face ds n earlier
    → IsSomeAnd (slice_get ds n) (λ d. IsRead x (face d)) → i ≡ n → P x earlier → StopsAt face ds i P
stops face ds n i x earlier P good at is p = subst (λ (k : ℕ). StopsAt face ds k P) (sym is) (record {
  earlier = earlier;
  input = x;
  good = good;
  read = (subst (λ (k : ℕ). IsSomeAnd (slice_get ds k) (λ d. IsRead x (face d))) (sym good.count) at, good.read);
  stops = p;
})

pub miss_fails : {D : Type 0} (face : D → Face) (old new : List D) (n : ℕ) (u : MergeFault) (x : Input) (earlier : List Input) (j : Job) → AreGood face new n earlier → family x earlier ≡ j
    → IsSomeAnd (slice_get new n) (λ d. IsRead x (face d)) → Misses j x n u → MergeMayFail face u old new
miss_fails face old new n NoInput x earlier j good fam at why = absurd why
miss_fails face old new n (DiskFault i) x earlier j good fam at why = absurd why
miss_fails face old new n (Unread i) x earlier j good fam at why = absurd why
miss_fails face old new n (WholeJob i) x earlier j good fam at why = stops face new n i x earlier _ good at why.0 why.1
miss_fails face old new n (OtherFamily i) x earlier j good fam at why =
    stops face new n i x earlier _ good at why.0 (record { prefix = why.1; other = λ same. why.2 (subst (λ (k : Job). IsSameButPrefix k x.job) fam same) })
miss_fails face old new n (Unfinished i r) x earlier j good fam at why =
    stops face new n i x earlier _ good at why.0 (record {
      prefix = why.1;
      family = subst (λ (k : Job). IsSameButPrefix k x.job) (sym fam) why.2;
      below = why.3;
      shut = why.4;
      least = why.5;
    })
miss_fails face old new n (Unequal p r v w) x earlier j good fam at why = absurd why
miss_fails face old new n (Missing p) x earlier j good fam at why = absurd why
miss_fails face old new n Memory x earlier j good fam at why = absurd why

-- ---- the first input
pub record Begun (w : ℕ) (x : Input) (s : State) : Type 0 where
  pub kept : IsGathered [] s
  pub joins : Joins s.job w x []
  pub family : x.job ≡ s.job
  pub goes : Goes s.job x w

pub begun : (w : ℕ) (x : Input) (s : State) → s ≡ record { job = x.job; prefixes = []; sums = replicate (length x.job.bits) nothing; over = None } → Goes x.job x w → IsKnown x → Begun w x s
begun w x s is goes known = subst (Begun w x) (sym is) (record {
  kept = gathered_start x.job _ known.planned.valid refl;
  joins = joins_from x.job w x [] goes known refl;
  family = refl;
  goes = goes;
})

pub no_input : {D : Type 0} (face : D → Face) (ds : List D) → AreGood face ds 0 []
no_input face ds = record { count = refl; read = tt; taken = tt; equal = λ told. tt }
