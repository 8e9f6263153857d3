-- What an opening and the calls that follow it make of a journal together, and the slots that they begin with.
use Rattle.std.proofs.Common.{◌≡◌, ◌⊎◌, inl, inr, ℕ, Bool, true, false, List, [], ◌∷◌, Option, Some, refl, sym, ap, subst, ◌∙◌}
use Rattle.std.proofs.lemmas.Bool.{false≢true}
use Rattle.std.specs.Prelude.{IfSome, IsSomeAnd, option_and_then}
use Rattle.qh_plan.specs.declared.verdict.Verdict.{Verdict}
use Rattle.qh_plan.specs.Jobs.{Job, IsJob}
use Rattle.qh_disk.specs.Disk.{Face, IsImage, Reads}
use Rattle.qh_disk.specs.Moments.{EachImage, EachImageSince, Runs, Lasts}
use Rattle.qh_disk.proofs.Moments.{runs_on, lasts_same, lasts_on, lasts_since, safe_each, each_since_on, since_new}
use Rattle.qh_slots.specs.Stands.{Slots, AreTrue, Stands, Made, Holds}
use Rattle.qh_slots.specs.Attaching.{slots_of}
use Rattle.qh_slots.proofs.StandLemmas.{one_map}
use Rattle.qh_parts.specs.Laying.{IsUnbegun}
use Rattle.qh_parts.specs.Sparing.{Spares}
use Rattle.qh_parts.proofs.PartLemmas.{spares_same, spares_on}
use Rattle.qh_parts.proofs.StepLemmas.{begun}
use Rattle.qh_slots.specs.Record.{counted, given, taken_over, slots_before, slots_after, Extends, Grows, IsFinished, IsFull}
use Rattle.qh_slots.specs.Moments.{BeginsTrue, IsOldOrMade, IsOldOrGoesOn, IsUnwritten, StandsFor, GoesOn}
use Rattle.qh_slots.specs.Keeps.{KeepsJournal}
use Rattle.qh_migrate.specs.Opening.{Opened, Continues, keeping}
use Rattle.qh_migrate.proofs.OptionLemmas.{some_from, some_to, some_map, map_has, and_has, is_some_has}
use Rattle.qh_migrate.proofs.EmptyLemmas.{empty_stands}
use Rattle.qh_migrate.proofs.MomentLemmas.{stays_on, stays_new, every_stable, unwritten_same, unwritten_on}
use Rattle.qh_migrate.proofs.SameLemmas.{extends_same, extends_equal}

-- no call
pub continues_same : (j : Job) (table : Slots) (d : Face) → Reads d (Stands j table) → Continues j table d d
continues_same j table d reads = record {
  spares = spares_same j d;
  made = lasts_same (Made j) d;
  goes_on = λ s. lasts_same (GoesOn j s) d;
  reads = λ f told. record { slots = table; stands = reads f told; extends = extends_same j table };
  finished = λ full. unwritten_same d;
}

-- some calls more
pub continues_on : (j : Job) (table : Slots) (old mid new : Face) → Continues j table old mid → Spares j mid new → Lasts (Made j) mid new
    → ((s : Slots) → Lasts (GoesOn j s) mid new) → Reads new (GoesOn j table) → (IsFull j table → IsUnwritten mid new) → Continues j table old new
continues_on j table old mid new first spares made goes reads finished = record {
  spares = spares_on j old mid new first.spares spares;
  made = lasts_on (Made j) old mid new first.made spares.runs made;
  goes_on = λ s. lasts_on (GoesOn j s) old mid new (first.goes_on s) spares.runs (goes s);
  reads = reads;
  finished = λ full. unwritten_on old mid new first.spares.runs (first.finished full) spares.runs (finished full);
}

-- a journal that stands for the job gives its slots
before_stands : (fresh taking : Bool) (j : Job) → IsJob j → (s : Slots) (o : Option (List ℕ)) (f : List ℕ) → fresh ≡ false → Stands j s f
    → given (keeping fresh taking) j (counted (keeping fresh taking) f) o ≡ Some s
before_stands true taking j is s o f fresh stands = absurd (false≢true (sym fresh))
before_stands false taking j is s o [] fresh stands = absurd (empty_stands j s [] stands refl)
before_stands false taking j is s o (b ∷ bs) fresh stands = ap Some (one_map j is s (b ∷ bs) stands)

-- the slots that the run begins with are true, where the disks tell that they were made by runs of the job
made_true : (j : Job) → IsJob j → (table : Slots) (f : List ℕ) → Stands j table f → Made j f → AreTrue j table
made_true j is table f stands (inl unbegun) = absurd (unbegun (begun j table f stands))
made_true j is table f stands (inr made) = subst (AreTrue j) (sym (one_map j is made.slots f made.stands) ∙ one_map j is table f stands) made.true_slots

each_made : (fresh taking : Bool) (j : Job) (old disk mid : Face) (table : Slots) → Opened (keeping fresh taking) j old disk mid table
    → BeginsTrue (keeping fresh taking) j disk old → EachImage mid (Made j)
each_made true taking j old disk mid table opened begins = opened.renewed refl begins.taken
each_made false taking j old disk mid table opened begins = λ c is.
    opened.keeps.made (record { journal = begins.journal refl refl; taken = begins.taken }) c (since_new disk mid opened.keeps.runs c is)

pub begins_true : (fresh taking : Bool) (j : Job) (old disk mid : Face) (table : Slots) → Opened (keeping fresh taking) j old disk mid table
    → Reads mid (IsImage mid) → BeginsTrue (keeping fresh taking) j disk old → AreTrue j table
begins_true fresh taking j old disk mid table opened current begins =
    let has = is_some_has mid.content (opened.keeps.runs.told ∙ begins.told refl) in
    made_true j opened.valid table has.value (opened.reads has.value has.is)
    (each_made fresh taking j old disk mid table opened begins has.value (current has.value has.is))

module _ (fresh taking : Bool) (j : Job) (old disk mid after : Face) (table : Slots) (opened : Opened (keeping fresh taking) j old disk mid table)
    (continues : Continues j table mid after) where
  each_stands : EachImage mid (Stands j table)
  each_stands = safe_each (Stands j table) mid opened.safe opened.reads

  then_runs : Runs mid after
  then_runs = continues.spares.runs

  then_made : EachImage mid (Made j) → EachImageSince mid.clock after (Made j)
  then_made each = lasts_since (Made j) mid after then_runs continues.made each

  then_stands : EachImageSince mid.clock after (λ c. IsUnbegun c ⊎ StandsFor j c)
  then_stands c is = inr (lasts_since (StandsFor j) mid after then_runs continues.spares.begun
      (λ d at. record { slots = table; stands = each_stands d at }) c is)

  then_goes : (before : Slots) → table ≡ before → EachImageSince mid.clock after (IsOldOrGoesOn j before disk)
  then_goes before same c is = inr (inr (lasts_since (GoesOn j before) mid after then_runs (continues.goes_on before)
      (λ d at. record { slots = table; stands = each_stands d at; extends = extends_equal j before table (sym same) }) c is))

  then_stable : (i : Job) → IsJob i → (r : ℕ) (v : Verdict) → Lasts (Holds i r v) mid after
  then_stable i is = every_stable j opened.valid mid after continues.spares then_stands i is

  -- the slots of an empty journal that begins the run
  begins_taken : IsSomeAnd disk.content (λ f. counted (keeping fresh taking) f ≡ []) → (before : Slots) → taken_over
      (keeping fresh taking) j old.content ≡ Some before → table ≡ before
  begins_taken empty before told =
      let has = and_has disk.content (λ f. counted (keeping fresh taking) f ≡ []) empty in
      some_to (slots_before (keeping fresh taking) j disk old) (λ s0. table ≡ s0) before opened.begins
      (ap (option_and_then (λ f. given (keeping fresh taking) j (counted (keeping fresh taking) f) old.content)) has.is
      ∙ ap (λ (f : List ℕ). given (keeping fresh taking) j f old.content) has.holds ∙ told)

  -- a journal that was finished has a full table
  begins_full : fresh ≡ false → IsFinished j disk → IsFull j table
  begins_full kept full =
      let has = and_has disk.content (λ f. (s : Slots) × Stands j s f × IsFull j s) full in
      let same : table ≡ has.holds.0 = some_to (slots_before (keeping fresh taking) j disk old) (λ s0. table ≡ s0) has.holds.0 opened.begins
      (ap (option_and_then (λ f. given (keeping fresh taking) j (counted (keeping fresh taking) f) old.content)) has.is
      ∙ before_stands fresh taking j opened.valid has.holds.0 old.content has.value kept has.holds.1) in
      subst (IsFull j) (sym same) has.holds.2

  grew : (s0 : Slots) → table ≡ s0 → IfSome (slots_after (keeping fresh taking) j after) (λ s1. Grows (keeping fresh taking) j disk s0 s1)
  grew s0 same = some_from (slots_after (keeping fresh taking) j after) (λ s1. Grows (keeping fresh taking) j disk s0 s1) (λ s1 told.
      let has = map_has (slots_of j) after.content s1 told in
      let goes = continues.reads has.value has.is in
      let now : goes.slots ≡ s1 = sym (one_map j opened.valid goes.slots has.value goes.stands) ∙ has.holds in
      inl (subst (λ (s : Slots). Extends j s s1) same (subst (Extends j table) now goes.extends)))

  -- the record of both
  pub keeps_on : KeepsJournal (keeping fresh taking) j old disk after
  keeps_on = record {
    runs = runs_on disk mid after opened.keeps.runs then_runs;
    made = λ is. each_since_on (Made j) disk.clock mid after (opened.keeps.made is) then_runs
        (then_made (λ c at. opened.keeps.made is c (since_new disk mid opened.keeps.runs c at)));
    renewed = λ new made. each_since_on (IsOldOrMade j disk) disk.clock mid after (opened.keeps.renewed new made) then_runs
        (λ c is. inr (then_made (opened.renewed new made) c is));
    begun = λ empty. some_from (taken_over (keeping fresh taking) j old.content) (λ before. EachImageSince disk.clock after (IsOldOrGoesOn j before disk))
        (λ before told.
        each_since_on (IsOldOrGoesOn j before disk) disk.clock mid after
        (some_to (taken_over (keeping fresh taking) j old.content) (λ s. EachImageSince disk.clock mid (IsOldOrGoesOn j s disk)) before
        (opened.keeps.begun empty) told) then_runs
        (then_goes before (begins_taken empty before told)));
    stable = λ kept i is. stays_on i disk.clock mid after then_runs (opened.keeps.stable kept i is) (then_stable i is);
    stable_new = λ t from empty. stays_new j t mid after then_runs (opened.keeps.stable_new t from) continues.spares.stable empty;
    grows = λ kept. some_map (slots_before (keeping fresh taking) j disk old) (λ s0. table ≡ s0)
        (λ s0. IfSome (slots_after (keeping fresh taking) j after) (λ s1. Grows (keeping fresh taking) j disk s0 s1)) grew opened.begins;
    finished = λ kept full. unwritten_on disk mid after opened.keeps.runs (opened.keeps.finished kept full) then_runs
        (continues.finished (begins_full kept full));
    refused = λ r kept why. absurd (opened.accepted r why);
    old_refused = λ r kept why. absurd (opened.old_accepted r why);
  }
