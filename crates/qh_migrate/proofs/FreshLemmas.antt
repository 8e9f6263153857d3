-- What a wipe before an opening keeps of it.
use Rattle.std.proofs.Common.{◌≡◌, ◌≢◌, ◌⊎◌, inl, inr, ℕ, ◌≤◌, Bool, true, false, List, [], Some, refl, sym, ap, ◌∙◌, arith}
use Rattle.std.proofs.lemmas.Bool.{false≢true}
use Rattle.std.specs.Prelude.{IsSomeAnd, option_and_then}
use Rattle.qh_limits.proofs.Chains.{rose_before}
use Rattle.qh_plan.specs.Jobs.{Job, IsJob}
use Rattle.qh_disk.specs.Disk.{Face, IsImage, Reads}
use Rattle.qh_disk.specs.Moments.{EachImage, EachImageAt, EachImageSince, Runs, Lasts}
use Rattle.qh_disk.proofs.Moments.{le_cases, runs_on, lasts_on, lasts_since, each_since_on, since_new}
use Rattle.qh_slots.specs.Stands.{Slots, Made}
use Rattle.qh_slots.specs.Attaching.{first_refusal}
use Rattle.qh_slots.specs.declared.fault.AttachFault.{AttachFault}
use Rattle.qh_slots.specs.declared.fault.AttachFault.TheVariants.{Empty}
use Rattle.qh_parts.specs.Laying.{IsUnbegun, Wipes}
use Rattle.qh_slots.specs.Record.{counted, given, taken_over, slots_before}
use Rattle.qh_slots.specs.Moments.{OldIsMade, IsMade, IsOldOrMade, IsOldOrGoesOn, StaysStable, IsEmptyAt}
use Rattle.qh_slots.specs.Refusing.{RefusesJournal, RefusesOld}
use Rattle.qh_slots.specs.Keeps.{KeepsJournal}
use Rattle.qh_migrate.specs.declared.open_fault.OpenFault.{OpenFault}
use Rattle.qh_migrate.specs.declared.open_fault.OpenFault.TheVariants as fault
use Rattle.qh_migrate.specs.Opening.{Opened, OpenMayFail, keeping}
use Rattle.qh_migrate.proofs.OptionLemmas.{some_from, some_to, some_map, one_value, then_has, and_has, and_from, same_told}
use Rattle.qh_migrate.proofs.EmptyLemmas.{empty_unbegun, empty_refused, empty_stands}
use Rattle.qh_migrate.proofs.MomentLemmas.{none_from, stays_lasts}

-- an image at a moment of a wipe was one before it, or is not begun
old_or_made : (j : Job) (d : Face) (c : List ℕ) → IsImage d c ⊎ IsUnbegun c → IsOldOrMade j d c
old_or_made j d c (inl was) = inl was
old_or_made j d c (inr unbegun) = inr (inl unbegun)

old_or_goes : (j : Job) (before : Slots) (d : Face) (c : List ℕ) → IsImage d c ⊎ IsUnbegun c → IsOldOrGoesOn j before d c
old_or_goes j before d c (inl was) = inl was
old_or_goes j before d c (inr unbegun) = inr (inl unbegun)

-- ---- a wipe alone
pub wipe_keeps : (taking : Bool) (j : Job) (old disk after : Face) → Wipes disk after → KeepsJournal (keeping true taking) j old disk after
wipe_keeps taking j old disk after wipes = record {
  runs = wipes.runs;
  made = λ is. lasts_since (Made j) disk after wipes.runs (wipes.made j) is.journal;
  renewed = λ fresh made c is. old_or_made j disk c (wipes.since c is);
  begun = λ told. some_from (taken_over (keeping true taking) j old.content) (λ before. EachImageSince disk.clock after (IsOldOrGoesOn j before disk))
      (λ before is c image. old_or_goes j before disk c (wipes.since c image));
  stable = λ fresh. absurd (false≢true (sym fresh));
  stable_new = λ t from empty r v before now low le most here.
      let gone : EachImageAt before after (λ _. ⊥) = λ d at. empty_stands j (here d at).slots d (here d at).stands
      (wipes.empty.each t before from low (omega arith) empty d at) in
      λ c is. absurd (wipes.none.each before now (omega arith) le most gone c is);
  grows = λ fresh. absurd (false≢true (sym fresh));
  finished = λ fresh. absurd (false≢true (sym fresh));
  refused = λ r fresh. absurd (false≢true (sym fresh));
  old_refused = λ r fresh. absurd (false≢true (sym fresh));
}

-- ---- a wipe and what follows it
module _ (taking : Bool) (j : Job) (is_j : IsJob j) (old disk mid after : Face) (wipes : Wipes disk mid) (empty : EachImage mid (λ f. f ≡ []))
    (reads : Reads mid (λ f. f ≡ [])) where
  -- where the disk tells, it tells that it is empty
  told_empty : (f : List ℕ) → disk.content ≡ Some f → mid.content ≡ Some []
  told_empty f told = let here = same_told disk.content mid.content f wipes.runs.told told in here.is ∙ ap Some (reads here.value here.is)

  empty_here : IsSomeAnd disk.content (λ f. counted (keeping true taking) f ≡ []) → IsSomeAnd mid.content (λ f. f ≡ [])
  empty_here told = let has = and_has disk.content (λ f. counted (keeping true taking) f ≡ []) told in and_from mid.content (λ f. f ≡ []) []
      (told_empty has.value has.is) refl

  empty_there : IsSomeAnd mid.content (λ f. f ≡ []) → IsSomeAnd disk.content (λ f. counted (keeping true taking) f ≡ [])
  empty_there told = let has = and_has mid.content (λ f. f ≡ []) told in let there = same_told mid.content disk.content has.value
      (sym wipes.runs.told) has.is in and_from disk.content (λ f. counted (keeping true taking) f ≡ []) there.value there.is refl

  was_made : OldIsMade (keeping true taking) j disk old → IsMade (keeping false taking) j mid old
  was_made made = record { journal = λ c is. inl (empty_unbegun c (empty c is)); taken = λ none. made (none.0, empty_there none.1) }

  old_refuses : (r : AttachFault) → RefusesOld (λ known P. IsSomeAnd known P) (keeping true taking) j disk old r → RefusesOld (λ known P. IsSomeAnd known P)
      (keeping false taking) j mid old r
  old_refuses r why = record { refusal = why.refusal; taking = why.taking; empty = empty_here why.empty; first = why.first }

  pub never_refused : (r : AttachFault) → RefusesJournal (λ known P. IsSomeAnd known P) (keeping true taking) j disk r → ⊥
  never_refused r why = let has = and_has disk.content (λ f. (first_refusal j [] ≡ Some r) × (r ≢ Empty)) why.first in has.holds.1
      (sym (one_value Empty r (sym (empty_refused j) ∙ has.holds.0)))

  module _ (keeps : KeepsJournal (keeping false taking) j old mid after) where
    later : (before : Slots) (c : List ℕ) → IsOldOrGoesOn j before mid c → IsOldOrGoesOn j before disk c
    later before c (inl is) = inr (inl (empty_unbegun c (empty c is)))
    later before c (inr new) = inr new

    whole_runs : Runs disk after
    whole_runs = runs_on disk mid after wipes.runs keeps.runs

    none_later : Lasts (λ _. ⊥) disk after
    none_later = lasts_on (λ _. ⊥) disk mid after wipes.none keeps.runs (none_from j mid after (stays_lasts j mid after (keeps.stable refl j is_j)))

    -- a slot that is stable while the file is empty is one of no image
    new_stable : (t : ℕ) → disk.clock ≤ t → IsEmptyAt t after → StaysStable j t after
    new_stable t from none r v before now low le most here = elim (le_cases before mid.clock) [
      | inl early ↦
          let none_mid : EachImageAt t mid (λ c. c ≡ []) = λ c at. none c (keeps.runs.kept t c (omega arith) at) in
          let gone : EachImageAt before after (λ _. ⊥) = λ d at. empty_stands j (here d at).slots d (here d at).stands
          (wipes.empty.each t before from low early none_mid d (keeps.runs.past before d early at)) in
          λ c is. absurd (none_later.each before now (omega arith) le most gone c is)
      | inr late ↦ keeps.stable refl j is_j r v before now (omega arith) le most here
    ]

    pub wiped_keeps : KeepsJournal (keeping true taking) j old disk after
    wiped_keeps = record {
      runs = whole_runs;
      made = λ is. each_since_on (Made j) disk.clock mid after (lasts_since (Made j) disk mid wipes.runs (wipes.made j) is.journal) keeps.runs
          (keeps.made (was_made is.taken));
      renewed = λ fresh made. each_since_on (IsOldOrMade j disk) disk.clock mid after (λ c is. old_or_made j disk c (wipes.since c is)) keeps.runs
          (λ c is. inr (keeps.made (was_made made) c is));
      begun = λ told. some_map (taken_over (keeping true taking) j old.content) (λ before. EachImageSince mid.clock after (IsOldOrGoesOn j before mid))
          (λ before. EachImageSince disk.clock after (IsOldOrGoesOn j before disk))
          (λ before each. each_since_on (IsOldOrGoesOn j before disk) disk.clock mid after
          (λ c is. old_or_goes j before disk c (wipes.since c is)) keeps.runs (λ c is. later before c (each c is)))
          (keeps.begun (empty_here told));
      stable = λ fresh. absurd (false≢true (sym fresh));
      stable_new = new_stable;
      grows = λ fresh. absurd (false≢true (sym fresh));
      finished = λ fresh. absurd (false≢true (sym fresh));
      refused = λ r fresh. absurd (false≢true (sym fresh));
      old_refused = λ r fresh. absurd (false≢true (sym fresh));
    }

  pub wiped_opened : (table : Slots) → Opened (keeping false taking) j old mid after table → Opened (keeping true taking) j old disk after table
  wiped_opened table opened = record {
    valid = is_j;
    keeps = wiped_keeps opened.keeps;
    safe = opened.safe;
    reads = opened.reads;
    begins = some_from (slots_before (keeping true taking) j disk old) (λ s0. table ≡ s0) (λ s0 told.
        let has = then_has (λ f. given (keeping true taking) j [] old.content) disk.content s0 told in
        some_to (slots_before (keeping false taking) j mid old) (λ s. table ≡ s) s0 opened.begins
        (ap (option_and_then (λ f. given (keeping false taking) j f old.content)) (told_empty has.value has.is) ∙ has.holds));
    renewed = λ fresh made c is. opened.keeps.made (was_made made) c (since_new mid after opened.keeps.runs c is);
    accepted = never_refused;
    old_accepted = λ r why. opened.old_accepted r (old_refuses r why);
  }

  -- why it stops
  pub wiped_stops : (was now : Face) (stop : OpenFault) → OpenMayFail (keeping false taking) j stop was now mid after → OpenMayFail
      (keeping true taking) j stop was now disk after
  wiped_stops was now fault.Disk may = rose_before disk.faults mid.faults after.faults wipes.runs.faults may
  wiped_stops was now fault.OldDisk may = may
  wiped_stops was now (fault.Refused why) may = (
    record {
      refusal = may.0.refusal;
      empty = may.0.empty;
      first = some_from disk.content (λ f. (first_refusal j [] ≡ Some why) × (why ≢ Empty))
          (λ f told. some_to mid.content (λ g. (first_refusal j g ≡ Some why) × (why ≢ Empty)) [] may.0.first (told_empty f told));
    },
    λ fresh. absurd (false≢true (sym fresh)),
  )
  wiped_stops was now (fault.OldRefused why) may = (
    record {
      refusal = may.0.refusal;
      taking = may.0.taking;
      empty = some_from disk.content (λ f. counted (keeping true taking) f ≡ []) (λ f told. refl);
      first = may.0.first;
    },
    λ fresh. absurd (false≢true (sym fresh)),
  )
  wiped_stops was now fault.Memory may = tt
