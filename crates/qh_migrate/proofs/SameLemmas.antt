-- What holds over no call, and what a look before keeps of it.
use Rattle.std.proofs.Common.{◌≡◌, ◌≢◌, ◌⊎◌, inl, inr, ℕ, Bool, true, false, List, [], ◌∷◌, Option, Some, None, refl, sym, ap, subst, ◌∙◌, arith}
use Rattle.std.proofs.lemmas.Bool.{false≢true}
use Rattle.std.specs.Prelude.{IfSome, IsSomeAnd, option_map, option_and_then}
use Rattle.qh_plan.specs.declared.verdict.Verdict.{Verdict}
use Rattle.qh_plan.specs.Jobs.{Job, IsJob}
use Rattle.qh_disk.specs.Disk.{Face, IsImage, IsSafe, Reads}
use Rattle.qh_disk.specs.Moments.{EachImageSince, Lasts}
use Rattle.qh_disk.specs.Looks.{Looks}
use Rattle.qh_disk.proofs.Moments.{runs_same, runs_on, lasts_same, lasts_on, each_since_same, each_since_on, since_new}
use Rattle.qh_disk.proofs.Looking.{narrows_lasts, narrows_since, narrows_each}
use Rattle.qh_slots.specs.Stands.{Slots, slot_at, nones, Stands, Made, Holds}
use Rattle.qh_slots.specs.Attaching.{first_refusal, slots_of, slots1_of}
use Rattle.qh_slots.specs.declared.fault.AttachFault.{AttachFault}
use Rattle.qh_slots.specs.declared.fault.AttachFault.TheVariants.{Empty}
use Rattle.qh_slots.proofs.StandLemmas.{one_map, none_refusal}
use Rattle.qh_parts.proofs.LayLemmas.{none_at}
use Rattle.qh_slots.specs.Record.{given, taken_over, Extends, IsBare, Grows, IsFull}
use Rattle.qh_slots.specs.Moments.{OldIsMade, IsOldOrGoesOn, IsUnwritten}
use Rattle.qh_slots.specs.Refusing.{RefusesJournal, RefusesOld}
use Rattle.qh_slots.specs.Keeps.{KeepsJournal}
use Rattle.qh_migrate.specs.Opening.{Opened, keeping}
use Rattle.qh_migrate.proofs.OptionLemmas.{some_from, some_map, nothing, and_has}
use Rattle.qh_migrate.proofs.EmptyLemmas.{empty_slots, empty_stands}
use Rattle.qh_migrate.proofs.MomentLemmas.{lasts_stays, stays_lasts, unwritten_same, unwritten_looks, unwritten_on}

-- ---- slots that are the same, or none, grew
pub extends_same : (j : Job) (s : Slots) → Extends j s s
extends_same j s = record { kept = λ r v held. held; added = λ r v none held. absurd (nothing v (sym none ∙ held)) }

pub extends_equal : (j : Job) (s t : Slots) → s ≡ t → Extends j s t
extends_equal j s t same = subst (Extends j s) same (extends_same j s)

pub bare : (j : Job) (s : Slots) → s ≡ nones j → IsBare s
bare j s is r = ap (λ (t : Slots). slot_at t r) is ∙ none_at j r

-- ---- a journal that nothing was done to
empty_grew : (taking : Bool) (j : Job) (o : Option (List ℕ)) (d : Face) → d.content ≡ Some [] → IfSome (taken_over (keeping false taking) j o)
    (λ s0. Grows (keeping false taking) j d s0 (slots_of j []))
empty_grew false j o d is = inl (extends_equal j (nones j) (slots_of j []) (sym (empty_slots j [] refl)))
empty_grew true j o d is = some_from (option_map (slots1_of j) o) (λ s0. Grows (keeping false true) j d s0 (slots_of j []))
    (λ s0 told. inr ((refl, subst (λ (x : Option (List ℕ)). IsSomeAnd x (λ f. f ≡ [])) (sym is) refl), bare j (slots_of j []) (empty_slots j [] refl)))

same_grew : (taking : Bool) (j : Job) (o x : Option (List ℕ)) (d : Face) → d.content ≡ x
    → IfSome (option_and_then (λ f. given (keeping false taking) j f o) x) (λ s0. IfSome (option_map (slots_of j) x)
    (λ s1. Grows (keeping false taking) j d s0 s1))
same_grew taking j o None d is = tt
same_grew taking j o (Some []) d is = empty_grew taking j o d is
same_grew taking j o (Some (b ∷ bs)) d is = inl (extends_same j (slots_of j (b ∷ bs)))

pub keeps_same : (taking : Bool) (j : Job) (old d : Face) → KeepsJournal (keeping false taking) j old d d
keeps_same taking j old d = record {
  runs = runs_same d;
  made = λ is. each_since_same (Made j) d is.journal;
  renewed = λ fresh. absurd (false≢true fresh);
  begun = λ empty. some_from (taken_over (keeping false taking) j old.content) (λ before. EachImageSince d.clock d (IsOldOrGoesOn j before d))
      (λ before told. each_since_same (IsOldOrGoesOn j before d) d (λ c is. inl is));
  stable = λ fresh i is. lasts_stays i d.clock d d (omega arith) (λ r v. lasts_same (Holds i r v) d);
  stable_new = λ t from empty. lasts_stays j t d d from (λ r v. lasts_same (Holds j r v) d);
  grows = λ fresh. same_grew taking j old.content d.content d refl;
  finished = λ fresh full. unwritten_same d;
  refused = λ r fresh why. unwritten_same d;
  old_refused = λ r fresh why. unwritten_same d;
}

-- ---- a look before
module _ (taking : Bool) (j : Job) (old disk mid after : Face) (looks : Looks disk mid) where
  image_before : (c : List ℕ) → IsImage mid c → IsImage disk c
  image_before c is = narrows_since disk mid looks.runs looks.narrows c (since_new disk mid looks.runs c is)

  looks_made : OldIsMade (keeping false taking) j disk old → OldIsMade (keeping false taking) j mid old
  looks_made made empty = made (empty.0, subst (λ (x : Option (List ℕ)). IsSomeAnd x (λ f. f ≡ [])) looks.content empty.1)

  looks_refuses : (r : AttachFault) → RefusesJournal (λ known P. IsSomeAnd known P) (keeping false taking) j disk r → RefusesJournal
      (λ known P. IsSomeAnd known P) (keeping false taking) j mid r
  looks_refuses r why = record {
    refusal = why.refusal;
    empty = why.empty;
    first = subst (λ (x : Option (List ℕ)). IsSomeAnd x
        (λ f. (first_refusal j f ≡ Some r) × (r ≢ Empty))) (sym looks.content) why.first;
  }

  looks_refuses_old : (r : AttachFault) → RefusesOld (λ known P. IsSomeAnd known P) (keeping false taking) j disk old r → RefusesOld
      (λ known P. IsSomeAnd known P) (keeping false taking) j mid old r
  looks_refuses_old r why = record {
    refusal = why.refusal;
    taking = why.taking;
    empty = subst (λ (x : Option (List ℕ)). IsSomeAnd x (λ f. f ≡ []))
        (sym looks.content) why.empty;
    first = why.first;
  }

  module _ (keeps : KeepsJournal (keeping false taking) j old mid after) where
    looks_stable : (i : Job) → IsJob i → (r : ℕ) (v : Verdict) → Lasts (Holds i r v) disk after
    looks_stable i is r v = lasts_on (Holds i r v) disk mid after (narrows_lasts (Holds i r v) disk mid looks.narrows) keeps.runs
        (stays_lasts i mid after (keeps.stable refl i is) r v)

    old_or : (before : Slots) (c : List ℕ) → IsOldOrGoesOn j before mid c → IsOldOrGoesOn j before disk c
    old_or before c (inl is) = inl (image_before c is)
    old_or before c (inr new) = inr new

    after_look : IsUnwritten mid after → IsUnwritten disk after
    after_look unwritten = unwritten_on disk mid after looks.runs (unwritten_looks disk mid looks) keeps.runs unwritten

    pub looks_keeps : IsJob j → KeepsJournal (keeping false taking) j old disk after
    looks_keeps is_j = record {
      runs = runs_on disk mid after looks.runs keeps.runs;
      made = λ is. each_since_on (Made j) disk.clock mid after (narrows_each (Made j) disk mid looks.runs looks.narrows is.journal) keeps.runs
          (keeps.made (record { journal = λ c at. is.journal c (image_before c at); taken = looks_made is.taken }));
      renewed = λ fresh. absurd (false≢true fresh);
      begun = λ empty. some_map (taken_over (keeping false taking) j old.content) (λ before. EachImageSince mid.clock after (IsOldOrGoesOn j before mid))
          (λ before. EachImageSince disk.clock after (IsOldOrGoesOn j before disk))
          (λ before each. each_since_on (IsOldOrGoesOn j before disk) disk.clock mid after
          (λ c is. inl (narrows_since disk mid looks.runs looks.narrows c is)) keeps.runs (λ c is. old_or before c (each c is)))
          (keeps.begun (subst (λ (x : Option (List ℕ)). IsSomeAnd x (λ f. f ≡ [])) (sym looks.content) empty));
      stable = λ fresh i is. lasts_stays i disk.clock disk after (omega arith) (looks_stable i is);
      stable_new = λ t from empty. lasts_stays j t disk after from (looks_stable j is_j);
      grows = λ fresh. subst (λ (x : Option (List ℕ)). IfSome (option_and_then (λ f. given (keeping false taking) j f old.content) x)
          (λ s0. IfSome (option_map (slots_of j) after.content) (λ s1. Extends j s0 s1 ⊎ (((taking ≡ true) × IsSomeAnd x (λ f. f ≡ []))
          × IsBare s1)))) looks.content (keeps.grows refl);
      finished = λ fresh full. after_look (keeps.finished refl (subst (λ (x : Option (List ℕ)). IsSomeAnd x (λ f. (s : Slots) × Stands j s f × IsFull j s))
          (sym looks.content) full));
      refused = λ r fresh why. after_look (keeps.refused r refl (looks_refuses r why));
      old_refused = λ r fresh why. after_look (keeps.old_refused r refl (looks_refuses_old r why));
    }

  pub looks_opened : (table : Slots) → Opened (keeping false taking) j old mid after table → Opened (keeping false taking) j old disk after table
  looks_opened table opened = record {
    valid = opened.valid;
    keeps = looks_keeps opened.keeps opened.valid;
    safe = opened.safe;
    reads = opened.reads;
    begins = subst (λ (x : Option (List ℕ)). IfSome (option_and_then (λ f. given (keeping false taking) j f old.content) x)
        (λ s0. table ≡ s0)) looks.content opened.begins;
    renewed = λ fresh. absurd (false≢true fresh);
    accepted = λ r why. opened.accepted r (looks_refuses r why);
    old_accepted = λ r why. opened.old_accepted r (looks_refuses_old r why);
  }

-- ---- an attach
attached_begins : (taking : Bool) (j : Job) (is : IsJob j) (table : Slots) (o x : Option (List ℕ)) → ((f : List ℕ) → x ≡ Some f → Stands j table f) → IfSome
    (option_and_then (λ f. given (keeping false taking) j f o) x) (λ s0. table ≡ s0)
attached_begins taking j is table o None stands = tt
attached_begins taking j is table o (Some []) stands = absurd (empty_stands j table [] (stands [] refl) refl)
attached_begins taking j is table o (Some (b ∷ bs)) stands = sym (one_map j is table (b ∷ bs) (stands (b ∷ bs) refl))

pub attached_opened : (taking : Bool) (j : Job) → IsJob j → (old disk after : Face) (table : Slots) → Looks disk after → IsSafe after → Reads after
    (Stands j table) → Opened (keeping false taking) j old disk after table
attached_opened taking j is old disk after table looks safe reads = looks_opened taking j old disk after after looks table (record {
  valid = is;
  keeps = keeps_same taking j old after;
  safe = safe;
  reads = reads;
  begins = attached_begins taking j is table old.content after.content reads;
  renewed = λ fresh. absurd (false≢true fresh);
  accepted = λ r why. let has = and_has after.content _ why.first in nothing r (sym (none_refusal j is table has.value (reads has.value has.is)) ∙ has.holds.0);
  old_accepted = λ r why. let has = and_has after.content _ why.empty in empty_stands j table has.value (reads has.value has.is) has.holds;
})
