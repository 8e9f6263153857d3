-- What stays stable over the moments of a disk, and what is unwritten.
use Rattle.std.proofs.Common.{◌≡◌, ◌⊎◌, inl, inr, ℕ, ◌≤◌, true, false, List, Option, Some, None, refl, sym, ap, subst, ◌∙◌, arith}
use Rattle.std.specs.Prelude.{bytes_eq, is_some}
use Rattle.std.proofs.lemmas.Bool.{cases_Bool}
use Rattle.std.proofs.lemmas.List.{get_or_past}
use Rattle.std.proofs.lemmas.Slice.Eq.{bytes_eq-Decides}
use Rattle.qh_plan.specs.declared.verdict.Verdict.{Verdict}
use Rattle.qh_plan.specs.declared.verdict.Verdict.TheVariants.{Over}
use Rattle.qh_plan.specs.Jobs.{Job, IsJob, ranges}
use Rattle.qh_plan.specs.Texts.{job_text}
use Rattle.qh_plan.proofs.OneTextLemmas.{one_job}
use Rattle.qh_disk.specs.Disk.{Face, IsImage, IsSafe}
use Rattle.qh_disk.specs.Moments.{EachImageAt, EachImageSince, Runs, Lasts}
use Rattle.qh_disk.specs.Looks.{Looks}
use Rattle.qh_disk.proofs.Moments.{le_cases, lasts_since, since_new, each_since_same, each_since_on}
use Rattle.qh_disk.proofs.Looking.{narrows_since, lasts_absurd}
use Rattle.qh_slots.specs.Stands.{slot_at, Holds}
use Rattle.qh_slots.proofs.OwnerLemmas.{one_owner}
use Rattle.qh_parts.specs.Laying.{IsUnbegun}
use Rattle.qh_parts.specs.Sparing.{Spares}
use Rattle.qh_parts.proofs.StepLemmas.{begun}
use Rattle.qh_migrate.proofs.OptionLemmas.{nothing}
use Rattle.qh_slots.specs.Moments.{StandsFor, StaysStable, IsEmptyAt, IsUnwritten}

-- ---- no images: the job has no slot past its ranges, which none can hold
past_none : (j : Job) (v : Verdict) (c : List ℕ) → Holds j (ranges j) v c → ⊥
past_none j v c held =
    let none : slot_at held.slots (ranges j) ≡ None = get_or_past held.slots (ranges j) None (let n = held.stands.count in omega arith) in
    let some = held.held in
    absurd cc

pub none_from : (j : Job) (old new : Face) → ((r : ℕ) (v : Verdict) → Lasts (Holds j r v) old new) → Lasts (λ _. ⊥) old new
none_from j old new stable = record {
  each = λ t s low le most here c is. past_none j (Over 0) c ((stable (ranges j) (Over 0)).each t s low le most (λ d at. absurd (here d at)) c is);
}

-- ---- stable over two runs, one after the other
pub stays_lasts : (i : Job) (old new : Face) → StaysStable i old.clock new → (r : ℕ) (v : Verdict) → Lasts (Holds i r v) old new
stays_lasts i old new stays r v = record { each = λ t s low le most here. stays r v t s low le most here }

pub lasts_stays : (i : Job) (t : ℕ) (old new : Face) → old.clock ≤ t → ((r : ℕ) (v : Verdict) → Lasts (Holds i r v) old new) → StaysStable i t new
lasts_stays i t old new from lasts r v before now low le most here = (lasts r v).each before now (omega arith) le most here

pub stays_on : (i : Job) (t : ℕ) (mid new : Face) → Runs mid new → StaysStable i t mid → ((r : ℕ) (v : Verdict) → Lasts (Holds i r v) mid new)
    → StaysStable i t new
stays_on i t mid new runs stays lasts r v before now low le most here = elim (le_cases before mid.clock) [
  | inr later ↦ (lasts r v).each before now (omega arith) le most here
  | inl early ↦
      let in_mid : EachImageAt before mid (Holds i r v) = λ d was. here d (runs.kept before d early was) in
      elim (le_cases now mid.clock) [
        | inl soon ↦ λ c is. stays r v before now low le soon in_mid c (runs.past now c soon is)
        | inr late ↦
            let at_mid : EachImageAt mid.clock new (Holds i r v) = λ d was. stays r v before mid.clock low early (omega arith) in_mid d
            (runs.past mid.clock d (omega arith) was) in
            (lasts r v).each mid.clock now (omega arith) (omega arith) most at_mid
      ]
]

-- from a moment at which the empty file is the only image
pub stays_new : (j : Job) (t : ℕ) (mid new : Face) → Runs mid new → (IsEmptyAt t mid → StaysStable j t mid) →
    ((r : ℕ) (v : Verdict) → Lasts (Holds j r v) mid new) → IsEmptyAt t new → StaysStable j t new
stays_new j t mid new runs stays lasts empty = elim (le_cases t mid.clock) [
  | inl early ↦ stays_on j t mid new runs (stays (λ c was. empty c (runs.kept t c early was))) lasts
  | inr late ↦ lasts_stays j t mid new (omega arith) lasts
]

-- ---- slots of whatever job
either_job : (i j : Job) → IsJob i → IsJob j → (i ≡ j) ⊎ (i ≡ j → ⊥)
either_job i j is_i is_j = elim (cases_Bool (bytes_eq (job_text i) (job_text j))) [
  | inl same ↦ inl (one_job i j is_i is_j ((bytes_eq-Decides _ _).0 same))
  | inr other ↦ inr (λ e. apart other ((bytes_eq-Decides _ _).1 (ap job_text e)))
]
  where
    apart : bytes_eq (job_text i) (job_text j) ≡ false → bytes_eq (job_text i) (job_text j) ≡ true → ⊥
    apart f t = cc

-- where each image is not begun or stands for the job
pub every_stable : (j : Job) → IsJob j → (old new : Face) → Spares j old new → EachImageSince old.clock new (λ c. IsUnbegun c ⊎ StandsFor j c) → (i : Job)
    → IsJob i → (r : ℕ) (v : Verdict) → Lasts (Holds i r v) old new
every_stable j is_j old new spares since i is_i r v = elim (either_job i j is_i is_j) [
  | inl same ↦ subst (λ (k : Job). Lasts (Holds k r v) old new) (sym same) (spares.stable r v)
  | inr other ↦ lasts_absurd (Holds i r v) (λ c. IsUnbegun c ⊎ StandsFor j c) old new since
      (λ c either held. elim either [
        | inl unbegun ↦ unbegun (begun i held.slots c held.stands)
        | inr stands ↦ other (one_owner i j is_i is_j held.slots stands.slots c held.stands stands.stands)
      ]) spares.none
]

-- ---- what is unwritten: no call, a look, one run after another
pub unwritten_same : (d : Face) → IsUnwritten d d
unwritten_same d = record { content = refl; images = each_since_same (IsImage d) d (λ c is. is) }

pub unwritten_looks : (old new : Face) → Looks old new → IsUnwritten old new
unwritten_looks old new looks = record { content = looks.content; images = narrows_since old new looks.runs looks.narrows }

-- a safe disk that does not tell what it reads as has no images, and none comes
none_same : (o p : Option (List ℕ)) → is_some p ≡ is_some o → o ≡ None → p ≡ o
none_same None None same is = refl
none_same None (Some g) same is = absurd cc
none_same (Some f) p same is = absurd cc

pub untold_unwritten : (old new : Face) → Runs old new → IsSafe old → Lasts (λ _. ⊥) old new → old.content ≡ None → IsUnwritten old new
untold_unwritten old new runs safe none untold = record {
  content = none_same old.content new.content runs.told untold;
  images = λ c is. absurd (lasts_since (λ _. ⊥) old new runs none (λ d at. nothing d (sym untold ∙ safe d at)) c is);
}

pub unwritten_on : (old mid new : Face) → Runs old mid → IsUnwritten old mid → Runs mid new → IsUnwritten mid new → IsUnwritten old new
unwritten_on old mid new first a then b = record {
  content = b.content ∙ a.content;
  images = each_since_on (IsImage old) old.clock mid new a.images then (λ c is. a.images c (since_new old mid first c (b.images c is)));
}
