-- What the making of a journal in an empty file, by a create or by a migration, does to it.
use Rattle.std.proofs.Common.{◌≡◌, ◌≢◌, ◌⊎◌, inl, inr, ℕ, Bool, true, false, List, [], Option, Some, None, refl, sym, ap, subst, ◌∙◌, arith}
use Rattle.std.proofs.lemmas.Bool.{false≢true}
use Rattle.std.specs.Prelude.{IfSome, IsSomeAnd, option_map, option_and_then}
use Rattle.qh_plan.specs.Jobs.{Job, IsJob}
use Rattle.qh_disk.specs.Disk.{Face, IsImage, IsSafe, Reads}
use Rattle.qh_disk.specs.Moments.{EachImage, EachImageSince, Runs, Lasts}
use Rattle.qh_disk.specs.Looks.{Looks}
use Rattle.qh_disk.proofs.Moments.{lasts_since, each_since_on, since_new}
use Rattle.qh_disk.proofs.Looking.{narrows_since, looks_reads}
use Rattle.qh_slots.specs.Stands.{Slots, nones, Stands, Stands1, Made}
use Rattle.qh_slots.specs.Attaching.{first_refusal, first_refusal1, slots_of, slots1_of}
use Rattle.qh_slots.specs.declared.fault.AttachFault.{AttachFault}
use Rattle.qh_slots.specs.declared.fault.AttachFault.TheVariants.{Empty}
use Rattle.qh_slots.proofs.StandLemmas.{one_map, one_map1, none_refusal1, closed}
use Rattle.qh_parts.specs.Laying.{IsUnbegun, IsFresh}
use Rattle.qh_parts.specs.Sparing.{Spares}
use Rattle.qh_parts.proofs.LayLemmas.{none_at}
use Rattle.qh_parts.proofs.PartLemmas.{spares_on, spares_looks}
use Rattle.qh_slots.specs.Record.{given, taken_over, slots_before, slots_after, IfTold, Grows, IsFull}
use Rattle.qh_slots.specs.Moments.{OldIsMade, IsOldOrGoesOn, IsUnwritten, StandsFor, GoesOn}
use Rattle.qh_slots.specs.Refusing.{RefusesJournal, RefusesOld}
use Rattle.qh_slots.specs.Keeps.{KeepsJournal}
use Rattle.qh_journal.specs.Calls.{IsCreated}
use Rattle.qh_migrate.specs.Moving.{Leaves}
use Rattle.qh_migrate.proofs.MoveLemmas.{leaves_made}
use Rattle.qh_migrate.specs.Opening.{Opened, keeping}
use Rattle.qh_migrate.proofs.OptionLemmas.{some_from, some_to, some_map, nothing, one_value, then_has, map_has, and_has, and_from, is_some_has, same_told, Has}
use Rattle.qh_migrate.proofs.EmptyLemmas.{empty_unbegun, empty_refused, empty_stands}
use Rattle.qh_migrate.proofs.MomentLemmas.{lasts_stays, every_stable}
use Rattle.qh_migrate.proofs.SameLemmas.{extends_equal, bare}

-- what it does, whether the slots come from an old journal or are none
pub record Fills (taking : Bool) (j : Job) (old disk after : Face) : Type 0 where
  pub spares : Spares j disk after
  pub since : EachImageSince disk.clock after (λ c. IsUnbegun c ⊎ StandsFor j c)
  pub made : OldIsMade (keeping false taking) j disk old → EachImageSince disk.clock after (Made j)
  pub begun : IfSome (taken_over (keeping false taking) j old.content) (λ before. EachImageSince disk.clock after (λ c. IsUnbegun c ⊎ GoesOn j before c))
  pub grows : IfSome (taken_over (keeping false taking) j old.content) (λ before. Reads after
      (λ f. (slots_of j f ≡ before) ⊎ ((taking ≡ true) × (slots_of j f ≡ nones j))))
  pub refused : (r : AttachFault) → RefusesOld (λ known P. IsSomeAnd known P) (keeping false taking) j disk old r → IsUnwritten disk after

-- ---- the slots that an empty journal gives
module _ (taking : Bool) (j : Job) (old : Face) (x : Option (List ℕ)) (empty : (f : List ℕ) → x ≡ Some f → f ≡ []) where
  pub record GivesTaken (before : Slots) : Type 0 where
    pub told : x ≡ Some []
    pub taken : taken_over (keeping false taking) j old.content ≡ Some before

  pub given_taken : (before : Slots) → option_and_then (λ f. given (keeping false taking) j f old.content) x ≡ Some before → GivesTaken before
  given_taken before is =
      let has = then_has (λ f. given (keeping false taking) j f old.content) x before is in
      let none : has.value ≡ [] = empty has.value has.is in
      record {
        told = has.is ∙ ap Some none;
        taken = sym (ap (λ (f : List ℕ). given (keeping false taking) j f old.content) none) ∙ has.holds;
      }

-- ---- the record of it
module _ (taking : Bool) (j : Job) (old disk after : Face) (empty : Reads disk (λ f. f ≡ [])) where
  pub empty_refuses : (r : AttachFault) → RefusesJournal (λ known P. IsSomeAnd known P) (keeping false taking) j disk r → ⊥
  empty_refuses r why =
      let has = and_has disk.content (λ f. (first_refusal j f ≡ Some r) × (r ≢ Empty)) why.first in
      has.holds.1 (sym (one_value Empty r (sym (empty_refused j) ∙ ap (first_refusal j) (sym (empty has.value has.is)) ∙ has.holds.0)))

  module _ (fills : Fills taking j old disk after) where
    old_or : (before : Slots) (c : List ℕ) → IsUnbegun c ⊎ GoesOn j before c → IsOldOrGoesOn j before disk c
    old_or before c either = inr either

    fills_grows : IfTold (keeping false taking) j disk old after (Grows (keeping false taking) j disk)
    fills_grows = some_from (slots_before (keeping false taking) j disk old) (λ s0. IfSome (slots_after (keeping false taking) j after)
        (λ s1. Grows (keeping false taking) j disk s0 s1)) (λ s0 is0.
        let from = given_taken taking j old disk.content empty s0 is0 in
        some_from (slots_after (keeping false taking) j after) (λ s1. Grows (keeping false taking) j disk s0 s1) (λ s1 is1.
        let to = map_has (slots_of j) after.content s1 is1 in
        subst (λ (s : Slots). Grows (keeping false taking) j disk s0 s) to.holds
        (elim (some_to (taken_over (keeping false taking) j old.content) (λ before. Reads after
        (λ f. (slots_of j f ≡ before) ⊎ ((taking ≡ true) × (slots_of j f ≡ nones j)))) s0 fills.grows from.taken to.value to.is) [
          | inl same ↦ inl (extends_equal j s0 (slots_of j to.value) (sym same))
          | inr none ↦ inr ((none.0, and_from disk.content (λ f. f ≡ []) [] from.told refl), bare j (slots_of j to.value) none.1)
        ])))

    pub fills_keeps : IsJob j → KeepsJournal (keeping false taking) j old disk after
    fills_keeps is_j = record {
      runs = fills.spares.runs;
      made = λ is. fills.made is.taken;
      renewed = λ fresh. absurd (false≢true fresh);
      begun = λ none. some_map (taken_over (keeping false taking) j old.content) (λ before. EachImageSince disk.clock after
          (λ c. IsUnbegun c ⊎ GoesOn j before c)) (λ before. EachImageSince disk.clock after (IsOldOrGoesOn j before disk))
          (λ before each c is. old_or before c (each c is)) fills.begun;
      stable = λ fresh i is. lasts_stays i disk.clock disk after (omega arith) (every_stable j is_j disk after fills.spares fills.since i is);
      stable_new = λ t from none. lasts_stays j t disk after from fills.spares.stable;
      grows = λ fresh. fills_grows;
      finished = λ fresh full. let has = and_has disk.content (λ f. (s : Slots) × Stands j s f × IsFull j s) full in absurd
          (empty_stands j has.holds.0 has.value has.holds.1 (empty has.value has.is));
      refused = λ r fresh why. absurd (empty_refuses r why);
      old_refused = λ r fresh why. fills.refused r why;
    }

-- ---- a create
made_begun : (j : Job) (c : List ℕ) → Made j c → IsUnbegun c ⊎ StandsFor j c
made_begun j c (inl unbegun) = inl unbegun
made_begun j c (inr stands) = inr (record { slots = stands.slots; stands = stands.stands })

made_goes : (j : Job) (c : List ℕ) → Made j c → IsUnbegun c ⊎ GoesOn j (nones j) c
made_goes j c (inl unbegun) = inl unbegun
made_goes j c (inr stands) = inr (record {
  slots = stands.slots;
  stands = stands.stands;
  extends = record { kept = λ r v held. absurd (nothing v (sym (none_at j r) ∙ held)); added = λ r v none held. stands.true_slots r v held };
})

empty_made : (j : Job) (d : Face) → EachImage d (λ f. f ≡ []) → EachImage d (Made j)
empty_made j d empty c is = inl (empty_unbegun c (empty c is))

pub created_fills : {D : Type 0} (face : D → Face) (loans : D → List ℕ) (j : Job) (old : Face) (d e : D) → EachImage (face d) (λ f. f ≡ [])
    → IsCreated face loans j d e → Fills false j old (face d) (face e)
created_fills face loans j old d e empty created =
    let each : EachImageSince (face d).clock (face e) (Made j) = lasts_since (Made j) (face d) (face e) created.runs (created.made empty)
    (empty_made j (face d) empty) in
    record {
      spares = created.spares empty;
      since = λ c is. made_begun j c (each c is);
      made = λ old_made. each;
      begun = λ c is. made_goes j c (each c is);
      grows = λ f told. inl (created.reads f told);
      refused = λ r why. absurd (false≢true why.taking);
    }

-- ---- a migration, and a look behind it
pub leaves_looks : (j : Job) (was old mid new : Face) → Leaves j was old mid → Looks mid new → Leaves j was old new
leaves_looks j was old mid new leaves looks = record {
  slots = leaves.slots;
  are_old = leaves.are_old;
  since = each_since_on (IsFresh j leaves.slots) old.clock mid new leaves.since looks.runs
      (λ c is. leaves.since c (since_new old mid leaves.spares.runs c (narrows_since mid new looks.runs looks.narrows c is)));
  spares = spares_on j old mid new leaves.spares (spares_looks j mid new looks);
  reads = looks_reads (IsFresh j leaves.slots) mid new looks leaves.reads;
}

fresh_begun : (j : Job) (s : Slots) (c : List ℕ) → IsFresh j s c → IsUnbegun c ⊎ StandsFor j c
fresh_begun j s c (inl unbegun) = inl unbegun
fresh_begun j s c (inr stands) = inr (record { slots = s; stands = stands })

fresh_goes : (j : Job) (s before : Slots) (c : List ℕ) → before ≡ s → IsFresh j s c → IsUnbegun c ⊎ GoesOn j before c
fresh_goes j s before c same (inl unbegun) = inl unbegun
fresh_goes j s before c same (inr stands) = inr (record { slots = s; stands = stands; extends = extends_equal j before s same })

fresh_grows : (j : Job) → IsJob j → (s before : Slots) (f : List ℕ) → before ≡ s → IsFresh j s f → (slots_of j f ≡ before) ⊎
    ((true ≡ true) × (slots_of j f ≡ nones j))
fresh_grows j is s before f same (inl unbegun) = inr (refl, closed j f unbegun)
fresh_grows j is s before f same (inr stands) = inl (one_map j is s f stands ∙ sym same)

-- the slots that were taken over
taken_same : (j : Job) (was old new : Face) (leaves : Leaves j was old new) (before : Slots) → option_map (slots1_of j) was.content ≡ Some before
    → before ≡ leaves.slots
taken_same j was old new leaves before is = let has = map_has (slots1_of j) was.content before is in sym has.holds ∙ leaves.are_old has.value has.is

-- a safe disk that does not tell what it reads as has no images
untold_made : (j : Job) (disk after : Face) (x : Option (List ℕ)) → disk.content ≡ x → IsSafe disk → Runs disk after → Lasts (λ _. ⊥) disk after →
    (IsSomeAnd x (λ f. Unit {0}) → EachImageSince disk.clock after (Made j)) → EachImageSince disk.clock after (Made j)
untold_made j disk after None is safe runs none told = λ c image. absurd (lasts_since (λ _. ⊥) disk after runs none
    (λ d at. nothing d (sym is ∙ safe d at)) c image)
untold_made j disk after (Some f) is safe runs none told = told tt

pub leaves_fills : (j : Job) → IsJob j → (was old new : Face) → Reads was (IsImage was) → IsSafe old → Reads old (λ f. f ≡ []) → Leaves j was old new
    → ((r : AttachFault) → RefusesOld (λ known P. IsSomeAnd known P) (keeping false true) j old was r → IsUnwritten old new) → Fills true j was old new
leaves_fills j is was old new current safe empty leaves refused = record {
  spares = leaves.spares;
  since = λ c image. fresh_begun j leaves.slots c (leaves.since c image);
  made = λ made. untold_made j old new old.content refl safe leaves.spares.runs leaves.spares.none (λ told. true_made made (has_some old.content told));
  begun = some_from (option_map (slots1_of j) was.content) (λ before. EachImageSince old.clock new (λ c. IsUnbegun c ⊎ GoesOn j before c))
      (λ before told c image. fresh_goes j leaves.slots before c (taken_same j was old new leaves before told) (leaves.since c image));
  grows = some_from (option_map (slots1_of j) was.content) (λ before. Reads new (λ f. (slots_of j f ≡ before) ⊎ ((true ≡ true) × (slots_of j f ≡ nones j))))
      (λ before told f reads. fresh_grows j is leaves.slots before f (taken_same j was old new leaves before told) (leaves.reads f reads));
  refused = refused;
}
  where
    has_some : (x : Option (List ℕ)) → IsSomeAnd x (λ f. Unit {0}) → Has x (λ f. Unit {0})
    has_some x some = and_has x (λ f. Unit {0}) some

    true_made : OldIsMade (keeping false true) j old was → Has old.content (λ f. Unit {0}) → EachImageSince old.clock new (Made j)
    true_made made has =
        let tells = made (refl, and_from old.content (λ f. f ≡ []) has.value has.is (empty has.value has.is)) in
        let told = is_some_has was.content tells.told in
        leaves_made j is was old new leaves told.value told.is (tells.each told.value (current told.value told.is))

-- where the old journal attached, none refuses it
pub stood_accepted : (j : Job) → IsJob j → (taking : Bool) (was disk : Face) (s : Slots) → Reads was (Stands1 j s) → (r : AttachFault) → RefusesOld
    (λ known P. IsSomeAnd known P) (keeping false taking) j disk was r → ⊥
stood_accepted j is taking was disk s stood r why =
    let has = and_has was.content (λ f. first_refusal1 j f ≡ Some r) why.first in
    nothing r (sym (none_refusal1 j is s has.value (stood has.value has.is)) ∙ has.holds)

-- ---- the journal that they leave
pub created_opened : (j : Job) → IsJob j → (old disk after : Face) (table : Slots) → Reads disk (λ f. f ≡ []) → Fills false j old disk after
    → table ≡ nones j → IsSafe after → Reads after (Stands j table) → Opened (keeping false false) j old disk after table
created_opened j is old disk after table empty fills bare_table safe reads = record {
  valid = is;
  keeps = fills_keeps false j old disk after empty fills is;
  safe = safe;
  reads = reads;
  begins = some_from (slots_before (keeping false false) j disk old) (λ s0. table ≡ s0) (λ s0 told. bare_table ∙ one_value (nones j) s0
      (given_taken false j old disk.content empty s0 told).taken);
  renewed = λ fresh. absurd (false≢true fresh);
  accepted = empty_refuses false j old disk after empty;
  old_accepted = λ r why. false≢true why.taking;
}

pub moved_opened : (j : Job) → IsJob j → (was disk after : Face) (table slots : Slots) → Reads disk (λ f. f ≡ []) → Fills true j was disk after → Reads was
    (Stands1 j slots) → Reads after (Stands j slots) → IsSafe after → Reads after (Stands j table)
    → Opened (keeping false true) j was disk after table
moved_opened j is was disk after table slots empty fills stood stands safe reads = record {
  valid = is;
  keeps = fills_keeps true j was disk after empty fills is;
  safe = safe;
  reads = reads;
  begins = some_from (slots_before (keeping false true) j disk was) (λ s0. table ≡ s0) (λ s0 told.
      let from = given_taken true j was disk.content empty s0 told in
      let here = same_told disk.content after.content [] fills.spares.runs.told from.told in
      let before = map_has (slots1_of j) was.content s0 from.taken in
      sym (one_map j is table here.value (reads here.value here.is)) ∙ one_map j is slots here.value (stands here.value here.is)
      ∙ sym (one_map1 j is slots before.value (stood before.value before.is)) ∙ before.holds);
  renewed = λ fresh. absurd (false≢true fresh);
  accepted = empty_refuses true j was disk after empty;
  old_accepted = stood_accepted j is true was disk slots stood;
}
