-- Where no count of faults rose and the disks tell, what they tell fixes the answer of an opening, but for want of memory.
use Rattle.std.proofs.Common.{◌≡◌, ◌≢◌, ◌⊎◌, inl, inr, ℕ, Bool, true, List, [], Some, None, refl, sym, ap, ◌∙◌}
use Rattle.std.proofs.lemmas.Bool.{false≢true}
use Rattle.std.specs.Prelude.{IfSome, IsSomeAnd}
use Rattle.qh_limits.specs.Counts.{Rose}
use Rattle.qh_plan.specs.Jobs.{Job}
use Rattle.qh_disk.specs.Disk.{Face}
use Rattle.qh_slots.specs.Attaching.{first_refusal, first_refusal1}
use Rattle.qh_slots.specs.declared.fault.AttachFault.{AttachFault}
use Rattle.qh_slots.specs.declared.fault.AttachFault.TheVariants.{Empty}
use Rattle.qh_slots.specs.Record.{counted}
use Rattle.qh_slots.specs.Refusing.{RefusesJournal, RefusesOld, Accepts}
use Rattle.qh_migrate.specs.Faults.{attach_of}
use Rattle.qh_migrate.specs.declared.fault.OldRefusal.{OldRefusal}
use Rattle.qh_migrate.specs.declared.open_fault.OpenFault.{OpenFault}
use Rattle.qh_migrate.specs.declared.open_fault.OpenFault.TheVariants as fault
use Rattle.qh_migrate.specs.Opening.{OpenMayFail, keeping}
use Rattle.qh_migrate.proofs.OptionLemmas.{and_has, nothing, one_value, some_to}
use Rattle.qh_migrate.proofs.EmptyLemmas.{empty_refused}

-- the old journal is refused for this
pub record IsOldRefused (why : AttachFault) (stop : OpenFault) : Type 0 where
  pub cause : OldRefusal
  pub is : stop ≡ fault.OldRefused cause
  pub means : attach_of cause ≡ why

module _ (fresh taking : Bool) (j : Job) (was now disk after : Face) (quiet : Rose disk.faults after.faults → ⊥)
    (old_quiet : Rose was.faults now.faults → ⊥) where
  -- a file that counts as empty is refused for that alone
  counts_empty : (f : List ℕ) (why : AttachFault) → counted (keeping fresh taking) f ≡ [] → first_refusal j (counted (keeping fresh taking) f) ≡ Some why
      → why ≡ Empty
  counts_empty f why none first = sym (one_value Empty why (sym (empty_refused j) ∙ ap (first_refusal j) (sym none) ∙ first))

  pub refused_told : (r : AttachFault) → RefusesJournal (λ known P. IsSomeAnd known P) (keeping fresh taking) j disk r → (stop : OpenFault)
      → OpenMayFail (keeping fresh taking) j stop was now disk after → (stop ≡ fault.Refused r) ⊎ (stop ≡ fault.Memory)
  refused_told r refuses fault.Disk may = absurd (quiet may)
  refused_told r refuses fault.OldDisk may = absurd (old_quiet may.1)
  refused_told r refuses (fault.Refused why) may =
      let has = and_has disk.content _ refuses.first in
      inl (ap fault.Refused (one_value why r (sym (some_to disk.content _ has.value may.0.first has.is).0 ∙ has.holds.0)))
  refused_told r refuses (fault.OldRefused why) may =
      let has = and_has disk.content _ refuses.first in
      absurd (has.holds.1 (counts_empty has.value r (some_to disk.content _ has.value may.0.empty has.is) has.holds.0))
  refused_told r refuses fault.Memory may = inr refl

  pub old_refused_told : (r : AttachFault) → RefusesOld (λ known P. IsSomeAnd known P) (keeping fresh taking) j disk was r → (stop : OpenFault)
      → OpenMayFail (keeping fresh taking) j stop was now disk after → IsOldRefused r stop ⊎ (stop ≡ fault.Memory)
  old_refused_told r refuses fault.Disk may = absurd (quiet may)
  old_refused_told r refuses fault.OldDisk may = absurd (old_quiet may.1)
  old_refused_told r refuses (fault.Refused why) may =
      let has = and_has disk.content _ refuses.empty in
      let first = some_to disk.content _ has.value may.0.first has.is in
      absurd (first.1 (counts_empty has.value why has.holds first.0))
  old_refused_told r refuses (fault.OldRefused why) may =
      let has = and_has was.content _ refuses.first in
      inl (record { cause = why; is = refl; means = one_value (attach_of why) r (sym (some_to was.content _ has.value may.0.first has.is) ∙ has.holds) })
  old_refused_told r refuses fault.Memory may = inr refl

  abbrev IsAccepted : List ℕ → Type 0
  IsAccepted f = (first_refusal j (counted (keeping fresh taking) f) ≡ None)
      ⊎ ((counted (keeping fresh taking) f ≡ []) × (taking ≡ true → IsSomeAnd was.content (λ g. first_refusal1 j g ≡ None)))

  never_refused : (f : List ℕ) (why : AttachFault) → IsAccepted f → first_refusal j (counted (keeping fresh taking) f) ≡ Some why → why ≢ Empty → ⊥
  never_refused f why (inl none) first other = nothing why (sym none ∙ first)
  never_refused f why (inr empty) first other = other (counts_empty f why empty.0 first)

  never_old : (f : List ℕ) (why : AttachFault) → IsAccepted f → taking ≡ true → counted (keeping fresh taking) f ≡ [] → IfSome was.content
      (λ g. first_refusal1 j g ≡ Some why) → ⊥
  never_old f why (inl none) takes empty first = nothing Empty (sym none ∙ ap (first_refusal j) empty ∙ empty_refused j)
  never_old f why (inr old) takes empty first = let has = and_has was.content _ (old.1 takes) in nothing why
      (sym has.holds ∙ some_to was.content _ has.value first has.is)

  pub accepted_told : Accepts (keeping fresh taking) j disk was → (stop : OpenFault) → OpenMayFail (keeping fresh taking) j stop was now disk after
      → stop ≡ fault.Memory
  accepted_told (inl unkept) stop may = absurd (false≢true (sym unkept))
  accepted_told (inr told) fault.Disk may = absurd (quiet may)
  accepted_told (inr told) fault.OldDisk may = absurd (old_quiet may.1)
  accepted_told (inr told) (fault.Refused why) may =
      let has = and_has disk.content IsAccepted told in
      let first = some_to disk.content _ has.value may.0.first has.is in
      absurd (never_refused has.value why has.holds first.0 first.1)
  accepted_told (inr told) (fault.OldRefused why) may =
      let has = and_has disk.content IsAccepted told in
      absurd (never_old has.value (attach_of why) has.holds may.0.taking (some_to disk.content _ has.value may.0.empty has.is) may.0.first)
  accepted_told (inr told) fault.Memory may = refl
