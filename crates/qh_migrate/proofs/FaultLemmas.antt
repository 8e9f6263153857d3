-- Why an opening stops, from why its calls stop.
use Rattle.std.proofs.Common.{◌≡◌, ◌≢◌, inl, inr, ℕ, Bool, true, false, List, [], Option, Some, None, refl, sym, subst, ◌∙◌, arith}
use Rattle.std.specs.Prelude.{IfSome, IsSomeAnd}
use Rattle.qh_limits.proofs.Chains.{rose_before}
use Rattle.qh_plan.specs.Jobs.{Job, IsJob}
use Rattle.qh_disk.specs.Disk.{Face, IsSafe, Reads}
use Rattle.qh_disk.specs.Moments.{Runs, Lasts}
use Rattle.qh_disk.specs.Looks.{Looks}
use Rattle.qh_slots.specs.Stands.{Slots, Stands}
use Rattle.qh_slots.specs.Attaching.{first_refusal, first_refusal1}
use Rattle.qh_slots.specs.declared.fault.AttachFault.{AttachFault}
use Rattle.qh_slots.specs.declared.fault.AttachFault.TheVariants.{DiskFault, Empty, Unbegun, OldJournal, NotAJournal, OtherJob, BadLength, BadSlot, Memory}
use Rattle.qh_slots.proofs.StandLemmas.{none_refusal}
use Rattle.qh_slots.specs.Refusing.{IsRefusal, RefusesOld}
use Rattle.qh_slots.specs.Moments.{IsUnwritten, IsReadOnly}
use Rattle.qh_parts.specs.Reading.{OnlyReads}
use Rattle.qh_disk.proofs.Moments.{le_cases, lasts_on, runs_on}
use Rattle.qh_disk.proofs.Looking.{narrows_lasts, narrows_since}
use Rattle.qh_journal.specs.Calls.{AttachMayFail, IsRefused}
use Rattle.qh_migrate.specs.Faults.{attach_of}
use Rattle.qh_migrate.specs.Moving.{MigrateMayFail}
use Rattle.qh_migrate.specs.declared.fault.OldRefusal.{OldRefusal}
use Rattle.qh_migrate.specs.declared.fault.OldRefusal.TheVariants as old
use Rattle.qh_migrate.specs.declared.fault.MigrateFault.{MigrateFault}
use Rattle.qh_migrate.specs.declared.fault.MigrateFault.TheVariants as migrate
use Rattle.qh_migrate.specs.declared.open_fault.OpenFault.{OpenFault}
use Rattle.qh_migrate.specs.declared.open_fault.OpenFault.TheVariants as fault
use Rattle.qh_migrate.specs.Opening.{OpenMayFail, keeping}
use Rattle.qh_migrate.specs.Stops.{attach_stop, migrate_stop}
use Rattle.qh_migrate.proofs.OptionLemmas.{some_from, nothing, same_told}
use Rattle.qh_migrate.proofs.MomentLemmas.{untold_unwritten, unwritten_same, unwritten_looks, unwritten_on}
use Rattle.qh_migrate.proofs.FillLemmas.{stood_accepted}

-- ---- a disk that was only read
pub read_only : (before after : Face) → OnlyReads before after → IsReadOnly before after
read_only before after reads = record {
  unwritten = record { content = reads.looks.content; images = narrows_since before after reads.looks.runs reads.looks.narrows };
  kept = reads.kept;
}

pub read_only_same : (d : Face) → IsReadOnly d d
read_only_same d = record {
  unwritten = unwritten_same d;
  kept = λ t c low most is. elim (le_cases t d.clock) [
    | inl at_most ↦ let same : t ≡ d.clock = omega arith in subst (λ (n : ℕ). d.images_at n c) (sym same) is
    | inr past ↦ absurd (omega arith)
  ];
}

-- ---- an attach of what is there
stops_refused : (taking : Bool) (j : Job) (was now disk after : Face) (why : AttachFault) → (why ≢ Empty) → IsRefusal why → Looks disk after
    → IsRefused j why after → OpenMayFail (keeping false taking) j (fault.Refused why) was now disk after
stops_refused taking j was now disk after why other is looks refused = (
  record {
    refusal = is;
    empty = λ e. absurd (other e);
    first = some_from disk.content (λ f. (first_refusal j f ≡ Some why) × (why ≢ Empty)) (λ f told. (refused.first f (looks.content ∙ told), other));
  },
  λ fresh. unwritten_looks disk after looks,
)

pub attach_stops : (taking : Bool) (j : Job) (was now disk after : Face) (why : AttachFault) → (why ≢ Empty) → Looks disk after
    → AttachMayFail j why disk after → OpenMayFail (keeping false taking) j (attach_stop why) was now disk after
attach_stops taking j was now disk after DiskFault other looks may = may
attach_stops taking j was now disk after Memory other looks may = tt
attach_stops taking j was now disk after Empty other looks may = absurd (other refl)
attach_stops taking j was now disk after Unbegun other looks may = stops_refused taking j was now disk after Unbegun other tt looks may
attach_stops taking j was now disk after OldJournal other looks may = stops_refused taking j was now disk after OldJournal other tt looks may
attach_stops taking j was now disk after NotAJournal other looks may = stops_refused taking j was now disk after NotAJournal other tt looks may
attach_stops taking j was now disk after (OtherJob k) other looks may = stops_refused taking j was now disk after (OtherJob k) other tt looks may
attach_stops taking j was now disk after (BadLength k) other looks may = stops_refused taking j was now disk after (BadLength k) other tt looks may
attach_stops taking j was now disk after (BadSlot k) other looks may = stops_refused taking j was now disk after (BadSlot k) other tt looks may

-- ---- an attach of what was taken over: it stands, where that is told
module _ (j : Job) (is_j : IsJob j) (was now disk mid after : Face) (slots : Slots) (runs : Runs disk mid) (looks : Looks mid after)
    (stands : Reads mid (Stands j slots)) (safe : IsSafe disk) (none : Lasts (λ _. ⊥) disk mid) where
  never_told : (why : AttachFault) → IsRefused j why after → (f : List ℕ) → disk.content ≡ Some f → ⊥
  never_told why refused f told =
      let here = same_told disk.content mid.content f runs.told told in
      nothing why (sym (none_refusal j is_j slots here.value (stands here.value here.is)) ∙ refused.first here.value (looks.content ∙ here.is))

  taken_unwritten : (x : Option (List ℕ)) → disk.content ≡ x → (why : AttachFault) → IsRefused j why after → IsUnwritten disk after
  taken_unwritten None is why refused = untold_unwritten disk after (runs_on disk mid after runs looks.runs) safe
      (lasts_on (λ _. ⊥) disk mid after none looks.runs (narrows_lasts (λ _. ⊥) mid after looks.narrows)) is
  taken_unwritten (Some f) is why refused = absurd (never_told why refused f is)

  taken_refused : (why : AttachFault) → IsRefusal why → IsRefused j why after → OpenMayFail (keeping false true) j (fault.Refused why) was now disk after
  taken_refused why is refused = (
    record {
      refusal = is;
      empty = λ e. refl;
      first = some_from disk.content (λ f. (first_refusal j f ≡ Some why) × (why ≢ Empty)) (λ f told. absurd (never_told why refused f told));
    },
    λ fresh. taken_unwritten disk.content refl why refused,
  )

  pub taken_stops : (why : AttachFault) → AttachMayFail j why mid after → OpenMayFail (keeping false true) j (attach_stop why) was now disk after
  taken_stops DiskFault may = rose_before disk.faults mid.faults after.faults runs.faults may
  taken_stops Memory may = tt
  taken_stops Empty may = taken_refused Empty tt may
  taken_stops Unbegun may = taken_refused Unbegun tt may
  taken_stops OldJournal may = taken_refused OldJournal tt may
  taken_stops NotAJournal may = taken_refused NotAJournal tt may
  taken_stops (OtherJob k) may = taken_refused (OtherJob k) tt may
  taken_stops (BadLength k) may = taken_refused (BadLength k) tt may
  taken_stops (BadSlot k) may = taken_refused (BadSlot k) tt may

-- ---- a migration that stopped
old_refusal : (why : OldRefusal) → IsRefusal (attach_of why)
old_refusal old.Empty = tt
old_refusal old.Unbegun = tt
old_refusal old.NotAJournal = tt
old_refusal (old.OtherJob k) = tt
old_refusal (old.BadLength k) = tt
old_refusal (old.BadSlot k) = tt

pub migrate_stops : {F D : Type 0} (old_face : F → Face) (face : D → Face) (j : Job) (f g : F) (d e : D) (why : MigrateFault) → Reads (face d) (λ c. c ≡ [])
    → MigrateMayFail old_face face j why f g d e
    → OpenMayFail (keeping false true) j (migrate_stop why) (old_face f) (old_face g) (face d) (face e)
migrate_stops old_face face j f g d e migrate.OldDisk empty may = (refl, may.0)
migrate_stops old_face face j f g d e migrate.NewDisk empty may = may.0
migrate_stops old_face face j f g d e (migrate.Refused why) empty may = (
  record {
    refusal = old_refusal why;
    taking = refl;
    empty = some_from (face d).content (λ c. c ≡ []) empty;
    first = some_from (old_face f).content (λ c. first_refusal1 j c ≡ Some (attach_of why)) may.0;
  },
  λ fresh. subst (λ x. IsUnwritten (face d) (face x)) (sym may.1) (unwritten_same (face d)),
)
migrate_stops old_face face j f g d e migrate.Memory empty may = tt

-- ---- a look before
pub looks_stops : (taking : Bool) (j : Job) (was now disk mid after : Face) (stop : OpenFault) → Looks disk mid → Runs mid after → OpenMayFail
    (keeping false taking) j stop was now mid after → OpenMayFail (keeping false taking) j stop was now disk after
looks_stops taking j was now disk mid after fault.Disk looks runs may = rose_before disk.faults mid.faults after.faults looks.runs.faults may
looks_stops taking j was now disk mid after fault.OldDisk looks runs may = may
looks_stops taking j was now disk mid after (fault.Refused why) looks runs may = (
  record {
    refusal = may.0.refusal;
    empty = may.0.empty;
    first = subst (λ (x : Option (List ℕ)). IfSome x (λ f. (first_refusal j f ≡ Some why) × (why ≢ Empty))) looks.content may.0.first;
  },
  λ fresh. unwritten_on disk mid after looks.runs (unwritten_looks disk mid looks) runs (may.1 fresh),
)
looks_stops taking j was now disk mid after (fault.OldRefused why) looks runs may = (
  record {
    refusal = may.0.refusal;
    taking = may.0.taking;
    empty = subst (λ (x : Option (List ℕ)). IfSome x (λ f. f ≡ [])) looks.content may.0.empty;
    first = may.0.first;
  },
  λ fresh. unwritten_on disk mid after looks.runs (unwritten_looks disk mid looks) runs (may.1 fresh),
)
looks_stops taking j was now disk mid after fault.Memory looks runs may = tt

-- an old journal that is refused is not taken over
pub migrate_refused : {F D : Type 0} (old_face : F → Face) (face : D → Face) (j : Job) → IsJob j → (f g : F) (d e : D) (why : MigrateFault)
    → MigrateMayFail old_face face j why f g d e
    → (r : AttachFault) → RefusesOld (λ known P. IsSomeAnd known P) (keeping false true) j (face d) (old_face f) r → IsUnwritten (face d) (face e)
migrate_refused old_face face j is f g d e migrate.OldDisk may r refuses = subst (λ x. IsUnwritten (face d) (face x)) (sym may.1) (unwritten_same (face d))
migrate_refused old_face face j is f g d e migrate.NewDisk may r refuses = absurd (stood_accepted j is true (old_face f)
    (face d) may.1.slots may.1.stood r refuses)
migrate_refused old_face face j is f g d e (migrate.Refused why) may r refuses = subst (λ x. IsUnwritten (face d) (face x)) (sym may.1)
    (unwritten_same (face d))
migrate_refused old_face face j is f g d e migrate.Memory may r refuses = subst (λ x. IsUnwritten (face d) (face x)) (sym may) (unwritten_same (face d))
