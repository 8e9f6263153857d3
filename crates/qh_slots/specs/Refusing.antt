-- Why a run's journal is refused, or the old one that is to be taken over, and when neither is. Told says what is claimed of a disk's content.
use Rattle.std.specs.Prelude.{◌≡◌, ◌≢◌, ◌⊎◌, ℕ, Bool, true, false, List, [], IsSomeAnd, Option, Some, None}
use Rattle.qh_plan.specs.Jobs.{Job}
use Rattle.qh_disk.specs.Disk.{Face}
use Rattle.qh_slots.specs.Attaching.{first_refusal, first_refusal1}
use Rattle.qh_slots.specs.declared.fault.AttachFault.{AttachFault}
use Rattle.qh_slots.specs.declared.fault.AttachFault.TheVariants.{DiskFault, Empty, Memory}
use Rattle.qh_slots.specs.Record.{Keeping, counted}

-- an answer of attach that is a refusal
abbrev pub IsRefusal : AttachFault → Type 0
IsRefusal DiskFault = ⊥
IsRefusal Memory = ⊥
IsRefusal r = Unit {0}

-- The run's journal is refused for r. An empty journal is no refusal; but over a disk that does not tell its content one that is found empty after an old
-- journal was taken over is.
pub record RefusesJournal (Told : Option (List ℕ) → (List ℕ → Type 0) → Type 0) (k : Keeping) (j : Job) (disk : Face) (r : AttachFault) : Type 0 where
  pub refusal : IsRefusal r
  pub empty : r ≡ Empty → k.taking ≡ true
  pub first : Told disk.content (λ f. (first_refusal j (counted k f) ≡ Some r) × (r ≢ Empty))

-- the old journal is refused for r: it is to be taken over, and r is its first refusal
pub record RefusesOld (Told : Option (List ℕ) → (List ℕ → Type 0) → Type 0) (k : Keeping) (j : Job) (disk old : Face) (r : AttachFault) : Type 0 where
  pub refusal : IsRefusal r
  pub taking : k.taking ≡ true
  pub empty : Told disk.content (λ f. counted k f ≡ [])
  pub first : Told old.content (λ f. first_refusal1 j f ≡ Some r)

-- both tell that there is no refusal: the journal is absent, attaches, or is empty, and an old one that is taken over attaches
abbrev pub Accepts : Keeping → Job → Face → Face → Type 0
Accepts k j disk old = (k.kept ≡ false) ⊎ IsSomeAnd disk.content (λ f.
    (first_refusal j (counted k f) ≡ None) ⊎ ((counted k f ≡ []) × (k.taking ≡ true → IsSomeAnd old.content (λ g. first_refusal1 j g ≡ None))))
