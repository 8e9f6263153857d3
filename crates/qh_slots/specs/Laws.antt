-- Laws between the two ways to say what a file stands for: by its bytes, and by the first refusal.
use Rattle.std.specs.Prelude.{◌≡◌, ◌≢◌, ℕ, List, None}
use Rattle.std.proofs.Common.{get_or}
use Rattle.qh_plan.specs.Jobs.{Job, IsJob}
use Rattle.qh_slots.specs.Layout.{mark}
use Rattle.qh_slots.specs.Stands.{Slots, Stands, Stands1, nones}
use Rattle.qh_slots.specs.Attaching.{first_refusal, first_refusal1, slots_of, slots1_of}

-- a file stands for a job with one list of slots at most, which is that of its slots
abbrev pub OneMapLaw : Type 0
OneMapLaw = (j : Job) → IsJob j → (s : Slots) (f : List ℕ) → Stands j s f → slots_of j f ≡ s

abbrev pub OneMapLaw1 : Type 0
OneMapLaw1 = (j : Job) → IsJob j → (s : Slots) (f : List ℕ) → Stands1 j s f → slots1_of j f ≡ s

-- nothing refuses it exactly where it stands for the job with some slots
pub record AttachesLaw : Type 0 where
  pub stands : (j : Job) → IsJob j → (f : List ℕ) → first_refusal j f ≡ None → Stands j (slots_of j f) f
  pub attaches : (j : Job) → IsJob j → (s : Slots) (f : List ℕ) → Stands j s f → first_refusal j f ≡ None

pub record AttachesLaw1 : Type 0 where
  pub stands : (j : Job) → IsJob j → (f : List ℕ) → first_refusal1 j f ≡ None → Stands1 j (slots1_of j f) f
  pub attaches : (j : Job) → IsJob j → (s : Slots) (f : List ℕ) → Stands1 j s f → first_refusal1 j f ≡ None

-- a file that is not begun has no slot
abbrev pub ClosedLaw : Type 0
ClosedLaw = (j : Job) (f : List ℕ) → get_or f 0 0 ≢ mark → slots_of j f ≡ nones j

abbrev pub ClosedLaw1 : Type 0
ClosedLaw1 = (j : Job) (f : List ℕ) → get_or f 0 0 ≢ mark → slots1_of j f ≡ nones j

-- a file stands for one job at most
abbrev pub OneOwnerLaw : Type 0
OneOwnerLaw = (i j : Job) → IsJob i → IsJob j → (s t : Slots) (f : List ℕ) → Stands i s f → Stands j t f → i ≡ j
