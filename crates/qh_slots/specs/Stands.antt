-- What a file stands for, and what the runs of a job leave.
use Rattle.std.specs.Prelude.{◌≡◌, ◌≢◌, ◌⊎◌, ℕ, ◌<◌, List, length, take, replicate, Option, Some, None}
use Rattle.std.proofs.Common.{get_or}
use Rattle.qh_plan.specs.declared.verdict.Verdict.{Verdict}
use Rattle.qh_plan.specs.Jobs.{Job, ranges}
use Rattle.qh_plan.specs.Values.{range_value}
use Rattle.qh_slots.specs.Layout.{mark, head, old_head, place, body}
use Rattle.qh_slots.specs.Slots.{SlotIs, spelled}
use Rattle.qh_plan.specs.Ranges.{Fits}

-- the verdict of each range that has one, in the order of the ranges
abbrev pub Slots : Type 0
Slots = List (Option Verdict)

abbrev pub slot_at : Slots → ℕ → Option Verdict
slot_at s r = get_or s r None

-- no slot is open
abbrev pub nones : Job → Slots
nones j = replicate (ranges j) None

-- each verdict fits its range
pub record AllFit (j : Job) (s : Slots) : Type 0 where
  pub each : (r : ℕ) (v : Verdict) → slot_at s r ≡ Some v → Fits j r v

-- f begins with the head h, is as long as it says, and has these slots
pub record StandsBy (h : List ℕ) (j : Job) (s : Slots) (f : List ℕ) : Type 0 where
  pub begins : take (length h) f ≡ h
  pub size : length f ≡ place h j (ranges j)
  pub count : length s ≡ ranges j
  pub slots : (r : ℕ) → r < ranges j → SlotIs h j r f (slot_at s r)

-- f stands for the job with these slots, in format 2 and in format 1
abbrev pub Stands : Job → Slots → List ℕ → Type 0
Stands j s f = StandsBy (head j) j s f

abbrev pub Stands1 : Job → Slots → List ℕ → Type 0
Stands1 j s f = StandsBy (old_head j) j s f

-- each open slot holds its range's value
abbrev pub AreTrue : Job → Slots → Type 0
AreTrue j s = (r : ℕ) (v : Verdict) → slot_at s r ≡ Some v → v ≡ range_value j r

-- f stands for the job with true slots, and its head is h
pub record StandsTrueBy (h : List ℕ) (j : Job) (f : List ℕ) : Type 0 where
  pub slots : Slots
  pub stands : StandsBy h j slots f
  pub true_slots : AreTrue j slots

abbrev pub StandsTrue : Job → List ℕ → Type 0
StandsTrue j f = StandsTrueBy (head j) j f

-- f was made by runs of the job: it is not begun (so is the empty file), or it stands for the job with true slots
abbrev pub Made : Job → List ℕ → Type 0
Made j f = (get_or f 0 0 ≢ mark) ⊎ StandsTrue j f

abbrev pub Made1 : Job → List ℕ → Type 0
Made1 j f = (get_or f 0 0 ≢ mark) ⊎ StandsTrueBy (old_head j) j f

-- an image that holds this verdict in the slot of range r
pub record Holds (j : Job) (r : ℕ) (v : Verdict) (f : List ℕ) : Type 0 where
  pub slots : Slots
  pub stands : Stands j slots f
  pub held : slot_at slots r ≡ Some v

-- the slot of range r is closed
pub record Shut (j : Job) (r : ℕ) (f : List ℕ) : Type 0 where
  pub slots : Slots
  pub stands : Stands j slots f
  pub shut : slot_at slots r ≡ None

-- it is closed, and behind its gate stands this verdict
pub record Behind (j : Job) (r : ℕ) (v : Verdict) (f : List ℕ) : Type 0 where
  pub shut : Shut j r f
  pub body : body (head j) j r f ≡ spelled j v
  pub fits : Fits j r v
