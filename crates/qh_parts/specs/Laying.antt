-- The stages of a journal that is made on an empty file, and of one that is emptied.
use Rattle.std.specs.Prelude.{◌≡◌, ◌≢◌, ◌⊎◌, ◌<◌, ◌≤◌, ℕ, List, [], length}
use Rattle.std.proofs.Common.{get_or}
use Rattle.qh_plan.specs.declared.verdict.Verdict.{Verdict}
use Rattle.qh_plan.specs.Jobs.{Job, ranges}
use Rattle.qh_disk.specs.Disk.{Face, IsImage}
use Rattle.qh_disk.specs.Moments.{EachImage, EachImageSince, Runs, Lasts}
use Rattle.qh_slots.specs.Layout.{mark, head, place}
use Rattle.qh_slots.specs.Slots.{SlotIs}
use Rattle.qh_slots.specs.Stands.{Slots, slot_at, Stands, Made, Holds}
use Rattle.qh_slots.specs.Moments.{StandsFor}

-- its header is closed; so is that of the empty file
abbrev pub IsUnbegun : List ℕ → Type 0
IsUnbegun f = get_or f 0 0 ≢ mark

-- not begun, or the journal with these slots
abbrev pub IsFresh : Job → Slots → List ℕ → Type 0
IsFresh j s f = IsUnbegun f ⊎ Stands j s f

-- n zeros
pub record IsBlank (n : ℕ) (f : List ℕ) : Type 0 where
  pub size : length f ≡ n
  pub zeros : (i : ℕ) → get_or f i 0 ≡ 0

-- the journal with these slots, but for the first byte of its head
pub record IsLaid (j : Job) (s : Slots) (f : List ℕ) : Type 0 where
  pub size : length f ≡ place (head j) j (ranges j)
  pub count : length s ≡ ranges j
  pub unbegun : IsUnbegun f
  pub rest : (i : ℕ) → 1 ≤ i → i < length (head j) → get_or f i 0 ≡ get_or (head j) i 0
  pub slots : (r : ℕ) → r < ranges j → SlotIs (head j) j r f (slot_at s r)

-- Some calls: a closed header stays closed.
pub record StaysClosed (old new : Face) : Type 0 where
  pub runs : Runs old new
  pub none : Lasts (λ _. ⊥) old new
  pub closed : EachImage old IsUnbegun → EachImageSince old.clock new IsUnbegun

-- Some calls over a file that is not begun: each image is not begun, or the journal with these slots, and what is stable stays stable, and a file
-- that stands for the job goes on doing so.
pub record Creates (j : Job) (s : Slots) (old new : Face) : Type 0 where
  pub runs : Runs old new
  pub none : Lasts (λ _. ⊥) old new
  pub since : EachImage old IsUnbegun → EachImageSince old.clock new (IsFresh j s)
  pub begun : EachImage old IsUnbegun → Lasts (StandsFor j) old new
  pub stable : EachImage old IsUnbegun → (r : ℕ) (v : Verdict) → Lasts (Holds j r v) old new

-- Some calls of a wipe: each image was one before, or is not begun; what was made by runs of a job stays so, and the empty file stays empty.
pub record Wipes (old new : Face) : Type 0 where
  pub runs : Runs old new
  pub none : Lasts (λ _. ⊥) old new
  pub since : EachImageSince old.clock new (λ c. IsImage old c ⊎ IsUnbegun c)
  pub made : (j : Job) → Lasts (Made j) old new
  pub empty : Lasts (λ f. f ≡ []) old new
