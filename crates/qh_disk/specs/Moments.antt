-- Words for what holds over the moments of a run of calls.
use Rattle.std.specs.Prelude.{◌≡◌, ℕ, ◌≤◌, List}
use Rattle.std.specs.Option.{is_some}
use Rattle.qh_disk.specs.Disk.{Face}

-- P of each image of moment t
abbrev pub EachImageAt : ℕ → Face → (List ℕ → Type 0) → Type 0
EachImageAt t d P = (c : List ℕ) → d.images_at t c → P c

-- P of each image now
abbrev pub EachImage : Face → (List ℕ → Type 0) → Type 0
EachImage d P = EachImageAt d.clock d P

-- c was an image at some moment from t to now
pub record IsImageSince (t : ℕ) (d : Face) (c : List ℕ) : Type 0 where
  pub moment : ℕ
  pub after : t ≤ moment
  pub by_now : moment ≤ d.clock
  pub image : d.images_at moment c

-- P of each image since t
abbrev pub EachImageSince : ℕ → Face → (List ℕ → Type 0) → Type 0
EachImageSince t d P = (c : List ℕ) → IsImageSince t d c → P c

-- at moment t there is one value that each image holds
abbrev pub IsStableAt : {V : Type 0} → (V → List ℕ → Type 0) → ℕ → Face → Type 0
IsStableAt {V} Holds t d = (v : V) × EachImageAt t d (Holds v)

-- Some calls: past moments stay, and content is told where it was told.
pub record Runs (old new : Face) : Type 0 where
  pub later : old.clock ≤ new.clock
  pub past : (t : ℕ) (c : List ℕ) → t ≤ old.clock → new.images_at t c → old.images_at t c
  pub kept : (t : ℕ) (c : List ℕ) → t ≤ old.clock → old.images_at t c → new.images_at t c
  pub told : is_some new.content ≡ is_some old.content
  pub faults : old.faults ≤ new.faults

-- Some calls: what holds of each image of one moment of the run holds of each image of each later
-- moment of it.
pub record Lasts (P : List ℕ → Type 0) (old new : Face) : Type 0 where
  pub each : (t s : ℕ) → old.clock ≤ t → t ≤ s → s ≤ new.clock → EachImageAt t new P → EachImageAt s new P
