-- A disk over a file, of whose content nothing is known.
use Rattle.std.specs.Prelude.{ℕ, Bool, List, Option, None}
use Rattle.qh_disk.specs.Disk.{Face}

-- the path that names it, if there is one, whether it may be changed, and its count of faults
pub record FileFacts : Type 0 where
  pub path : Option (List ℕ)
  pub changes : Bool
  pub faults : ℕ

-- it tells no content and no images
abbrev pub face_of : FileFacts → Face
face_of d = record { content = None; clock = 0; images_at = λ _ _. ⊥; faults = d.faults }
