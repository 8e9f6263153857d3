-- Files and streams, as their clauses see them.
use Rattle.std.specs.Prelude.{◌≡◌, ◌<◌, ℕ, List, length, take, Option, Some, Result, IfOk}
use Rattle.std.specs.Io.KnownBytes.{Appends, Consumes, IsAtEnd}

-- the path that names a file, if there is one, the file, if it is open, and the count of faults
pub record Handle (F : Type 0) : Type 0 where
  pub path : Option (List ℕ)
  pub file : Option F
  pub faults : ℕ

-- A file that was open stays open, and one that is opened begins somehow: what it was at the call's
-- one read or write, and what it is after it.
pub record Goes {F : Type 0} (old new : Option F) (Step : F → F → Type 0) : Type 0 where
  pub before : F
  pub after : F
  pub began : (file : F) → old ≡ Some file → before ≡ file
  pub ended : new ≡ Some after
  pub step : Step before after

-- a file that tells what it holds took these bytes
abbrev pub Takes : {F : Type 0} → (F → Option (List ℕ)) → List ℕ → F → F → Type 0
Takes contents bytes before after = Appends (contents before) (contents after) bytes

-- a file that tells what is left gave these bytes, and none at its end alone
pub record Gives {F : Type 0} (remaining : F → Option (List ℕ)) (bytes : List ℕ) (before after : F) : Type 0 where
  pub gone : Consumes (remaining before) (remaining after) bytes
  pub end : length bytes ≡ 0 → IsAtEnd (remaining after)
