-- What reading a source to its end does.
use Rattle.std.specs.Prelude.{ℕ, List, Option}
use Rattle.std.specs.Io.KnownBytes.{Consumes, IsAtEnd}

-- the bytes were taken from a source, and the source was then at its end
pub record IsReadWhole (old new : Option (List ℕ)) (bytes : List ℕ) : Type 0 where
  pub gone : Consumes old new bytes
  pub end : IsAtEnd new
