-- Sources and sinks in memory, as their clauses see them.
use Rattle.std.specs.Prelude.{ℕ, List}

-- what a source has left, the most that a call gives, the calls that fail, how many calls came, and the count of faults
pub record Feed : Type 0 where
  pub left : List ℕ
  pub piece : ℕ
  pub fails : List ℕ
  pub calls : ℕ
  pub faults : ℕ

-- what a sink holds, its room, the most that a call takes, the calls that fail, how many calls came, and the count of faults
pub record Tray : Type 0 where
  pub held : List ℕ
  pub room : ℕ
  pub piece : ℕ
  pub fails : List ℕ
  pub calls : ℕ
  pub faults : ℕ
