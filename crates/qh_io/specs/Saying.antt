-- What a call does to a sink, as far as the sink tells, and what it says there.
use Rattle.std.specs.Prelude.{ℕ, ◌≤◌, List, Option, take}
use Rattle.std.specs.Io.KnownBytes.{Appends}
use Rattle.qh_limits.specs.Counts.{Rose}

-- the content and the count of faults, before the call and after it
pub record Seen : Type 0 where
  pub before : Option (List ℕ)
  pub after : Option (List ℕ)
  pub faults : ℕ
  pub faults_after : ℕ

abbrev pub seen : {S : Type 0} → (S → Option (List ℕ)) → (S → ℕ) → S → S → Seen
seen held faults old new = record { before = held old; after = held new; faults = faults old; faults_after = faults new }

-- its count rose
abbrev pub Rises : Seen → Type 0
Rises s = Rose s.faults s.faults_after

-- a sink got a front of a line, and the whole line where its count did not rise
pub record Says (sink : Seen) (line : List ℕ) : Type 0 where
  pub later : sink.faults ≤ sink.faults_after
  pub front : (n : ℕ) × Appends sink.before sink.after (take n line)
  pub whole : (Rises sink → ⊥) → Appends sink.before sink.after line
