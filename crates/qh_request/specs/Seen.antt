-- What a call does to a source or a sink, as far as it tells.
use Rattle.std.specs.Prelude.{ℕ, List, Option}
use Rattle.qh_limits.specs.Counts.{Rose}

-- the content and the count of faults, before the call and after it
pub record Seen : Type 0 where
  pub before : Option (List ℕ)
  pub after : Option (List ℕ)
  pub faults : ℕ
  pub faults_after : ℕ

abbrev pub seen : {S : Type 0} → (S → Option (List ℕ)) → (S → ℕ) → S → S → Seen
seen content faults old new = record { before = content old; after = content new; faults = faults old; faults_after = faults new }

-- its count rose
abbrev pub Rises : Seen → Type 0
Rises s = Rose s.faults s.faults_after
