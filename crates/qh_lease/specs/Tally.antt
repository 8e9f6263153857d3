-- What contracts see of a tally.
use Rattle.std.specs.Prelude.{ℕ, ◌+◌}
use Rattle.qh_lease.specs.declared.totals.Totals.{Totals}

-- how many shares are out, what was counted, and what the settled shares counted
pub record Count : Type 0 where
  pub out : ℕ
  pub totals : Totals
  pub settled : Totals

-- nothing was counted
abbrev pub nothing : Totals
nothing = record { grants = 0; backs = 0; acks = 0 }

-- the two counted this together
abbrev pub together : Totals → Totals → Totals
together x y = record { grants = x.grants + y.grants; backs = x.backs + y.backs; acks = x.acks + y.acks }
