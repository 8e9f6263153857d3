-- Counts of 64 bits that stay at their last value.
use Rattle.std.specs.Prelude.{ℕ, ◌+◌, ◌-◌, ◌^◌, ◌≤◌, min}

-- a count that is raised so many times
abbrev pub raised_by : ℕ → ℕ → ℕ
raised_by many count = min (count + many) (2 ^ 64 - 1)

-- a count that is raised once
abbrev pub raised : ℕ → ℕ
raised count = raised_by 1 count

-- it rose by so many or more, or stands at its last value
abbrev pub RoseBy : ℕ → ℕ → ℕ → Type 0
RoseBy many before now = raised_by many before ≤ now

-- it rose, or stands at its last value
abbrev pub Rose : ℕ → ℕ → Type 0
Rose before now = RoseBy 1 before now
