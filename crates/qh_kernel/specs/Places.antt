-- Places in an index.
use Rattle.std.specs.Prelude.{ℕ, ◌+◌, ◌*◌, ◌/◌, ◌%◌, ◌^◌}

-- the number whose bits from place q up are moved one place up, with a 0 at place q
abbrev pub with_gap : ℕ → ℕ → ℕ
with_gap q p = 2 * (p / 2 ^ q) * 2 ^ q + p % 2 ^ q
