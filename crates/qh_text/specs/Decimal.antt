-- Decimal numbers: what bytes `0` to `9` spell, the highest place first.
use Rattle.std.specs.Prelude.{ℕ, ◌<◌, ◌&&◌, Bool, List, length, nat_lt, Option, Some, None, if◌then◌else◌}
use Rattle.std.specs.Str.{all_ascii_digits}
use Rattle.std.specs.Str.Parse.{IsNumeral, digits_value}

-- one byte or more, each of them a digit; leading zeros are accepted
abbrev pub IsDecimal : List ℕ → Type 0
IsDecimal bytes = IsNumeral 10 bytes

-- the number that the digits spell
abbrev pub value_of : List ℕ → ℕ
value_of bytes = digits_value 10 bytes

-- a decimal number with a value below the limit
abbrev pub IsDecimalBelow : ℕ → List ℕ → Type 0
IsDecimalBelow limit bytes = IsDecimal bytes × (value_of bytes < limit)

-- the test of `IsDecimal`
abbrev pub is_decimal : List ℕ → Bool
is_decimal bytes = nat_lt 0 (length bytes) && all_ascii_digits bytes

-- the value of a decimal number below the limit, and none for all other bytes
abbrev pub number_below : ℕ → List ℕ → Option ℕ
number_below limit bytes =
    if is_decimal bytes && nat_lt (value_of bytes) limit then Some (value_of bytes) else None
