-- Decimal numbers, digit by digit.
use Rattle.std.proofs.Common.{◌≡◌, ◌+◌, ◌*◌, ◌-◌, ◌<◌, ◌≤◌, ◌&&◌, ℕ, true, false, List, length, get_or, take, take_all, nat_lt, Option, Some, None, refl, arith}
use Rattle.std.proofs.lemmas.Bool.{false_from_ne_true}
use Rattle.std.proofs.lemmas.Bool.Decides.{nat_tests}
use Rattle.std.specs.Char.{IsAsciiDigit, digit_value}
use Rattle.std.specs.Option.{SomeIff}
use Rattle.std.specs.Str.{all_ascii_digits}
use Rattle.std.specs.Str.Parse.{AllDigits, digits_value}
use Rattle.std.proofs.lemmas.Int.Digits.{digits_value_more, digits_more}
use Rattle.std.proofs.lemmas.Str.{digit_value_digit}
use Rattle.std.proofs.lemmas.Str.Parse.{IsNumeralModel, digit_at, numerals_by_value, tells_all_ascii_digits, digits_value-take-le}
use Rattle.qh_text.specs.Decimal.{IsDecimal, IsDecimalBelow, is_decimal, number_below, value_of}

-- the first i bytes are digits, and the number is theirs and below the limit
pub record ReadsUpTo (limit : ℕ) (bytes : List ℕ) (i number : ℕ) : Type 0 where
  pub digits : AllDigits 10 (take i bytes)
  pub value : number ≡ value_of (take i bytes)
  pub small : number < limit

-- one more digit
pub one_more : (limit : ℕ) (bytes : List ℕ) (i number next : ℕ) → ReadsUpTo limit bytes i number → i < length bytes
    → IsAsciiDigit (get_or bytes i 0) × (number * 10 + (get_or bytes i 0 - 48) < limit)
    → next ≡ number * 10 + (get_or bytes i 0 - 48)
    → ReadsUpTo limit bytes (i + 1) next
one_more limit bytes i number next h within taken is_next =
    let is : digit_value (get_or bytes i 0) + 48 ≡ get_or bytes i 0 = digit_value_digit _ taken.0 in
    let below : digit_value (get_or bytes i 0) < 10 = omega arith in
    record {
      digits = digits_more 10 bytes i within h.digits below;
      value = rw (digits_value_more 10 bytes i within, ← h.value) (omega arith);
      small = omega arith;
    }

-- where the next byte is no digit or the number grows too large, the bytes are no number below the limit
pub stops_here : (limit : ℕ) (bytes : List ℕ) (i number : ℕ) → ReadsUpTo limit bytes i number → i < length bytes
    → (IsAsciiDigit (get_or bytes i 0) × (number * 10 + (get_or bytes i 0 - 48) < limit) → ⊥)
    → IsDecimalBelow limit bytes → ⊥
stops_here limit bytes i number h within refused decimal =
    let digit : IsAsciiDigit (get_or bytes i 0) = digit_at bytes i decimal.0.1 within in
    let is : digit_value (get_or bytes i 0) + 48 ≡ get_or bytes i 0 = digit_value_digit _ digit in
    let front : value_of (take (i + 1) bytes) ≤ value_of bytes = digits_value-take-le 10 bytes (i + 1) (omega arith) in
    let next : value_of (take (i + 1) bytes) ≡ number * 10 + digit_value (get_or bytes i 0) = rw (digits_value_more 10 bytes i within, ← h.value) refl in
    refused (digit, omega arith)

-- all bytes are read
pub whole : (limit : ℕ) (bytes : List ℕ) (i number : ℕ) → ReadsUpTo limit bytes i number → length bytes ≤ i → 0 < length bytes
    → IsDecimalBelow limit bytes × (number ≡ value_of bytes)
whole limit bytes i number h past some =
    let all : take i bytes ≡ bytes = take_all i bytes past in
    let digits : AllDigits 10 bytes = rw all at h.digits in
    let value : number ≡ value_of bytes = rw all at h.value in
    (((some, digits), omega arith), value)

own : IsNumeralModel (λ ds. all_ascii_digits ds ≡ true) (digits_value 10)
own = numerals_by_value _ tells_all_ascii_digits

-- the test and the fact
pub is_decimal_true : (bytes : List ℕ) → is_decimal bytes ≡ true → IsDecimal bytes
is_decimal_true bytes h =
    let parts : (0 < length bytes) × (all_ascii_digits bytes ≡ true) = grind (arith, nat_tests) in
    (parts.0, own.to bytes parts.1)

pub is_decimal_from : (bytes : List ℕ) → IsDecimal bytes → is_decimal bytes ≡ true
is_decimal_from bytes h =
    let some : 0 < length bytes = h.0 in
    let digits : all_ascii_digits bytes ≡ true = own.from bytes h.1 in
    grind (arith, nat_tests)

-- the test of `number_below` and the fact
both_true : (limit : ℕ) (bytes : List ℕ) → IsDecimalBelow limit bytes
    → (is_decimal bytes && nat_lt (value_of bytes) limit) ≡ true
both_true limit bytes h =
    let decimal : is_decimal bytes ≡ true = is_decimal_from bytes h.0 in
    let small : value_of bytes < limit = h.1 in
    rw decimal (grind (arith, nat_tests))

both_from : (limit : ℕ) (bytes : List ℕ) → (is_decimal bytes && nat_lt (value_of bytes) limit) ≡ true
    → IsDecimalBelow limit bytes
both_from limit bytes h =
    let parts : (is_decimal bytes ≡ true) × (value_of bytes < limit) = grind (arith, nat_tests) in
    (is_decimal_true bytes parts.0, parts.1)

-- what answers exactly on the decimal numbers below the limit is `number_below`
pub computed : (limit : ℕ) (bytes : List ℕ) (r : Option ℕ) → SomeIff r (IsDecimalBelow limit bytes) (value_of bytes)
    → r ≡ number_below limit bytes
computed limit bytes None h =
    let refused : (is_decimal bytes && nat_lt (value_of bytes) limit) ≡ false = false_from_ne_true _ (λ e. h (both_from limit bytes e)) in
    rw refused refl
computed limit bytes (Some n) h = rw (both_true limit bytes h.0, h.1) refl
