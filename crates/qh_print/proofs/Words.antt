-- The words of a line: what is spelled is read, and no word has a space or a line feed in it.
use Rattle.std.proofs.Common.{◌≡◌, ℕ, zero, suc, ◌^◌, ◌<◌, List, ◌∷◌, arith, sym, ap, subst, ◌∙◌, refl, decimal, Result, Ok, Some, None, ℤ, pos, negsuc, neg_ℤ, to_z, of_z}
use Rattle.std.specs.declared.option.Option.{Option}
use Rattle.std.specs.Fmt.{signed_decimal}
use Rattle.std.specs.Int.{w128}
use Rattle.std.proofs.lemmas.Int.{ints}
use Rattle.std.proofs.lemmas.Fmt.{parse-decimal, IsAscii-decimal, IsAscii-decimal_wide, decimal_is_IsNumeral_wide}
use Rattle.std.proofs.lemmas.Result.{Ok-from_Ok_iff}
use Rattle.std.proofs.lemmas.Str.{IsUtf8-from_ascii}
use Rattle.std.proofs.lemmas.Str.Parse.{parse_signed_digits, parse_signed_minus, numerals_by_value, tells_digits}
use Rattle.std.specs.Str.{IsUtf8, IsAscii}
use Rattle.std.specs.Str.Parse.{ParsesUnsigned, ParsesSigned}
use Rattle.qh_ring.specs.Numbers.{IsBelow}
use Rattle.qh_text.proofs.CutLemmas.{Without}
use Rattle.qh_text.proofs.NumberLemmas.{signed_without}

pub utf8_decimal : (n : ℕ) (bs : List ℕ) → n < 2 ^ 32 → bs ≡ decimal n → IsUtf8 bs
utf8_decimal n bs l e = subst IsUtf8 (sym e) (IsUtf8-from_ascii (decimal n) (IsAscii-decimal n (omega arith)))

pub parsed : {E : Type 0} (n : ℕ) (bs : List ℕ) (r : Result ℕ E) → n < 2 ^ 32 → bs ≡ decimal n → ParsesUnsigned 32 10 bs r → r ≡ Ok n
parsed n bs r l e h = parse-decimal 32 n bs r l (omega arith) e h

pub ruleset decimals = (utf8_decimal, parsed)

ascii_signed : (z : ℤ) → IsBelow 126 z → IsAscii (signed_decimal z)
ascii_signed (pos n) h i = IsAscii-decimal_wide n (omega arith) i
ascii_signed (negsuc n) h zero = omega arith
ascii_signed (negsuc n) h (suc i) = IsAscii-decimal_wide (suc n) (omega arith) i

pub utf8_signed : (z : ℤ) (bs : List ℕ) → IsBelow 126 z → bs ≡ signed_decimal z → IsUtf8 bs
utf8_signed z bs l e = subst IsUtf8 (sym e) (IsUtf8-from_ascii (signed_decimal z) (ascii_signed z l))

pub parsed_signed : {E : Type 0} (z : ℤ) (bs : List ℕ) (r : Result ℤ E) → IsBelow 126 z → bs ≡ signed_decimal z → ParsesSigned w128 10 bs r → r ≡ Ok z
parsed_signed (pos n) bs r small is h =
    let k = decimal_is_IsNumeral_wide n (omega arith) in
    let read = parse_signed_digits (numerals_by_value _ tells_digits) w128 (decimal n) r (subst (λ l. ParsesSigned w128 10 l r) is h) k.0.1 in
    Ok-from_Ok_iff r _ _ read (k.0.0, omega (arith, k.1)) ∙ ap (λ m. Ok (pos m)) k.1
parsed_signed (negsuc n) bs r small is h =
    let k = decimal_is_IsNumeral_wide (suc n) (omega arith) in
    let read = parse_signed_minus (numerals_by_value _ tells_digits) w128 (45 ∷ decimal (suc n)) r (subst (λ l. ParsesSigned w128 10 l r) is h) refl in
    Ok-from_Ok_iff r _ _ read (k.0.1, k.0.0, omega (arith, k.1)) ∙ ap (λ m. Ok (neg_ℤ (pos m))) k.1

-- what the code reads back of a number
pub stored : (z : ℤ) → IsBelow 126 z → to_z w128 (of_z w128 z) ≡ z
stored z h = omega (arith, ints)

pub ruleset signed_decimals = (utf8_signed, parsed_signed)

-- no character of a coefficient is a space or a line feed
pub coefficient_without : (s : ℕ) (z : ℤ) → s < 45 → IsBelow 126 z → Without s (signed_decimal z)
coefficient_without s z small l = signed_without s z small (omega arith)

pub ok_same : {X E : Type 0} (a b : X) → ◌≡◌ {A = Result X E} (Ok a) (Ok b) → a ≡ b
ok_same a b e = cc

pub some_same : {X : Type 0} (a b : X) → ◌≡◌ {A = Option X} (Some a) (Some b) → a ≡ b
some_same a b e = cc

pub none_some : {X : Type 0} (a : X) → ◌≡◌ {A = Option X} None (Some a) → ⊥
none_some a e = (cc)
