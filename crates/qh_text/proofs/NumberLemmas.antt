-- Spelled numbers: which bytes stand in none of them.
use Rattle.std.proofs.Common.{◌≢◌, ℕ, suc, ◌+◌, ◌%◌, ◌^◌, ◌<◌, [], decimal, ℤ, pos, negsuc, unsigned_abs, arith}
use Rattle.std.specs.Fmt.{signed_decimal}
use Rattle.std.proofs.lemmas.Fmt.{decimal_by_steps_wide}
use Rattle.std.proofs.lemmas.List.Elements.{All-nil, All-push, All-cons}
use Rattle.qh_text.proofs.CutLemmas.{Without}

-- no digit is a space or an end of line
pub decimal_without : (s n : ℕ) → s < 48 → n < 10 ^ 64 → Without s (decimal n)
decimal_without s n small = decimal_by_steps_wide (λ m ds. Without s ds)
    (λ m l. All-push (λ b. b ≢ s) [] (48 + m) (All-nil (λ b. b ≢ s)) (λ e. omega arith))
    (λ m ds l all. All-push (λ b. b ≢ s) ds (48 + m % 10) all (λ e. omega arith)) n

-- nor is the sign, which is 45
pub signed_without : (s : ℕ) (z : ℤ) → s < 45 → unsigned_abs z < 10 ^ 64 → Without s (signed_decimal z)
signed_without s (pos n) small few = decimal_without s n (omega arith) few
signed_without s (negsuc n) small few = All-cons (λ b. b ≢ s) 45 (decimal (suc n)) (λ e. omega arith) (decimal_without s (suc n) (omega arith) few)
