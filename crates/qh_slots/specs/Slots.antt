-- What a slot holds behind its gate.
use Rattle.std.specs.Prelude.{◌≡◌, ◌≢◌, ◌==◌, ℕ, ◌+◌, ◌*◌, ◌^◌, ◌≤◌, ℤ, Bool, ◌&&◌, nat_lt, nat_le, unsigned_abs, FitsSigned, List, ◌∷◌, ◌++◌, length, drop, map, replicate, bytes_eq, Option, Some, None, if◌then◌else◌}
use Rattle.std.specs.List.{flat_map, list_all, range_with_len}
use Rattle.std.specs.Int.{w128, cast_signed, cast_unsigned}
use Rattle.std.proofs.Common.{get_or}
use Rattle.byteorder.specs.Endian.{big_bytes, big_number}
use Rattle.qh_ring.specs.declared.number.Omega.{Omega}
use Rattle.qh_plan.specs.declared.verdict.Verdict.{Verdict}
use Rattle.qh_plan.specs.declared.verdict.Verdict.TheVariants.{Sum, Over}
use Rattle.qh_plan.specs.Jobs.{Job, per_range, first_path}
use Rattle.qh_plan.specs.Ranges.{Fits}
use Rattle.qh_slots.specs.Layout.{mark, place, is_open, body}

-- ---- the spelling of a verdict
-- a whole number in two's complement, 16 bytes
unfoldable pub int_bytes : ℤ → List ℕ
int_bytes x = big_bytes 16 (cast_unsigned w128 x)

abbrev pub omega_bytes : Omega → List ℕ
omega_bytes z = int_bytes z.a ++ int_bytes z.b ++ int_bytes z.c ++ int_bytes z.d

-- each coefficient has 128 bits
pub record FitsOmega (z : Omega) : Type 0 where
  pub a : FitsSigned w128 z.a
  pub b : FitsSigned w128 z.b
  pub c : FitsSigned w128 z.c
  pub d : FitsSigned w128 z.d

-- sums: 0, no path, and the numbers in the order asked
unfoldable pub sum_bytes : List Omega → List ℕ
sum_bytes sums = 0 ∷ big_bytes 8 0 ++ flat_map omega_bytes sums

-- what is over, of `count` bitstrings: 1, its path, and zeros
unfoldable pub over_bytes : ℕ → ℕ → List ℕ
over_bytes count path = 1 ∷ big_bytes 8 path ++ replicate (64 * count) 0

-- a verdict on `count` bitstrings
abbrev pub verdict_bytes : ℕ → Verdict → List ℕ
verdict_bytes count (Sum sums) = sum_bytes sums
verdict_bytes count (Over path) = over_bytes count path

abbrev pub spelled : Job → Verdict → List ℕ
spelled j v = verdict_bytes (length j.bits) v

-- n bytes are as many as the verdict takes
abbrev pub HasSpace : Verdict → ℕ → Type 0
HasSpace (Sum sums) n = n ≡ 9 + 64 * length sums
HasSpace (Over path) n = 9 ≤ n

-- ---- and what bytes read as
unfoldable pub int_at : ℕ → List ℕ → ℤ
int_at at bytes = cast_signed w128 (big_number 16 (drop at bytes))

abbrev pub omega_at : ℕ → List ℕ → Omega
omega_at at bytes = record { a = int_at at bytes; b = int_at (at + 16) bytes; c = int_at (at + 32) bytes; d = int_at (at + 48) bytes }

unfoldable pub verdict_of : Job → List ℕ → Verdict
verdict_of j bytes =
    if get_or bytes 0 0 == 0 then Sum (map (λ m. omega_at (9 + 64 * m) bytes) (range_with_len 0 (length j.bits)))
    else Over (big_number 8 (drop 1 bytes))

-- ---- the tests of it
abbrev pub is_small : ℕ → Omega → Bool
is_small limit z = nat_lt (unsigned_abs z.a) limit && (nat_lt (unsigned_abs z.b) limit && (nat_lt (unsigned_abs z.c) limit && nat_lt (unsigned_abs z.d) limit))

-- the test of Fits
abbrev pub fits : Job → ℕ → Verdict → Bool
fits j r (Sum sums) = length sums == length j.bits && list_all (is_small (per_range j * 2 ^ 94)) sums
fits j r (Over path) = nat_le (first_path j r) path && nat_lt path (first_path j r + per_range j)

-- the bytes spell the verdict that they read as, and it fits the range
abbrev pub is_spelling : Job → ℕ → List ℕ → Bool
is_spelling j r bytes = bytes_eq (spelled j (verdict_of j bytes)) bytes && fits j r (verdict_of j bytes)

-- ---- a slot of a file whose head is h: what it is, in words, and as a function
abbrev pub SlotIs : List ℕ → Job → ℕ → List ℕ → Option Verdict → Type 0
SlotIs h j r f None = get_or f (place h j r) 0 ≢ mark
SlotIs h j r f (Some v) = (get_or f (place h j r) 0 ≡ mark) × (body h j r f ≡ spelled j v) × Fits j r v

abbrev pub slot_of : List ℕ → Job → ℕ → List ℕ → Option Verdict
slot_of h j r f = if is_open h j r f then Some (verdict_of j (body h j r f)) else None
