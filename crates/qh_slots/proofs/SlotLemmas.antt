-- A verdict is read back from its spelling.
use Rattle.std.proofs.Common.{◌≡◌, ℕ, ◌+◌, ◌*◌, ◌^◌, ◌<◌, ◌≤◌, ℤ, List, [], ◌∷◌, ◌++◌, length, drop, map, refl, sym, ap, ◌∙◌, arith, All}
use Rattle.std.specs.Prelude.{unsigned_abs, FitsSigned}
use Rattle.std.specs.Int.{w128, cast_signed, cast_unsigned}
use Rattle.std.specs.List.{flat_map, range_with_len}
use Rattle.std.proofs.Math.Path.{ap₂}
use Rattle.std.proofs.Math.Seq.{drop-append_seam}
use Rattle.std.proofs.lemmas.List.{append_assoc, length-append}
use Rattle.std.proofs.lemmas.List.Elements.{All-head, All-tail}
use Rattle.std.proofs.lemmas.Int.{to_z-of_z, fits_signed_from_abs}
use Rattle.std.proofs.Math.Facts.{Fits-of_z}
use Rattle.byteorder.specs.Endian.{big_number}
use Rattle.byteorder.specs.Numbers.{big_number-reads_back}
use Rattle.qh_ring.specs.declared.number.Omega.{Omega}
use Rattle.qh_ring.proofs.NumberLemmas.{same_number}
use Rattle.qh_slots.specs.Slots.{int_bytes, omega_bytes, FitsOmega, int_at, omega_at}

-- ---- one number
pub small_int : (limit : ℕ) (x : ℤ) → limit ≤ 2 ^ 127 → unsigned_abs x < limit → FitsSigned w128 x
small_int limit x most low = fits_signed_from_abs w128 x (omega arith)

unsigned_below : (x : ℤ) → FitsSigned w128 x → cast_unsigned w128 x < 256 ^ 16
unsigned_below x fits = let f = Fits-of_z {w = w128} {z = x} fits in omega arith

int_back : (x : ℤ) (rest : List ℕ) → FitsSigned w128 x → cast_signed w128 (big_number 16 (int_bytes x ++ rest)) ≡ x
unfolding int_bytes
int_back x rest fits = ap (cast_signed w128) (big_number-reads_back 16 (cast_unsigned w128 x) rest (unsigned_below x fits)) ∙ to_z-of_z w128 x fits

-- ---- one number of a sum
-- a number that stands behind p
at_front : (p rest : List ℕ) (x : ℤ) (at : ℕ) → at ≡ length p → FitsSigned w128 x → int_at at (p ++ (int_bytes x ++ rest)) ≡ x
unfolding int_at
at_front p rest x at is fits = ap (λ l. cast_signed w128 (big_number 16 l)) (ap (λ n. drop n (p ++ (int_bytes x ++ rest))) is ∙ drop-append_seam p (int_bytes x ++ rest)) ∙ int_back x rest fits

pub int_size : (x : ℤ) → length (int_bytes x) ≡ 16
unfolding int_bytes
int_size x = refl

behind_none : (p a b c d r : List ℕ) → p ++ ((a ++ b ++ c ++ d) ++ r) ≡ p ++ (a ++ (b ++ c ++ d ++ r))
behind_none p a b c d r = simp append_assoc refl

behind_one : (p a b c d r : List ℕ) → p ++ ((a ++ b ++ c ++ d) ++ r) ≡ (p ++ a) ++ (b ++ (c ++ d ++ r))
behind_one p a b c d r = simp append_assoc refl

behind_two : (p a b c d r : List ℕ) → p ++ ((a ++ b ++ c ++ d) ++ r) ≡ (p ++ a ++ b) ++ (c ++ (d ++ r))
behind_two p a b c d r = simp append_assoc refl

behind_three : (p a b c d r : List ℕ) → p ++ ((a ++ b ++ c ++ d) ++ r) ≡ (p ++ a ++ b ++ c) ++ (d ++ r)
behind_three p a b c d r = simp append_assoc refl

omega_back : (p rest : List ℕ) (z : Omega) (at : ℕ) → at ≡ length p → FitsOmega z → omega_at at (p ++ (omega_bytes z ++ rest)) ≡ z
omega_back p rest z at is fits = same_number (omega_at at (p ++ (omega_bytes z ++ rest))) z
    (ap (int_at at) first ∙ at_front p _ z.a at is fits.a)
    (ap (int_at (at + 16)) second ∙ at_front (p ++ int_bytes z.a) _ z.b (at + 16) (let s = length-append p (int_bytes z.a) in let n = int_size z.a in omega arith) fits.b)
    (ap (int_at (at + 32)) third ∙ at_front (p ++ int_bytes z.a ++ int_bytes z.b) _ z.c (at + 32)
    (let s = length-append p (int_bytes z.a) in let t = length-append (p ++ int_bytes z.a) (int_bytes z.b) in let n = int_size z.a in let m = int_size z.b in omega arith) fits.c)
    (ap (int_at (at + 48)) fourth ∙ at_front (p ++ int_bytes z.a ++ int_bytes z.b ++ int_bytes z.c) _ z.d (at + 48)
    (let s = length-append p (int_bytes z.a) in let t = length-append (p ++ int_bytes z.a) (int_bytes z.b) in let u = length-append (p ++ int_bytes z.a ++ int_bytes z.b) (int_bytes z.c) in
    let n = int_size z.a in let m = int_size z.b in let k = int_size z.c in omega arith) fits.d)
  where
    bytes : List ℕ
    bytes = p ++ (omega_bytes z ++ rest)

    first : bytes ≡ p ++ (int_bytes z.a ++ (int_bytes z.b ++ int_bytes z.c ++ int_bytes z.d ++ rest))
    first = behind_none p (int_bytes z.a) (int_bytes z.b) (int_bytes z.c) (int_bytes z.d) rest

    second : bytes ≡ (p ++ int_bytes z.a) ++ (int_bytes z.b ++ (int_bytes z.c ++ int_bytes z.d ++ rest))
    second = behind_one p (int_bytes z.a) (int_bytes z.b) (int_bytes z.c) (int_bytes z.d) rest

    third : bytes ≡ (p ++ int_bytes z.a ++ int_bytes z.b) ++ (int_bytes z.c ++ (int_bytes z.d ++ rest))
    third = behind_two p (int_bytes z.a) (int_bytes z.b) (int_bytes z.c) (int_bytes z.d) rest

    fourth : bytes ≡ (p ++ int_bytes z.a ++ int_bytes z.b ++ int_bytes z.c) ++ (int_bytes z.d ++ rest)
    fourth = behind_three p (int_bytes z.a) (int_bytes z.b) (int_bytes z.c) (int_bytes z.d) rest

pub omega_size : (z : Omega) → length (omega_bytes z) ≡ 64
unfolding int_bytes
omega_size z = refl

-- ---- a sum
pub sums_size : (zs : List Omega) → length (flat_map omega_bytes zs) ≡ 64 * length zs
sums_size [] = refl
sums_size (z ∷ zs) = let a = length-append (omega_bytes z) (flat_map omega_bytes zs) in let n = omega_size z in let m = sums_size zs in omega arith

pub sums_back : (zs : List Omega) (p : List ℕ) (m : ℕ) → length p ≡ 9 + 64 * m → All FitsOmega zs
    → map (λ k. omega_at (9 + 64 * k) (p ++ flat_map omega_bytes zs)) (range_with_len m (length zs)) ≡ zs
sums_back [] p m is fit = refl
sums_back (z ∷ zs) p m is fit = ap₂ (λ y ys. y ∷ ys)
    (omega_back p (flat_map omega_bytes zs) z (9 + 64 * m) (sym is) (All-head FitsOmega z zs fit))
    (ap (λ l. map (λ k. omega_at (9 + 64 * k) l) (range_with_len (m + 1) (length zs))) (sym (append_assoc p (omega_bytes z) (flat_map omega_bytes zs)))
    ∙ sums_back zs (p ++ omega_bytes z) (m + 1) (let l = length-append p (omega_bytes z) in let n = omega_size z in omega arith) (All-tail FitsOmega z zs fit))
