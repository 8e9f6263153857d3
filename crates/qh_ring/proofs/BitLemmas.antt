-- The bits of an index.
use Rattle.std.proofs.Common.{◌≡◌, ◌≢◌, ℕ, zero, suc, ◌+◌, ◌-◌, ◌*◌, ◌/◌, ◌%◌, ◌^◌, ◌<◌, ◌≤◌, arith, refl, sym, ap, ◌∙◌}
use Rattle.std.specs.Int.{bit_at}
use Rattle.std.proofs.lemmas.Nat.{div-mul-add, div-add-mod', mul-le}
use Rattle.std.proofs.lemmas.Nat.Bits.{bit_at-suc, bit_at_lowest, bit_at_cat_low}
use Rattle.std.proofs.Math.Nat.{pow-succ'}
use Rattle.qh_ring.specs.States.{with_bit}

pub bit_weight : (x q : ℕ) → bit_at x q * 2 ^ q ≤ x
bit_weight x q =
    let s : x / 2 ^ q * 2 ^ q + x % 2 ^ q ≡ x = div-add-mod' x (2 ^ q) in
    let m : bit_at x q * 2 ^ q ≤ x / 2 ^ q * 2 ^ q = mul-le (bit_at x q) (2 ^ q) (x / 2 ^ q) (2 ^ q) (mod_le (x / 2 ^ q)) (omega arith) in
    omega arith
  where
    mod_le : (n : ℕ) → n % 2 ≤ n
    mod_le n = omega arith

pub with_bit_zero : (b x : ℕ) → with_bit zero b x ≡ b + 2 * (x / 2)
unfolding with_bit
with_bit_zero b x = let e : bit_at x zero ≡ x % 2 = bit_at_lowest x in rw e (omega arith)

pub with_bit_suc : (q b x : ℕ) → with_bit (suc q) b x ≡ x % 2 + 2 * with_bit q b (x / 2)
unfolding with_bit
with_bit_suc q b x = step x (bit_at x (suc q)) (bit_at (x / 2) q) (2 ^ suc q) (2 ^ q) b (bit_at-suc x q) (pow-succ' 2 q) (bit_weight (x / 2) q)
  where
    step : (x c d s r b : ℕ) → c ≡ d → s ≡ 2 * r → d * r ≤ x / 2 → x - c * s + b * s ≡ x % 2 + 2 * (x / 2 - d * r + b * r)
    step x c d s r b e f h = rw (e, f) (omega arith)

with_bit_low : (q b x : ℕ) → with_bit (suc q) b x % 2 ≡ x % 2
with_bit_low q b x = let e = with_bit_suc q b x in rw e (omega arith)

with_bit_half : (q b x : ℕ) → with_bit (suc q) b x / 2 ≡ with_bit q b (x / 2)
with_bit_half q b x = let e = with_bit_suc q b x in rw e (omega arith)

with_bit_zero_half : (b x : ℕ) → b < 2 → with_bit zero b x / 2 ≡ x / 2
with_bit_zero_half b x l = let e = with_bit_zero b x in rw e (omega arith)

pub bit_same : (q b x : ℕ) → b < 2 → bit_at (with_bit q b x) q ≡ b
bit_same zero b x l = bit_at_lowest (with_bit zero b x) ∙ ap (λ n. n % 2) (with_bit_zero b x) ∙ omega arith
bit_same (suc q) b x l = bit_at-suc (with_bit (suc q) b x) q ∙ ap (λ n. bit_at n q) (with_bit_half q b x) ∙ bit_same q b (x / 2) l

pub bit_other : (q p b x : ℕ) → b < 2 → p ≢ q → bit_at (with_bit q b x) p ≡ bit_at x p
bit_other zero zero b x l ne = absurd (ne refl)
bit_other zero (suc p) b x l ne = bit_at-suc (with_bit zero b x) p ∙ ap (λ n. bit_at n p) (with_bit_zero_half b x l) ∙ sym (bit_at-suc x p)
bit_other (suc q) zero b x l ne = bit_at_lowest (with_bit (suc q) b x) ∙ with_bit_low q b x ∙ sym (bit_at_lowest x)
bit_other (suc q) (suc p) b x l ne =
    bit_at-suc (with_bit (suc q) b x) p ∙ ap (λ n. bit_at n p) (with_bit_half q b x) ∙ bit_other q p b (x / 2) l (λ e. ne (ap suc e)) ∙ sym (bit_at-suc x p)

pub with_bit_below : (q n b x : ℕ) → b < 2 → q < n → x < 2 ^ n → with_bit q b x < 2 ^ n
with_bit_below q zero b x l h m = absurd (omega arith)
with_bit_below zero (suc n) b x l h m =
    let e = pow-succ' 2 n in let w = with_bit_zero b x in omega arith
with_bit_below (suc q) (suc n) b x l h m =
    let e = pow-succ' 2 n in
    let w = with_bit_suc q b x in
    let i : with_bit q b (x / 2) < 2 ^ n = with_bit_below q n b (x / 2) l (omega arith) (omega arith) in
    omega arith

-- a bit above what stands below
pub with_top : (k a b y : ℕ) → a < 2 → y < 2 ^ k → with_bit k b (y + a * 2 ^ k) ≡ y + b * 2 ^ k
unfolding with_bit
with_top k a b y l h =
    let t : bit_at (y + a * 2 ^ k) k ≡ a = top_bit k a y l h in
    rw t (omega arith)
  where
    top_bit : (k a y : ℕ) → a < 2 → y < 2 ^ k → bit_at (y + a * 2 ^ k) k ≡ a
    top_bit k a y l h =
        let c : y + a * 2 ^ k ≡ a * 2 ^ k + y = omega arith in
        ap (λ n. bit_at n k) c ∙ ap (λ n. n % 2) (div-mul-add a (2 ^ k) y h) ∙ omega arith

pub bit_top : (k a y : ℕ) → a < 2 → y < 2 ^ k → bit_at (y + a * 2 ^ k) k ≡ a
bit_top k a y l h =
    let c : y + a * 2 ^ k ≡ a * 2 ^ k + y = omega arith in
    ap (λ n. bit_at n k) c ∙ ap (λ n. n % 2) (div-mul-add a (2 ^ k) y h) ∙ omega arith

pub bit_low : (l k a y : ℕ) → l < k → bit_at (y + a * 2 ^ k) l ≡ bit_at y l
bit_low l k a y h =
    let c : y + a * 2 ^ k ≡ a * 2 ^ k + y = omega arith in
    ap (λ n. bit_at n l) c ∙ bit_at_cat_low a k y l h

pub with_low : (l k a b y : ℕ) → l < k → with_bit l b (y + a * 2 ^ k) ≡ with_bit l b y + a * 2 ^ k
unfolding with_bit
with_low l k a b y h =
    let t : bit_at (y + a * 2 ^ k) l ≡ bit_at y l = bit_low l k a y h in
    let w = bit_weight y l in
    rw t (omega arith)
