-- Bitstrings and their indices.
use Rattle.std.proofs.Common.{◌≡◌, ◌≢◌, ◌==◌, ℕ, zero, suc, inl, inr, ◌+◌, ◌-◌, ◌*◌, ◌/◌, ◌%◌, ◌^◌, ◌<◌, true, List, [], ◌∷◌, length, get_or, refl, sym, ap, ◌∙◌, arith}
use Rattle.std.proofs.Math.Path.{ap₂}
use Rattle.std.proofs.lemmas.Bool.{and_parts, and_from, or_cases, eqb-true}
use Rattle.std.specs.Int.{bit_at}
use Rattle.std.proofs.lemmas.Nat.{div-add-mod'}
use Rattle.std.proofs.lemmas.Nat.Bits.{bit_at_lowest, bit_at-suc}
use Rattle.std.proofs.lemmas.List.Elements.{All-nil, All-cons}
use Rattle.qh_text.specs.Bitstrings.{is_bit, is_bitstring, index_of, bits_text}
use Rattle.qh_text.proofs.CutLemmas.{Without}

pub bits_step : (n q x : ℕ) → q < n → bits_text (n - q) x ≡ (48 + x % 2) ∷ bits_text (n - (q + 1)) (x / 2)
bits_step n q x l = let e : n - q ≡ suc (n - (q + 1)) = omega arith in rw e refl

-- no character of a spelling is a space or an end of line
pub bits_without : (s n x : ℕ) → s < 48 → Without s (bits_text n x)
bits_without s zero x l = All-nil (λ b. b ≢ s)
bits_without s (suc n) x l = All-cons (λ b. b ≢ s) (48 + x % 2) (bits_text n (x / 2)) (λ e. omega arith) (bits_without s n (x / 2) l)

pub bits_length : (n x : ℕ) → length (bits_text n x) ≡ n
bits_length zero x = refl
bits_length (suc n) x = ap suc (bits_length n (x / 2))

-- ---- the index of a string

-- a character is 48 and its bit
bit_small : (b : ℕ) → is_bit b ≡ true → (b - 48 < 2) × (48 + (b - 48) ≡ b)
bit_small b h = elim (or_cases (b == 48) (b == 49) h) [
  | inl e ↦ (let f = eqb-true b 48 e in omega arith, let f = eqb-true b 48 e in omega arith)
  | inr e ↦ (let f = eqb-true b 49 e in omega arith, let f = eqb-true b 49 e in omega arith)
]

bit_from : (d : ℕ) → d < 2 → is_bit (48 + d) ≡ true
bit_from zero l = refl
bit_from (suc zero) l = refl
bit_from (suc (suc d)) l = absurd (omega arith)

low_of : (d i : ℕ) → d < 2 → (d + 2 * i) % 2 ≡ d
low_of d i l = omega arith

high_of : (d i : ℕ) → d < 2 → (d + 2 * i) / 2 ≡ i
high_of d i l = omega arith

power_next : (k : ℕ) → 2 ^ suc k ≡ 2 * 2 ^ k
power_next k = omega arith

-- an index has no more bits than its string has characters
pub index_below : (s : List ℕ) → is_bitstring s ≡ true → index_of s < 2 ^ length s
index_below [] h = omega arith
index_below (b ∷ s) h =
    let p = and_parts (is_bit b) (is_bitstring s) h in
    let small = (bit_small b p.0).0 in
    let rest = index_below s p.1 in
    let two = power_next (length s) in
    omega arith

-- a string is what its own index is spelled as
pub string_of_index : (s : List ℕ) → is_bitstring s ≡ true → bits_text (length s) (index_of s) ≡ s
string_of_index [] h = refl
string_of_index (b ∷ s) h =
    let p = and_parts (is_bit b) (is_bitstring s) h in
    let bit = bit_small b p.0 in
    ap₂ (λ (c : ℕ) (cs : List ℕ). c ∷ cs)
    (ap (λ d. 48 + d) (low_of (b - 48) (index_of s) bit.0) ∙ bit.1)
    (ap (bits_text (length s)) (high_of (b - 48) (index_of s) bit.0) ∙ string_of_index s p.1)

next_bit : (digit rest place : ℕ) → digit < 2 → bit_at (digit + 2 * rest) (suc place) ≡ bit_at rest place
next_bit digit rest place small =
    bit_at-suc (digit + 2 * rest) place ∙ ap (λ n. bit_at n place) (high_of digit rest small)

-- bit q of an index is character q of its string
pub bits_of_index : (s : List ℕ) (q : ℕ) → is_bitstring s ≡ true → q < length s → bit_at (index_of s) q ≡ get_or s q 0 - 48
bits_of_index [] q h below = absurd (omega arith)
bits_of_index (b ∷ s) zero h below =
    bit_at_lowest ((b - 48) + 2 * index_of s) ∙ low_of (b - 48) (index_of s) (bit_small b (and_parts (is_bit b) (is_bitstring s) h).0).0
bits_of_index (b ∷ s) (suc q) h below =
    let p = and_parts (is_bit b) (is_bitstring s) h in
    next_bit (b - 48) (index_of s) q (bit_small b p.0).0 ∙ bits_of_index s q p.1 (omega arith)

-- an index is named by what it is spelled as
pub index_of_string : (n x : ℕ) → x < 2 ^ n → index_of (bits_text n x) ≡ x
index_of_string zero x l = omega arith
index_of_string (suc n) x l =
    let two = power_next n in
    let rest = index_of_string n (x / 2) (omega arith) in
    omega (arith, div-add-mod' x 2)

-- what an index is spelled as is a bitstring
pub bits_are : (n x : ℕ) → is_bitstring (bits_text n x) ≡ true
bits_are zero x = refl
bits_are (suc n) x = and_from (is_bit (48 + x % 2)) (is_bitstring (bits_text n (x / 2))) (bit_from (x % 2) (omega arith)) (bits_are n (x / 2))

-- indices that are spelled alike are equal
pub bits_injective : (n x y : ℕ) → x < 2 ^ n → y < 2 ^ n → bits_text n x ≡ bits_text n y → x ≡ y
bits_injective n x y lx ly e = sym (index_of_string n x lx) ∙ ap index_of e ∙ index_of_string n y ly
