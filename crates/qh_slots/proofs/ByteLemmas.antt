-- Bytes are those of the number that they read as.
use Rattle.std.proofs.Common.{◌≡◌, ℕ, zero, suc, ◌+◌, ◌-◌, ◌*◌, ◌/◌, ◌%◌, ◌^◌, ◌<◌, ◌≤◌, List, [], ◌∷◌, ◌++◌, length, drop, take, set, replicate, get_or, refl, sym, ap, subst, ◌∙◌, arith}
use Rattle.std.specs.Int.{w128, byte_at, bytes_high_first, cast_signed}
use Rattle.std.proofs.Math.Path.{ap₂}
use Rattle.std.proofs.Math.Nat.{mod-lt, mod-eq_of_lt}
use Rattle.std.proofs.lemmas.Nat.{div-mul-add, mod-mul-add}
use Rattle.std.proofs.lemmas.Int.{of_z-to_z}
use Rattle.std.proofs.lemmas.List.{places, append-nil, take-append-drop, ext_get_or, take_all, take_more, length-replicate, drop_all, length-drop, length-set, length-append, length-take-le, get_or-drop}
use Rattle.byteorder.specs.Endian.{big_from, big_bytes, big_number}
use Rattle.byteorder.specs.Numbers.{big_from-cons, big_from-lt, big_from-bytes, big_from-take, length-bytes_high_first}
use Rattle.qh_ring.specs.declared.number.Omega.{Omega}
use Rattle.std.specs.List.{flat_map}
use Rattle.std.proofs.lemmas.List.Concat.{flat_map-append}
use borrow.Rule.Slice.PartMut.{put_mid}
use Rattle.qh_disk.specs.Disk.{overwritten}
use Rattle.qh_slots.proofs.SlotLemmas.{omega_size, sums_size}
use Rattle.qh_slots.specs.Layout.{part}
use Rattle.qh_slots.specs.Slots.{int_bytes, omega_bytes}

-- each is below 256
abbrev pub AreBytes : List ℕ → Type 0
AreBytes xs = (i : ℕ) → get_or xs i 0 < 256

byte_below : (n x : ℕ) → byte_at n x < 256
byte_below zero x = mod-lt x (omega arith)
byte_below (suc n) x = mod-lt (x / 256 ^ suc n) (omega arith)

high_first_bytes : (n x : ℕ) → AreBytes (bytes_high_first n x)
high_first_bytes zero x i = omega arith
high_first_bytes (suc n) x zero = byte_below n x
high_first_bytes (suc n) x (suc i) = high_first_bytes n x i

-- two lists of n bytes are one number only where they are one list
one_number : (xs ys : List ℕ) (n : ℕ) → length xs ≡ n → length ys ≡ n → AreBytes xs → AreBytes ys → big_from 0 n xs ≡ big_from 0 n ys → xs ≡ ys
one_number [] [] n lx ly bx by e = refl
one_number [] (y ∷ ys) n lx ly bx by e = absurd (omega arith)
one_number (x ∷ xs) [] n lx ly bx by e = absurd (omega arith)
one_number (x ∷ xs) (y ∷ ys) zero lx ly bx by e = absurd (omega arith)
one_number (x ∷ xs) (y ∷ ys) (suc n) lx ly bx by e =
    let mx = big_from-cons 0 n x xs in
    let my = big_from-cons 0 n y ys in
    let low : big_from 0 n xs < 256 ^ n = big_from-lt 0 n xs (λ i. bx (suc i)) in
    let high : big_from 0 n ys < 256 ^ n = big_from-lt 0 n ys (λ i. by (suc i)) in
    let whole : x * 256 ^ n + big_from 0 n xs ≡ y * 256 ^ n + big_from 0 n ys = ap (λ (m : ℕ). x * 256 ^ n + m) (sym mx) ∙ e ∙ ap (λ (m : ℕ). y * 256 ^ n + m) my in
    ap₂ (λ (a : ℕ) (l : List ℕ). a ∷ l)
    (sym (div-mul-add x (256 ^ n) (big_from 0 n xs) low) ∙ ap (λ (m : ℕ). m / 256 ^ n) whole ∙ div-mul-add y (256 ^ n) (big_from 0 n ys) high)
    (one_number xs ys n (omega arith) (omega arith) (λ i. bx (suc i)) (λ i. by (suc i))
    (sym (mod-mul-add x (256 ^ n) (big_from 0 n xs) low) ∙ ap (λ (m : ℕ). m % 256 ^ n) whole ∙ mod-mul-add y (256 ^ n) (big_from 0 n ys) high))

-- the first n of some bytes are those of the number that they read as
pub bytes_back : (n : ℕ) (xs : List ℕ) → n ≤ length xs → AreBytes xs → big_bytes n (big_number n xs) ≡ take n xs
bytes_back n xs le bytes =
    let front : AreBytes (take n xs) = λ i. below i in
    one_number (bytes_high_first n (big_from 0 n xs)) (take n xs) n (length-bytes_high_first n (big_from 0 n xs)) (grind (arith, places)) (high_first_bytes n (big_from 0 n xs)) front
    (ap (big_from 0 n) (sym (append-nil (bytes_high_first n (big_from 0 n xs)))) ∙ big_from-bytes n (big_from 0 n xs) [] ∙ mod-eq_of_lt (big_from-lt 0 n xs bytes) ∙ sym (big_from-take 0 n n xs (omega arith)))
  where
    below : (i : ℕ) → get_or (take n xs) i 0 < 256
    below i = grind (arith, places, bytes i)

pub bytes_dropped : (n : ℕ) (xs : List ℕ) → AreBytes xs → AreBytes (drop n xs)
bytes_dropped n xs bytes i = subst (λ (b : ℕ). b < 256) (sym (get_or-drop n xs i 0)) (bytes (n + i))

-- 16 bytes are those of the whole number that they read as
pub int_from : (xs : List ℕ) → 16 ≤ length xs → AreBytes xs → int_bytes (cast_signed w128 (big_number 16 xs)) ≡ take 16 xs
unfolding int_bytes
int_from xs le bytes = ap (big_bytes 16) (of_z-to_z w128 (big_number 16 xs) (big_from-lt 0 16 xs bytes)) ∙ bytes_back 16 xs le bytes

-- a front and what follows it
pub joined : (a b : ℕ) (l : List ℕ) → take a l ++ part a b l ≡ take (a + b) l
joined a b l = ext_get_or 0 (take a l ++ part a b l) (take (a + b) l) (grind (arith, places)) (λ i low. grind (arith, places))

-- two pieces, the second behind the first, are one
pub overwritten_on : (xs ys f : List ℕ) (at k : ℕ) → k ≡ at + length xs → at + length xs + length ys ≤ length f → overwritten k ys (overwritten at xs f) ≡ overwritten at (xs ++ ys) f
overwritten_on xs ys f at k is le = ext_get_or 0 (overwritten k ys (overwritten at xs f)) (overwritten at (xs ++ ys) f) (grind (arith, places)) (λ i low. grind (arith, places))

pub overwritten_all : (xs f : List ℕ) → length xs ≡ length f → overwritten 0 xs f ≡ xs
overwritten_all xs f is = ext_get_or 0 (overwritten 0 xs f) xs (grind (arith, places)) (λ i low. grind (arith, places))

pub overwritten_length : (at : ℕ) (xs f : List ℕ) → at + length xs ≤ length f → length (overwritten at xs f) ≡ length f
overwritten_length at xs f le = grind (arith, places)

pub overwritten_none : (at : ℕ) (f : List ℕ) → overwritten at [] f ≡ f
overwritten_none at f = take-append-drop at f

-- and 64 those of four
pub omega_from : (xs : List ℕ) (z : Omega) → length xs ≡ 64 → int_bytes z.a ≡ take 16 xs → int_bytes z.b ≡ part 16 16 xs → int_bytes z.c ≡ part 32 16 xs → int_bytes z.d ≡ part 48 16 xs → omega_bytes z ≡ xs
omega_from xs z is a b c d =
    ap₂ (λ (l m : List ℕ). l ++ m) (ap₂ (λ (l m : List ℕ). l ++ m) (ap₂ (λ (l m : List ℕ). l ++ m) a b ∙ joined 16 16 xs) c ∙ joined 32 16 xs) d
    ∙ joined 48 16 xs ∙ take_all 64 xs (omega arith)

-- a write to the bytes from `at` on
pub put_written : (at : ℕ) (f buf bs : List ℕ) → at + length bs ≤ length f → buf ≡ bs ++ drop (length bs) (drop at f) → put_mid at (length f - at) f buf ≡ overwritten at bs f
put_written at f buf bs le is = ap (put_mid at (length f - at) f) is ∙ whole
  where
    whole : put_mid at (length f - at) f (bs ++ drop (length bs) (drop at f)) ≡ overwritten at bs f
    whole = ext_get_or 0 _ (overwritten at bs f) (grind (arith, places)) (λ i low. grind (arith, places))

-- one number more is read
pub read_more : (items : List Omega) (z : Omega) (m : ℕ) (xs : List ℕ) → flat_map omega_bytes items ≡ take (64 * m) xs → omega_bytes z ≡ part (64 * m) 64 xs → flat_map omega_bytes (items ++ z ∷ []) ≡ take (64 * (m + 1)) xs
read_more items z m xs before now =
    flat_map-append omega_bytes items (z ∷ []) ∙ ap₂ (λ (l k : List ℕ). l ++ k) before (append-nil (omega_bytes z) ∙ now) ∙ joined (64 * m) 64 xs
    ∙ ap (λ (n : ℕ). take n xs) (let e : 64 * m + 64 ≡ 64 * (m + 1) = omega arith in e)

-- one number more is written
pub write_more : (numbers : List Omega) (m at : ℕ) (f : List ℕ) (d : Omega) → m < length numbers → at + 64 * length numbers ≤ length f
    → overwritten (at + 64 * m) (omega_bytes (get_or numbers m d)) (overwritten at (flat_map omega_bytes (take m numbers)) f) ≡ overwritten at (flat_map omega_bytes (take (m + 1) numbers)) f
write_more numbers m at f d low room =
    let size = sums_size (take m numbers) in
    let taken = length-take-le m numbers (omega arith) in
    let one = omega_size (get_or numbers m d) in
    overwritten_on (flat_map omega_bytes (take m numbers)) (omega_bytes (get_or numbers m d)) f at (at + 64 * m) (omega arith) (omega arith)
    ∙ ap (λ (l : List ℕ). overwritten at l f) (sym (ap (flat_map omega_bytes) (take_more numbers m d low) ∙ flat_map-append omega_bytes (take m numbers) (get_or numbers m d ∷ []) ∙ ap (λ (l : List ℕ). flat_map omega_bytes (take m numbers) ++ l) (append-nil (omega_bytes (get_or numbers m d)))))

pub set_first : (x : ℕ) (f : List ℕ) → 1 ≤ length f → set f 0 x ≡ overwritten 0 (x ∷ []) f
set_first x [] le = absurd (omega arith)
set_first x (y ∷ f) le = refl

-- the first byte, and what follows it
pub first_and : (x : ℕ) (bs f buf : List ℕ) → 1 + length bs ≤ length f → buf ≡ bs ++ drop (length bs) (drop 1 (set f 0 x)) → put_mid 1 (length (set f 0 x) - 1) (set f 0 x) buf ≡ overwritten 0 (x ∷ bs) f
first_and x bs f buf le is =
    let size = length-set f 0 x in
    put_written 1 (set f 0 x) buf bs (omega arith) is ∙ ap (overwritten 1 bs) (set_first x f (omega arith)) ∙ overwritten_on (x ∷ []) bs f 0 1 refl (omega arith)

-- two pieces that are all
pub two_written : (xs ys f : List ℕ) (at : ℕ) → at ≡ length xs → length xs + length ys ≡ length f → overwritten at ys (overwritten 0 xs f) ≡ xs ++ ys
two_written xs ys f at is size =
    overwritten_on xs ys f 0 at (omega arith) (omega arith) ∙ overwritten_all (xs ++ ys) f (length-append xs ys ∙ size)

pub put_zeros : (at : ℕ) (f buf : List ℕ) → at ≤ length f → buf ≡ replicate (length (take (length f - at) (drop at f))) 0 → put_mid at (length f - at) f buf ≡ overwritten at (replicate (length f - at) 0) f
put_zeros at f buf le is =
    let size : length (take (length f - at) (drop at f)) ≡ length f - at = grind (arith, places) in
    let many = length-replicate {A = ℕ} (length f - at) 0 in
    let past : drop (length (replicate {A = ℕ} (length f - at) 0)) (drop at f) ≡ [] = drop_all _ (drop at f) (let l = length-drop at f in omega arith) in
    put_written at f buf (replicate (length f - at) 0) (omega arith)
    (is ∙ ap (λ (n : ℕ). replicate n 0) size ∙ sym (append-nil (replicate (length f - at) 0)) ∙ ap (λ (l : List ℕ). replicate (length f - at) 0 ++ l) (sym past))
