-- The pairs of a pattern share no qubit and lie in the grid.
use Rattle.std.proofs.Common.{◌≡◌, ℕ, ◌+◌, ◌-◌, ◌*◌, ◌/◌, ◌%◌, ◌<◌, ◌≤◌, Bool, true, false, cond, refl, sym, ap, ◌∙◌, arith}
use Rattle.std.proofs.lemmas.Nat.{div-add-mod'}
use Rattle.std.proofs.lemmas.Nat.{mod-mul-add, div-mul-add, mul-add-lt, div_below, mod_below}
use Rattle.std.proofs.lemmas.Bool.Decides.{nat_tests}
use Rattle.qh_gen.specs.Grids.{is_along_rows, distance, starts_at, is_lower, is_upper}

starts : (pattern place places : ℕ) → starts_at pattern place places ≡ true → (place % 2 ≡ pattern / 2) × (place + 1 < places)
starts pattern place places h = grind (arith, nat_tests)

-- a lower qubit's place
record Along (rows cols pattern q : ℕ) : Type 0 where
  step : distance cols pattern ≡ 1
  parity : q % cols % 2 ≡ pattern / 2
  inside : q % cols + 1 < cols

record Across (rows cols pattern q : ℕ) : Type 0 where
  step : distance cols pattern ≡ cols
  parity : q / cols % 2 ≡ pattern / 2
  inside : q / cols + 1 < rows

along : (rows cols pattern q : ℕ) → is_along_rows pattern ≡ true → is_lower rows cols pattern q ≡ true → Along rows cols pattern q
unfolding is_lower
along rows cols pattern q e h =
    let s = starts pattern (q % cols) cols (rw e at h) in
    record { step = rw e refl; parity = s.0; inside = s.1 }

across : (rows cols pattern q : ℕ) → is_along_rows pattern ≡ false → is_lower rows cols pattern q ≡ true → Across rows cols pattern q
unfolding is_lower
across rows cols pattern q e h =
    let s = starts pattern (q / cols) rows (rw e at h) in
    record { step = rw e refl; parity = s.0; inside = s.1 }

apart_along : (rows cols pattern l q : ℕ) → 0 < cols → Along rows cols pattern l → Along rows cols pattern q → l + 1 ≡ q → ⊥
apart_along rows cols pattern l q some a b e =
    let place : l / cols * cols + (l % cols + 1) ≡ q = omega (arith, div-add-mod' l cols) in
    let next : q % cols ≡ l % cols + 1 = ap (λ x. x % cols) (sym place) ∙ mod-mul-add (l / cols) cols (l % cols + 1) a.inside in
    omega (arith, next, a.parity, b.parity)

apart_across : (rows cols pattern l q : ℕ) → 0 < cols → Across rows cols pattern l → Across rows cols pattern q → l + cols ≡ q → ⊥
apart_across rows cols pattern l q some a b e =
    let more : (l / cols + 1) * cols ≡ l / cols * cols + cols = omega arith in
    let place : (l / cols + 1) * cols + l % cols ≡ q = omega (arith, div-add-mod' l cols) in
    let next : q / cols ≡ l / cols + 1 = ap (λ x. x / cols) (sym place) ∙ div-mul-add (l / cols + 1) cols (l % cols) (mod_below l cols some) in
    omega (arith, next, a.parity, b.parity)

-- no upper qubit of a pair is the lower one of another
pub pairs_apart : (rows cols pattern l q : ℕ) → 0 < cols → is_lower rows cols pattern l ≡ true → is_lower rows cols pattern q ≡ true → l + distance cols pattern ≡ q → ⊥
pairs_apart rows cols pattern l q some a b e = by (is_along_rows pattern) refl
  where
    by : (t : Bool) → is_along_rows pattern ≡ t → ⊥
    by true t =
        let h = along rows cols pattern l t a in
        apart_along rows cols pattern l q some h (along rows cols pattern q t b) (ap (λ d. l + d) (sym h.step) ∙ e)
    by false t =
        let h = across rows cols pattern l t a in
        apart_across rows cols pattern l q some h (across rows cols pattern q t b) (ap (λ d. l + d) (sym h.step) ∙ e)

pub distance_some : (cols pattern : ℕ) → 0 < cols → 1 ≤ distance cols pattern
distance_some cols pattern some = by (is_along_rows pattern)
  where
    by : (t : Bool) → 1 ≤ cond t 1 cols
    by true = omega arith
    by false = some

within_along : (rows cols pattern q : ℕ) → 0 < cols → q < rows * cols → Along rows cols pattern q → q + 1 < rows * cols
within_along rows cols pattern q some l a =
    let row : q / cols < rows = div_below q cols rows some l in
    let place : q / cols * cols + (q % cols + 1) ≡ q + 1 = omega (arith, div-add-mod' q cols) in
    let bound : q / cols * cols + (q % cols + 1) < cols * rows = mul-add-lt (q / cols) cols (q % cols + 1) rows row a.inside in
    omega arith

within_across : (rows cols pattern q : ℕ) → 0 < cols → q < rows * cols → Across rows cols pattern q → q + cols < rows * cols
within_across rows cols pattern q some l a =
    let more : (q / cols + 1) * cols ≡ q / cols * cols + cols = omega arith in
    let place : (q / cols + 1) * cols + q % cols ≡ q + cols = omega (arith, div-add-mod' q cols) in
    let bound : (q / cols + 1) * cols + q % cols < cols * rows = mul-add-lt (q / cols + 1) cols (q % cols) rows a.inside (mod_below q cols some) in
    omega arith

-- the upper qubit of a pair lies in the grid
pub pair_within : (rows cols pattern q : ℕ) → 0 < cols → q < rows * cols → is_lower rows cols pattern q ≡ true → q + distance cols pattern < rows * cols
pair_within rows cols pattern q some l a = by (is_along_rows pattern) refl
  where
    by : (t : Bool) → is_along_rows pattern ≡ t → q + distance cols pattern < rows * cols
    by true t = let h = along rows cols pattern q t a in let b = within_along rows cols pattern q some l h in let s = h.step in omega arith
    by false t = let h = across rows cols pattern q t a in let b = within_across rows cols pattern q some l h in let s = h.step in omega arith

-- the qubit behind a lower one is an upper one
pub upper_of : (rows cols pattern l q : ℕ) → is_lower rows cols pattern l ≡ true → l + distance cols pattern ≡ q → is_upper rows cols pattern q ≡ true
upper_of rows cols pattern l q a e =
    let far : distance cols pattern ≤ q = omega arith in
    let back : is_lower rows cols pattern (q - distance cols pattern) ≡ true =
    (let same : q - distance cols pattern ≡ l = omega arith in ap (λ x. is_lower rows cols pattern x) same ∙ a) in
    rw back (grind (arith, nat_tests))

-- the code's test of the pattern is that of the definition
pub is_lower_along : (rows cols pattern q : ℕ) → pattern % 2 ≡ 0 → is_lower rows cols pattern q ≡ starts_at pattern (q % cols) cols
unfolding is_lower
is_lower_along rows cols pattern q e = let t : is_along_rows pattern ≡ true = grind (arith, nat_tests) in rw t refl

pub is_lower_across : (rows cols pattern q : ℕ) → (pattern % 2 ≡ 0 → ⊥) → is_lower rows cols pattern q ≡ starts_at pattern (q / cols) rows
unfolding is_lower
is_lower_across rows cols pattern q e = let t : is_along_rows pattern ≡ false = grind (arith, nat_tests) in rw t refl
