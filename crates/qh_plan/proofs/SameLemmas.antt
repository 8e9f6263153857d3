-- The words and the bitstrings of two equal texts are equal.
use Rattle.std.proofs.Common.{◌≡◌, ◌≢◌, ℕ, ◌^◌, ◌<◌, List, [], ◌∷◌, ◌++◌, length, map, decimal, All, arith, refl, sym, ◌∙◌, append_assoc, lit<}
use Rattle.std.proofs.Math.Path.{ap₂}
use Rattle.std.specs.List.{flat_map}
use Rattle.std.proofs.lemmas.Fmt.{decimal_injective}
use Rattle.std.proofs.lemmas.List.Elements.{All-nil, All-cons, All-append, All-head, All-tail}
use Rattle.qh_text.specs.Bitstrings.{bits_text}
use Rattle.qh_text.proofs.CutLemmas.{Begins, empty, with_it, Without, tail_same, never_empty, front_same, cut_same}
use Rattle.qh_text.proofs.NumberLemmas.{decimal_without}
use Rattle.qh_text.proofs.BitLemmas.{bits_without, bits_injective}
use Rattle.qh_plan.specs.Texts.{word, bits_line}

pub few_digits : (n : ℕ) → n < 2 ^ 64 → n < 10 ^ 64
few_digits n l = omega arith

-- ---- numbers

pub words_begin : (numbers : List ℕ) → Begins 32 (flat_map word numbers)
words_begin [] = empty
words_begin (n ∷ numbers) = with_it (decimal n ++ flat_map word numbers)

pub words_without : (numbers : List ℕ) → All (λ n. n < 2 ^ 64) numbers → Without 10 (flat_map word numbers)
words_without [] h = All-nil (λ b. b ≢ 10)
words_without (n ∷ numbers) h =
    All-cons (λ b. b ≢ 10) 32 (decimal n ++ flat_map word numbers) (λ e. omega arith)
    (All-append (λ b. b ≢ 10) (decimal n) (flat_map word numbers) (decimal_without 10 n (lit< tt) (few_digits n (All-head (λ n. n < 2 ^ 64) n numbers h)))
    (words_without numbers (All-tail (λ n. n < 2 ^ 64) n numbers h)))

pub words_same : (xs ys : List ℕ) → All (λ n. n < 2 ^ 64) xs → All (λ n. n < 2 ^ 64) ys → flat_map word xs ≡ flat_map word ys → xs ≡ ys
words_same [] [] hx hy e = refl
words_same [] (y ∷ ys) hx hy e = absurd (never_empty 32 (decimal y ++ flat_map word ys) (sym e))
words_same (x ∷ xs) [] hx hy e = absurd (never_empty 32 (decimal x ++ flat_map word xs) e)
words_same (x ∷ xs) (y ∷ ys) hx hy e =
    let lx = All-head (λ n. n < 2 ^ 64) x xs hx in
    let ly = All-head (λ n. n < 2 ^ 64) y ys hy in
    let r = front_same 32 (decimal x) (decimal y) (flat_map word xs) (flat_map word ys) (decimal_without 32 x (lit< tt) (few_digits x lx)) (decimal_without 32 y (lit< tt) (few_digits y ly))
    (words_begin xs) (words_begin ys) (tail_same 32 32 (decimal x ++ flat_map word xs) (decimal y ++ flat_map word ys) e) in
    ap₂ (λ (u : ℕ) (us : List ℕ). u ∷ us) (decimal_injective x y lx ly r.0)
    (words_same xs ys (All-tail (λ n. n < 2 ^ 64) x xs hx) (All-tail (λ n. n < 2 ^ 64) y ys hy) r.1)

-- ---- bitstrings

-- the lines of as many bitstrings, and what stands behind them
pub bits_lists : (n m : ℕ) (xs ys s t : List ℕ) → length xs ≡ length ys → flat_map (bits_line n) xs ++ s ≡ flat_map (bits_line m) ys ++ t
    → (map (bits_text n) xs ≡ map (bits_text m) ys) × (s ≡ t)
bits_lists n m [] [] s t l e = (refl, e)
bits_lists n m [] (y ∷ ys) s t l e = absurd (omega arith)
bits_lists n m (x ∷ xs) [] s t l e = absurd (omega arith)
bits_lists n m (x ∷ xs) (y ∷ ys) s t l e =
    let f = flat_map (bits_line n) xs in
    let g = flat_map (bits_line m) ys in
    let c = cut_same 10 (bits_text n x) (bits_text m y) (f ++ s) (g ++ t) (bits_without 10 n x (lit< tt)) (bits_without 10 m y (lit< tt))
    (sym (regroup (bits_text n x) f s) ∙ e ∙ regroup (bits_text m y) g t) in
    let r = bits_lists n m xs ys s t (omega arith) c.1 in
    (ap₂ (λ (u : List ℕ) (us : List (List ℕ)). u ∷ us) c.0 r.0, r.1)
  where
    regroup : (a b d : List ℕ) → ((a ++ 10 ∷ []) ++ b) ++ d ≡ a ++ 10 ∷ (b ++ d)
    regroup a b d = append_assoc (a ++ 10 ∷ []) b d ∙ append_assoc a (10 ∷ []) (b ++ d)

first_list : (x y : List ℕ) (xs ys : List (List ℕ)) → ◌≡◌ {A = List (List ℕ)} (x ∷ xs) (y ∷ ys) → (x ≡ y) × (xs ≡ ys)
first_list x y xs ys e = (cc, cc)

pub bits_same : (n : ℕ) (xs ys : List ℕ) → All (λ x. x < 2 ^ n) xs → All (λ x. x < 2 ^ n) ys → map (bits_text n) xs ≡ map (bits_text n) ys → length xs ≡ length ys → xs ≡ ys
bits_same n [] [] hx hy e l = refl
bits_same n [] (y ∷ ys) hx hy e l = absurd (omega arith)
bits_same n (x ∷ xs) [] hx hy e l = absurd (omega arith)
bits_same n (x ∷ xs) (y ∷ ys) hx hy e l =
    let r = first_list (bits_text n x) (bits_text n y) (map (bits_text n) xs) (map (bits_text n) ys) e in
    ap₂ (λ (u : ℕ) (us : List ℕ). u ∷ us)
    (bits_injective n x y (All-head (λ x. x < 2 ^ n) x xs hx) (All-head (λ x. x < 2 ^ n) y ys hy) r.0)
    (bits_same n xs ys (All-tail (λ x. x < 2 ^ n) x xs hx) (All-tail (λ x. x < 2 ^ n) y ys hy) r.1 (omega arith))
