-- Texts that are cut at a byte.
use Rattle.std.proofs.Common.{◌≡◌, ◌≢◌, ◌==◌, ℕ, ◌+◌, ◌-◌, ◌<◌, ◌≤◌, inl, inr, true, not, List, [], ◌∷◌, ◌++◌, length, get_or, take, drop, All, refl, sym, ap, ◌∙◌, arith, length-append, length-drop, append_assoc, append-nil}
use Rattle.std.proofs.Math.Path.{ap₂}
use Rattle.std.specs.List.{list_all}
use Rattle.std.proofs.lemmas.List.{get_or_append_left, get_or_at, drop_at, take_all}
use Rattle.std.proofs.lemmas.List.Elements.{All-nil, All-cons, All-head, All-tail}
use Rattle.std.proofs.lemmas.Bool.{cases_lt, and_parts, eqb-false, not-true}

-- the byte stands nowhere in the text
abbrev pub Without : ℕ → List ℕ → Type 0
Without stop xs = All (λ b. b ≢ stop) xs

pub each_without : (s : ℕ) (xs : List ℕ) → list_all (λ b. not (b == s)) xs ≡ true → Without s xs
each_without s [] e = All-nil (λ b. b ≢ s)
each_without s (x ∷ xs) e =
    let p = and_parts _ _ e in
    All-cons (λ b. b ≢ s) x xs (eqb-false x s (not-true (x == s) p.0)) (each_without s xs p.1)

-- the byte stands here
pub stands : (s : ℕ) (a b : List ℕ) → Without s (a ++ s ∷ b) → ⊥
stands s a b h = h (length a) 0 (omega (arith, length-append a (s ∷ b))) (get_or_at a s b 0 (length a) refl)

-- the first byte stands right behind a front that has none
pub cut_is : (bytes front back : List ℕ) (stop at : ℕ) → at ≤ length bytes → ((k : ℕ) → k < at → get_or bytes k 0 ≢ stop) → (at < length bytes → get_or bytes at 0 ≡ stop)
    → Without stop front → bytes ≡ front ++ stop ∷ back → at ≡ length front
cut_is bytes front back stop at within before found none e = elim (cases_lt at (length front)) [
  | inl l ↦ absurd (none at 0 l (sym (get_or_append_left front (stop ∷ back) 0 at l) ∙ sym (ap (λ x. get_or x at 0) e) ∙ found (omega (arith, ap (length {A = ℕ}) e, length-append front (stop ∷ back)))))
  | inr h ↦ elim (cases_lt (length front) at) [
    | inl l ↦ absurd (before (length front) l (ap (λ x. get_or x (length front) 0) e ∙ get_or_at front stop back 0 (length front) refl))
    | inr g ↦ omega arith
  ]
]

pub behind : (bytes front back : List ℕ) (stop at : ℕ) → at ≡ length front → bytes ≡ front ++ stop ∷ back → take (length bytes - (at + 1)) (drop (at + 1) bytes) ≡ back
behind bytes front back stop at same e =
    let tail : drop (at + 1) bytes ≡ back = ap (drop (at + 1)) (e ∙ sym (append_assoc front (stop ∷ []) back)) ∙ drop_at (front ++ stop ∷ []) back (at + 1) (length-append front (stop ∷ []) ∙ omega arith) in
    take_all (length bytes - (at + 1)) (drop (at + 1) bytes) (omega (arith, length-drop (at + 1) bytes)) ∙ tail

-- ---- two texts that are equal have equal pieces

-- what is empty or begins with this byte
pub data Begins (stop : ℕ) : List ℕ → Type 0 where
  empty : Begins stop []
  with_it : (back : List ℕ) → Begins stop (stop ∷ back)

pub head_same : (a b : ℕ) (xs ys : List ℕ) → a ∷ xs ≡ b ∷ ys → a ≡ b
head_same a b xs ys e = cc

pub tail_same : (a b : ℕ) (xs ys : List ℕ) → a ∷ xs ≡ b ∷ ys → xs ≡ ys
tail_same a b xs ys e = cc

pub never_empty : (a : ℕ) (xs : List ℕ) → a ∷ xs ≡ [] → ⊥
never_empty a xs e = (cc)

meets : (stop y : ℕ) (c ys : List ℕ) → Begins stop c → c ≡ y ∷ ys → y ≡ stop
meets stop y c ys empty e = absurd (never_empty y ys (sym e))
meets stop y c ys (with_it back) e = sym (head_same stop y back ys e)

-- fronts without the byte and backs that are empty or begin with it
pub front_same : (stop : ℕ) (a b c d : List ℕ) → Without stop a → Without stop b → Begins stop c → Begins stop d → a ++ c ≡ b ++ d → (a ≡ b) × (c ≡ d)
front_same stop [] [] c d ha hb hc hd e = (refl, e)
front_same stop [] (y ∷ b) c d ha hb hc hd e = absurd (All-head (λ x. x ≢ stop) y b hb (meets stop y c (b ++ d) hc e))
front_same stop (x ∷ a) [] c d ha hb hc hd e = absurd (All-head (λ x. x ≢ stop) x a ha (meets stop x d (a ++ c) hd (sym e)))
front_same stop (x ∷ a) (y ∷ b) c d ha hb hc hd e =
    let r = front_same stop a b c d (All-tail (λ x. x ≢ stop) x a ha) (All-tail (λ x. x ≢ stop) y b hb) hc hd (tail_same x y (a ++ c) (b ++ d) e) in
    (ap₂ (λ (u : ℕ) (us : List ℕ). u ∷ us) (head_same x y (a ++ c) (b ++ d) e) r.0, r.1)

pub cut_same : (stop : ℕ) (a b c d : List ℕ) → Without stop a → Without stop b → a ++ stop ∷ c ≡ b ++ stop ∷ d → (a ≡ b) × (c ≡ d)
cut_same stop a b c d ha hb e =
    let r = front_same stop a b (stop ∷ c) (stop ∷ d) ha hb (with_it c) (with_it d) e in
    (r.0, tail_same stop stop c d r.1)

-- the first byte, or the end, stands right behind a front that has none
pub split_is : (bytes front back : List ℕ) (stop at : ℕ) → at ≤ length bytes → ((k : ℕ) → k < at → get_or bytes k 0 ≢ stop) → (at < length bytes → get_or bytes at 0 ≡ stop)
    → Without stop front → Begins stop back → bytes ≡ front ++ back → at ≡ length front
split_is bytes front back stop at within before found none empty e =
    let f : bytes ≡ front = e ∙ append-nil front in
    elim (cases_lt at (length bytes)) [
      | inl l ↦ absurd (none at 0 (omega (arith, ap (length {A = ℕ}) f)) (ap (λ x. get_or x at 0) (sym f) ∙ found l))
      | inr l ↦ omega (arith, ap (length {A = ℕ}) f)
    ]
split_is bytes front back stop at within before found none (with_it rest) e = cut_is bytes front rest stop at within before found none e
