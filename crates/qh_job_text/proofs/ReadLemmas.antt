-- What a reader finds in the text of a job.
use Rattle.std.proofs.Common.{◌≡◌, ◌≢◌, ℕ, ◌+◌, ◌^◌, ◌<◌, List, [], ◌∷◌, ◌++◌, length, get_or, drop, All, arith, sym, ap, subst, ◌∙◌, append_assoc, append-nil, length-append}
use Rattle.std.specs.List.{flat_map}
use Rattle.std.proofs.lemmas.List.{get_or-append-add, drop_more}
use Rattle.std.proofs.lemmas.List.Elements.{All-nil, All-head}
use Rattle.qh_text.specs.Bitstrings.{bits_text}
use Rattle.qh_text.proofs.CutLemmas.{Without}
use Rattle.qh_plan.specs.Texts.{word, bits_line}

-- ---- the numbers of a line, one more at a time

-- so many are read, and the rest of the line has the others
pub record IsLeft (numbers got rest : List ℕ) : Type 0 where
  pub head : List ℕ
  pub others : List ℕ
  pub without : Without 32 head
  pub split : numbers ≡ got ++ others
  pub rest_is : rest ≡ head ++ flat_map word others

all_right : {X : Type 0} (P : X → Type 0) (xs ys : List X) → All P (xs ++ ys) → All P ys
all_right P xs ys h k d l = subst P (get_or-append-add xs ys k d) (h (length xs + k) d (omega (arith, length-append xs ys)))

pub left_next : (numbers got rest more all : List ℕ) (number : ℕ) → IsLeft numbers got rest → All (λ n. n < 2 ^ 32) numbers
    → ((head : List ℕ) (n : ℕ) (others : List ℕ) → Without 32 head → n < 2 ^ 32 → rest ≡ head ++ flat_map word (n ∷ others) → (number ≡ n) × (more ≡ flat_map word others))
    → (Without 32 rest → ⊥) → all ≡ got ++ number ∷ [] → IsLeft numbers all more
left_next numbers got rest more all number h small only none a = by_others h.others h.split h.rest_is
  where
    by_others : (others : List ℕ) → numbers ≡ got ++ others → rest ≡ h.head ++ flat_map word others → IsLeft numbers all more
    by_others [] s r = absurd (none (subst (Without 32) (sym (r ∙ append-nil h.head)) h.without))
    by_others (n ∷ ns) s r =
        let l = All-head (λ n. n < 2 ^ 32) n ns (all_right (λ n. n < 2 ^ 32) got (n ∷ ns) (subst (All (λ n. n < 2 ^ 32)) s small)) in
        let o = only h.head n ns h.without l r in
        record {
          head = [];
          others = ns;
          without = All-nil (λ b. b ≢ 32);
          split = s ∙ sym (append_assoc got (n ∷ []) ns) ∙ ap (λ (x : ℕ). (got ++ x ∷ []) ++ ns) (sym o.0) ∙ ap (λ x. x ++ ns) (sym a);
          rest_is = o.1;
        }

pub left_end : (numbers got rest : List ℕ) → IsLeft numbers got rest → All (λ n. n < 2 ^ 32) numbers
    → ((head : List ℕ) (n : ℕ) (others : List ℕ) → Without 32 head → n < 2 ^ 32 → rest ≡ head ++ flat_map word (n ∷ others) → ⊥) → got ≡ numbers
left_end numbers got rest h small only = by_others h.others h.split h.rest_is
  where
    by_others : (others : List ℕ) → numbers ≡ got ++ others → rest ≡ h.head ++ flat_map word others → got ≡ numbers
    by_others [] s r = sym (s ∙ append-nil got)
    by_others (n ∷ ns) s r =
        absurd (only h.head n ns h.without (All-head (λ n. n < 2 ^ 32) n ns (all_right (λ n. n < 2 ^ 32) got (n ∷ ns) (subst (All (λ n. n < 2 ^ 32)) s small))) r)

-- ---- bitstrings, one more at a time

pub bits_next : (n : ℕ) (bits back rest : List ℕ) (i : ℕ) → i < length bits → rest ≡ flat_map (bits_line n) (drop i bits) ++ back
    → rest ≡ bits_text n (get_or bits i 0) ++ 10 ∷ (flat_map (bits_line n) (drop (i + 1) bits) ++ back)
bits_next n bits back rest i l e =
    let x = bits_text n (get_or bits i 0) in
    let f = flat_map (bits_line n) (drop (i + 1) bits) in
    e ∙ ap (λ xs. flat_map (bits_line n) xs ++ back) (drop_more bits i 0 l)
    ∙ append_assoc (x ++ 10 ∷ []) f back ∙ append_assoc x (10 ∷ []) (f ++ back)
