-- The items between commas, one more at a time.
use Rattle.std.proofs.Common.{◌≡◌, ◌≢◌, ◌==◌, ℕ, zero, suc, ◌<◌, inl, inr, List, [], ◌∷◌, ◌++◌, length, get_or, take, drop, Option, Some, None, IsSome, arith, refl, sym, ap, subst, ◌∙◌, append_assoc, length-append}
use Rattle.std.proofs.lemmas.Bool.{cond-true, cond-false, eq-eqb, ne_eqb, cases_lt}
use Rattle.std.proofs.lemmas.List.{get_or_at, get_or_append_left, length_push}
use Rattle.qh_plan.specs.Items.{items_of, lengthened, number_at, AreNumbers, IsFirstBad}

-- no comma stands before i
abbrev pub NoComma : List ℕ → ℕ → Type 0
NoComma bytes i = (k : ℕ) → k < i → get_or bytes k 0 ≢ 44

item_first : (b : ℕ) (bs : List ℕ) → b ≢ 44 → items_of (b ∷ bs) ≡ lengthened b (items_of bs)
item_first b bs h = cond-false (b == 44) ([] ∷ items_of bs) (lengthened b (items_of bs)) (ne_eqb b 44 h)

item_comma : (b : ℕ) (bs : List ℕ) → b ≡ 44 → items_of (b ∷ bs) ≡ [] ∷ items_of bs
item_comma b bs h = cond-true (b == 44) ([] ∷ items_of bs) (lengthened b (items_of bs)) (eq-eqb b 44 h)

-- what has no comma is one item
pub last_item : (bytes : List ℕ) → NoComma bytes (length bytes) → items_of bytes ≡ bytes ∷ []
last_item [] h = refl
last_item (b ∷ bs) h = item_first b bs (h 0 (omega arith)) ∙ ap (lengthened b) (last_item bs (λ k l. h (suc k) (omega arith)))

-- what stands before the first comma is the first item
pub next_item : (bytes : List ℕ) (at : ℕ) → at < length bytes → NoComma bytes at → get_or bytes at 0 ≡ 44
    → items_of bytes ≡ take at bytes ∷ items_of (drop (suc at) bytes)
next_item [] at l h e = absurd (omega arith)
next_item (b ∷ bs) zero l h e = item_comma b bs e
next_item (b ∷ bs) (suc at) l h e =
    item_first b bs (h 0 (omega arith)) ∙ ap (lengthened b) (next_item bs at (omega arith) (λ k m. h (suc k) (omega arith)) e)

-- the items so far are these numbers, and the rest of the text has the others
pub record IsReadUpTo (text rest numbers : List ℕ) : Type 0 where
  pub front : List (List ℕ)
  pub same : items_of text ≡ front ++ items_of rest
  pub count : length front ≡ length numbers
  pub spelled : (k : ℕ) → k < length numbers → number_at front k ≡ Some (get_or numbers k 0)

pub read_start : (text : List ℕ) → IsReadUpTo text text []
read_start text = record { front = []; same = refl; count = refl; spelled = λ k l. absurd (omega arith) }

number_front : (front : List (List ℕ)) (item : List ℕ) (others : List (List ℕ)) (k : ℕ) → k < length front → number_at (front ++ item ∷ others) k ≡ number_at front k
number_front front item others k l = ap (λ x. number_at (x ∷ []) 0) (get_or_append_left front (item ∷ others) [] k l)

number_item : (front : List (List ℕ)) (item : List ℕ) (others : List (List ℕ)) (k : ℕ) → k ≡ length front → number_at (front ++ item ∷ others) k ≡ number_at (item ∷ []) 0
number_item front item others k e = ap (λ x. number_at (x ∷ []) 0) (get_or_at front item others [] k (sym e))

some_is : (o : Option ℕ) (n : ℕ) → o ≡ Some n → IsSome o
some_is o n e = rw e refl

-- the next item is no number
pub first_bad : (text rest numbers item : List ℕ) (others : List (List ℕ)) → IsReadUpTo text rest numbers → items_of rest ≡ item ∷ others
    → number_at (item ∷ []) 0 ≡ None → IsFirstBad (items_of text) (length numbers)
first_bad text rest numbers item others h e bad =
    let whole : items_of text ≡ h.front ++ item ∷ others = h.same ∙ ap (λ x. h.front ++ x) e in
    let c = h.count in
    record {
      within = omega (arith, ap (length {A = List ℕ}) whole, length-append h.front (item ∷ others));
      bad = ap (λ x. number_at x (length numbers)) whole ∙ number_item h.front item others (length numbers) (sym c) ∙ bad;
      before = λ k l. some_is (number_at (items_of text) k) (get_or numbers k 0)
          (ap (λ x. number_at x k) whole ∙ number_front h.front item others k (omega arith) ∙ h.spelled k l);
    }

spelled_more : (front : List (List ℕ)) (numbers item : List ℕ) (n : ℕ) → length front ≡ length numbers
    → ((k : ℕ) → k < length numbers → number_at front k ≡ Some (get_or numbers k 0)) → number_at (item ∷ []) 0 ≡ Some n
    → (k : ℕ) → k < length (numbers ++ n ∷ []) → number_at (front ++ item ∷ []) k ≡ Some (get_or (numbers ++ n ∷ []) k 0)
spelled_more front numbers item n c h e k l = elim (cases_lt k (length numbers)) [
  | inl m ↦ number_front front item [] k (omega arith) ∙ h k m ∙ ap Some (sym (get_or_append_left numbers (n ∷ []) 0 k m))
  | inr m ↦
      let g = length_push numbers n in
      let last : k ≡ length numbers = omega arith in
      number_item front item [] k (last ∙ sym c) ∙ e ∙ ap Some (sym (get_or_at numbers n [] 0 k (sym last)))
]

-- one number more, with a comma behind it
pub read_more : (text rest more numbers item all : List ℕ) (n : ℕ) → IsReadUpTo text rest numbers → items_of rest ≡ item ∷ items_of more
    → number_at (item ∷ []) 0 ≡ Some n → all ≡ numbers ++ n ∷ [] → IsReadUpTo text more all
read_more text rest more numbers item all n h e number a = record {
  front = h.front ++ item ∷ [];
  same = h.same ∙ ap (λ x. h.front ++ x) e ∙ sym (append_assoc h.front (item ∷ []) (items_of more));
  count = omega (arith, length_push h.front item, ap (length {A = ℕ}) a, length_push numbers n, h.count);
  spelled = subst (λ (xs : List ℕ). (k : ℕ) → k < length xs → number_at (h.front ++ item ∷ []) k ≡ Some (get_or xs k 0)) (sym a) (spelled_more h.front numbers item n h.count h.spelled number);
}

-- the last number
pub read_all : (text rest numbers item all : List ℕ) (n : ℕ) → IsReadUpTo text rest numbers → items_of rest ≡ item ∷ []
    → number_at (item ∷ []) 0 ≡ Some n → all ≡ numbers ++ n ∷ [] → AreNumbers (items_of text) all
read_all text rest numbers item all n h e number a =
    let whole : items_of text ≡ h.front ++ item ∷ [] = h.same ∙ ap (λ x. h.front ++ x) e in
    record {
      count = omega (arith, ap (length {A = List ℕ}) whole, length_push h.front item, ap (length {A = ℕ}) a, length_push numbers n, h.count);
      spelled = λ k l. ap (λ x. number_at x k) whole
          ∙ subst (λ (xs : List ℕ). (k : ℕ) → k < length xs → number_at (h.front ++ item ∷ []) k ≡ Some (get_or xs k 0)) (sym a) (spelled_more h.front numbers item n h.count h.spelled number) k l;
    }
