-- The total of verdicts is over with the least path that one of them names, and else the sum of their sums.
use Rattle.std.proofs.Common.{◌≡◌, ℕ, zero, suc, ◌<◌, ◌≤◌, inl, inr, List, [], ◌∷◌, length, map, Option, Some, None, arith, refl, sym, ap, subst, ◌∙◌}
use Rattle.std.specs.Prelude.{min, unwrap_or}
use Rattle.std.proofs.Math.Path.{ap₂}
use Rattle.std.proofs.Math.Nat.{min-eq_left, min-eq_right}
use Rattle.std.proofs.lemmas.List.{length-map}
use Rattle.std.proofs.lemmas.Option.{none-some}
use Rattle.std.proofs.lemmas.Bool.{cases_eq, cases_lt}
use Rattle.qh_ring.specs.declared.number.Omega.{Omega}
use Rattle.qh_ring.specs.Numbers.{sum, nothing}
use Rattle.qh_ring.specs.States.{sum_below, at_index}
use Rattle.qh_ring.proofs.SumLemmas.{sum_nothing}
use Rattle.qh_plan.specs.declared.verdict.Verdict.{Verdict}
use Rattle.qh_plan.specs.declared.verdict.Verdict.TheVariants.{Sum, Over}
use Rattle.qh_plan.specs.Jobs.{Job, ranges}
use Rattle.qh_plan.specs.Verdicts.{added, merged_slot, total_below, total}
use Rattle.qh_plan.specs.Slots.{slot_number, path_in, AreFull, IsTotal}

path_in_is : (o : Option Verdict) (path : ℕ) → path_in o ≡ Some path → o ≡ Some (Over path)
path_in_is None path e = absurd (none-some path e)
path_in_is (Some (Sum sums)) path e = absurd (none-some path e)
path_in_is (Some (Over p)) path e = ap (λ q. Some (Over (unwrap_or q 0))) e

-- two lists of sums of one length, added
pub length-added : (xs ys : List Omega) (n : ℕ) → length xs ≡ n → length ys ≡ n → length (added xs ys) ≡ n
length-added [] ys n e f = e
length-added (x ∷ xs) [] n e f = absurd (omega arith)
length-added (x ∷ xs) (y ∷ ys) zero e f = absurd (omega arith)
length-added (x ∷ xs) (y ∷ ys) (suc n) e f = ap suc (length-added xs ys n (omega arith) (omega arith))

pub at_added : (xs ys : List Omega) (k : ℕ) → length xs ≡ length ys → k < length xs → at_index (added xs ys) k ≡ sum (at_index xs k) (at_index ys k)
at_added [] ys k e l = absurd (omega arith)
at_added (x ∷ xs) [] k e l = absurd (omega arith)
at_added (x ∷ xs) (y ∷ ys) zero e l = refl
at_added (x ∷ xs) (y ∷ ys) (suc k) e l = at_added xs ys k (omega arith) (omega arith)

pub nothing_at : (bits : List ℕ) (k : ℕ) → k < length bits → at_index (map (λ b. nothing) bits) k ≡ nothing
nothing_at [] k l = absurd (omega arith)
nothing_at (b ∷ bits) zero l = refl
nothing_at (b ∷ bits) (suc k) l = nothing_at bits k (omega arith)

module _ (bits : List ℕ) (slots : ℕ → Option Verdict) (full : (i : ℕ) (sums : List Omega) → slots i ≡ Some (Sum sums) → length sums ≡ length bits) where
  -- what a verdict says of the slots below n
  Says : ℕ → Verdict → Type 0
  Says n (Over path) = (i : ℕ) × (i < n) × (path_in (slots i) ≡ Some path) × ((i q : ℕ) → i < n → path_in (slots i) ≡ Some q → path ≤ q)
  Says n (Sum sums) = ((i q : ℕ) → i < n → path_in (slots i) ≡ Some q → ⊥) × (length sums ≡ length bits)
      × ((k : ℕ) → k < length bits → at_index sums k ≡ sum_below n (λ i. slot_number (slots i) k))

  -- a slot that names no path
  none_here : (n : ℕ) (o : Option Verdict) → slots n ≡ o → path_in o ≡ None → (i q : ℕ) → i ≡ n → path_in (slots i) ≡ Some q → ⊥
  none_here n o e f i q s g = none-some q (sym f ∙ ap path_in (sym e) ∙ ap (λ i. path_in (slots i)) (sym s) ∙ g)

  -- a slot that names one
  this_here : (n p : ℕ) → slots n ≡ Some (Over p) → (i q : ℕ) → i ≡ n → path_in (slots i) ≡ Some q → p ≡ q
  this_here n p e i q s g = ap (λ o. unwrap_or o 0) (ap path_in (sym e) ∙ ap (λ i. path_in (slots i)) (sym s) ∙ g)

  over_more : (n path : ℕ) (o : Option Verdict) → slots n ≡ o → path_in o ≡ None → Says n (Over path) → Says (suc n) (Over path)
  unfolding Says
  over_more n path o e f h = (
    h.0,
    let l = h.1 in omega arith,
    h.2,
    λ i q l g. elim (cases_eq i n) [
      | inl s ↦ absurd (none_here n o e f i q s g)
      | inr ne ↦ h.3 i q (omega arith) g
    ],
  )

  none_more : (n : ℕ) (o : Option Verdict) → slots n ≡ o → path_in o ≡ None → ((i q : ℕ) → i < n → path_in (slots i) ≡ Some q → ⊥)
      → (i q : ℕ) → i < suc n → path_in (slots i) ≡ Some q → ⊥
  none_more n o e f h i q l g = elim (cases_eq i n) [
    | inl s ↦ none_here n o e f i q s g
    | inr ne ↦ h i q (omega arith) g
  ]

  says_more : (n : ℕ) (v : Verdict) (o : Option Verdict) → slots n ≡ o → Says n v → Says (suc n) (merged_slot v o)
  unfolding Says
  says_more n (Over p) None e h = over_more n p None e refl h
  says_more n (Over p) (Some (Sum t)) e h = over_more n p (Some (Sum t)) e refl h
  says_more n (Sum s) None e h = (
    none_more n None e refl h.0,
    h.1,
    λ k l. h.2 k l ∙ sym (ap (λ o. sum (sum_below n (λ i. slot_number (slots i) k)) (slot_number o k)) e ∙ sum_nothing _),
  )
  says_more n (Sum s) (Some (Sum t)) e h =
      let m : length t ≡ length bits = full n t e in (
        none_more n (Some (Sum t)) e refl h.0,
        length-added s t (length bits) h.1 m,
        λ k l. at_added s t k (h.1 ∙ sym m) (subst (λ n. k < n) (sym h.1) l)
            ∙ ap₂ sum (h.2 k l) (sym (ap (λ o. slot_number o k) e)),
      )
  says_more n (Sum s) (Some (Over q)) e h = (
    n,
    omega arith,
    ap path_in e,
    λ i r l g. elim (cases_eq i n) [
      | inl s ↦ let same : q ≡ r = this_here n q e i r s g in omega arith
      | inr ne ↦ absurd (h.0 i r (omega arith) g)
    ],
  )
  says_more n (Over p) (Some (Over q)) e h = elim (cases_lt q p) [
    | inl b ↦ subst (λ t. Says (suc n) (Over t)) (sym (right p q b)) (
      n,
      omega arith,
      ap path_in e,
      λ i r l g. elim (cases_eq i n) [
        | inl s ↦ let same : q ≡ r = this_here n q e i r s g in omega arith
        | inr ne ↦ let c : p ≤ r = h.3 i r (omega arith) g in omega arith
      ],
    )
    | inr b ↦ subst (λ t. Says (suc n) (Over t)) (sym (left p q b)) (
      h.0,
      let l = h.1 in omega arith,
      h.2,
      λ i r l g. elim (cases_eq i n) [
        | inl s ↦ let same : q ≡ r = this_here n q e i r s g in omega arith
        | inr ne ↦ h.3 i r (omega arith) g
      ],
    )
  ]
    where
      right : (p q : ℕ) → q < p → min p q ≡ q
      right p q b = min-eq_right (omega arith)

      left : (p q : ℕ) → p ≤ q → min p q ≡ p
      left p q b = min-eq_left b

  says_total : (n : ℕ) → Says n (total_below bits slots n)
  unfolding Says
  says_total zero = (λ i q l. absurd (omega arith), length-map bits (λ b. nothing), λ k l. nothing_at bits k l)
  says_total (suc n) = says_more n (total_below bits slots n) (slots n) refl (says_total n)

pub is_total : (j : Job) (slots : ℕ → Option Verdict) → AreFull j slots → IsTotal j slots
unfolding Says
is_total j slots full =
    let says = λ (v : Verdict) (e : total j slots ≡ v). subst (Says j.bits slots full (ranges j)) e (says_total j.bits slots full (ranges j)) in
    record {
      over = λ path e. let s = says (Over path) e in record { range = s.0; below = s.1; is = path_in_is (slots s.0) path s.2 };
      least = λ path other e n. let s = says (Over path) e in s.3 n.range other n.below (ap path_in n.is);
      none = λ sums e path n. let s = says (Sum sums) e in s.0 n.range path n.below (ap path_in n.is);
      full = λ sums e. let s = says (Sum sums) e in s.1;
      sum = λ sums e. let s = says (Sum sums) e in s.2;
    }
