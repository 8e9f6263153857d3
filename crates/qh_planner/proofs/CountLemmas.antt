-- The counts of the crossing gates, one gate more at a time.
use Rattle.std.proofs.Common.{◌≡◌, ℕ, zero, suc, ◌+◌, ◌-◌, ◌*◌, ◌^◌, ◌<◌, ◌≤◌, inl, inr, Bool, true, false, cond, nat_lt, nat_le, ◌&&◌, List, [], ◌∷◌, ◌++◌, length, get_or, take, drop, All, arith, refl, sym, ap, subst, ◌∙◌, length-drop}
use Rattle.std.proofs.Math.Pow.{pow_mono}
use Rattle.std.proofs.lemmas.Nat.{pow-add}
use Rattle.std.proofs.lemmas.List.{length_push, take_all, drop_all, take-append-le, drop-append-le, take_more}
use Rattle.std.proofs.lemmas.List.Sums.{sum_by-append, sum_by-cons}
use Rattle.std.proofs.lemmas.Bool.{cases_lt, cases_Bool, cond-true, cond-false, lt-ltb, le-ltb, lt-leb, le-leb}
use Rattle.qh_gates.specs.declared.gate.Gate.{Gate}
use Rattle.qh_gates.specs.Terms.{terms_of}
use Rattle.qh_plan.specs.Paths.{crosses, radices}
use Rattle.qh_plan.specs.Plans.{path_bits, term_bits}
use Rattle.qh_planner.specs.declared.crossing.Crossing.{Crossing}
use Rattle.qh_planner.specs.Counts.{IsCounted, IsSmall, one_more, below}

radices_append : (one : ℕ → Bool) (xs ys : List Gate) → radices one (xs ++ ys) ≡ radices one xs ++ radices one ys
radices_append one [] ys = refl
radices_append one (g ∷ gs) ys = elim (cases_Bool (crosses one g)) [
  | inl e ↦ rw e (ap (λ (t : List ℕ). length (terms_of g.kind) ∷ t) (radices_append one gs ys))
  | inr e ↦ rw e (radices_append one gs ys)
]

-- one gate more that crosses, or does not
pub radices_crossing : (one : ℕ → Bool) (gs : List Gate) (i : ℕ) (d : Gate) → i < length gs → crosses one (get_or gs i d) ≡ true
    → radices one (take (i + 1) gs) ≡ radices one (take i gs) ++ length (terms_of (get_or gs i d).kind) ∷ []
radices_crossing one gs i d l e =
    let g = get_or gs i d in
    ap (radices one) (take_more gs i d l)
    ∙ radices_append one (take i gs) (g ∷ [])
    ∙ ap (λ t. radices one (take i gs) ++ t) (cond-true (crosses one g) (length (terms_of g.kind) ∷ []) [] e)

pub radices_inside : (one : ℕ → Bool) (gs : List Gate) (i : ℕ) (d : Gate) → i < length gs → crosses one (get_or gs i d) ≡ false
    → radices one (take (i + 1) gs) ≡ radices one (take i gs)
radices_inside one gs i d l e =
    let g = get_or gs i d in
    ap (radices one) (take_more gs i d l)
    ∙ radices_append one (take i gs) (g ∷ [])
    ∙ ap (λ t. radices one (take i gs) ++ t) (cond-false (crosses one g) (length (terms_of g.kind) ∷ []) [] e)
    ∙ append-nil (radices one (take i gs))
  where
    append-nil : (xs : List ℕ) → xs ++ [] ≡ xs
    append-nil [] = refl
    append-nil (x ∷ xs) = ap (λ (t : List ℕ). x ∷ t) (append-nil xs)

bits_push : (rs : List ℕ) (n : ℕ) → path_bits (rs ++ n ∷ []) ≡ path_bits rs + term_bits n
bits_push rs n = sum_by-append term_bits rs (n ∷ []) ∙ ap (λ t. path_bits rs + t) (sum_by-cons term_bits n [] ∙ omega arith)

pub counted_none : (p r : ℕ) → IsCounted [] p r (record { gates = 0; paths = 0; prefixes = 0; roots = 0 })
counted_none p r = record {
  gates = refl;
  paths = refl;
  prefixes = sym (ap path_bits (take_all p [] (omega arith)));
  roots = sym (ap (λ t. path_bits (take r t)) (drop_all p [] (omega arith)) ∙ ap path_bits (take_all r [] (omega arith)));
}

-- the bits of the first p, with one gate more
front_more : (p n : ℕ) (rs : List ℕ) → path_bits (take p (rs ++ n ∷ [])) ≡ cond (nat_lt (length rs) p) (path_bits (take p rs) + term_bits n) (path_bits (take p rs))
front_more p n rs = elim (cases_lt (length rs) p) [
  | inl l ↦
      ap path_bits (take_all p (rs ++ n ∷ []) (let e = length_push rs n in omega arith))
      ∙ bits_push rs n
      ∙ ap (λ t. t + term_bits n) (sym (ap path_bits (take_all p rs (omega arith))))
      ∙ sym (cond-true (nat_lt (length rs) p) _ _ (lt-ltb (length rs) p l))
  | inr l ↦ ap path_bits (take-append-le p rs (n ∷ []) l) ∙ sym (cond-false (nat_lt (length rs) p) _ _ (le-ltb (length rs) p l))
]

-- whether a gate of this number is a root gate
root_test : (g p r m : ℕ) → p ≤ g → m ≡ g - p → (nat_le p g && nat_lt g (p + r)) ≡ nat_lt m r
root_test g p r m within e = elim (cases_lt m r) [
  | inl l ↦ both (nat_le p g) (nat_lt g (p + r)) true (le-leb p g within) (lt-ltb g (p + r) (omega arith)) ∙ sym (lt-ltb m r l)
  | inr l ↦ both (nat_le p g) (nat_lt g (p + r)) false (le-leb p g within) (le-ltb g (p + r) (omega arith)) ∙ sym (le-ltb m r l)
]
  where
    both : (s t u : Bool) → s ≡ true → t ≡ u → (s && t) ≡ u
    both s t u e f = rw e f

back_more : (p r n : ℕ) (rs : List ℕ) → path_bits (take r (drop p (rs ++ n ∷ [])))
    ≡ cond (nat_le p (length rs) && nat_lt (length rs) (p + r)) (path_bits (take r (drop p rs)) + term_bits n) (path_bits (take r (drop p rs)))
back_more p r n rs = elim (cases_lt (length rs) p) [
  | inl l ↦
      ap (λ t. path_bits (take r t)) (drop_all p (rs ++ n ∷ []) (let e = length_push rs n in omega arith) ∙ sym (drop_all p rs (omega arith)))
      ∙ sym (cond-false (nat_le p (length rs) && nat_lt (length rs) (p + r)) _ _ (outside (nat_le p (length rs)) _ (lt-leb p (length rs) l)))
  | inr l ↦
      ap (λ t. path_bits (take r t)) (drop-append-le p rs (n ∷ []) l)
      ∙ front_more r n (drop p rs)
      ∙ ap (λ t. cond t (path_bits (take r (drop p rs)) + term_bits n) (path_bits (take r (drop p rs))))
      (sym (root_test (length rs) p r (length (drop p rs)) l (length-drop p rs)))
]
  where
    outside : (s t : Bool) → s ≡ false → (s && t) ≡ false
    outside s t e = rw e refl

-- the counts with one gate more are those of the longer list
pub counted_more : (rs more : List ℕ) (p r n bits : ℕ) (x y : Crossing) → IsCounted rs p r x → bits ≡ term_bits n → more ≡ rs ++ n ∷ [] → y ≡ one_more p r bits x → IsCounted more p r y
counted_more rs more p r n bits x y h e longer is = subst (λ t. IsCounted t p r y) (sym longer) (subst (IsCounted (rs ++ n ∷ []) p r) (sym is) (record {
  gates = let l = length_push rs n in let g = h.gates in omega arith;
  paths = let b = bits_push rs n in let g = h.paths in omega arith;
  prefixes = in_front x.gates x.prefixes bits h.gates h.prefixes e ∙ sym (front_more p n rs);
  roots = in_back x.gates x.roots bits h.gates h.roots e ∙ sym (back_more p r n rs);
}))
  where
    in_front : (g f b : ℕ) → g ≡ length rs → f ≡ path_bits (take p rs) → b ≡ term_bits n
        → cond (nat_lt g p) (f + b) f ≡ cond (nat_lt (length rs) p) (path_bits (take p rs) + term_bits n) (path_bits (take p rs))
    in_front g f b eg ef eb = rw (eg, ef, eb) refl

    in_back : (g f b : ℕ) → g ≡ length rs → f ≡ path_bits (take r (drop p rs)) → b ≡ term_bits n
        → cond (nat_le p g && nat_lt g (p + r)) (f + b) f
        ≡ cond (nat_le p (length rs) && nat_lt (length rs) (p + r)) (path_bits (take r (drop p rs)) + term_bits n) (path_bits (take r (drop p rs)))
    in_back g f b eg ef eb = rw (eg, ef, eb) refl

-- and they stay small
pub small_more : (p r bits : ℕ) (x : Crossing) → IsSmall x → bits ≤ 2 → IsSmall (one_more p r bits x)
small_more p r bits x h few =
    let hp = h.paths in
    let ht = h.parts in
    record {
      paths = omega arith;
      parts = parts_more (nat_lt x.gates p) (nat_le p x.gates && nat_lt x.gates (p + r)) x.prefixes x.roots x.paths bits ht (apart x.gates);
    }
  where
    parts_more : (s t : Bool) (a b c n : ℕ) → a + b ≤ c → (s ≡ true → t ≡ false) → cond s (a + n) a + cond t (b + n) b ≤ c + n
    parts_more true true a b c n h f = absurd (never (f refl))
      where
        never : ◌≡◌ {A = Bool} true false → ⊥
        never e = cc
    parts_more true false a b c n h f = omega arith
    parts_more false true a b c n h f = omega arith
    parts_more false false a b c n h f = omega arith

    apart : (g : ℕ) → nat_lt g p ≡ true → (nat_le p g && nat_lt g (p + r)) ≡ false
    apart g e = elim (cases_lt g p) [
      | inl l ↦ outside (nat_le p g) _ (lt-leb p g l)
      | inr l ↦ absurd (never (sym e ∙ le-ltb g p l))
    ]
      where
        never : ◌≡◌ {A = Bool} true false → ⊥
        never e = cc

        outside : (s t : Bool) → s ≡ false → (s && t) ≡ false
        outside s t e = rw e refl

pub power_of_sum : (a b : ℕ) → 2 ^ (a + b) ≡ 2 ^ a * 2 ^ b
power_of_sum a b = pow-add 2 a b

-- the counts of the gates up to one more
pub counted_next : (m p r i : ℕ) (gs : List Gate) (d : Gate) (x y : Crossing) → i < length gs → IsCounted (radices (below m) (take i gs)) p r x
    → (crosses (below m) (get_or gs i d) ≡ true → y ≡ one_more p r (term_bits (length (terms_of (get_or gs i d).kind))) x)
    → (crosses (below m) (get_or gs i d) ≡ false → y ≡ x)
    → IsCounted (radices (below m) (take (i + 1) gs)) p r y
counted_next m p r i gs d x y l h across inside = elim (cases_Bool (crosses (below m) (get_or gs i d))) [
  | inl e ↦
      counted_more (radices (below m) (take i gs)) _ p r (length (terms_of (get_or gs i d).kind)) _ x y h refl (radices_crossing (below m) gs i d l e) (across e)
  | inr e ↦
      subst (λ t. IsCounted t p r y) (sym (radices_inside (below m) gs i d l e))
      (subst (IsCounted (radices (below m) (take i gs)) p r) (sym (inside e)) h)
]

pub few_numbers : (k : ℕ) → k ≤ 20 → 2 ^ k ≤ 2 ^ 20
few_numbers k l = pow_mono l
