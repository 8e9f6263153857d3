-- The gates placed in a part, against the part's operations along a path.
use Rattle.std.proofs.Common.{◌≡◌, ◌≢◌, ◌==◌, ℕ, zero, suc, ◌+◌, ◌<◌, inl, inr, Bool, true, false, ◌||◌, cond, count_by, if◌then◌else◌, List, [], ◌∷◌, ◌++◌, length, map, get_or, take, drop, Option, Some, None, IfSome, arith, refl, sym, ap, subst, ◌∙◌}
use Rattle.std.proofs.Math.Path.{ap₂}
use Rattle.std.specs.List.{All, cons_option}
use Rattle.std.proofs.lemmas.List.{take_more, length-append, get_or_append_left, get_or_at}
use Rattle.std.proofs.lemmas.List.Sums.{sum_by-cons}
use Rattle.std.proofs.lemmas.List.Elements.{All-head, All-tail, All-cons, filter_map-append}
use Rattle.std.proofs.lemmas.Bool.{cases_Bool, cases_lt, ne_eqb, eq-eqb, false≢true}
use Rattle.qh_ring.specs.Matrices.{number_in}
use Rattle.qh_gates.specs.declared.gate.Gate.{Gate}
use Rattle.qh_gates.specs.Tables.{qubits_of, matrix_of}
use Rattle.qh_gates.specs.Terms.{terms_of}
use Rattle.qh_gates.specs.Circuits.{Fits}
use Rattle.qh_gates.specs.Evolution.{Operation}
use Rattle.qh_plan.specs.Parts.{others, count_below}
use Rattle.qh_plan.specs.Jobs.{Job, in_one, job_radices}
use Rattle.qh_plan.specs.Paths.{differ, crosses, radices}
use Rattle.qh_gates.proofs.KindLemmas.{one_or_two}
use Rattle.qh_plan.specs.PathValues.{other_digits}
use Rattle.qh_plan.specs.Halves.{half_operations}
use Rattle.qh_plan.proofs.PartLemmas.{count_lt}
use Rattle.qh_plan.proofs.HalfLemmas.{half_first, half_second, half_local, half_none, crosses_others}
use Rattle.qh_prefix.specs.declared.place.Placed.{Placed}
use Rattle.qh_prefix.specs.declared.place.Placed.TheVariants.{OnOne, OnTwo, FirstHere, SecondHere}
use Rattle.qh_prefix.specs.declared.part.Part.{Part}
use Rattle.qh_prefix.specs.declared.part.Part.TheVariants.{One, Two}
use Rattle.qh_prefix.specs.Parts.{in_part, acts_in, number_of, numbers_below}
use Rattle.qh_prefix.specs.Places.{place_at, place, placed, term_counts, operations, IsPlacedIn}

-- ---- one gate more
pub placed_append : (one : ℕ → Bool) (xs ys : List Gate) → placed one (xs ++ ys) ≡ placed one xs ++ placed one ys
placed_append one xs ys = filter_map-append (place one) xs ys

pub placed_more : (one : ℕ → Bool) (gates : List Gate) (i : ℕ) (z : Gate) → i < length gates
    → placed one (take (i + 1) gates) ≡ placed one (take i gates) ++ cons_option (place one (get_or gates i z)) []
placed_more one gates i z l = ap (placed one) (take_more gates i z l) ∙ placed_append one (take i gates) (get_or gates i z ∷ [])

-- ---- where a gate is placed
number_here : (one : ℕ → Bool) (q : ℕ) → one q ≡ true → number_of one q ≡ Some (count_below one q)
number_here one q e = rw e refl

number_away : (one : ℕ → Bool) (q : ℕ) → one q ≡ false → number_of one q ≡ None
number_away one q e = rw e refl

module _ (one : ℕ → Bool) (g : Gate) where
  inside : Bool → Placed
  inside two = if two then OnTwo g.kind (count_below one g.q0) (count_below one g.q1) else OnOne g.kind (count_below one g.q0)

  place_both : one g.q0 ≡ true → one g.q1 ≡ true → place one g ≡ Some (inside (qubits_of g.kind == 2))
  unfolding inside
  place_both e f = ap₂ (place_at g) (number_here one g.q0 e) (number_here one g.q1 f)

  place_first : one g.q0 ≡ true → one g.q1 ≡ false → place one g ≡ Some (FirstHere g.kind (count_below one g.q0))
  place_first e f = ap₂ (place_at g) (number_here one g.q0 e) (number_away one g.q1 f)

  place_second : one g.q0 ≡ false → one g.q1 ≡ true → place one g ≡ Some (SecondHere g.kind (count_below one g.q1))
  place_second e f = ap₂ (place_at g) (number_away one g.q0 e) (number_here one g.q1 f)

  place_none : one g.q0 ≡ false → one g.q1 ≡ false → place one g ≡ None
  place_none e f = ap₂ (place_at g) (number_away one g.q0 e) (number_away one g.q1 f)

  inside_operations : (two : Bool) (ps : List Placed) (ds : List ℕ)
      → operations (inside two ∷ ps) ds
      ≡ record { matrix = number_in (matrix_of g.kind); qubits = map (count_below one) (if two then g.q0 ∷ g.q1 ∷ [] else g.q0 ∷ []) } ∷ operations ps ds
  unfolding inside
  inside_operations true ps ds = refl
  inside_operations false ps ds = refl

  inside_counts : (two : Bool) (ps : List Placed) → term_counts (inside two ∷ ps) ≡ term_counts ps
  unfolding inside
  inside_counts true ps = refl
  inside_counts false ps = refl

cons_same : (o : Operation) (os ps : List Operation) → os ≡ ps → o ∷ os ≡ o ∷ ps
cons_same o os ps e = ap (λ t. o ∷ t) e

rest_is : (ds : List ℕ) → drop 1 ds ≡ other_digits ds
rest_is [] = refl
rest_is (d ∷ ds) = refl

-- along each path the placed gates are the part's operations
pub operations_placed : (one : ℕ → Bool) (gs : List Gate) (ds : List ℕ) → operations (placed one gs) ds ≡ half_operations one gs ds
operations_placed one [] ds = refl
operations_placed one (g ∷ gs) ds = elim (cases_Bool (one g.q0)) [
  | inl e ↦ elim (cases_Bool (one g.q1)) [
    | inl f ↦
        ap (λ o. operations (cons_option o (placed one gs)) ds) (place_both one g e f)
        ∙ inside_operations one g (qubits_of g.kind == 2) (placed one gs) ds
        ∙ cons_same _ _ _ (operations_placed one gs ds)
        ∙ sym (half_local one g gs ds (ap₂ differ e f) e)
    | inr f ↦
        ap (λ o. operations (cons_option o (placed one gs)) ds) (place_first one g e f)
        ∙ cons_same _ _ _ (ap (operations (placed one gs)) (rest_is ds) ∙ operations_placed one gs (other_digits ds))
        ∙ sym (half_first one g gs ds (ap₂ differ e f) e)
  ]
  | inr e ↦ elim (cases_Bool (one g.q1)) [
    | inl f ↦
        ap (λ o. operations (cons_option o (placed one gs)) ds) (place_second one g e f)
        ∙ cons_same _ _ _ (ap (operations (placed one gs)) (rest_is ds) ∙ operations_placed one gs (other_digits ds))
        ∙ sym (half_second one g gs ds (ap₂ differ e f) e)
    | inr f ↦
        ap (λ o. operations (cons_option o (placed one gs)) ds) (place_none one g e f)
        ∙ operations_placed one gs ds
        ∙ sym (half_none one g gs ds (ap₂ differ e f) e)
  ]
]

-- they take a digit for each crossing gate
pub counts_placed : (one : ℕ → Bool) (gs : List Gate) → term_counts (placed one gs) ≡ radices one gs
counts_placed one [] = refl
counts_placed one (g ∷ gs) = elim (cases_Bool (one g.q0)) [
  | inl e ↦ elim (cases_Bool (one g.q1)) [
    | inl f ↦
        ap (λ o. term_counts (cons_option o (placed one gs))) (place_both one g e f)
        ∙ inside_counts one g (qubits_of g.kind == 2) (placed one gs) ∙ counts_placed one gs ∙ sym (not_crossing one g gs (ap₂ differ e f))
    | inr f ↦
        ap (λ o. term_counts (cons_option o (placed one gs))) (place_first one g e f)
        ∙ ap (λ rs. length (terms_of g.kind) ∷ rs) (counts_placed one gs) ∙ sym (crossing_more one g gs (ap₂ differ e f))
  ]
  | inr e ↦ elim (cases_Bool (one g.q1)) [
    | inl f ↦
        ap (λ o. term_counts (cons_option o (placed one gs))) (place_second one g e f)
        ∙ ap (λ rs. length (terms_of g.kind) ∷ rs) (counts_placed one gs) ∙ sym (crossing_more one g gs (ap₂ differ e f))
    | inr f ↦
        ap (λ o. term_counts (cons_option o (placed one gs))) (place_none one g e f)
        ∙ counts_placed one gs ∙ sym (not_crossing one g gs (ap₂ differ e f))
  ]
]
  where
    not_crossing : (one : ℕ → Bool) (g : Gate) (gs : List Gate) → crosses one g ≡ false → radices one (g ∷ gs) ≡ radices one gs
    not_crossing one g gs e = rw e refl

    crossing_more : (one : ℕ → Bool) (g : Gate) (gs : List Gate) → crosses one g ≡ true → radices one (g ∷ gs) ≡ length (terms_of g.kind) ∷ radices one gs
    crossing_more one g gs e = rw e refl

-- there is one for each gate that acts in the part
pub length_placed : (one : ℕ → Bool) (gs : List Gate) → length (placed one gs) ≡ count_by (acts_in one) gs
length_placed one [] = refl
length_placed one (g ∷ gs) = elim (cases_Bool (one g.q0)) [
  | inl e ↦ elim (cases_Bool (one g.q1)) [
    | inl f ↦ ap (λ o. length (cons_option o (placed one gs))) (place_both one g e f) ∙ ap suc (length_placed one gs) ∙ sym (counted one g gs (ap₂ (λ b c. b || c) e f))
    | inr f ↦ ap (λ o. length (cons_option o (placed one gs))) (place_first one g e f) ∙ ap suc (length_placed one gs) ∙ sym (counted one g gs (ap₂ (λ b c. b || c) e f))
  ]
  | inr e ↦ elim (cases_Bool (one g.q1)) [
    | inl f ↦ ap (λ o. length (cons_option o (placed one gs))) (place_second one g e f) ∙ ap suc (length_placed one gs) ∙ sym (counted one g gs (ap₂ (λ b c. b || c) e f))
    | inr f ↦ ap (λ o. length (cons_option o (placed one gs))) (place_none one g e f) ∙ length_placed one gs ∙ sym (uncounted one g gs (ap₂ (λ b c. b || c) e f))
  ]
]
  where
    counted : (one : ℕ → Bool) (g : Gate) (gs : List Gate) → acts_in one g ≡ true → count_by (acts_in one) (g ∷ gs) ≡ suc (count_by (acts_in one) gs)
    counted one g gs e = sum_by-cons (λ y. cond (acts_in one y) 1 0) g gs ∙ ap (λ b. cond b 1 0 + count_by (acts_in one) gs) e ∙ omega arith

    uncounted : (one : ℕ → Bool) (g : Gate) (gs : List Gate) → acts_in one g ≡ false → count_by (acts_in one) (g ∷ gs) ≡ count_by (acts_in one) gs
    uncounted one g gs e = sum_by-cons (λ y. cond (acts_in one y) 1 0) g gs ∙ ap (λ b. cond b 1 0 + count_by (acts_in one) gs) e ∙ omega arith

-- ---- a gate that fits the circuit fits its place
-- two qubits of a part have two numbers there
numbers_differ : (one : ℕ → Bool) (p q : ℕ) → one p ≡ true → one q ≡ true → q ≢ p → count_below one p ≢ count_below one q
numbers_differ one p q s t ne e = elim (cases_lt p q) [
  | inl l ↦ let h = count_lt one p q s l in absurd (omega arith)
  | inr l ↦ let h = count_lt one q p t (omega arith) in absurd (omega arith)
]

pub crossing_two : (g : Gate) (n : ℕ) → Fits n g → g.q1 ≢ g.q0 → qubits_of g.kind ≡ 2
crossing_two g n f ne = elim (one_or_two g.kind) [ inl k ↦ absurd (ne (f.one k)) | inr k ↦ k ]

apart : (one : ℕ → Bool) (p q : ℕ) (a b : Bool) → one p ≡ a → one q ≡ b → (a ≡ b → ⊥) → q ≢ p
apart one p q a b e f ne same = ne (sym e ∙ ap one (sym same) ∙ f)

inside_one : (one : ℕ → Bool) (n : ℕ) (g : Gate) → Fits n g → one g.q0 ≡ true → qubits_of g.kind ≡ 1 → IsPlacedIn (count_below one n) (inside one g false)
unfolding inside
inside_one one n g f e k = (k, count_lt one g.q0 n e f.first)

inside_two : (one : ℕ → Bool) (n : ℕ) (g : Gate) → Fits n g → one g.q0 ≡ true → one g.q1 ≡ true → qubits_of g.kind ≡ 2 → IsPlacedIn (count_below one n) (inside one g true)
unfolding inside
inside_two one n g f e h k = (k, count_lt one g.q0 n e f.first, count_lt one g.q1 n h f.second, numbers_differ one g.q0 g.q1 e h (f.two k))

inside_fits : (one : ℕ → Bool) (n : ℕ) (g : Gate) → Fits n g → one g.q0 ≡ true → one g.q1 ≡ true → IsPlacedIn (count_below one n) (inside one g (qubits_of g.kind == 2))
inside_fits one n g f e h = elim (one_or_two g.kind) [
  | inl k ↦ subst (λ b. IsPlacedIn (count_below one n) (inside one g b)) (sym (ne_eqb _ _ (λ two. one_not_two (qubits_of g.kind) k two))) (inside_one one n g f e k)
  | inr k ↦ subst (λ b. IsPlacedIn (count_below one n) (inside one g b)) (sym (eq-eqb _ _ k)) (inside_two one n g f e h k)
]
  where
    one_not_two : (n : ℕ) → n ≡ 1 → n ≡ 2 → ⊥
    one_not_two n e f = omega arith

pub place_fits : (one : ℕ → Bool) (n : ℕ) (g : Gate) → Fits n g → IfSome (place one g) (IsPlacedIn (count_below one n))
place_fits one n g f = elim (cases_Bool (one g.q0)) [
  | inl e ↦ elim (cases_Bool (one g.q1)) [
    | inl h ↦ subst (λ o. IfSome o (IsPlacedIn (count_below one n))) (sym (place_both one g e h)) (inside_fits one n g f e h)
    | inr h ↦ subst (λ o. IfSome o (IsPlacedIn (count_below one n))) (sym (place_first one g e h))
        (crossing_two g n f (apart one g.q0 g.q1 true false e h (λ t. false≢true (sym t))), count_lt one g.q0 n e f.first)
  ]
  | inr e ↦ elim (cases_Bool (one g.q1)) [
    | inl h ↦ subst (λ o. IfSome o (IsPlacedIn (count_below one n))) (sym (place_second one g e h))
        (crossing_two g n f (apart one g.q0 g.q1 false true e h false≢true), count_lt one g.q1 n h f.second)
    | inr h ↦ subst (λ o. IfSome o (IsPlacedIn (count_below one n))) (sym (place_none one g e h)) tt
  ]
]

pub placed_fit : (one : ℕ → Bool) (n : ℕ) (gs : List Gate) → All (Fits n) gs → All (IsPlacedIn (count_below one n)) (placed one gs)
placed_fit one n [] h = λ i d l. absurd (omega arith)
placed_fit one n (g ∷ gs) h = kept (place one g) (placed one gs) (place_fits one n g (All-head (Fits n) g gs h)) (placed_fit one n gs (All-tail (Fits n) g gs h))
  where
    kept : (o : Option Placed) (ps : List Placed) → IfSome o (IsPlacedIn (count_below one n)) → All (IsPlacedIn (count_below one n)) ps → All (IsPlacedIn (count_below one n)) (cons_option o ps)
    kept None ps h t = t
    kept (Some p) ps h t = All-cons (IsPlacedIn (count_below one n)) p ps h t

-- ---- both parts take their digits from those of the job's path
pub radices_others : (one : ℕ → Bool) (gs : List Gate) → radices (others one) gs ≡ radices one gs
radices_others one [] = refl
radices_others one (g ∷ gs) = elim (cases_Bool (crosses one g)) [
  | inl e ↦ let f : crosses (others one) g ≡ true = crosses_others one g ∙ e in rw (e, f) (ap (λ t. length (terms_of g.kind) ∷ t) (radices_others one gs))
  | inr e ↦ let f : crosses (others one) g ≡ false = crosses_others one g ∙ e in rw (e, f) (radices_others one gs)
]

pub radices_in : (part : Part) (j : Job) → radices (in_part part j) j.circuit.gates ≡ job_radices j
radices_in One j = refl
radices_in Two j = radices_others (in_one j) j.circuit.gates

-- ---- the list that the code makes
pub length_numbers : (one : ℕ → Bool) (n : ℕ) → length (numbers_below one n) ≡ n
length_numbers one zero = refl
length_numbers one (suc n) = length-append (numbers_below one n) (number_of one n ∷ []) ∙ (let h = length_numbers one n in omega arith)

pub number_at : (one : ℕ → Bool) (n q : ℕ) (d : Option ℕ) → q < n → get_or (numbers_below one n) q d ≡ number_of one q
number_at one zero q d l = absurd (omega arith)
number_at one (suc n) q d l = elim (cases_lt q n) [
  | inl h ↦ get_or_append_left (numbers_below one n) (number_of one n ∷ []) d q (let e = length_numbers one n in omega arith) ∙ number_at one n q d h
  | inr h ↦
      let e : q ≡ n = omega arith in
      get_or_at (numbers_below one n) (number_of one n) [] d q (length_numbers one n ∙ sym e) ∙ ap (number_of one) (sym e)
]

pub push_place : (one : ℕ → Bool) (gates : List Gate) (i : ℕ) (z : Gate) (first second : Option ℕ) (here : Option Placed) → i < length gates
    → first ≡ number_of one (get_or gates i z).q0 → second ≡ number_of one (get_or gates i z).q1 → here ≡ place_at (get_or gates i z) first second
    → placed one (take (i + 1) gates) ≡ placed one (take i gates) ++ cons_option here []
push_place one gates i z first second here l e f h =
    placed_more one gates i z l ∙ ap (λ o. placed one (take i gates) ++ cons_option o []) (sym (h ∙ ap₂ (place_at (get_or gates i z)) e f))
