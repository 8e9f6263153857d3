-- What placed gates do to a half, one after another.
use Rattle.std.proofs.Common.{◌≡◌, ℕ, zero, suc, ◌+◌, ◌<◌, ◌≤◌, inl, inr, true, List, [], ◌∷◌, ◌++◌, length, get_or, take, drop, Option, Some, None, arith, refl, sym, ap, subst, ◌∙◌}
use Rattle.std.specs.List.{All, AllZip}
use Rattle.std.proofs.lemmas.List.{take_more, take_all, length-append, get_or-drop, drop-drop, append_assoc}
use Rattle.std.proofs.lemmas.List.Elements.{All-push}
use Rattle.std.proofs.lemmas.List.Sums.{fold-append}
use Rattle.std.proofs.lemmas.Bool.{cases_Bool}
use Rattle.qh_ring.specs.declared.number.Omega.{Omega}
use Rattle.qh_ring.specs.Numbers.{IsWithin}
use Rattle.qh_ring.specs.Matrices.{number_in}
use Rattle.qh_ring.specs.States.{applied, listed}
use Rattle.qh_ring.specs.Laws.{AllLess}
use Rattle.qh_ring.proofs.ListedLemmas.{applied_listed}
use Rattle.qh_ring.specs.declared.matrix.Entry.{Entry}
use Rattle.qh_gates.specs.declared.kind.Kind.{Kind}
use Rattle.qh_gates.specs.Tables.{matrix_of}
use Rattle.qh_gates.specs.Terms.{term_at}
use Rattle.qh_gates.specs.Evolution.{Operation}
use Rattle.qh_passes.specs.declared.turn.Turn.{Turn}
use Rattle.qh_passes.specs.declared.turn.Turn.TheVariants.{One, Two}
use Rattle.qh_passes.specs.Turns.{matrix_in, qubits_in, IsTurnIn}
use Rattle.qh_half.specs.Halves.{AfterMatrix, AfterTurns}
use Rattle.qh_half.proofs.RunsLemmas.{runs_split}
use Rattle.qh_plan.specs.PathValues.{first_digit}
use Rattle.qh_plan.specs.MeaningLimits.{state_fits}
use Rattle.qh_plan.specs.Traces.{kept_where, half_step, half_after, HoldsHalf}
use Rattle.qh_plan.proofs.LimitLemmas.{fits_listed, listed_fits}
use Rattle.qh_prefix.specs.declared.place.Placed.{Placed}
use Rattle.qh_prefix.specs.declared.place.Placed.TheVariants.{OnOne, OnTwo, FirstHere, SecondHere}
use Rattle.qh_prefix.specs.Places.{operation_by, choices, term_counts, operations, HasTerm}
use Rattle.qh_prefix.specs.Runs.{operation_in, IsAfter}

-- ---- one matrix on a half
step_some : (n : ℕ) (v : ℕ → Omega) (m : ℕ → ℕ → Omega) (qs : List ℕ) (new : Option (List Omega)) → AllLess n qs
    → AfterMatrix m qs (Some (listed n v)) new → HoldsHalf n (half_step n (Some v) (record { matrix = m; qubits = qs })) new
step_some n v m qs None h a = elim (cases_Bool (state_fits n (applied m qs v))) [
  | inl e ↦ absurd (a (subst (All (IsWithin 126)) (sym (applied_listed n m qs v h)) (fits_listed n (applied m qs v) e)))
  | inr e ↦ subst (λ b. HoldsHalf n (kept_where b (applied m qs v)) None) (sym e) refl
]
step_some n v m qs (Some w) h a =
    let e : w ≡ listed n (applied m qs v) = a.0 ∙ applied_listed n m qs v h in
    let f : state_fits n (applied m qs v) ≡ true = listed_fits n (applied m qs v) (subst (All (IsWithin 126)) e a.1) in
    subst (λ b. HoldsHalf n (kept_where b (applied m qs v)) (Some w)) (sym f) (ap Some e)

step_half : (n : ℕ) (o : Option (ℕ → Omega)) (m : ℕ → ℕ → Omega) (qs : List ℕ) (old new : Option (List Omega)) → AllLess n qs
    → HoldsHalf n o old → AfterMatrix m qs old new → HoldsHalf n (half_step n o (record { matrix = m; qubits = qs })) new
step_half n None m qs old new l h a = subst (λ t. AfterMatrix m qs t new) h a
step_half n (Some v) m qs old new l h a = step_some n v m qs new l (subst (λ t. AfterMatrix m qs t new) h a)

pub after_one : (n : ℕ) (old new : Option (List Omega)) (m : ℕ → ℕ → Omega) (qs : List ℕ) → AllLess n qs
    → AfterMatrix m qs old new → IsAfter n (record { matrix = m; qubits = qs } ∷ []) old new
after_one n old new m qs l a = record { step = λ o h. step_half n o m qs old new l h a }

pub after_none : (n : ℕ) (old : Option (List Omega)) → IsAfter n [] old old
after_none n old = record { step = λ o h. h }

pub after_append : (n : ℕ) (os ps : List Operation) (a b c : Option (List Omega)) → IsAfter n os a b → IsAfter n ps b c → IsAfter n (os ++ ps) a c
after_append n os ps a b c s t = record {
  step = λ o h. subst (λ r. HoldsHalf n r c) (sym (fold-append (half_step n) o os ps)) (t.step (half_after n o os) (s.step o h));
}

-- ---- gates in order
pub counts_append : (ps qs : List Placed) → term_counts (ps ++ qs) ≡ term_counts ps ++ term_counts qs
counts_append [] qs = refl
counts_append (p ∷ ps) qs = ap (λ t. choices p ++ t) (counts_append ps qs) ∙ sym (append_assoc (choices p) (term_counts ps) (term_counts qs))

pub operations_append : (ps qs : List Placed) (ds : List ℕ)
    → operations (ps ++ qs) ds ≡ operations ps ds ++ operations qs (drop (length (term_counts ps)) ds)
operations_append [] qs ds = refl
operations_append (p ∷ ps) qs ds =
    let e : drop (length (term_counts ps)) (drop (length (choices p)) ds) ≡ drop (length (term_counts (p ∷ ps))) ds =
    drop-drop (length (term_counts ps)) (length (choices p)) ds ∙ ap (λ k. drop k ds) (sym (length-append (choices p) (term_counts ps))) in
    ap (λ os. operation_by p (first_digit ds) ∷ os) (operations_append ps qs (drop (length (choices p)) ds)
    ∙ ap (λ es. operations ps (drop (length (choices p)) ds) ++ operations qs es) e)

-- the next digit is the number of a term of the next gate, where it takes one
term_fits : (ps : List Placed) (ds : List ℕ) (i : ℕ) (z : Placed) → AllZip (λ d r. d < r) ds (term_counts ps) → i < length ps
    → HasTerm (get_or ds (length (term_counts (take i ps))) 0) (get_or ps i z)
term_fits [] ds i z a l = absurd (omega arith)
term_fits (OnOne kind q ∷ ps) ds zero z a l = tt
term_fits (OnTwo kind p q ∷ ps) ds zero z a l = tt
term_fits (FirstHere kind q ∷ ps) [] zero z a l = absurd a
term_fits (FirstHere kind q ∷ ps) (d ∷ ds) zero z a l = a.0
term_fits (SecondHere kind q ∷ ps) [] zero z a l = absurd a
term_fits (SecondHere kind q ∷ ps) (d ∷ ds) zero z a l = a.0
term_fits (OnOne kind q ∷ ps) ds (suc i) z a l = term_fits ps ds i z a (omega arith)
term_fits (OnTwo kind p q ∷ ps) ds (suc i) z a l = term_fits ps ds i z a (omega arith)
term_fits (FirstHere kind q ∷ ps) [] (suc i) z a l = absurd a
term_fits (FirstHere kind q ∷ ps) (d ∷ ds) (suc i) z a l = term_fits ps ds i z a.1 (omega arith)
term_fits (SecondHere kind q ∷ ps) [] (suc i) z a l = absurd a
term_fits (SecondHere kind q ∷ ps) (d ∷ ds) (suc i) z a l = term_fits ps ds i z a.1 (omega arith)

first_is : (ds : List ℕ) → first_digit ds ≡ get_or ds 0 0
first_is [] = refl
first_is (d ∷ ds) = refl

next_is : (ds : List ℕ) (u : ℕ) → first_digit (drop u ds) ≡ get_or ds u 0
next_is ds u = let e : u + 0 ≡ u = omega arith in first_is (drop u ds) ∙ get_or-drop u ds 0 0 ∙ ap (λ k. get_or ds k 0) e

-- after the first i gates: so many digits are taken, and what the piece still owes the half comes to what these gates do
pub record IsGathering (m : ℕ) (ps : List Placed) (ds : List ℕ) (i used size before now : ℕ) (old numbers : Option (List Omega)) (piece : List Turn) : Type 0 where
  pub used_is : used ≡ length (term_counts (take i ps))
  pub few : used ≤ i
  pub size_is : size ≡ m
  pub steps : now + length piece ≡ before + i
  pub fit : All (IsTurnIn m) piece
  pub after : (new : Option (List Omega)) → AfterTurns piece numbers new → IsAfter m (operations (take i ps) ds) old new

pub gathering_none : (m : ℕ) (ps : List Placed) (ds : List ℕ) (size before : ℕ) (old : Option (List Omega)) → size ≡ m → IsGathering m ps ds 0 0 size before before old old []
gathering_none m ps ds size before old e = record {
  used_is = refl;
  few = omega arith;
  size_is = e;
  steps = omega arith;
  fit = λ i d l. absurd (omega arith);
  after = λ new h. subst (λ t. IsAfter m [] old t) (sym h) (after_none m old);
}

-- the same after the half took a piece
pub gathering_room : (m : ℕ) (ps : List Placed) (ds : List ℕ) (i used size size' before now now' : ℕ) (old numbers numbers' : Option (List Omega)) (piece piece' : List Turn)
    → IsGathering m ps ds i used size before now old numbers piece → size' ≡ size → now' + length piece' ≡ now + length piece → All (IsTurnIn size') piece'
    → ((new : Option (List Omega)) → AfterTurns piece' numbers' new → AfterTurns piece numbers new)
    → IsGathering m ps ds i used size' before now' old numbers' piece'
gathering_room m ps ds i used size size' before now now' old numbers numbers' piece piece' r s n fit a = record {
  used_is = r.used_is;
  few = r.few;
  size_is = s ∙ r.size_is;
  steps = n ∙ r.steps;
  fit = subst (λ k. All (IsTurnIn k) piece') (s ∙ r.size_is) fit;
  after = λ new h. r.after new (a new h);
}

pub has_term : (m : ℕ) (ps : List Placed) (ds : List ℕ) (i used size before now t : ℕ) (old numbers : Option (List Omega)) (piece : List Turn) (z : Placed)
    → AllZip (λ d r. d < r) ds (term_counts ps) → i < length ps → IsGathering m ps ds i used size before now old numbers piece → t ≡ get_or ds used 0 → HasTerm t (get_or ps i z)
has_term m ps ds i used size before now t old numbers piece z a l r e =
    subst (λ t. HasTerm t (get_or ps i z)) (sym (e ∙ ap (λ k. get_or ds k 0) r.used_is)) (term_fits ps ds i z a l)

one_at_most : (p : Placed) → length (choices p) ≤ 1
one_at_most (OnOne kind q) = omega arith
one_at_most (OnTwo kind p q) = omega arith
one_at_most (FirstHere kind q) = omega arith
one_at_most (SecondHere kind q) = omega arith

turn_less : (n : ℕ) (turn : Turn) → IsTurnIn n turn → AllLess n (qubits_in turn)
turn_less n (One matrix qubit) h = (h, tt)
turn_less n (Two matrix first second) h = (h.0, (h.1, tt))

turn_after : (n : ℕ) (turn : Turn) (old new : Option (List Omega)) → IsTurnIn n turn → AfterTurns (turn ∷ []) old new → IsAfter n (operation_in turn ∷ []) old new
turn_after n turn old new t h =
    after_one n old new (matrix_in turn) (qubits_in turn) (turn_less n turn t) (subst (AfterMatrix (matrix_in turn) (qubits_in turn) old) (sym h.2) h.1)

-- one more turn is owed
pub gathering_more : (m : ℕ) (ps : List Placed) (ds : List ℕ) (i used taken size before now t : ℕ) (old numbers : Option (List Omega)) (piece piece' : List Turn) (turn : Turn) (z : Placed) → i < length ps
    → IsGathering m ps ds i used size before now old numbers piece → t ≡ get_or ds used 0 → taken ≡ length (choices (get_or ps i z)) → IsTurnIn m turn
    → operation_in turn ≡ operation_by (get_or ps i z) t → piece' ≡ piece ++ turn ∷ []
    → IsGathering m ps ds (i + 1) (used + taken) size before now old numbers piece'
gathering_more m ps ds i used taken size before now t old numbers piece piece' turn z l r e u fit o p =
    let few = one_at_most (get_or ps i z) in
    let w = r.few in
    let next = r.steps in
    let longer : length piece' ≡ length piece + 1 = ap length p ∙ length-append piece (turn ∷ []) in
    let more : take (i + 1) ps ≡ take i ps ++ get_or ps i z ∷ [] = take_more ps i z l in
    let counts : length (term_counts (take (i + 1) ps)) ≡ length (term_counts (take i ps)) + length (choices (get_or ps i z)) =
    ap (λ qs. length (term_counts qs)) more ∙ ap length (counts_append (take i ps) (get_or ps i z ∷ [])) ∙ length-append (term_counts (take i ps)) (choices (get_or ps i z) ++ [])
    ∙ ap (λ k. length (term_counts (take i ps)) + k) (length-append (choices (get_or ps i z)) [] ∙ omega arith) in
    let digit : first_digit (drop (length (term_counts (take i ps))) ds) ≡ t = next_is ds (length (term_counts (take i ps))) ∙ ap (λ k. get_or ds k 0) (sym r.used_is) ∙ sym e in
    let all : operations (take (i + 1) ps) ds ≡ operations (take i ps) ds ++ operation_in turn ∷ [] =
    ap (λ qs. operations qs ds) more ∙ operations_append (take i ps) (get_or ps i z ∷ []) ds
    ∙ ap (λ d. operations (take i ps) ds ++ operation_by (get_or ps i z) d ∷ []) digit ∙ ap (λ b. operations (take i ps) ds ++ b ∷ []) (sym o) in
    record {
      used_is = let c = r.used_is in omega (arith, counts);
      few = omega arith;
      size_is = r.size_is;
      steps = omega arith;
      fit = subst (All (IsTurnIn m)) (sym p) (All-push (IsTurnIn m) piece turn r.fit fit);
      after = λ new h.
          let s = runs_split piece (turn ∷ []) numbers new (subst (λ ts. AfterTurns ts numbers new) p h) in
          subst (λ os. IsAfter m os old new) (sym all) (after_append m (operations (take i ps) ds) (operation_in turn ∷ []) old s.0 new (r.after s.0 s.1) (turn_after m turn s.0 new fit s.2));
    }

pub gathering_all : (m : ℕ) (ps : List Placed) (ds : List ℕ) (i used size before now : ℕ) (old numbers new : Option (List Omega)) (piece : List Turn) → length ps ≤ i
    → IsGathering m ps ds i used size before now old numbers piece → AfterTurns piece numbers new → IsAfter m (operations ps ds) old new
gathering_all m ps ds i used size before now old numbers new piece l r h = subst (λ qs. IsAfter m (operations qs ds) old new) (take_all i ps l) (r.after new h)

-- ---- what each gate does, by its turn
abbrev pub by_rows : List (List Entry) → List ℕ → Operation
by_rows rows qs = record { matrix = number_in rows; qubits = qs }

module _ (t : ℕ) (gate : Placed) where
  pub turn_one : (kind : Kind) (q : ℕ) (rows : List (List Entry)) → gate ≡ OnOne kind q → rows ≡ matrix_of kind → by_rows rows (q ∷ []) ≡ operation_by gate t
  turn_one kind q rows e r = subst (λ g. by_rows rows (q ∷ []) ≡ operation_by g t) (sym e) (ap (λ m. by_rows m (q ∷ [])) r)

  pub turn_two : (kind : Kind) (p q : ℕ) (rows : List (List Entry)) → gate ≡ OnTwo kind p q → rows ≡ matrix_of kind → by_rows rows (p ∷ q ∷ []) ≡ operation_by gate t
  turn_two kind p q rows e r = subst (λ g. by_rows rows (p ∷ q ∷ []) ≡ operation_by g t) (sym e) (ap (λ m. by_rows m (p ∷ q ∷ [])) r)

  pub turn_first : (kind : Kind) (q : ℕ) (rows : List (List Entry)) → gate ≡ FirstHere kind q → rows ≡ (term_at kind t).first → by_rows rows (q ∷ []) ≡ operation_by gate t
  turn_first kind q rows e r = subst (λ g. by_rows rows (q ∷ []) ≡ operation_by g t) (sym e) (ap (λ m. by_rows m (q ∷ [])) r)

  pub turn_second : (kind : Kind) (q : ℕ) (rows : List (List Entry)) → gate ≡ SecondHere kind q → rows ≡ (term_at kind t).second → by_rows rows (q ∷ []) ≡ operation_by gate t
  turn_second kind q rows e r = subst (λ g. by_rows rows (q ∷ []) ≡ operation_by g t) (sym e) (ap (λ m. by_rows m (q ∷ [])) r)

-- ---- and by the call that it makes
module _ (n t : ℕ) (gate : Placed) (old new : Option (List Omega)) where
  pub whole_one : (kind : Kind) (q : ℕ) (rows : List (List Entry)) → gate ≡ OnOne kind q → q < n → rows ≡ matrix_of kind
      → AfterMatrix (number_in rows) (q ∷ []) old new → IsAfter n (operation_by gate t ∷ []) old new
  whole_one kind q rows e l r a =
      subst (λ g. IsAfter n (operation_by g t ∷ []) old new) (sym e)
      (after_one n old new (number_in (matrix_of kind)) (q ∷ []) (l, tt) (subst (λ m. AfterMatrix (number_in m) (q ∷ []) old new) r a))

  pub whole_two : (kind : Kind) (p q : ℕ) (rows : List (List Entry)) → gate ≡ OnTwo kind p q → p < n → q < n → rows ≡ matrix_of kind
      → AfterMatrix (number_in rows) (p ∷ q ∷ []) old new → IsAfter n (operation_by gate t ∷ []) old new
  whole_two kind p q rows e l m r a =
      subst (λ g. IsAfter n (operation_by g t ∷ []) old new) (sym e)
      (after_one n old new (number_in (matrix_of kind)) (p ∷ q ∷ []) (l, (m, tt)) (subst (λ m. AfterMatrix (number_in m) (p ∷ q ∷ []) old new) r a))

  pub factor_first : (kind : Kind) (q : ℕ) (rows : List (List Entry)) → gate ≡ FirstHere kind q → q < n → rows ≡ (term_at kind t).first
      → AfterMatrix (number_in rows) (q ∷ []) old new → IsAfter n (operation_by gate t ∷ []) old new
  factor_first kind q rows e l r a =
      subst (λ g. IsAfter n (operation_by g t ∷ []) old new) (sym e)
      (after_one n old new (number_in (term_at kind t).first) (q ∷ []) (l, tt) (subst (λ m. AfterMatrix (number_in m) (q ∷ []) old new) r a))

  pub factor_second : (kind : Kind) (q : ℕ) (rows : List (List Entry)) → gate ≡ SecondHere kind q → q < n → rows ≡ (term_at kind t).second
      → AfterMatrix (number_in rows) (q ∷ []) old new → IsAfter n (operation_by gate t ∷ []) old new
  factor_second kind q rows e l r a =
      subst (λ g. IsAfter n (operation_by g t ∷ []) old new) (sym e)
      (after_one n old new (number_in (term_at kind t).second) (q ∷ []) (l, tt) (subst (λ m. AfterMatrix (number_in m) (q ∷ []) old new) r a))
