-- The stages of a path: their gates, digits and operations.
use Rattle.std.proofs.Common.{◌≡◌, ℕ, zero, suc, ◌+◌, ◌<◌, ◌≤◌, inl, inr, Bool, true, false, List, [], ◌∷◌, ◌++◌, length, take, drop, arith, refl, sym, ap, subst, ◌∙◌}
use Rattle.std.proofs.Math.Path.{ap₂}
use Rattle.std.specs.List.{All, AllZip}
use Rattle.std.proofs.lemmas.List.{take-append-drop, length-take-le}
use Rattle.std.proofs.lemmas.List.Elements.{All-head, All-tail, All-cons}
use Rattle.std.proofs.lemmas.Bool.{cases_Bool, false≢true}
use Rattle.qh_gates.specs.declared.gate.Gate.{Gate}
use Rattle.qh_gates.specs.Tables.{qubits_of}
use Rattle.qh_gates.specs.Terms.{terms_of}
use Rattle.qh_gates.specs.Circuits.{Fits}
use Rattle.qh_gates.proofs.KindLemmas.{radix_of}
use Rattle.qh_gates.specs.Evolution.{Operation}
use Rattle.qh_plan.specs.Paths.{differ, crosses, radices}
use Rattle.qh_plan.specs.Plans.{IsRadix}
use Rattle.qh_plan.specs.Jobs.{Job, IsJob, in_one, job_radices}
use Rattle.qh_plan.specs.Halves.{half_operations}
use Rattle.qh_plan.proofs.TraceLemmas.{half_append, half_takes}
use Rattle.qh_prefix.specs.declared.part.Part.{Part}
use Rattle.qh_prefix.specs.declared.part.Part.TheVariants.{One, Two}
use Rattle.qh_prefix.specs.declared.stage.Stage.{Stage}
use Rattle.qh_prefix.specs.declared.stage.Stage.TheVariants.{Prefix, Root, Suffix}
use Rattle.qh_prefix.specs.Parts.{in_part}
use Rattle.qh_prefix.specs.Stages.{gates_before, before, from_crossing, stage_gates, stretch, stage_radices}
use Rattle.qh_prefix.specs.Places.{placed, term_counts}
use Rattle.qh_prefix.proofs.PlaceLemmas.{crossing_two, radices_others, counts_placed}

-- ---- counting crossing gates
pub count_within : (one : ℕ → Bool) (k : ℕ) (gs : List Gate) → gates_before one k gs ≤ length gs
count_within one k [] = omega arith
count_within one zero (g ∷ gs) = elim (cases_Bool (crosses one g)) [
  | inl e ↦ rw e (omega arith)
  | inr e ↦ rw e (let h = count_within one zero gs in omega arith)
]
count_within one (suc k) (g ∷ gs) = elim (cases_Bool (crosses one g)) [
  | inl e ↦ rw e (let h = count_within one k gs in omega arith)
  | inr e ↦ rw e (let h = count_within one (suc k) gs in omega arith)
]

module _ (one : ℕ → Bool) (g : Gate) (gs : List Gate) where
  stands_here : crosses one g ≡ true → gates_before one 0 (g ∷ gs) ≡ 0
  stands_here e = rw e refl

  one_passed : (k : ℕ) → crosses one g ≡ true → gates_before one (suc k) (g ∷ gs) ≡ suc (gates_before one k gs)
  one_passed k e = rw e refl

  other_passed : (k : ℕ) → crosses one g ≡ false → gates_before one k (g ∷ gs) ≡ suc (gates_before one k gs)
  other_passed zero e = rw e refl
  other_passed (suc k) e = rw e refl

  counted : crosses one g ≡ true → radices one (g ∷ gs) ≡ length (terms_of g.kind) ∷ radices one gs
  counted e = rw e refl

  uncounted : crosses one g ≡ false → radices one (g ∷ gs) ≡ radices one gs
  uncounted e = rw e refl

-- ---- as many radices as crossing gates
pub radices_before : (one : ℕ → Bool) (k : ℕ) (gs : List Gate) → k ≤ length (radices one gs) → radices one (before one k gs) ≡ take k (radices one gs)
radices_before one zero [] h = refl
radices_before one (suc k) [] h = absurd (omega arith)
radices_before one zero (g ∷ gs) h = elim (cases_Bool (crosses one g)) [
  | inl e ↦ ap (λ n. radices one (take n (g ∷ gs))) (stands_here one g gs e)
  | inr e ↦ ap (λ n. radices one (take n (g ∷ gs))) (other_passed one g gs 0 e) ∙ uncounted one g (before one 0 gs) e ∙ radices_before one zero gs (omega arith)
]
radices_before one (suc k) (g ∷ gs) h = elim (cases_Bool (crosses one g)) [
  | inl e ↦
      let l = subst (λ rs. suc k ≤ length rs) (counted one g gs e) h in
      ap (λ n. radices one (take n (g ∷ gs))) (one_passed one g gs k e) ∙ counted one g (before one k gs) e
      ∙ ap (λ rs. length (terms_of g.kind) ∷ rs) (radices_before one k gs (omega arith)) ∙ sym (ap (take (suc k)) (counted one g gs e))
  | inr e ↦
      let l = subst (λ rs. suc k ≤ length rs) (uncounted one g gs e) h in
      ap (λ n. radices one (take n (g ∷ gs))) (other_passed one g gs (suc k) e) ∙ uncounted one g (before one (suc k) gs) e
      ∙ radices_before one (suc k) gs l ∙ sym (ap (take (suc k)) (uncounted one g gs e))
]

pub radices_from : (one : ℕ → Bool) (k : ℕ) (gs : List Gate) → k ≤ length (radices one gs) → radices one (from_crossing one k gs) ≡ drop k (radices one gs)
radices_from one zero [] h = refl
radices_from one (suc k) [] h = absurd (omega arith)
radices_from one zero (g ∷ gs) h = elim (cases_Bool (crosses one g)) [
  | inl e ↦ ap (λ n. radices one (drop n (g ∷ gs))) (stands_here one g gs e)
  | inr e ↦ ap (λ n. radices one (drop n (g ∷ gs))) (other_passed one g gs 0 e) ∙ radices_from one zero gs (omega arith) ∙ sym (uncounted one g gs e)
]
radices_from one (suc k) (g ∷ gs) h = elim (cases_Bool (crosses one g)) [
  | inl e ↦
      let l = subst (λ rs. suc k ≤ length rs) (counted one g gs e) h in
      ap (λ n. radices one (drop n (g ∷ gs))) (one_passed one g gs k e) ∙ radices_from one k gs (omega arith) ∙ sym (ap (drop (suc k)) (counted one g gs e))
  | inr e ↦
      let l = subst (λ rs. suc k ≤ length rs) (uncounted one g gs e) h in
      ap (λ n. radices one (drop n (g ∷ gs))) (other_passed one g gs (suc k) e) ∙ radices_from one (suc k) gs l ∙ sym (ap (drop (suc k)) (uncounted one g gs e))
]

differ_same : (b : Bool) → differ b b ≡ true → ⊥
differ_same true e = false≢true e
differ_same false e = false≢true e

-- each is the number of terms of a gate on two qubits
pub radices_known : (one : ℕ → Bool) (n : ℕ) (gs : List Gate) → All (Fits n) gs → All IsRadix (radices one gs)
radices_known one n [] h = λ i d l. absurd (omega arith)
radices_known one n (g ∷ gs) h = elim (cases_Bool (crosses one g)) [
  | inl e ↦
      let two : qubits_of g.kind ≡ 2 =
      crossing_two g n (All-head (Fits n) g gs h) (λ same. differ_same (one g.q0) (ap (λ q. differ (one g.q0) (one q)) (sym same) ∙ e)) in
      subst (All IsRadix) (sym (counted one g gs e))
      (All-cons IsRadix (length (terms_of g.kind)) (radices one gs) (radix_of g.kind two) (radices_known one n gs (All-tail (Fits n) g gs h)))
  | inr e ↦ subst (All IsRadix) (sym (uncounted one g gs e)) (radices_known one n gs (All-tail (Fits n) g gs h))
]

pub job_known : (j : Job) → IsJob j → All IsRadix (job_radices j)
job_known j h = radices_known (in_one j) j.circuit.qubits j.circuit.gates h.valid.fit

-- ---- a list with an item for each crossing gate, stage by stage
zip_take : (k : ℕ) (xs ys : List ℕ) → AllZip (λ d r. d < r) xs ys → AllZip (λ d r. d < r) (take k xs) (take k ys)
zip_take zero xs ys h = tt
zip_take (suc k) [] [] h = tt
zip_take (suc k) [] (y ∷ ys) h = absurd h
zip_take (suc k) (x ∷ xs) [] h = absurd h
zip_take (suc k) (x ∷ xs) (y ∷ ys) h = (h.0, zip_take k xs ys h.1)

zip_drop : (k : ℕ) (xs ys : List ℕ) → AllZip (λ d r. d < r) xs ys → AllZip (λ d r. d < r) (drop k xs) (drop k ys)
zip_drop zero xs ys h = h
zip_drop (suc k) [] [] h = tt
zip_drop (suc k) [] (y ∷ ys) h = absurd h
zip_drop (suc k) (x ∷ xs) [] h = absurd h
zip_drop (suc k) (x ∷ xs) (y ∷ ys) h = zip_drop k xs ys h.1

pub length_zip : (xs ys : List ℕ) → AllZip (λ d r. d < r) xs ys → length xs ≡ length ys
length_zip [] [] h = refl
length_zip [] (y ∷ ys) h = absurd h
length_zip (x ∷ xs) [] h = absurd h
length_zip (x ∷ xs) (y ∷ ys) h = ap suc (length_zip xs ys h.1)

pub stretch_below : (stage : Stage) (j : Job) (ds : List ℕ) → AllZip (λ d r. d < r) ds (job_radices j) → AllZip (λ d r. d < r) (stretch stage j ds) (stage_radices stage j)
stretch_below Prefix j ds h = zip_take j.p ds (job_radices j) h
stretch_below Root j ds h = zip_take j.r (drop j.p ds) (drop j.p (job_radices j)) (zip_drop j.p ds (job_radices j) h)
stretch_below Suffix j ds h = zip_drop j.r (drop j.p ds) (drop j.p (job_radices j)) (zip_drop j.p ds (job_radices j) h)

low : (p r n : ℕ) → p + r ≤ n → p ≤ n
low p r n h = omega arith

high : (p r n m : ℕ) → p + r ≤ n → m + p ≡ n → r ≤ m
high p r n m h e = omega arith

dropped : (k : ℕ) (xs : List ℕ) → k ≤ length xs → length (drop k xs) + k ≡ length xs
dropped zero xs l = omega arith
dropped (suc k) [] l = absurd (omega arith)
dropped (suc k) (x ∷ xs) l = let h = dropped k xs (omega arith) in omega arith

module _ (j : Job) (valid : IsJob j) where
  pub prefix_few : j.p ≤ length (job_radices j)
  prefix_few = low j.p j.r (length (job_radices j)) valid.is_split

  after_prefix : radices (in_one j) (from_crossing (in_one j) j.p j.circuit.gates) ≡ drop j.p (job_radices j)
  after_prefix = radices_from (in_one j) j.p j.circuit.gates prefix_few

  root_few : j.r ≤ length (radices (in_one j) (from_crossing (in_one j) j.p j.circuit.gates))
  root_few = subst (λ rs. j.r ≤ length rs) (sym after_prefix) (high j.p j.r (length (job_radices j)) (length (drop j.p (job_radices j))) valid.is_split (dropped j.p (job_radices j) prefix_few))

  pub stage_radices_are : (stage : Stage) → radices (in_one j) (stage_gates stage j) ≡ stage_radices stage j
  stage_radices_are Prefix = radices_before (in_one j) j.p j.circuit.gates prefix_few
  stage_radices_are Root = radices_before (in_one j) j.r (from_crossing (in_one j) j.p j.circuit.gates) root_few ∙ ap (take j.r) after_prefix
  stage_radices_are Suffix = radices_from (in_one j) j.r (from_crossing (in_one j) j.p j.circuit.gates) root_few ∙ ap (drop j.r) after_prefix

-- ---- the gates of a stage in one part
pub radices_part : (part : Part) (j : Job) (gs : List Gate) → radices (in_part part j) gs ≡ radices (in_one j) gs
radices_part One j gs = refl
radices_part Two j gs = radices_others (in_one j) gs

pub stage_takes : (part : Part) (j : Job) (stage : Stage) (ds : List ℕ) → IsJob j → AllZip (λ d r. d < r) ds (stage_radices stage j)
    → AllZip (λ d r. d < r) ds (term_counts (placed (in_part part j) (stage_gates stage j)))
stage_takes part j stage ds valid h =
    subst (AllZip (λ d r. d < r) ds) (sym (counts_placed (in_part part j) (stage_gates stage j) ∙ radices_part part j (stage_gates stage j) ∙ stage_radices_are j valid stage)) h

-- the operations of a part along a path are those of the stages, one stage after the other
split_operations : (part : Part) (j : Job) (k : ℕ) (gs : List Gate) (ds : List ℕ) → k ≤ length (radices (in_one j) gs) → length ds ≡ length (radices (in_one j) gs)
    → half_operations (in_part part j) gs ds
    ≡ half_operations (in_part part j) (before (in_one j) k gs) (take k ds) ++ half_operations (in_part part j) (from_crossing (in_one j) k gs) (drop k ds)
split_operations part j k gs ds l e =
    let one = in_one j in
    let two = in_part part j in
    let xs = before one k gs in
    let ys = from_crossing one k gs in
    let few : k ≤ length ds = omega arith in
    let count : length (radices two xs) ≡ k = ap length (radices_part part j xs ∙ radices_before one k gs l) ∙ length-take-le k (radices one gs) l in
    ap (λ zs. half_operations two zs ds) (sym (take-append-drop (gates_before one k gs) gs)) ∙ half_append two xs ys ds
    ∙ ap₂ (λ os ps. os ++ ps)
    (ap (half_operations two xs) (sym (take-append-drop k ds)) ∙ half_takes two xs (take k ds) (drop k ds) (length-take-le k ds few ∙ sym count))
    (ap (λ m. half_operations two ys (drop m ds)) count)

abbrev pub stage_operations : Part → Stage → Job → List ℕ → List Operation
stage_operations part stage j ds = half_operations (in_part part j) (stage_gates stage j) (stretch stage j ds)

pub by_stages : (part : Part) (j : Job) (ds : List ℕ) → IsJob j → length ds ≡ length (job_radices j)
    → half_operations (in_part part j) j.circuit.gates ds
    ≡ stage_operations part Prefix j ds ++ (stage_operations part Root j ds ++ stage_operations part Suffix j ds)
by_stages part j ds valid e =
    let one = in_one j in
    let rest = from_crossing one j.p j.circuit.gates in
    let few : j.p ≤ length ds = subst (λ n. j.p ≤ n) (sym e) (prefix_few j valid) in
    let left : length (drop j.p ds) ≡ length (radices one rest) =
    same_left j.p (length ds) (length (drop j.p ds)) (length (drop j.p (job_radices j))) (dropped j.p ds few) (dropped j.p (job_radices j) (prefix_few j valid) ∙ sym e) ∙ sym (ap length (after_prefix j valid)) in
    split_operations part j j.p j.circuit.gates ds (prefix_few j valid) e
    ∙ ap (λ os. stage_operations part Prefix j ds ++ os) (split_operations part j j.r rest (drop j.p ds) (root_few j valid) left)
  where
    same_left : (p n a b : ℕ) → a + p ≡ n → b + p ≡ n → a ≡ b
    same_left p n a b h k = omega arith
