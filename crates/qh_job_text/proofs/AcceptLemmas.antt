-- A planned job is what its own parts give.
use Rattle.std.proofs.Common.{◌≡◌, ◌==◌, ℕ, zero, suc, ◌+◌, ◌-◌, ◌^◌, ◌<◌, ◌≤◌, inl, inr, false, if◌then◌else◌, List, [], ◌∷◌, ◌++◌, length, get_or, take, Option, Some, None, nat_lt, nat_le, arith, refl, sym, ap, subst, ◌∙◌, All, append_assoc, length-append}
use Rattle.std.specs.List.{AllPairs, list_any}
use Rattle.std.specs.Option.{ForSome}
use Rattle.std.proofs.lemmas.Bool.{cases_Bool, cases_order, lt-ltb, le-ltb, lt-leb, eq-eqb, ne_eqb, cond-true, cond-false}
use Rattle.std.proofs.lemmas.List.{get_or_append_left, get_or_at}
use Rattle.std.proofs.lemmas.List.Kept.{AllPairs-from_increasing}
use Rattle.std.proofs.lemmas.List.Folds.{list_any_none}
use Rattle.std.proofs.lemmas.List.Elements.{All-head, All-tail}
use Rattle.qh_gates.specs.Circuits.{Circuit}
use Rattle.qh_plan.specs.declared.fault.PlanFault.TheVariants.{PartTooWide, TooManyPaths, PrefixValue}
use Rattle.qh_plan.specs.Paths.{path_count}
use Rattle.qh_plan.specs.Jobs.{Job, job_radices, ranges}
use Rattle.qh_plan.specs.Texts.{journal_length}
use Rattle.qh_plan.specs.Plans.{IsPlanned, rising, job_of, item_fault, width_fault, path_fault, path_bits, split_fault, is_past, size_fault, first_fault}
use Rattle.qh_plan.proofs.PlanLemmas.{refused_size, right_size}

-- ---- the items of a part in rising order have no fault

Rising : List ℕ → Type 0
Rising xs = AllPairs (λ x y. x < y) xs

no_fault : (n : ℕ) (earlier items : List ℕ) → AllPairs (λ x y. x < y) (earlier ++ items) → All (λ q. q < n) items → item_fault n earlier items ≡ None
no_fault n earlier [] pairs below = refl
no_fault n earlier (q ∷ items) pairs below =
    let here : q < n = All-head (λ q. q < n) q items below in
    let apart : All (λ x. (x == q) ≡ false) earlier = λ k d l.
    ne_eqb (get_or earlier k d) q (λ e.
    let p : get_or (earlier ++ q ∷ items) k d < get_or (earlier ++ q ∷ items) (length earlier) d = pairs k (length earlier) d l (omega (arith, length-append earlier (q ∷ items))) in
    let a = get_or_append_left earlier (q ∷ items) d k l in
    let b = get_or_at earlier q items d (length earlier) refl in
    omega arith) in
    cond-false (nat_le n q) _ _ (lt-leb n q here)
    ∙ cond-false (list_any (λ k. k == q) earlier) _ _ (list_any_none (λ k. k == q) earlier apart)
    ∙ no_fault n (earlier ++ q ∷ []) items (subst (AllPairs (λ x y. x < y)) (sym (append_assoc earlier (q ∷ []) items)) pairs) (All-tail (λ q. q < n) q items below)

-- ---- a part in rising order is its own rising order

-- the items below n
below_part : ℕ → List ℕ → List ℕ
below_part n [] = []
below_part n (x ∷ xs) = if nat_lt x n then x ∷ below_part n xs else below_part n xs

head_below : (x : ℕ) (xs : List ℕ) → AllPairs (λ x y. x < y) (x ∷ xs) → All (λ y. x < y) xs
head_below x xs h k d l = h 0 (suc k) d (omega arith) (omega arith)

tail_pairs : (x : ℕ) (xs : List ℕ) → AllPairs (λ x y. x < y) (x ∷ xs) → AllPairs (λ x y. x < y) xs
tail_pairs x xs h i j d l m = h (suc i) (suc j) d (omega arith) (omega arith)

none_below : (n : ℕ) (xs : List ℕ) → All (λ y. n ≤ y) xs → below_part n xs ≡ []
unfolding below_part
none_below n [] h = refl
none_below n (x ∷ xs) h = cond-false (nat_lt x n) _ _ (le-ltb x n (All-head (λ y. n ≤ y) x xs h)) ∙ none_below n xs (All-tail (λ y. n ≤ y) x xs h)

all_below : (n : ℕ) (xs : List ℕ) → All (λ y. y < n) xs → below_part n xs ≡ xs
unfolding below_part
all_below n [] h = refl
all_below n (x ∷ xs) h = cond-true (nat_lt x n) _ _ (lt-ltb x n (All-head (λ y. y < n) x xs h)) ∙ ap (λ t. x ∷ t) (all_below n xs (All-tail (λ y. y < n) x xs h))

above : (n x : ℕ) (xs : List ℕ) → n ≤ x → All (λ y. x < y) xs → All (λ y. n ≤ y) xs
above n x xs l h k d m = let g = h k d m in omega arith

above_next : (n x : ℕ) (xs : List ℕ) → n ≤ x → All (λ y. x < y) xs → All (λ y. suc n ≤ y) xs
above_next n x xs l h k d m = let g = h k d m in omega arith

not_there : (n : ℕ) (xs : List ℕ) → All (λ y. suc n ≤ y) xs → list_any (λ k. k == n) xs ≡ false
not_there n xs h = list_any_none (λ k. k == n) xs (λ k d l. ne_eqb (get_or xs k d) n (λ e. let g = h k d l in omega arith))

next_below : (n : ℕ) (xs : List ℕ) → AllPairs (λ x y. x < y) xs
    → below_part (suc n) xs ≡ (if list_any (λ k. k == n) xs then below_part n xs ++ n ∷ [] else below_part n xs)
unfolding below_part
next_below n [] h = refl
next_below n (x ∷ xs) h =
    let rest = next_below n xs (tail_pairs x xs h) in
    let higher = head_below x xs h in
    elim (cases_order x n) [
      | inl e ↦
          let none : below_part n xs ≡ [] = none_below n xs (above n x xs (omega arith) higher) in
          let none' : below_part (suc n) xs ≡ [] = none_below (suc n) xs (above_next n x xs (omega arith) higher) in
          rw (lt-ltb x (suc n) (omega arith), le-ltb x n (omega arith), eq-eqb x n e, none, none') (ap (λ (y : ℕ). y ∷ []) e)
      | inr (inl l) ↦ rw (lt-ltb x (suc n) (omega arith), lt-ltb x n l, ne_eqb x n (λ e. omega arith), rest)
          (elim (cases_Bool (list_any (λ k. k == n) xs)) [ inl e ↦ rw e refl | inr e ↦ rw e refl ])
      | inr (inr l) ↦
          let none : below_part n xs ≡ [] = none_below n xs (above n x xs (omega arith) higher) in
          let none' : below_part (suc n) xs ≡ [] = none_below (suc n) xs (above_next n x xs (omega arith) higher) in
          rw (le-ltb x (suc n) (omega arith), le-ltb x n (omega arith), ne_eqb x n (λ e. omega arith), not_there n xs (above_next n x xs (omega arith) higher), none, none') refl
    ]

rising_is : (n : ℕ) (xs : List ℕ) → AllPairs (λ x y. x < y) xs → rising n xs ≡ below_part n xs
rising_is zero xs h = sym (none_below 0 xs (λ k d l. omega arith))
rising_is (suc n) xs h =
    ap (λ t. if list_any (λ k. k == n) xs then t ++ n ∷ [] else t) (rising_is n xs h) ∙ sym (next_below n xs h)

-- ---- a planned job is accepted, and is made again

remade : (j : Job) → rising j.circuit.qubits j.part ≡ j.part → job_of j.circuit j.part j.p j.r j.prefix j.bits ≡ j
remade j e = λ i. record { circuit = j.circuit; part = e i; p = j.p; r = j.r; prefix = j.prefix; bits = j.bits }

pub made_again : (j : Job) → IsPlanned j → job_of j.circuit j.part j.p j.r j.prefix j.bits ≡ j
made_again j h =
    let v = h.valid in
    let pairs = AllPairs-from_increasing j.part v.rising in
    remade j (rising_is j.circuit.qubits j.part pairs ∙ all_below j.circuit.qubits j.part v.in_circuit)

right_width : (n m : ℕ) → 1 ≤ m → m < n → m ≤ 20 → n ≤ m + 20 → None ≡ width_fault n m
right_width n m some less narrow wide =
    sym (cond-false (m == 0) _ _ (ne_eqb m 0 (λ e. omega arith)) ∙ cond-false (m == n) _ _ (ne_eqb m n (λ e. omega arith))
    ∙ cond-false (nat_lt 20 m) _ _ (le-ltb 20 m narrow) ∙ cond-false (nat_lt 20 (n - m)) (Some (PartTooWide (n - m))) None (le-ltb 20 (n - m) (omega arith)))

right_paths : (rs : List ℕ) → length rs ≤ 32 → path_count rs ≤ 2 ^ 32 → None ≡ path_fault rs
right_paths rs short few =
    sym (cond-false (nat_lt 32 (length rs)) _ _ (le-ltb 32 (length rs) short)
    ∙ cond-false (nat_lt (2 ^ 32) (path_count rs)) (Some (TooManyPaths (path_bits rs))) None (le-ltb (2 ^ 32) (path_count rs) few))

not_past : (n : ℕ) (o : Option ℕ) → ForSome o (λ w. w < n) → is_past n o ≡ false
not_past n None h = refl
not_past n (Some w) h = lt-leb n w (h w refl)

right_split : (rs : List ℕ) (p r : ℕ) (o : Option ℕ) → p + r ≤ length rs → ForSome o (λ w. w < path_count (take p rs)) → None ≡ split_fault rs p r o
right_split rs p r o l h =
    sym (cond-false (nat_lt (length rs) (p + r)) _ _ (le-ltb (length rs) (p + r) l)
    ∙ cond-false (is_past (path_count (take p rs)) o) (Some (PrefixValue (path_count (take p rs)))) None (not_past (path_count (take p rs)) o h))

pub accepted : (j : Job) → IsPlanned j → first_fault j.circuit j.part j.p j.r j.prefix j.bits ≡ None
accepted j h =
    let v = h.valid in
    let k : Job = job_of j.circuit j.part j.p j.r j.prefix j.bits in
    let e : k ≡ j = made_again j h in
    let n = j.circuit.qubits in
    let part = ap (λ (x : Job). x.part) e in
    let rs = ap job_radices e in
    refused_size j.circuit j.part j.p j.r j.prefix j.bits None
    (sym (no_fault n [] j.part (AllPairs-from_increasing j.part v.rising) v.in_circuit))
    (subst (λ x. None ≡ width_fault n (length x)) (sym part) (right_width n (length j.part) v.some_in_one v.some_in_two v.narrow_one v.narrow_two))
    (subst (λ x. None ≡ path_fault x) (sym rs) (right_paths (job_radices j) v.few_crossing v.few_paths))
    (subst (λ x. None ≡ split_fault x j.p j.r j.prefix) (sym rs) (right_split (job_radices j) j.p j.r j.prefix v.is_split v.has_prefix))
    (ap (λ x. size_fault (ranges x) (journal_length x)) e ∙ right_size (ranges j) (journal_length j) v.few_ranges h.short)

-- ---- parts that are those of a planned job

pub fault_of_parts : (j : Job) (circuit : Circuit) (part : List ℕ) (p r : ℕ) (w : Option ℕ) (bits : List ℕ) → circuit ≡ j.circuit → part ≡ j.part → p ≡ j.p → r ≡ j.r → w ≡ j.prefix → bits ≡ j.bits
    → IsPlanned j → first_fault circuit part p r w bits ≡ None
fault_of_parts j circuit part p r w bits a b c d e f h = (λ i. first_fault (a i) (b i) (c i) (d i) (e i) (f i)) ∙ accepted j h

pub job_of_parts : (j : Job) (circuit : Circuit) (part : List ℕ) (p r : ℕ) (w : Option ℕ) (bits : List ℕ) → circuit ≡ j.circuit → part ≡ j.part → p ≡ j.p → r ≡ j.r → w ≡ j.prefix → bits ≡ j.bits
    → IsPlanned j → job_of circuit part p r w bits ≡ j
job_of_parts j circuit part p r w bits a b c d e f h = (λ i. job_of (a i) (b i) (c i) (d i) (e i) (f i)) ∙ made_again j h
