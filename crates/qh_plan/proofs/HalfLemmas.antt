-- Along a path, the state is the product of what it is in each part.
use Rattle.std.proofs.Common.{◌≡◌, ◌≢◌, ℕ, zero, suc, ◌+◌, ◌*◌, ◌/◌, ◌%◌, ◌^◌, ◌<◌, inl, inr, Bool, true, false, not, eqb, List, [], ◌∷◌, length, map, arith, refl, sym, ap, ◌∙◌}
use Rattle.std.proofs.Math.Path.{ap₂, subst₃}
use Rattle.std.specs.Int.{bit_at}
use Rattle.std.specs.List.{All}
use Rattle.std.proofs.lemmas.List.Elements.{All-head, All-tail}
use Rattle.std.proofs.lemmas.List.{length-map}
use Rattle.std.proofs.lemmas.Nat.Bits.{bit_at-lt, bit_at-zero, same_from_bits_below}
use Rattle.std.proofs.lemmas.Bool.{cases_Bool, cases_eq, not-true, not-false}
use Rattle.std.proofs.lemmas.Nat.{pow_pos}
use Rattle.qh_ring.specs.declared.number.Omega.{Omega}
use Rattle.qh_ring.specs.Numbers.{product, nothing}
use Rattle.qh_ring.specs.Matrices.{number_in}
use Rattle.qh_ring.specs.States.{sum_below, place_on, with_bit, with_bits, applied, ground}
use Rattle.qh_gates.specs.declared.gate.Gate.{Gate}
use Rattle.qh_gates.specs.Tables.{qubits_of, matrix_of}
use Rattle.qh_gates.specs.Terms.{term_at, together}
use Rattle.qh_gates.specs.Evolution.{Operation, evolved, operation_of, wires}
use Rattle.qh_plan.specs.Parts.{others, count_below, local_index}
use Rattle.qh_plan.specs.Paths.{differ, crosses}
use Rattle.qh_plan.specs.PathValues.{first_digit, other_digits, term_operation, path_operations, path_state}
use Rattle.qh_plan.specs.Halves.{local_operation, half_operations, half_state}
use Rattle.qh_ring.proofs.NumberLemmas.{product_assoc, product_comm, one_times, nothing_times}
use Rattle.qh_ring.proofs.SumLemmas.{sum_below_same, sum_below_blocks, sum_below_product, product_of_sums, product_nothing}
use Rattle.qh_ring.proofs.BitLemmas.{with_bit_below}
use Rattle.qh_ring.specs.Numbers.{one as unity}
use Rattle.qh_plan.proofs.PartLemmas.{local_moves, local_bit, local_keeps}

-- each of these qubits lies in the part
abbrev pub AllIn : (ℕ → Bool) → ℕ → List ℕ → Type 0
AllIn one n [] = Unit {0}
AllIn one n (q ∷ qs) = (one q ≡ true) × (q < n) × AllIn one n qs

-- no qubit lies in both parts
abbrev pub Apart : (ℕ → Bool) → (ℕ → Bool) → Type 0
Apart one two = (q : ℕ) → one q ≡ true → two q ≡ false

product_products : (a b c d : Omega) → product (product a b) (product c d) ≡ product (product a c) (product b d)
product_products a b c d =
    product_assoc a b (product c d)
    ∙ ap (product a) (sym (product_assoc b c d) ∙ ap (λ t. product t d) (product_comm b c) ∙ product_assoc c b d)
    ∙ sym (product_assoc a c (product b d))

bits_below : (one : ℕ → Bool) (n c : ℕ) (qs : List ℕ) (x : ℕ) → AllIn one n qs → x < 2 ^ n → with_bits qs c x < 2 ^ n
bits_below one n c [] x h l = l
bits_below one n c (q ∷ qs) x h l = with_bit_below q n (bit_at c (length qs)) (with_bits qs c x) (bit_at-lt c (length qs)) h.1 (bits_below one n c qs x h.2 l)

bits_moved : (one : ℕ → Bool) (n c : ℕ) (qs : List ℕ) (x : ℕ) → AllIn one n qs
    → local_index one n (with_bits qs c x) ≡ with_bits (map (count_below one) qs) c (local_index one n x)
bits_moved one n c [] x h = refl
bits_moved one n c (q ∷ qs) x h =
    local_moves one n q (bit_at c (length qs)) (with_bits qs c x) (bit_at-lt c (length qs)) h.0 h.1
    ∙ ap (with_bit (count_below one q) (bit_at c (length qs))) (bits_moved one n c qs x h.2)
    ∙ ap (λ k. with_bit (count_below one q) (bit_at c k) (with_bits (map (count_below one) qs) c (local_index one n x))) (sym (length-map qs (count_below one)))

bits_kept : (one two : ℕ → Bool) (n c : ℕ) (qs : List ℕ) (x : ℕ) → Apart one two → AllIn one n qs
    → local_index two n (with_bits qs c x) ≡ local_index two n x
bits_kept one two n c [] x a h = refl
bits_kept one two n c (q ∷ qs) x a h =
    local_keeps two n q (bit_at c (length qs)) (with_bits qs c x) (bit_at-lt c (length qs)) (a q h.0) ∙ bits_kept one two n c qs x a h.2

place_moved : (one : ℕ → Bool) (n : ℕ) (qs : List ℕ) (x : ℕ) → AllIn one n qs
    → place_on (map (count_below one) qs) (local_index one n x) ≡ place_on qs x
place_moved one n [] x h = refl
place_moved one n (q ∷ qs) x h =
    ap (λ b. b * 2 ^ length (map (count_below one) qs) + place_on (map (count_below one) qs) (local_index one n x)) (local_bit one n q x h.0 h.1)
    ∙ ap (λ k. bit_at x q * 2 ^ k + place_on (map (count_below one) qs) (local_index one n x)) (length-map qs (count_below one))
    ∙ ap (λ k. bit_at x q * 2 ^ length qs + k) (place_moved one n qs x h.2)

-- the state v is the product of u in part 1 and w in part 2
abbrev pub IsProduct : (ℕ → Bool) → (ℕ → Bool) → ℕ → (ℕ → Omega) → (ℕ → Omega) → (ℕ → Omega) → Type 0
IsProduct one two n v u w = (x : ℕ) → x < 2 ^ n → v x ≡ product (u (local_index one n x)) (w (local_index two n x))

turn_product : (one two : ℕ → Bool) (n : ℕ) (v u w : ℕ → Omega) → IsProduct one two n v u w → IsProduct two one n v w u
turn_product one two n v u w h x l = h x l ∙ product_comm _ _

-- a matrix on qubits of one part acts on that part's state alone
inside : (one two : ℕ → Bool) (n : ℕ) (m : ℕ → ℕ → Omega) (qs : List ℕ) (v u w : ℕ → Omega) → Apart one two → AllIn one n qs
    → IsProduct one two n v u w → IsProduct one two n (applied m qs v) (applied m (map (count_below one) qs) u) w
unfolding applied
inside one two n m qs v u w a h p x l =
    let ls = map (count_below one) qs in
    let x1 = local_index one n x in
    let x2 = local_index two n x in
    sum_below_same (2 ^ length qs) _ _ (λ c b.
    ap (product (m (place_on qs x) c)) (
    p (with_bits qs c x) (bits_below one n c qs x h l)
    ∙ ap (λ k. product (u k) (w (local_index two n (with_bits qs c x)))) (bits_moved one n c qs x h)
    ∙ ap (λ k. product (u (with_bits ls c x1)) (w k)) (bits_kept one two n c qs x a h))
    ∙ sym (product_assoc (m (place_on qs x) c) (u (with_bits ls c x1)) (w x2))
    ∙ ap (λ k. product (product (m k c) (u (with_bits ls c x1))) (w x2)) (sym (place_moved one n qs x h)))
    ∙ sym (sum_below_product (2 ^ length qs) (λ c. product (m (place_on ls x1) c) (u (with_bits ls c x1))) (w x2))
    ∙ ap (λ k. product (sum_below (2 ^ k) (λ c. product (m (place_on ls x1) c) (u (with_bits ls c x1)))) (w x2)) (sym (length-map qs (count_below one)))

high_of_two : (p q : ℕ) → p < 2 → q < 2 → (p * 2 ^ 1 + (q * 2 ^ 0 + 0)) / 2 ≡ p
high_of_two p q a b = omega arith

low_of_two : (p q : ℕ) → p < 2 → q < 2 → (p * 2 ^ 1 + (q * 2 ^ 0 + 0)) % 2 ≡ q
low_of_two p q a b = omega arith

high_bit : (a b : ℕ) → a < 2 → b < 2 → bit_at (a * 2 + b) 1 ≡ bit_at a 0
high_bit a b l m = omega arith

low_bit : (a b : ℕ) → a < 2 → b < 2 → bit_at (a * 2 + b) 0 ≡ bit_at b 0
low_bit a b l m = omega arith

place_single : (l x : ℕ) → place_on (l ∷ []) x ≡ bit_at x l
place_single l x = omega arith

-- what column a adds to the new number at x
abbrev pub column_term : (ℕ → ℕ → Omega) → List ℕ → (ℕ → Omega) → ℕ → ℕ → Omega
column_term m qs v x c = product (m (place_on qs x) c) (v (with_bits qs c x))

module _ (one two : ℕ → Bool) (n : ℕ) (f g : ℕ → ℕ → Omega) (p q : ℕ) (v u w : ℕ → Omega) (ab : Apart one two) (ba : Apart two one)
    (tp : one p ≡ true) (lp : p < n) (tq : two q ≡ true) (lq : q < n) (h : IsProduct one two n v u w) (x : ℕ) (lx : x < 2 ^ n) where
  across_index_one : (a b : ℕ) → a < 2 → b < 2
      → local_index one n (with_bits (p ∷ q ∷ []) (a * 2 + b) x) ≡ with_bits (count_below one p ∷ []) a (local_index one n x)
  across_index_one a b la lb =
      let c = a * 2 + b in
      local_moves one n p (bit_at c 1) (with_bit q (bit_at c 0) x) (bit_at-lt c 1) tp lp
      ∙ ap (with_bit (count_below one p) (bit_at c 1)) (local_keeps one n q (bit_at c 0) x (bit_at-lt c 0) (ba q tq))
      ∙ ap (λ k. with_bit (count_below one p) k (local_index one n x)) (high_bit a b la lb)

  across_index_two : (a b : ℕ) → a < 2 → b < 2
      → local_index two n (with_bits (p ∷ q ∷ []) (a * 2 + b) x) ≡ with_bits (count_below two q ∷ []) b (local_index two n x)
  across_index_two a b la lb =
      let c = a * 2 + b in
      local_keeps two n p (bit_at c 1) (with_bit q (bit_at c 0) x) (bit_at-lt c 1) (ab p tp)
      ∙ local_moves two n q (bit_at c 0) x (bit_at-lt c 0) tq lq
      ∙ ap (λ k. with_bit (count_below two q) k (local_index two n x)) (low_bit a b la lb)

  across_below : (c : ℕ) → with_bits (p ∷ q ∷ []) c x < 2 ^ n
  across_below c = with_bit_below p n (bit_at c 1) (with_bit q (bit_at c 0) x) (bit_at-lt c 1) lp (with_bit_below q n (bit_at c 0) x (bit_at-lt c 0) lq lx)

  across_row_one : place_on (p ∷ q ∷ []) x / 2 ≡ place_on (count_below one p ∷ []) (local_index one n x)
  across_row_one =
      high_of_two (bit_at x p) (bit_at x q) (bit_at-lt x p) (bit_at-lt x q)
      ∙ sym (place_single (count_below one p) (local_index one n x) ∙ local_bit one n p x tp lp)

  across_row_two : place_on (p ∷ q ∷ []) x % 2 ≡ place_on (count_below two q ∷ []) (local_index two n x)
  across_row_two =
      low_of_two (bit_at x p) (bit_at x q) (bit_at-lt x p) (bit_at-lt x q)
      ∙ sym (place_single (count_below two q) (local_index two n x) ∙ local_bit two n q x tq lq)

  across_term : (a b : ℕ) → a < 2 → b < 2
      → column_term (together f g) (p ∷ q ∷ []) v x (a * 2 + b)
      ≡ product (column_term f (count_below one p ∷ []) u (local_index one n x) a) (column_term g (count_below two q ∷ []) w (local_index two n x) b)
  across_term a b la lb =
      let c = a * 2 + b in
      let y = with_bits (p ∷ q ∷ []) c x in
      let hi : c / 2 ≡ a = omega arith in
      let lo : c % 2 ≡ b = omega arith in
      let ev : v y ≡ product (u (with_bits (count_below one p ∷ []) a (local_index one n x))) (w (with_bits (count_below two q ∷ []) b (local_index two n x))) =
      h y (across_below c) ∙ ap₂ (λ i j. product (u i) (w j)) (across_index_one a b la lb) (across_index_two a b la lb) in
      let ef : f (place_on (p ∷ q ∷ []) x / 2) (c / 2) ≡ f (place_on (count_below one p ∷ []) (local_index one n x)) a = ap₂ f across_row_one hi in
      let eg : g (place_on (p ∷ q ∷ []) x % 2) (c % 2) ≡ g (place_on (count_below two q ∷ []) (local_index two n x)) b = ap₂ g across_row_two lo in
      ap₂ product (ap₂ product ef eg) ev ∙ product_products _ _ _ _

-- the product of two matrices across the cut acts on each part by its own
across : (one two : ℕ → Bool) (n : ℕ) (f g : ℕ → ℕ → Omega) (p q : ℕ) (v u w : ℕ → Omega) → Apart one two → Apart two one
    → one p ≡ true → p < n → two q ≡ true → q < n
    → IsProduct one two n v u w
    → IsProduct one two n (applied (together f g) (p ∷ q ∷ []) v) (applied f (count_below one p ∷ []) u) (applied g (count_below two q ∷ []) w)
unfolding applied
across one two n f g p q v u w ab ba tp lp tq lq h x lx =
    sum_below_blocks 2 2 (column_term (together f g) (p ∷ q ∷ []) v x)
    ∙ sum_below_same 2 _ _ (λ a la. sum_below_same 2 _ _ (λ b lb. across_term one two n f g p q v u w ab ba tp lp tq lq h x lx a b la lb))
    ∙ sym (product_of_sums 2 2 (column_term f (count_below one p ∷ []) u (local_index one n x)) (column_term g (count_below two q ∷ []) w (local_index two n x)))

-- ---- the ground state
local_zero : (one : ℕ → Bool) (n : ℕ) → local_index one n 0 ≡ 0
local_zero one zero = refl
local_zero one (suc n) = elim (cases_Bool (one n)) [
  | inl e ↦ rw e (ap₂ (λ i b. i + b * 2 ^ count_below one n) (local_zero one n) (bit_at-zero n) ∙ omega arith)
  | inr e ↦ rw e (local_zero one n)
]

-- an index whose parts are 0 is 0
zero_parts : (one : ℕ → Bool) (n x : ℕ) → x < 2 ^ n → local_index one n x ≡ 0 → local_index (others one) n x ≡ 0 → x ≡ 0
zero_parts one n x l h k = same_from_bits_below n x 0 l (pow_pos n) (λ q b. bit q b ∙ sym (bit_at-zero q))
  where
    bit : (q : ℕ) → q < n → bit_at x q ≡ 0
    bit q b = elim (cases_Bool (one q)) [
      | inl e ↦ sym (local_bit one n q x e b) ∙ ap (λ i. bit_at i (count_below one q)) h ∙ bit_at-zero (count_below one q)
      | inr e ↦ sym (local_bit (others one) n q x (ap not e) b) ∙ ap (λ i. bit_at i (count_below (others one) q)) k ∙ bit_at-zero (count_below (others one) q)
    ]

ground_past : (x : ℕ) → x ≢ 0 → ground x ≡ nothing
ground_past zero ne = absurd (ne refl)
ground_past (suc x) ne = refl

ground_product : (one : ℕ → Bool) (n : ℕ) → IsProduct one (others one) n ground ground ground
ground_product one n x l = elim (cases_eq (local_index one n x) 0) [
  | inr ne ↦
      ground_past x (λ e. ne (ap (local_index one n) e ∙ local_zero one n))
      ∙ sym (ap (λ t. product t (ground (local_index (others one) n x))) (ground_past (local_index one n x) ne) ∙ nothing_times _)
  | inl e ↦ elim (cases_eq (local_index (others one) n x) 0) [
    | inr ne ↦
        ground_past x (λ f. ne (ap (local_index (others one) n) f ∙ local_zero (others one) n))
        ∙ sym (ap (product (ground (local_index one n x))) (ground_past (local_index (others one) n x) ne) ∙ product_nothing _)
    | inl f ↦
        ap ground (zero_parts one n x l e f)
        ∙ sym (ap₂ (λ i j. product (ground i) (ground j)) e f ∙ one_times unity)
  ]
]

-- ---- gate by gate
pub record LiesIn (n : ℕ) (g : Gate) : Type 0 where
  pub first : g.q0 < n
  pub second : g.q1 < n

differ_not : (a b : Bool) → differ (not a) (not b) ≡ differ a b
differ_not true true = refl
differ_not true false = refl
differ_not false true = refl
differ_not false false = refl

differ_true : (a b : Bool) → differ a b ≡ true → a ≡ true → b ≡ false
differ_true a b d e = not-true b (ap (λ c. differ c b) (sym e) ∙ d)

pub differ_false : (a b : Bool) → differ a b ≡ true → a ≡ false → b ≡ true
differ_false a b d e = ap (λ c. differ c b) (sym e) ∙ d

alike_true : (a b : Bool) → differ a b ≡ false → a ≡ true → b ≡ true
alike_true a b d e = not-false b (ap (λ c. differ c b) (sym e) ∙ d)

alike_false : (a b : Bool) → differ a b ≡ false → a ≡ false → b ≡ false
alike_false a b d e = ap (λ c. differ c b) (sym e) ∙ d

pub crosses_others : (one : ℕ → Bool) (g : Gate) → crosses (others one) g ≡ crosses one g
crosses_others one g = differ_not (one g.q0) (one g.q1)

wires_in : (one : ℕ → Bool) (n : ℕ) (g : Gate) → LiesIn n g → one g.q0 ≡ true → one g.q1 ≡ true → AllIn one n (wires g)
wires_in one n g h a b = elim (cases_Bool (eqb (qubits_of g.kind) 2)) [
  | inl e ↦ rw e (a, h.first, (b, h.second, tt))
  | inr e ↦ rw e (a, h.first, tt)
]

path_in : (one : ℕ → Bool) (g : Gate) (gs : List Gate) (ds : List ℕ) → crosses one g ≡ true
    → path_operations one (g ∷ gs) ds ≡ term_operation g (first_digit ds) ∷ path_operations one gs (other_digits ds)
path_in one g gs ds e = rw e refl

path_out : (one : ℕ → Bool) (g : Gate) (gs : List Gate) (ds : List ℕ) → crosses one g ≡ false
    → path_operations one (g ∷ gs) ds ≡ operation_of g ∷ path_operations one gs ds
path_out one g gs ds e = rw e refl

pub half_first : (one : ℕ → Bool) (g : Gate) (gs : List Gate) (ds : List ℕ) → crosses one g ≡ true → one g.q0 ≡ true
    → half_operations one (g ∷ gs) ds
    ≡ record { matrix = number_in (term_at g.kind (first_digit ds)).first; qubits = count_below one g.q0 ∷ [] } ∷ half_operations one gs (other_digits ds)
half_first one g gs ds e f = rw (e, f) refl

pub half_second : (one : ℕ → Bool) (g : Gate) (gs : List Gate) (ds : List ℕ) → crosses one g ≡ true → one g.q0 ≡ false
    → half_operations one (g ∷ gs) ds
    ≡ record { matrix = number_in (term_at g.kind (first_digit ds)).second; qubits = count_below one g.q1 ∷ [] } ∷ half_operations one gs (other_digits ds)
half_second one g gs ds e f = rw (e, f) refl

pub half_local : (one : ℕ → Bool) (g : Gate) (gs : List Gate) (ds : List ℕ) → crosses one g ≡ false → one g.q0 ≡ true
    → half_operations one (g ∷ gs) ds ≡ local_operation one g ∷ half_operations one gs ds
half_local one g gs ds e f = rw (e, f) refl

pub half_none : (one : ℕ → Bool) (g : Gate) (gs : List Gate) (ds : List ℕ) → crosses one g ≡ false → one g.q0 ≡ false
    → half_operations one (g ∷ gs) ds ≡ half_operations one gs ds
half_none one g gs ds e f = rw (e, f) refl

-- three lists of operations keep a product
Keeps : (ℕ → Bool) → ℕ → List Operation → List Operation → List Operation → Type 0
Keeps one n path first second = (v u w : ℕ → Omega) → IsProduct one (others one) n v u w → IsProduct one (others one) n (evolved v path) (evolved u first) (evolved w second)

keeps_same : (one : ℕ → Bool) (n : ℕ) {p p' f f' s s' : List Operation} → p ≡ p' → f ≡ f' → s ≡ s' → Keeps one n p' f' s' → Keeps one n p f s
keeps_same one n ep ef es h = subst₃ (Keeps one n) (sym ep) (sym ef) (sym es) h

keeps_gates : (one : ℕ → Bool) (n : ℕ) (gs : List Gate) (ds : List ℕ) → All (LiesIn n) gs
    → Keeps one n (path_operations one gs ds) (half_operations one gs ds) (half_operations (others one) gs ds)
unfolding Keeps
keeps_gates one n [] ds h = λ v u w p. p
keeps_gates one n (g ∷ gs) ds h =
    let here : LiesIn n g = All-head (LiesIn n) g gs h in
    let rest = All-tail (LiesIn n) g gs h in
    let apart : Apart one (others one) = λ q e. ap not e in
    let apart' : Apart (others one) one = λ q e. not-true (one q) e in
    elim (cases_Bool (crosses one g)) [
      | inl e ↦
          let e' : crosses (others one) g ≡ true = crosses_others one g ∙ e in
          let t = term_at g.kind (first_digit ds) in
          elim (cases_Bool (one g.q0)) [
            | inl a ↦
                let b : one g.q1 ≡ false = differ_true (one g.q0) (one g.q1) e a in
                keeps_same one n (path_in one g gs ds e) (half_first one g gs ds e a) (half_second (others one) g gs ds e' (ap not a)) (λ v u w p.
                keeps_gates one n gs (other_digits ds) rest _ _ _
                (across one (others one) n (number_in t.first) (number_in t.second) g.q0 g.q1 v u w apart apart' a here.first (ap not b) here.second p))
            | inr a ↦
                let b : one g.q1 ≡ true = differ_false (one g.q0) (one g.q1) e a in
                keeps_same one n (path_in one g gs ds e) (half_second one g gs ds e a) (half_first (others one) g gs ds e' (ap not a)) (λ v u w p.
                keeps_gates one n gs (other_digits ds) rest _ _ _
                (turn_product (others one) one n _
                (applied (number_in t.first) (count_below (others one) g.q0 ∷ []) w) (applied (number_in t.second) (count_below one g.q1 ∷ []) u)
                (across (others one) one n (number_in t.first) (number_in t.second) g.q0 g.q1 v w u apart' apart (ap not a) here.first b here.second
                (turn_product one (others one) n v u w p))))
          ]
      | inr e ↦
          let e' : crosses (others one) g ≡ false = crosses_others one g ∙ e in
          elim (cases_Bool (one g.q0)) [
            | inl a ↦
                let b : one g.q1 ≡ true = alike_true (one g.q0) (one g.q1) e a in
                keeps_same one n (path_out one g gs ds e) (half_local one g gs ds e a) (half_none (others one) g gs ds e' (ap not a)) (λ v u w p.
                keeps_gates one n gs ds rest _ _ _
                (inside one (others one) n (number_in (matrix_of g.kind)) (wires g) v u w apart (wires_in one n g here a b) p))
            | inr a ↦
                let b : one g.q1 ≡ false = alike_false (one g.q0) (one g.q1) e a in
                keeps_same one n (path_out one g gs ds e) (half_none one g gs ds e a) (half_local (others one) g gs ds e' (ap not a)) (λ v u w p.
                keeps_gates one n gs ds rest _ _ _
                (turn_product (others one) one n _ (applied (number_in (matrix_of g.kind)) (map (count_below (others one)) (wires g)) w) u
                (inside (others one) one n (number_in (matrix_of g.kind)) (wires g) v w u apart' (wires_in (others one) n g here (ap not a) (ap not b))
                (turn_product one (others one) n v u w p))))
          ]
    ]

-- a path's state is the product of its halves
pub path_is_product : (one : ℕ → Bool) (n : ℕ) (gates : List Gate) (ds : List ℕ) (x : ℕ) → All (LiesIn n) gates → x < 2 ^ n
    → path_state one gates ds x ≡ product (half_state one gates ds (local_index one n x)) (half_state (others one) gates ds (local_index (others one) n x))
unfolding Keeps
path_is_product one n gates ds x h l = keeps_gates one n gates ds h ground ground ground (ground_product one n) x l
