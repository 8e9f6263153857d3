-- A draw and a look keep the rule.
use Rattle.std.proofs.Common.{◌≡◌, ◌+◌, ◌-◌, ◌%◌, ◌^◌, ◌<◌, ◌≤◌, ◌==◌, ℕ, zero, suc, List, [], ◌∷◌, ◌++◌, All, set, slice_index, slice_set}
use Rattle.std.proofs.Common.{sym, refl, ap, subst, arith}
use Rattle.std.specs.Prelude.{if◌then◌else◌}
use Rattle.std.specs.List.{sum_by}
use Rattle.std.proofs.lemmas.List.Sums.{sum_by-append, sum_by-cons}
use Rattle.std.proofs.lemmas.Bool.Decides.{nat_tests}
use Rattle.std.proofs.lemmas.List.Elements.{All-cons}
use mathlib.Core.Option.{some, some-injective, some-ne-none}
use lib.ListN.{get_elem?}
use Rattle.atomic_table.specs.Table.{State, Act, Allows, Joins, Splits, Valid, carried_after, keeps}
use Rattle.atomic_table.proofs.Lists.{set_again}
use Rattle.qh_draw.specs.Rule.{Drew, IsFair, IsFairAt, Looked, dealt, joined, once_below, one_share, rights, spent, times}
use Rattle.qh_draw.specs.declared.rule.Rights.{Rights}

-- the total after a change of one view
pub total_set : (f : Rights → ℕ) (views : List Rights) (i : ℕ) (v w : Rights) → get_elem? views i ≡ some v
    → sum_by f (set views i w) + f v ≡ sum_by f views + f w
total_set f [] i v w at = absurd (some-ne-none v (sym at))
total_set f (x ∷ xs) zero v w at =
    let e : x ≡ v = some-injective x v at in omega (arith, ap f e, sum_by-cons f x xs, sum_by-cons f w xs)
total_set f (x ∷ xs) (suc i) v w at =
    omega (arith, total_set f xs i v w at, sum_by-cons f x xs, sum_by-cons f x (set xs i w))

-- the total with one view more
total_more : (f : Rights → ℕ) (views : List Rights) (w : Rights) → sum_by f (views ++ w ∷ []) ≡ sum_by f views + f w
total_more f views w = omega (arith, sum_by-append f views (w ∷ []), sum_by-cons f w [])

-- the total after a view was cut in two, and after a view took in another
total_split : (f : Rights → ℕ) (views : List Rights) (i : ℕ) (v left right : Rights) → get_elem? views i ≡ some v
    → sum_by f (set views i left ++ right ∷ []) + f v ≡ sum_by f views + f left + f right
total_split f views i v left right at = omega (arith, total_set f views i v left at, total_more f (set views i left) right)

total_join : (f : Rights → ℕ) (views : List Rights) (i j : ℕ) (v w both gone : Rights) → get_elem? views i ≡ some v → get_elem? (set views i both) j ≡ some w
    → sum_by f (set (set views i both) j gone) + f v + f w ≡ sum_by f views + f both + f gone
total_join f views i j v w both gone at there = omega (arith, total_set f views i v both at, total_set f (set views i both) j w gone there)

part : (f : Rights → ℕ) (views : List Rights) (i : ℕ) (v : Rights) → get_elem? views i ≡ some v → f v ≤ sum_by f views
part f [] i v at = absurd (some-ne-none v (sym at))
part f (x ∷ xs) zero v at = let e : x ≡ v = some-injective x v at in omega (arith, ap f e, sum_by-cons f x xs)
part f (x ∷ xs) (suc i) v at = omega (arith, part f xs i v at, sum_by-cons f x xs)

at_most_once : (x n : ℕ) → once_below x n ≤ 1
at_most_once x n = grind (arith, nat_tests)

once_more : (x n : ℕ) → once_below x (n + 1) ≡ once_below x n + (if n == x then 1 else 0)
once_more x n = grind (arith, nat_tests)

here : (y : ℕ) → times y (y ∷ []) ≡ 1
here y = grind (arith, nat_tests)

is_below : (y n : ℕ) → 1 ≤ once_below y n → y < n
is_below y n h = grind (arith, nat_tests)

all_below : (n : ℕ) (xs : List ℕ) → ((x : ℕ) → times x xs ≤ once_below x n) → All (λ x. x < n) xs
all_below n [] h = λ k d lt. absurd (omega arith)
all_below n (y ∷ ys) h = All-cons (λ x. x < n) y ys
    (is_below y n (omega (arith, h y, here y, sum_by-cons (λ z. if z == y then 1 else 0) y ys, sum_by-cons (λ z. if z == y then 1 else 0) y [])))
    (all_below n ys (λ x. omega (arith, h x, sum_by-cons (λ z. if z == x then 1 else 0) y ys)))

below : (total n : ℕ) (views : List Rights) (i : ℕ) (v : Rights) → IsFairAt total n views → get_elem? views i ≡ some v → All (λ x. x < n) v.drawn
below total n views i v fair at =
    all_below n v.drawn (λ x. omega (arith, part (λ u. times x u.drawn) views i v at, fair.2 x))

fair_after : (total n : ℕ) (views : List Rights) (i : ℕ) (v : Rights) → 0 < v.left → IsFairAt total n views → get_elem? views i ≡ some v
    → IsFairAt total (n + 1) (set views i (rights v.each (v.left - 1) (v.drawn ++ n ∷ [])))
fair_after total n views i v some_left fair at =
    let w = rights v.each (v.left - 1) (v.drawn ++ n ∷ []) in (
      fair.0,
      omega (arith, total_set (λ u. u.left) views i v w at, fair.1),
      (λ x. omega (
        arith,
        total_set (λ u. times x u.drawn) views i v w at,
        fair.2 x,
        once_more x n,
        sum_by-append (λ y. if y == x then 1 else 0) v.drawn (n ∷ []),
        sum_by-cons (λ y. if y == x then 1 else 0) n [],
      )),
    )

-- the rule as a fact about the table
abbrev holds : ℕ → State (Unit {0}) Rights → Type 0
holds total s = IsFair total s.words s.views

pub draws : (total slots id : ℕ) (me : Rights × List (ℕ × Unit {0})) → 0 < me.0.left
    → Allows (holds total) slots id me 0 (λ n. (n + 1) % 2 ^ 64) (λ n after. Drew me.0 n after.0 × (me.1 ≡ after.1))
draws total slots id me some_left s fair homes at word =
    let n = fair.0 in
    let w = rights me.0.each (me.0.left - 1) (me.0.drawn ++ n ∷ []) in
    let room : (n + 1) % 2 ^ 64 ≡ n + 1 = omega (arith, fair.2.0, fair.2.1) in
    let P : List ℕ → Type 0 = λ ws. (w : Rights) × (a : Act (Unit {0})) × Valid s.homes me.1 a
    × IsFair total (slice_set ws 0 ((slice_index ws 0 + 1) % 2 ^ 64)) (slice_set s.views id w)
    × (Drew me.0 (slice_index ws 0) w × (me.1 ≡ carried_after me.1 a)) in
    subst P (sym fair.1) (
      w,
      keeps,
      tt,
      (n + 1, ap (λ (k : ℕ). k ∷ []) room, fair_after total n s.views id me.0 some_left fair.2 at),
      ((refl, below total n s.views id me.0 fair.2 at), refl),
    )

pub looks : (total slots id : ℕ) (me : Rights × List (ℕ × Unit {0}))
    → Allows (holds total) slots id me 0 (λ n. n) (λ n after. Looked me.0 n after.0 × (me.1 ≡ after.1))
looks total slots id me s fair homes at word =
    let n = fair.0 in
    let P : List ℕ → Type 0 = λ ws. (w : Rights) × (a : Act (Unit {0})) × Valid s.homes me.1 a
    × IsFair total (slice_set ws 0 (slice_index ws 0)) (slice_set s.views id w) × (Looked me.0 (slice_index ws 0) w × (me.1 ≡ carried_after me.1 a)) in
    subst P (sym fair.1) (
      me.0,
      keeps,
      tt,
      (n, refl, subst (IsFairAt total n) (sym (set_again s.views id me.0 at)) fair.2),
      ((refl, below total n s.views id me.0 fair.2 at, λ x. omega (arith, part (λ u. times x u.drawn) s.views id me.0 at, fair.2.2 x, at_most_once x n)), refl),
    )

pub opens : (total each : ℕ) → total < 2 ^ 63 → IsFair total (0 ∷ []) (rights each total [] ∷ [])
opens total each small = (0, refl, (small, omega arith, λ x. grind (arith, nat_tests)))

pub splits : (total id : ℕ) (v : Rights) → v.each ≤ v.left → Splits (holds total) id v (dealt v) (one_share v)
splits total id v enough s fair at =
    let n = fair.0 in (
      n,
      fair.1,
      (
        fair.2.0,
        omega (arith, fair.2.1, total_split (λ u. u.left) s.views id v (dealt v) (one_share v) at),
        (λ x. omega (arith, fair.2.2 x, total_split (λ u. times x u.drawn) s.views id v (dealt v) (one_share v) at)),
      ),
    )

pub joins : (total id other : ℕ) (v w : Rights) → Joins (holds total) id v other w (joined v w) spent
joins total id other v w s fair at apart there =
    let n = fair.0 in (
      n,
      fair.1,
      (
        fair.2.0,
        omega (arith, fair.2.1, total_join (λ u. u.left) s.views id other v w (joined v w) spent at there),
        (λ x. omega (
          arith,
          fair.2.2 x,
          total_join (λ u. times x u.drawn) s.views id other v w (joined v w) spent at there,
          sum_by-append (λ y. if y == x then 1 else 0) v.drawn w.drawn,
        )),
      ),
    )
