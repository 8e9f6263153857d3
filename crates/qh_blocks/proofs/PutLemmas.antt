-- Several items of a list written one after another.
use Rattle.std.proofs.Common.{◌≡◌, ◌≢◌, ℕ, zero, suc, ◌<◌, inl, inr, List, length, set, length-set, get_or, arith, refl, sym, subst, ◌∙◌}
use Rattle.std.specs.List.{All}
use Rattle.std.proofs.lemmas.List.{get_or-set_same, get_or-set_other}
use Rattle.std.proofs.lemmas.List.Elements.{All-set}
use Rattle.std.proofs.lemmas.Bool.{cases_eq}

-- item j stands at place w j, for each j below k
abbrev pub set_all : {A : Type 0} → ℕ → (ℕ → ℕ) → (ℕ → A) → List A → List A
set_all zero w z v = v
set_all (suc k) w z v = set (set_all k w z v) (w k) (z k)

pub length_set_all : {A : Type 0} (k : ℕ) (w : ℕ → ℕ) (z : ℕ → A) (v : List A) → length (set_all k w z v) ≡ length v
length_set_all zero w z v = refl
length_set_all (suc k) w z v = length-set (set_all k w z v) (w k) (z k) ∙ length_set_all k w z v

pub set_all_other : {A : Type 0} (k : ℕ) (w : ℕ → ℕ) (z : ℕ → A) (v : List A) (i : ℕ) (d : A) → ((r : ℕ) → r < k → i ≢ w r) → get_or (set_all k w z v) i d ≡ get_or v i d
set_all_other zero w z v i d h = refl
set_all_other (suc k) w z v i d h = get_or-set_other (set_all k w z v) (w k) i (z k) d (h k (omega arith)) ∙ set_all_other k w z v i d (λ r l. h r (omega arith))

pub set_all_here : {A : Type 0} (k : ℕ) (w : ℕ → ℕ) (z : ℕ → A) (v : List A) (d : A) → ((a b : ℕ) → a < k → b < k → w a ≡ w b → a ≡ b) → ((r : ℕ) → r < k → w r < length v)
    → (r : ℕ) → r < k → get_or (set_all k w z v) (w r) d ≡ z r
set_all_here zero w z v d inj within r l = absurd (omega arith)
set_all_here (suc k) w z v d inj within r l = elim (cases_eq r k) [
  | inl e ↦ rw e (get_or-set_same (set_all k w z v) (w k) (z k) d (subst (λ n. w k < n) (sym (length_set_all k w z v)) (within k (omega arith))))
  | inr ne ↦
      get_or-set_other (set_all k w z v) (w k) (w r) (z k) d (λ f. ne (inj r k l (omega arith) f))
      ∙ set_all_here k w z v d (λ a b la lb. inj a b (omega arith) (omega arith)) (λ s b. within s (omega arith)) r (omega arith)
]

pub all_set_all : {A : Type 0} (P : A → Type 0) (k : ℕ) (w : ℕ → ℕ) (z : ℕ → A) (v : List A) → All P v → ((r : ℕ) → r < k → P (z r)) → All P (set_all k w z v)
all_set_all P zero w z v h each = h
all_set_all P (suc k) w z v h each = All-set P _ _ _ (each k (omega arith)) (all_set_all P k w z v h (λ r l. each r (omega arith)))
