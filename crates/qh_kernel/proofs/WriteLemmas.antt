-- Numbers written at several places.
use Rattle.std.proofs.Common.{◌≡◌, ◌≢◌, ℕ, zero, suc, ◌<◌, inl, inr, List, length, arith, refl, ap, ◌∙◌, length-set, Option, Some, None}
use Rattle.std.proofs.lemmas.List.{get_or-set_same, get_or-set_other}
use Rattle.std.proofs.lemmas.Bool.{cases_eq}
use Rattle.qh_ring.specs.declared.number.Omega.{Omega}
use Rattle.qh_ring.specs.Numbers.{nothing}
use Rattle.qh_ring.specs.States.{at_index}
use Rattle.qh_kernel.specs.Sources.{or_old, put_at, put_all}

length_put : (v : List Omega) (place : ℕ) (z : Option Omega) → length (put_at v place z) ≡ length v
length_put v place None = refl
length_put v place (Some z) = length-set v place z

put_here : (v : List Omega) (place : ℕ) (z : Option Omega) → place < length v → at_index (put_at v place z) place ≡ or_old z (at_index v place)
put_here v place None l = refl
put_here v place (Some z) l = get_or-set_same v place z nothing l

put_other : (v : List Omega) (place k : ℕ) (z : Option Omega) → k ≢ place → at_index (put_at v place z) k ≡ at_index v k
put_other v place k None ne = refl
put_other v place k (Some z) ne = get_or-set_other v place k z nothing ne

pub length_put_all : (k : ℕ) (w : ℕ → ℕ) (z : ℕ → Option Omega) (v : List Omega) → length (put_all k w z v) ≡ length v
length_put_all zero w z v = refl
length_put_all (suc k) w z v = length_put (put_all k w z v) (w k) (z k) ∙ length_put_all k w z v

pub put_all_other : (k : ℕ) (w : ℕ → ℕ) (z : ℕ → Option Omega) (v : List Omega) (i : ℕ) → ((r : ℕ) → r < k → i ≢ w r) → at_index (put_all k w z v) i ≡ at_index v i
put_all_other zero w z v i h = refl
put_all_other (suc k) w z v i h = put_other (put_all k w z v) (w k) i (z k) (h k (omega arith)) ∙ put_all_other k w z v i (λ r l. h r (omega arith))

pub put_all_here : (k : ℕ) (w : ℕ → ℕ) (z : ℕ → Option Omega) (v : List Omega) → ((a b : ℕ) → a < k → b < k → w a ≡ w b → a ≡ b) → ((r : ℕ) → r < k → w r < length v)
    → (r : ℕ) → r < k → at_index (put_all k w z v) (w r) ≡ or_old (z r) (at_index v (w r))
put_all_here zero w z v inj within r l = absurd (omega arith)
put_all_here (suc k) w z v inj within r l = elim (cases_eq r k) [
  | inl e ↦ rw e (
      put_here (put_all k w z v) (w k) (z k) (rw (length_put_all k w z v) (within k (omega arith)))
      ∙ ap (or_old (z k)) (put_all_other k w z v (w k) (λ s b f. differ k s (omega arith) (omega arith) (omega arith) f)))
  | inr ne ↦
      put_other (put_all k w z v) (w k) (w r) (z k) (λ f. differ r k l (omega arith) ne f)
      ∙ put_all_here k w z v (λ a b la lb. inj a b (omega arith) (omega arith)) (λ s b. within s (omega arith)) r (omega arith)
]
  where
    differ : (a b : ℕ) → a < suc k → b < suc k → a ≢ b → w a ≡ w b → ⊥
    differ a b la lb ne e = ne (inj a b la lb e)
