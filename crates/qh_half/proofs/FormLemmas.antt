-- The numbers of the columns in the wide list, and their bound there.
use Rattle.std.proofs.Common.{◌≡◌, ℕ, zero, suc, ◌+◌, ◌^◌, ◌<◌, ◌≤◌, ◌≢◌, inl, inr, List, length, get_or, set, arith, ap, sym, subst, ◌∙◌}
use Rattle.std.specs.List.{All}
use Rattle.std.proofs.Math.Pow.{pow_mono}
use Rattle.std.proofs.lemmas.Bool.{cases_eq}
use Rattle.std.proofs.lemmas.List.{get_or-set_same, get_or-set_other, ext_get_or}
use Rattle.std.proofs.lemmas.List.FromFn.{get_or-map-range_with_len, length-map-range_with_len}
use Rattle.qh_ring.specs.declared.number.Omega.{Omega}
use Rattle.qh_ring.specs.Numbers.{IsWithin, nothing}
use Rattle.qh_ring.specs.States.{at_index, applied, applied_list, ground, listed}
use Rattle.qh_ring.proofs.ListedLemmas.{length-listed}
use Rattle.qh_half.specs.Halves.{IsVector}

-- ---- a bound that is less strict
pub within_more : (m n : ℕ) (z : Omega) → m ≤ n → IsWithin m z → IsWithin n z
within_more m n z l h =
    let p : 2 ^ m ≤ 2 ^ n = pow_mono l in
    let ha = h.a in let hb = h.b in let hc = h.c in let hd = h.d in
    record { a = omega arith; b = omega arith; c = omega arith; d = omega arith }

pub all_more : (m n : ℕ) (v : List Omega) → m ≤ n → All (IsWithin m) v → All (IsWithin n) v
all_more m n v l h i d b = within_more m n (get_or v i d) l (h i d b)

-- ---- a list that is written from the front
-- the first i numbers are those of the other list
pub record IsSpread (from to : List Omega) (i : ℕ) : Type 0 where
  pub done : (k : ℕ) → k < i → at_index to k ≡ at_index from k

pub spread_none : (from to : List Omega) → IsSpread from to 0
spread_none from to = record { done = λ k l. absurd (omega arith) }

pub spread_more : (from to : List Omega) (i : ℕ) (z : Omega) → i < length to → IsSpread from to i → z ≡ at_index from i → IsSpread from (set to i z) (i + 1)
spread_more from to i z l h e = record {
  done = λ k b. elim (cases_eq k i) [
    | inl s ↦ ap (at_index (set to i z)) s ∙ get_or-set_same to i z nothing l ∙ e ∙ ap (at_index from) (sym s)
    | inr ne ↦ get_or-set_other to i k z nothing ne ∙ h.done k (before k i b ne)
  ];
}
  where
    before : (k i : ℕ) → k < i + 1 → k ≢ i → k < i
    before k i b ne = omega arith

pub spread_all : (from to : List Omega) (i : ℕ) → length to ≡ length from → length to ≤ i → IsSpread from to i → to ≡ from
spread_all from to i e l h = ext_get_or nothing to from e (λ k b. h.done k (below k i (length to) b l))
  where
    below : (k i n : ℕ) → k < n → n ≤ i → k < i
    below k i n b l = omega arith

-- ---- what a matrix makes of the columns
pub length_applied : (m : ℕ → ℕ → Omega) (qs : List ℕ) (v : List Omega) → length (applied_list m qs v) ≡ length v
unfolding applied_list
length_applied m qs v = length-map-range_with_len (applied m qs (at_index v)) 0 (length v)

pub vector_after : (qubits room : ℕ) (m : ℕ → ℕ → Omega) (qs : List ℕ) (v w : List Omega) → room ≤ 126 → IsVector qubits v → w ≡ applied_list m qs v → All (IsWithin room) w → IsVector qubits w
vector_after qubits room m qs v w l h e b = record { len = ap length e ∙ length_applied m qs v ∙ h.len; within = all_more room 126 w l b }

-- ---- the ground state
within_ground : (k : ℕ) → IsWithin 126 (ground k)
within_ground zero = record { a = omega arith; b = omega arith; c = omega arith; d = omega arith }
within_ground (suc k) = record { a = omega arith; b = omega arith; c = omega arith; d = omega arith }

all_ground : (n : ℕ) → All (IsWithin 126) (listed n ground)
unfolding listed
all_ground n i d l =
    let li : i < 2 ^ n = subst (λ t. i < t) (length-listed n ground) l in
    let z : 0 + i ≡ i = omega arith in
    subst (IsWithin 126) (sym (get_or-map-range_with_len ground 0 (2 ^ n) i i d li z)) (within_ground i)

pub vector_ground : (n : ℕ) → IsVector n (listed n ground)
vector_ground n = record { len = length-listed n ground; within = all_ground n }
