-- What a common factor keeps: it passes through sums, products and matrices, and widens a number by half a bit for each root.
use Rattle.std.proofs.Common.{◌≡◌, ℕ, zero, suc, ◌+◌, ◌*◌, ◌/◌, ◌^◌, List, length, map, get_or, arith, refl, sym, ap, subst, ◌∙◌, ℤ}
use Rattle.std.proofs.Math.Path.{ap₂}
use Rattle.std.proofs.Math.ListN.{get_or-map}
use Rattle.std.specs.List.{range_with_len}
use Rattle.std.proofs.lemmas.Int.{ints}
use Rattle.std.proofs.lemmas.Nat.{pow-add}
use Rattle.std.proofs.lemmas.List.{length-map, ext_get_or}
use Rattle.std.proofs.lemmas.List.FromFn.{fill_by_all, get_or-map-range_with_len, length-map-range_with_len}
use Rattle.qh_ring.specs.declared.number.Omega.{Omega}
use Rattle.qh_ring.specs.Numbers.{sum, product, nothing, root, times_root, IsWithin}
use Rattle.qh_ring.specs.States.{sum_below, place_on, with_bits, applied, at_index, applied_list, listed}
use Rattle.std.proofs.lemmas.Simd.{map-map}
use Rattle.qh_ring.proofs.ListedLemmas.{listed_same}
use Rattle.qh_ring.proofs.NumberLemmas.{product_comm, product_assoc, product_sum, root_times, times_root_injective}
use Rattle.qh_blocks.specs.declared.block.Block.{Block}
use Rattle.qh_blocks.specs.Numbers.{number_at}
use Rattle.qh_blocks.specs.Factors.{HasFactor}
use Rattle.qh_blocks.proofs.FactorLemmas.{root_root, root_nothing}
use Rattle.qh_narrow.specs.Columns.{first_numbers, AreBlocksOf}
use Rattle.qh_narrow.specs.Factor.{with_factor}

root_sum : (s : ℕ) (x y : Omega) → sum (times_root s x) (times_root s y) ≡ times_root s (sum x y)
root_sum zero x y = refl
root_sum (suc s) x y = sym (product_sum root (times_root s x) (times_root s y)) ∙ ap (product root) (root_sum s x y)

root_product : (s : ℕ) (x y : Omega) → product x (times_root s y) ≡ times_root s (product x y)
root_product zero x y = refl
root_product (suc s) x y =
    sym (product_assoc x root (times_root s y)) ∙ ap (λ t. product t (times_root s y)) (product_comm x root)
    ∙ product_assoc root x (times_root s y) ∙ ap (product root) (root_product s x y)

root_sum_below : (s n : ℕ) (f g : ℕ → Omega) → ((k : ℕ) → f k ≡ times_root s (g k)) → sum_below n f ≡ times_root s (sum_below n g)
root_sum_below s zero f g h = sym (root_nothing s)
root_sum_below s (suc n) f g h = ap₂ sum (root_sum_below s n f g h) (h n) ∙ root_sum s (sum_below n g) (g n)

pub at_factor : (s : ℕ) (v : List Omega) (k : ℕ) → at_index (with_factor s v) k ≡ times_root s (at_index v k)
at_factor s v k = ap (get_or (map (times_root s) v) k) (sym (root_nothing s)) ∙ get_or-map (times_root s) v k nothing

applied_factor : (m : ℕ → ℕ → Omega) (qs : List ℕ) (s : ℕ) (v : List Omega) (x : ℕ) → applied m qs (at_index (with_factor s v)) x ≡ times_root s (applied m qs (at_index v) x)
unfolding applied
applied_factor m qs s v x =
    root_sum_below s (2 ^ length qs) _ _ (λ c. ap (product (m (place_on qs x) c)) (at_factor s v (with_bits qs c x)) ∙ root_product s (m (place_on qs x) c) (at_index v (with_bits qs c x)))

pub passes_factor : (m : ℕ → ℕ → Omega) (qs : List ℕ) (s : ℕ) (v : List Omega) → applied_list m qs (with_factor s v) ≡ with_factor s (applied_list m qs v)
unfolding applied_list
passes_factor m qs s v =
    let n = length v in
    let len : length (with_factor s v) ≡ length v = length-map v (times_root s) in
    ap (λ k. map (applied m qs (at_index (with_factor s v))) (range_with_len 0 k)) len
    ∙ sym (fill_by_all (applied m qs (at_index (with_factor s v))) (map (times_root s) (map (applied m qs (at_index v)) (range_with_len 0 (length v)))) (length v) nothing
    (length-map (map (applied m qs (at_index v)) (range_with_len 0 (length v))) (times_root s) ∙ length-map-range_with_len (applied m qs (at_index v)) 0 (length v))
    (λ k l. at_factor s (map (applied m qs (at_index v)) (range_with_len 0 (length v))) k
    ∙ ap (times_root s) (get_or-map-range_with_len (applied m qs (at_index v)) 0 (length v) k k nothing l (omega arith)) ∙ sym (applied_factor m qs s v k)))

-- ---- how far a factor widens
one_root : (bits : ℕ) (z : Omega) → IsWithin bits z → IsWithin (bits + 1) (product root z)
one_root bits z h =
    let p : 2 ^ (bits + 1) ≡ 2 ^ bits * 2 = pow-add 2 bits 1 in
    let ha = h.a in let hb = h.b in let hc = h.c in let hd = h.d in
    subst (IsWithin (bits + 1)) (sym (root_times z)) (record { a = omega (arith, ints); b = omega (arith, ints); c = omega (arith, ints); d = omega (arith, ints) })

two_roots : (bits : ℕ) (z : Omega) → IsWithin bits z → IsWithin (bits + 1) (product root (product root z))
two_roots bits z h =
    let p : 2 ^ (bits + 1) ≡ 2 ^ bits * 2 = pow-add 2 bits 1 in
    let ha = h.a in let hb = h.b in let hc = h.c in let hd = h.d in
    subst (IsWithin (bits + 1)) (sym (root_root z)) (record { a = omega (arith, ints); b = omega (arith, ints); c = omega (arith, ints); d = omega (arith, ints) })

at_bits : (m n : ℕ) (z : Omega) → m ≡ n → IsWithin m z → IsWithin n z
at_bits m n z e h = subst (λ k. IsWithin k z) e h

pub widens_by_half : (s bits : ℕ) (z : Omega) → IsWithin bits z → IsWithin (bits + (s + 1) / 2) (times_root s z)
widens_by_half zero bits z h = at_bits bits _ z (omega arith) h
widens_by_half (suc zero) bits z h = at_bits (bits + 1) _ _ (omega arith) (one_root bits z h)
widens_by_half (suc (suc s)) bits z h = at_bits (bits + (s + 1) / 2 + 1) _ _ (omega arith) (two_roots (bits + (s + 1) / 2) (times_root s z) (widens_by_half s bits z h))

-- no factor
pub no_factor : (v : List Omega) → with_factor 0 v ≡ v
no_factor v = ext_get_or nothing (with_factor 0 v) v (length-map v (times_root 0)) (λ k l. at_factor 0 v k)

-- ---- blocks with a factor taken out
pub factor_first : {V : Type 0} (lanes : V → List ℤ) (b q s : ℕ) (old new : List (Block V)) → HasFactor lanes b s old new → with_factor s (first_numbers lanes b q new) ≡ first_numbers lanes b q old
unfolding listed
factor_first lanes b q s old new h =
    map-map (times_root s) (number_at lanes b new) (range_with_len 0 (2 ^ q))
    ∙ listed_same q (λ k. times_root s (number_at lanes b new k)) (number_at lanes b old) (λ k l. h.numbers k)

pub factor_blocks : {V : Type 0} (lanes : V → List ℤ) (b q s : ℕ) (old new : List (Block V)) → AreBlocksOf lanes b q old → HasFactor lanes b s old new → AreBlocksOf lanes b q new
factor_blocks lanes b q s old new o h = record {
  few = o.few;
  len = h.len ∙ o.len;
  others = λ k g. times_root_injective s (number_at lanes b new k) nothing (h.numbers k ∙ o.others k g ∙ sym (root_nothing s));
}
