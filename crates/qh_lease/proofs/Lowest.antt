-- The leases that pass a test, by their marks.
use Rattle.std.proofs.Common.{◌≡◌, ℕ, suc, zero, ◌∷◌, ◌<◌, Bool, false, List, length, map, replicate, refl, ap, ◌∙◌, sym, arith}
use Rattle.std.proofs.lemmas.List.{get_or-map, length-map}
use Rattle.qh_lease.specs.declared.lease.Lease.{Lease}
use Rattle.qh_lease.specs.declared.lease.Lease.TheVariants.{Fresh}
use Rattle.qh_lease.specs.Lease.{lease_at, NonePasses, IsLowest}
use Rattle.qh_lease.specs.Marks.{is_marked, NoneMarked, IsLowestMarked}

-- the mark of a range is what the test says of its lease
pub is_marked-map : (test : Lease → Bool) (leases : List Lease) (range : ℕ) → range < length leases → is_marked (map test leases) range ≡ test (lease_at leases range)
is_marked-map test leases range h = get_or-map test leases range Fresh false h

pub none_passes : (test : Lease → Bool) (leases : List Lease) (marks : List Bool) (from : ℕ) → marks ≡ map test leases → NoneMarked marks from (length marks) → NonePasses test from leases
none_passes test leases marks from is none = λ range above within.
    sym (is_marked-map test leases range within)
    ∙ (sym (ap (λ m. is_marked m range) is)
    ∙ none range above (let same : length marks ≡ length leases = ap length is ∙ length-map leases test in omega arith))

pub lowest_lease : (test : Lease → Bool) (leases : List Lease) (marks : List Bool) (from range : ℕ) → marks ≡ map test leases → range < length marks → IsLowestMarked marks from range → IsLowest test from leases range
lowest_lease test leases marks from range is within lowest =
    let same : length marks ≡ length leases = ap length is ∙ length-map leases test in
    let here : range < length leases = omega arith in
    record {
      within = here;
      above = lowest.above;
      passes = sym (is_marked-map test leases range here) ∙ (sym (ap (λ m. is_marked m range) is) ∙ lowest.marked);
      lowest = λ lower above below.
          sym (is_marked-map test leases lower (omega arith)) ∙ (sym (ap (λ m. is_marked m lower) is) ∙ lowest.lowest lower above below);
    }

pub map-replicate : {A B : Type 0} (f : A → B) (n : ℕ) (x : A) → map f (replicate n x) ≡ replicate n (f x)
map-replicate f zero x = refl
map-replicate f (suc n) x = ap (λ xs. f x ∷ xs) (map-replicate f n x)
