-- The factors of a term in the list of a kind's terms.
use Rattle.std.proofs.Common.{◌≡◌, ℕ, zero, suc, ◌<◌, false, List, [], ◌∷◌, length, map, get_or, arith, ap}
use Rattle.qh_gates.specs.declared.kind.Kind.{Kind}
use Rattle.qh_gates.specs.declared.term.Term.{Term}
use Rattle.qh_gates.specs.Terms.{Factors, terms_of, term_at, arranged}
use Rattle.qh_gates.specs.TermRows.{factors_of}

-- the term of a list of terms at a number
map_at : (ts : List Term) (fs : List Factors) (t : ℕ) (d : Term) (e : Factors) → map factors_of ts ≡ map (arranged false) fs → t < length fs
    → factors_of (get_or ts t d) ≡ get_or fs t e
map_at [] [] t d e s l = absurd (omega arith)
map_at [] (f ∷ fs) t d e s l = absurd (omega (arith, ap length s))
map_at (x ∷ ts) [] t d e s l = absurd (omega arith)
map_at (x ∷ ts) (f ∷ fs) zero d e s l = ap (λ xs. get_or xs 0 (factors_of x)) s
map_at (x ∷ ts) (f ∷ fs) (suc t) d e s l = map_at ts fs t d e (ap (λ xs. tail xs) s) (omega arith)
  where
    tail : List Factors → List Factors
    tail [] = []
    tail (y ∷ ys) = ys

pub factor_one : (kind : Kind) (ts : List Term) (t : ℕ) (d : Term) → map factors_of ts ≡ map (arranged false) (terms_of kind) → t < length (terms_of kind)
    → (get_or ts t d).one.rows ≡ (term_at kind t).first
factor_one kind ts t d s l = ap (λ f. f.first) (map_at ts (terms_of kind) t d (record { first = []; second = [] }) s l)

pub factor_two : (kind : Kind) (ts : List Term) (t : ℕ) (d : Term) → map factors_of ts ≡ map (arranged false) (terms_of kind) → t < length (terms_of kind)
    → (get_or ts t d).two.rows ≡ (term_at kind t).second
factor_two kind ts t d s l = ap (λ f. f.second) (map_at ts (terms_of kind) t d (record { first = []; second = [] }) s l)
