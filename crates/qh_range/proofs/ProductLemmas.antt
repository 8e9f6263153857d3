-- The sums, bitstring by bitstring.
use Rattle.std.proofs.Common.{◌≡◌, ℕ, ◌+◌, ◌^◌, ◌<◌, ◌≤◌, inl, inr, Bool, true, false, List, [], ◌∷◌, length, get_or, set, take, map, Option, Some, None, arith, refl, sym, ap, subst, ◌∙◌, length-set}
use Rattle.std.specs.Option.{IfSome, IsSome}
use Rattle.std.specs.List.{list_all}
use Rattle.std.proofs.lemmas.List.{take_more, take_all, get_or-set_same, get_or-set_other, ext_get_or, get_or-map, length-map}
use Rattle.std.proofs.lemmas.List.Folds.{list_all-append, list_all_at}
use Rattle.std.proofs.lemmas.Bool.{false≢true, and_from, cases_eq}
use Rattle.qh_ring.specs.declared.number.Omega.{Omega}
use Rattle.qh_ring.specs.Numbers.{sum, nothing}
use Rattle.qh_ring.specs.States.{at_index}
use Rattle.qh_plan.specs.Parts.{local_index}
use Rattle.qh_plan.specs.Jobs.{Job}
use Rattle.qh_plan.specs.Verdicts.{added}
use Rattle.qh_plan.proofs.PartLemmas.{local_below}
use Rattle.qh_plan.proofs.TotalLemmas.{length-added, at_added}
use Rattle.qh_prefix.specs.declared.part.Part.{Part}
use Rattle.qh_range.specs.declared.side.Side.{Side}
use Rattle.qh_prefix.specs.Parts.{in_part, width}
use Rattle.qh_prefix.specs.declared.place.Placed.{Placed}
use Rattle.qh_half.specs.Halves.{Half}
use Rattle.qh_range.specs.Sides.{IsSide, path_end, end_of, at_half, number_at}

-- of the first i bitstrings the numbers are added, and each passed the test
pub record IsAdded (f : ℕ → Omega) (p : ℕ → Bool) (bits : List ℕ) (old : List Omega) (i : ℕ) (sums : List Omega) : Type 0 where
  pub len : length sums ≡ length old
  pub fits : list_all p (take i bits) ≡ true
  pub done : (k : ℕ) → k < i → at_index sums k ≡ sum (at_index old k) (f (get_or bits k 0))
  pub rest : (k : ℕ) → i ≤ k → at_index sums k ≡ at_index old k

pub added_none : (f : ℕ → Omega) (p : ℕ → Bool) (bits : List ℕ) (old : List Omega) → IsAdded f p bits old 0 old
added_none f p bits old = record { len = refl; fits = refl; done = λ k l. absurd (omega arith); rest = λ k l. refl }

pub added_more : (f : ℕ → Omega) (p : ℕ → Bool) (bits : List ℕ) (old : List Omega) (i : ℕ) (sums : List Omega) (z : Omega) → i < length sums → length old ≡ length bits
    → IsAdded f p bits old i sums → p (get_or bits i 0) ≡ true → z ≡ sum (at_index sums i) (f (get_or bits i 0)) → IsAdded f p bits old (i + 1) (set sums i z)
added_more f p bits old i sums z within len r t e =
    let sl = r.len in
    let l : i < length bits = omega arith in
    record {
      len = length-set sums i z ∙ r.len;
      fits = ap (list_all p) (take_more bits i 0 l) ∙ list_all-append p (take i bits) (get_or bits i 0 ∷ []) ∙ and_from _ _ r.fits (and_from _ _ t refl);
      done = λ k b. elim (cases_eq k i) [
        | inl s ↦ ap (at_index (set sums i z)) s ∙ get_or-set_same sums i z nothing within ∙ e
            ∙ ap (λ t. sum t (f (get_or bits i 0))) (r.rest i (omega arith)) ∙ ap (λ k. sum (at_index old k) (f (get_or bits k 0))) (sym s)
        | inr ne ↦ get_or-set_other sums i k z nothing ne ∙ r.done k (omega arith)
      ];
      rest = λ k b. get_or-set_other sums i k z nothing (later i k b) ∙ r.rest k (omega arith);
    }
  where
    later : (i k : ℕ) → i + 1 ≤ k → k ≡ i → ⊥
    later i k b e = omega arith

pub added_all : (f : ℕ → Omega) (p : ℕ → Bool) (bits : List ℕ) (old : List Omega) (i : ℕ) (sums : List Omega) → length sums ≤ i → length old ≡ length bits
    → IsAdded f p bits old i sums → (list_all p bits ≡ true) × (sums ≡ added old (map f bits))
added_all f p bits old i sums e len r =
    let sl = r.len in (
      ap (list_all p) (sym (whole bits i (omega arith))) ∙ r.fits,
      ext_get_or nothing sums (added old (map f bits)) (r.len ∙ sym (length-added old (map f bits) (length old) refl (length-map bits f ∙ sym len)))
          (λ k l. r.done k (omega arith) ∙ ap (sum (at_index old k)) (sym (get_or-map f bits k 0 nothing (omega arith)))
          ∙ sym (at_added old (map f bits) k (len ∙ sym (length-map bits f)) (omega arith))),
    )
  where
    whole : (bits : List ℕ) (i : ℕ) → length bits ≤ i → take i bits ≡ bits
    whole bits i e = take_all i bits e

pub added_fails : (p : ℕ → Bool) (bits : List ℕ) (i : ℕ) → i < length bits → p (get_or bits i 0) ≡ false → false ≡ list_all p bits
added_fails p bits i l e = sym (list_all_at p bits i 0 l e)

-- what a half answers at an asked bitstring
held : (o : Option (List Omega)) (i r : ℕ) (x : Omega) → IfSome o (λ v. x ≡ at_index v i) → IsSome o → i ≡ r → x ≡ at_half o r
held None i r x h s e = absurd (false≢true s)
held (Some v) i r x h s e = h ∙ ap (at_index v) e

-- the half with which a path ends has the part's qubits
pub end_size : (part : Part) (j : Job) (s : Side) → IsSide part j s → (end_of s).qubits ≡ width part j
end_size part j s side = by_gates s.gates.items s.root s.half (width part j) side.root_size side.size
  where
    by_gates : (gates : List Placed) (root half : Half) (n : ℕ) → root.qubits ≡ n → half.qubits ≡ n → (path_end gates root half).qubits ≡ n
    by_gates [] root half n a b = a
    by_gates (g ∷ gates) root half n a b = b

-- the index that a side keeps of a bitstring, and the number there
module _ (part : Part) (j : Job) (s : Side) (side : IsSide part j s) (i index : ℕ) (below : i < length j.bits) (kept : index ≡ get_or s.indices.items i index) where
  index_is : index ≡ local_index (in_part part j) j.circuit.qubits (get_or j.bits i 0)
  index_is = kept ∙ ap (λ xs. get_or xs i index) side.indices ∙ get_or-map (local_index (in_part part j) j.circuit.qubits) j.bits i 0 index below

  pub index_below : index < 2 ^ (end_of s).qubits
  index_below = subst (λ k. k < 2 ^ (end_of s).qubits) (sym index_is)
      (subst (λ n. local_index (in_part part j) j.circuit.qubits (get_or j.bits i 0) < 2 ^ n) (sym (end_size part j s side)) (local_below (in_part part j) j.circuit.qubits (get_or j.bits i 0)))

  pub number_is : (x : Omega) → IfSome (end_of s).numbers (λ v. x ≡ at_index v index) → IsSome (end_of s).numbers → x ≡ number_at part j (end_of s).numbers (get_or j.bits i 0)
  number_is x h some = held (end_of s).numbers index (local_index (in_part part j) j.circuit.qubits (get_or j.bits i 0)) x h some index_is
