-- The first input with a prefix value, by its place among the prefix values that are kept.
use Rattle.std.proofs.Common.{◌≡◌, ◌≢◌, ℕ, inl, inr, ◌<◌, Bool, false, List, [], ◌∷◌, ◌++◌, length, get_or, Option, Some, None, arith, refl, sym, ap, subst, ◌∙◌}
use Rattle.std.specs.Prelude.{IsSome, slice_get, unwrap_or, if◌then◌else◌}
use Rattle.std.specs.Option.{IsSomeAnd}
use Rattle.std.proofs.Math.ListN.{get_or-append}
use Rattle.std.proofs.Math.Seq.{get_or-append_seam}
use Rattle.std.proofs.Math.Path.{ap₂}
use Rattle.std.proofs.lemmas.List.{length-append}
use Rattle.std.proofs.lemmas.Bool.{cases_lt, eq-eqb, false≢true, ne_eqb}
use Rattle.qh_disk.specs.Disk.{Face}
use Rattle.qh_merge.specs.Inputs.{AreRead, Input, IsRead}
use Rattle.qh_merge.specs.Union.{AreTaken, elder, first_with, is_value}
use Rattle.qh_merge.specs.Gathered.{prefixes_of}
use Rattle.qh_merge.proofs.UnionLemmas.{old_stays}

pub length_prefixes : (inputs : List Input) → length (prefixes_of inputs) ≡ length inputs
length_prefixes [] = refl
length_prefixes (x ∷ earlier) = let l = length_prefixes earlier in let a = length-append (prefixes_of earlier) (unwrap_or x.job.prefix 0 ∷ []) in omega arith

pub last_prefix : (x : Input) (earlier : List Input) → get_or (prefixes_of (x ∷ earlier)) (length earlier) 0 ≡ unwrap_or x.job.prefix 0
last_prefix x earlier =
    ap (λ (n : ℕ). get_or (prefixes_of earlier ++ unwrap_or x.job.prefix 0 ∷ []) n 0) (sym (length_prefixes earlier))
    ∙ get_or-append_seam (prefixes_of earlier) (unwrap_or x.job.prefix 0) [] 0

pub early_prefix : (x : Input) (earlier : List Input) (k : ℕ) → k < length earlier → get_or (prefixes_of (x ∷ earlier)) k 0 ≡ get_or (prefixes_of earlier) k 0
early_prefix x earlier k low = get_or-append (prefixes_of earlier) (unwrap_or x.job.prefix 0 ∷ []) 0 k (let l = length_prefixes earlier in omega arith)

pub is_of : (o : Option ℕ) (w : ℕ) → IsSome o → unwrap_or o 0 ≡ w → o ≡ Some w
is_of None w some e = absurd (false≢true some)
is_of (Some v) w some e = ap Some e

other_of : (o : Option ℕ) (w : ℕ) → IsSome o → unwrap_or o 0 ≢ w → is_value w o ≡ false
other_of None w some ne = absurd (false≢true some)
other_of (Some v) w some ne = ne_eqb v w ne

-- no prefix value that is kept is w
pub none_kept : (w : ℕ) (inputs : List Input) → AreTaken inputs → ((q : ℕ) → q < length inputs → get_or (prefixes_of inputs) q 0 ≢ w) → first_with w inputs ≡ None
none_kept w [] taken none = refl
none_kept w (x ∷ earlier) taken none =
    ap₂ (λ (o : Option Input) (b : Bool). elder o (if b then Some x else None))
    (none_kept w earlier taken.1 (λ q low e. none q (omega arith) (early_prefix x earlier q low ∙ e)))
    (other_of x.job.prefix w taken.0.prefix (λ e. none (length earlier) (omega arith) (last_prefix x earlier ∙ e)))

-- the first input with a prefix value, and its place
pub record IsFirstAt {D : Type 0} (face : D → Face) (disks : List D) (w k : ℕ) (inputs : List Input) : Type 0 where
  pub input : Input
  pub first : first_with w inputs ≡ Some input
  pub read : IsSomeAnd (slice_get disks k) (λ d. IsRead input (face d))

pub first_kept : {D : Type 0} (face : D → Face) (disks : List D) (w k : ℕ) (inputs : List Input) → AreTaken inputs → AreRead face disks inputs → k < length inputs
    → get_or (prefixes_of inputs) k 0 ≡ w → ((q : ℕ) → q < k → get_or (prefixes_of inputs) q 0 ≢ w) → IsFirstAt face disks w k inputs
first_kept face disks w k [] taken read low e none = absurd (omega arith)
first_kept face disks w k (x ∷ earlier) taken read low e none = elim (cases_lt k (length earlier)) [
  | inl l ↦
      let before = first_kept face disks w k earlier taken.1 read.1 l (sym (early_prefix x earlier k l) ∙ e) (λ q b f. none q b (early_prefix x earlier q (omega arith) ∙ f)) in
      record { input = before.input; first = old_stays w x before.input earlier before.first; read = before.read }
  | inr g ↦
      let last : k ≡ length earlier = omega arith in
      let here : x.job.prefix ≡ Some w = is_of x.job.prefix w taken.0.prefix (sym (last_prefix x earlier) ∙ ap (λ (n : ℕ). get_or (prefixes_of (x ∷ earlier)) n 0) (sym last) ∙ e) in
      record {
        input = x;
        first = ap₂ (λ (o : Option Input) (b : Bool). elder o (if b then Some x else None))
            (none_kept w earlier taken.1 (λ q b f. none q (omega arith) (early_prefix x earlier q b ∙ f)))
            (ap (is_value w) here ∙ eq-eqb w w refl);
        read = subst (λ (n : ℕ). IsSomeAnd (slice_get disks n) (λ d. IsRead x (face d))) (sym last) read.0;
      }
]
