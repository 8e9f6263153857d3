-- Lines: their digits one by one, their words one by one, and which values they show.
use Rattle.std.proofs.Common.{◌≡◌, ℕ, ◌^◌, ◌<◌, List, [], ◌∷◌, ◌++◌, length, refl, sym, ap, subst, ◌∙◌, arith, decimal, append_assoc, Some}
use Rattle.std.specs.declared.option.Option.{Option}
use Rattle.qh_text.proofs.BitLemmas.{bits_length}
use Rattle.std.specs.Fmt.{signed_decimal}
use Rattle.qh_ring.specs.declared.number.Omega.{Omega}
use Rattle.qh_ring.specs.declared.canon.Canon.{Canon}
use Rattle.qh_text.specs.Bitstrings.{bits_text}
use Rattle.qh_print.specs.Output.{value_line, IsShowable}
use Rattle.qh_print.specs.Words.{numbers_text}

seven : (p q r s t u v : List ℕ) → p ++ q ++ r ++ s ++ t ++ u ++ v ≡ p ++ (q ++ (r ++ (s ++ (t ++ (u ++ v)))))
seven p q r s t u v = simp append_assoc refl

-- a line is the digits, a space, the four numbers with their spaces, the power and a line feed
pub line_is : (n x : ℕ) (v : Canon) → value_line n x v ≡ bits_text n x ++ 32 ∷ numbers_text v.z (decimal v.k ++ 10 ∷ [])
unfolding value_line
line_is n x v =
    seven (bits_text n x) (32 ∷ signed_decimal v.z.a) (32 ∷ signed_decimal v.z.b) (32 ∷ signed_decimal v.z.c) (32 ∷ signed_decimal v.z.d) (32 ∷ decimal v.k) (10 ∷ [])

-- what stands behind a line's digits and the space
abbrev pub tail_of : Canon → List ℕ
tail_of v = numbers_text v.z (decimal v.k ++ 10 ∷ [])

-- digits cut off are those of their own number
pub cut_bits : (n x : ℕ) (digits : List ℕ) → x < 2 ^ n → digits ≡ bits_text n x → (x < 2 ^ length digits) × (digits ≡ bits_text (length digits) x)
cut_bits n x digits l e =
    let same : length digits ≡ n = ap length e ∙ bits_length n x in
    (subst (λ m. x < 2 ^ m) (sym same) l, e ∙ ap (λ m. bits_text m x) (sym same))

pub power_small : (v : Canon) → IsShowable v → v.k < 2 ^ 32
power_small v h = let s = h.shallow in omega arith

pub same_canon : (z : Omega) (k : ℕ) (v : Canon) → z ≡ v.z → k ≡ v.k → ◌≡◌ {A = Canon} (record { z = z; k = k }) v
same_canon z k v p q = λ i. record { z = p i; k = q i }

pub same_pair : (m n : ℕ) (v w : Canon) → m ≡ n → v ≡ w → ◌≡◌ {A = Option (ℕ × Canon)} (Some (m, v)) (Some (n, w))
same_pair m n v w p q = λ i. Some (p i, q i)
