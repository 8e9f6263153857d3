-- Texts, one line more at a time.
use Rattle.std.proofs.Common.{◌≡◌, ℕ, List, [], ◌∷◌, ◌++◌, length, refl, sym, ap, ◌∙◌, arith, append_assoc, append-nil}
use Rattle.qh_ring.specs.declared.number.Omega.{Omega}
use Rattle.qh_ring.specs.declared.canon.Canon.{Canon}
use Rattle.qh_ring.specs.Numbers.{IsCanon}
use Rattle.qh_print.specs.Output.{IsText, value_line}

pub IsText-push : (n k : ℕ) (xs : List ℕ) (values : List Omega) (text : List ℕ) (x : ℕ) (z : Omega) (v : Canon) → length values ≡ length xs
    → IsText n k xs values text → IsCanon z k v → IsText n k (xs ++ x ∷ []) (values ++ z ∷ []) (text ++ value_line n x v)
IsText-push n k [] [] text x z v l e h = (v, [], h, refl, ap (λ t. t ++ value_line n x v) e ∙ sym (append-nil (value_line n x v)))
IsText-push n k [] (y ∷ ys) text x z v l e h = absurd (omega arith)
IsText-push n k (y ∷ ys) [] text x z v l d h = absurd d
IsText-push n k (y ∷ ys) (w ∷ ws) text x z v l d h = (
  d.0,
  d.1 ++ value_line n x v,
  d.2,
  IsText-push n k ys ws d.1 x z v (omega arith) d.3 h,
  ap (λ t. t ++ value_line n x v) d.4 ∙ append_assoc (value_line n y d.0) d.1 (value_line n x v),
)
