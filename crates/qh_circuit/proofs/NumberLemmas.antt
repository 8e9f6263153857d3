-- Numbers and names at the front of a line.
use Rattle.std.proofs.Common.{◌≡◌, ℕ, ◌<◌, Bool, true, false, ◌&&◌, cond, nat_lt, List, Some, None, refl, sym, ◌∙◌}
use Rattle.std.specs.Option.{is_some}
use Rattle.std.proofs.lemmas.Bool.{and_parts, ltb-true}
use Rattle.qh_text.specs.Decimal.{is_decimal, value_of}
use Rattle.qh_circuit.specs.GateLines.{is_number_below}

told : {X : Type 0} (b : Bool) (x : X) → is_some (cond b (Some x) None) ≡ b
told true x = refl
told false x = refl

-- a number below the limit is a decimal number with a value below it
pub below_is : (limit : ℕ) (text : List ℕ) → is_number_below limit text ≡ (is_decimal text && nat_lt (value_of text) limit)
below_is limit text = told (is_decimal text && nat_lt (value_of text) limit) (value_of text)

pub value_below : (limit : ℕ) (text : List ℕ) → is_number_below limit text ≡ true → value_of text < limit
value_below limit text h = ltb-true _ _ (and_parts (is_decimal text) (nat_lt (value_of text) limit) (sym (below_is limit text) ∙ h)).1
