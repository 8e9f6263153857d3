-- What a half keeps beside its numbers: a place for each width of them, which of these counts, and the roots that were taken out.
use Rattle.std.specs.Prelude.{◌≡◌, ℕ, ◌≤◌, List, Option, Some, None, IfSome}
use Rattle.qh_limits.specs.Limits.{max_part_qubits}
use Rattle.qh_ring.specs.declared.number.Omega.{Omega}
use Rattle.qh_half.specs.declared.form.Form.{Form}
use Rattle.qh_half.specs.declared.form.Form.TheVariants.{Narrow16, Narrow32, Narrow64, Wide, Over}
use Rattle.qh_half.specs.declared.places.Places.{Places}
use Rattle.qh_narrow.specs.Factor.{with_factor}
use Rattle.qh_half.specs.Halves.{IsVector}

-- the numbers of a form: those of the lanes with their factor put back, those of the wide list, or none
abbrev pub held : Form → Places → Option (List Omega)
held (Narrow16 roots) places = Some (with_factor roots places.narrow16.numbers)
held (Narrow32 roots) places = Some (with_factor roots places.narrow32.numbers)
held (Narrow64 roots) places = Some (with_factor roots places.narrow64.numbers)
held Wide places = Some places.wide.numbers
held Over places = None

-- the roots that were taken out
abbrev pub roots_of : Form → ℕ
roots_of (Narrow16 roots) = roots
roots_of (Narrow32 roots) = roots
roots_of (Narrow64 roots) = roots
roots_of Wide = 0
roots_of Over = 0

-- at most so many that each number of such lanes stays within 126 bits with its factor
abbrev pub most_roots : Form → ℕ
most_roots (Narrow16 roots) = 192
most_roots (Narrow32 roots) = 192
most_roots (Narrow64 roots) = 128
most_roots Wide = 0
most_roots Over = 0

-- each place is for as many qubits
pub record ArePlaces (qubits : ℕ) (places : Places) : Type 0 where
  pub few : qubits ≤ max_part_qubits
  pub narrow16 : places.narrow16.qubits ≡ qubits
  pub narrow32 : places.narrow32.qubits ≡ qubits
  pub narrow64 : places.narrow64.qubits ≡ qubits
  pub wide : places.wide.qubits ≡ qubits

-- what the code keeps: such places, not too many roots, and a vector where it is not over
pub record IsKept (qubits : ℕ) (form : Form) (places : Places) : Type 0 where
  pub alike : ArePlaces qubits places
  pub roots : roots_of form ≤ most_roots form
  pub vector : IfSome (held form places) (IsVector qubits)
