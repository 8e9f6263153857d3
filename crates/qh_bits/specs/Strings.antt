-- The first fault of a bitstring.
use Rattle.std.specs.Prelude.{ℕ, not, nat_le, ◌==◌, if◌then◌else◌, List, length, Option, Some, None}
use Rattle.qh_limits.specs.Limits.{max_bitstrings}
use Rattle.qh_text.specs.Bitstrings.{is_bitstring}
use Rattle.qh_bits.specs.declared.faults.BitsWhy.{BitsWhy}
use Rattle.qh_bits.specs.declared.faults.BitsWhy.TheVariants.{TooMany, Letter, Length}

-- the first fault of a string that so many strings stand before
abbrev pub fault_of : ℕ → ℕ → List ℕ → Option BitsWhy
fault_of qubits before string =
    if nat_le max_bitstrings before then Some TooMany
    else if not (is_bitstring string) then Some Letter
    else if not (length string == qubits) then Some Length
    else None
