-- The qubits and the indices of one part. A part is a test that its qubits pass.
use Rattle.std.specs.Prelude.{ℕ, zero, suc, ◌+◌, ◌*◌, ◌^◌, Bool, if◌then◌else◌, not}
use Rattle.std.specs.Int.{bit_at}

-- the other part
abbrev pub others : (ℕ → Bool) → ℕ → Bool
others one q = not (one q)

-- how many qubits of the part stand below q: the number of qubit q within its part
abbrev pub count_below : (ℕ → Bool) → ℕ → ℕ
count_below one zero = 0
count_below one (suc q) = if one q then suc (count_below one q) else count_below one q

-- the bits of the index x at the part's qubits below n, put together in order
abbrev pub local_index : (ℕ → Bool) → ℕ → ℕ → ℕ
local_index one zero x = 0
local_index one (suc n) x = if one n then local_index one n x + bit_at x n * 2 ^ count_below one n else local_index one n x
