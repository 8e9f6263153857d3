-- Whether a path stays within the limits of its numbers, as tests that compute.
use Rattle.std.specs.Prelude.{ℕ, zero, suc, ◌^◌, Bool, true, ◌&&◌, nat_lt, unsigned_abs, ℤ, List}
use Rattle.std.specs.List.{list_all}
use Rattle.qh_limits.specs.Limits.{coefficient_bits, product_bits}
use Rattle.qh_ring.specs.declared.number.Omega.{Omega}
use Rattle.qh_ring.specs.Numbers.{scaled_by}
use Rattle.qh_ring.specs.States.{ground}
use Rattle.qh_gates.specs.Evolution.{Operation}
use Rattle.qh_plan.specs.Parts.{others, count_below}
use Rattle.qh_plan.specs.Jobs.{Job, in_one, digits_of}
use Rattle.qh_plan.specs.Halves.{half_operations, trace, half_one, half_two}

-- the magnitude is below 2 ^ bits
abbrev pub is_below : ℕ → ℤ → Bool
is_below bits x = nat_lt (unsigned_abs x) (2 ^ bits)

-- each coefficient's magnitude is below 2 ^ bits
abbrev pub is_within : ℕ → Omega → Bool
is_within bits z = is_below bits z.a && (is_below bits z.b && (is_below bits z.c && is_below bits z.d))

-- each of the sixteen products of a coefficient of x and one of y has a magnitude below 2 ^ 92
abbrev pub are_narrow : Omega → Omega → Bool
are_narrow x y = is_within product_bits (scaled_by x.a y) && (is_within product_bits (scaled_by x.b y) && (is_within product_bits (scaled_by x.c y) && is_within product_bits (scaled_by x.d y)))

-- each number below n passes the test
abbrev pub all_below : ℕ → (ℕ → Bool) → Bool
all_below zero test = true
all_below (suc n) test = all_below n test && test n

-- each of a state's 2^n numbers is within 126 bits
abbrev pub state_fits : ℕ → (ℕ → Omega) → Bool
state_fits n v = all_below (2 ^ n) (λ x. is_within coefficient_bits (v x))

-- so is each number of each state of a trace
abbrev pub trace_fits : ℕ → (ℕ → Omega) → List Operation → Bool
trace_fits n v os = list_all (state_fits n) (trace v os)

-- the trace of path k in one part
abbrev pub half_fits : (ℕ → Bool) → Job → ℕ → Bool
half_fits one j k = trace_fits (count_below one j.circuit.qubits) ground (half_operations one j.circuit.gates (digits_of j k))

-- for each asked index the two half amplitudes are narrow
abbrev pub products_fit : Job → ℕ → Bool
products_fit j k = list_all (λ b. are_narrow (half_one j k b) (half_two j k b)) j.bits

-- path k is not over: its two traces fit, and its products
unfoldable pub path_fits : Job → ℕ → Bool
path_fits j k = half_fits (in_one j) j k && (half_fits (others (in_one j)) j k && products_fit j k)
