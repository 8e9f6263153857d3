-- The laws of a cut circuit.
use Rattle.std.specs.Prelude.{◌≡◌, ℕ, ◌+◌, ◌/◌, ◌^◌, ◌<◌, ◌↔◌, IsTrue, List, All, map, take}
use Rattle.qh_limits.specs.Limits.{coefficient_bits}
use Rattle.qh_ring.specs.declared.number.Omega.{Omega}
use Rattle.qh_ring.specs.Numbers.{product, IsWithin, AreNarrow}
use Rattle.qh_ring.specs.States.{sum_below}
use Rattle.qh_gates.specs.Evolution.{uncut, StateFits}
use Rattle.qh_plan.specs.declared.verdict.Verdict.TheVariants.{Sum, Over}
use Rattle.qh_plan.specs.Paths.{path_number}
use Rattle.qh_plan.specs.Jobs.{Job, IsJob, job_radices, paths, digits_of, per_range, ranges, first_path}
use Rattle.qh_plan.specs.PathValues.{path_amplitude}
use Rattle.qh_plan.specs.Asked.{paths_per_prefix, asked}
use Rattle.qh_plan.specs.Halves.{half_one, half_two}
use Rattle.qh_plan.specs.MeaningLimits.{is_within, are_narrow, state_fits, path_fits}
use Rattle.qh_plan.specs.Values.{run_value}

-- the number that a path gives an index is the product of its two half amplitudes there
abbrev pub ProductLaw : Type 0
ProductLaw = (j : Job) → IsJob j → (k b : ℕ) → b < 2 ^ j.circuit.qubits
    → path_amplitude j k b ≡ product (half_one j k b) (half_two j k b)

-- the paths under a prefix value are those whose first p digits have that value as their number
abbrev pub PrefixLaw : Type 0
PrefixLaw = (j : Job) → IsJob j → (k : ℕ) → k < paths j
    → path_number (take j.p (job_radices j)) (take j.p (digits_of j k)) ≡ k / paths_per_prefix j

-- the numbers of all paths add up to that of the uncut state
abbrev pub PathSumLaw : Type 0
PathSumLaw = (j : Job) → IsJob j → (b : ℕ)
    → sum_below (paths j) (λ k. path_amplitude j k b) ≡ uncut j.circuit.gates b

-- the tests of a path's limits are the limits that the numbers' calls keep
pub record AreLimits : Type 0 where
  pub within : (bits : ℕ) (z : Omega) → IsTrue (is_within bits z) ↔ IsWithin bits z
  pub narrow : (x y : Omega) → IsTrue (are_narrow x y) ↔ AreNarrow x y
  pub state : (n : ℕ) (v : ℕ → Omega) → IsTrue (state_fits n v) ↔ StateFits n v

-- a path of the run: one of a range below the number of ranges
pub record IsInRun (j : Job) (path : ℕ) : Type 0 where
  pub range : ℕ
  pub place : ℕ
  pub range_below : range < ranges j
  pub place_below : place < per_range j
  pub is : path ≡ first_path j range + place

-- no path of the run is over
abbrev pub NoneOver : Job → Type 0
NoneOver j = (path : ℕ) → IsInRun j path → IsTrue (path_fits j path)

-- where no path of the run is over, the run answers exactly what is asked, each sum within 126 bits
pub record IsAsked (j : Job) : Type 0 where
  pub value : run_value j ≡ Sum (map (asked j) j.bits)
  pub within : All (IsWithin coefficient_bits) (map (asked j) j.bits)

abbrev pub AskedSumLaw : Type 0
AskedSumLaw = (j : Job) → IsJob j → NoneOver j → IsAsked j

-- this path of the run is over, and no path of the run before it
pub record IsLeastOver (j : Job) (path : ℕ) : Type 0 where
  pub in_run : IsInRun j path
  pub over : ¬ IsTrue (path_fits j path)
  pub least : (other : ℕ) → IsInRun j other → other < path → IsTrue (path_fits j other)

-- a run answers a sum only where no path is over, and else the least path that is
pub record NamesLeast (j : Job) : Type 0 where
  pub sum : (sums : List Omega) → run_value j ≡ Sum sums → NoneOver j
  pub over : (path : ℕ) → run_value j ≡ Over path → IsLeastOver j path

abbrev pub LeastOverLaw : Type 0
LeastOverLaw = (j : Job) → NamesLeast j
