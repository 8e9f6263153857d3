-- What a range and a run answer.
use Rattle.std.specs.Prelude.{ℕ, zero, suc, ◌+◌, Bool, true, false, List, map, Option, Some, None}
use Rattle.qh_ring.specs.declared.number.Omega.{Omega}
use Rattle.qh_ring.specs.States.{sum_below}
use Rattle.qh_plan.specs.declared.verdict.Verdict.{Verdict}
use Rattle.qh_plan.specs.declared.verdict.Verdict.TheVariants.{Sum, Over}
use Rattle.qh_plan.specs.Jobs.{Job, per_range, first_path}
use Rattle.qh_plan.specs.Verdicts.{total}
use Rattle.qh_plan.specs.Halves.{contribution}
use Rattle.qh_plan.specs.MeaningLimits.{path_fits}

-- the least number below n that fails the test
abbrev pub or_here : Option ℕ → Bool → ℕ → Option ℕ
or_here (Some k) passes n = Some k
or_here None true n = None
or_here None false n = Some n

abbrev pub first_failing : ℕ → (ℕ → Bool) → Option ℕ
first_failing zero test = None
first_failing (suc n) test = or_here (first_failing n test) (test n) n

-- over with the path that stands so far after the first, if there is one, else these sums
abbrev pub over_or_sum : ℕ → Option ℕ → List Omega → Verdict
over_or_sum first (Some k) sums = Over (first + k)
over_or_sum first None sums = Sum sums

-- the first of the `count` paths from `first` on that is over, counted from `first`
abbrev pub first_over : Job → ℕ → ℕ → Option ℕ
first_over j first count = first_failing count (λ k. path_fits j (first + k))

-- for each asked index the sum of what these paths contribute
abbrev pub sums_of : Job → ℕ → ℕ → List Omega
sums_of j first count = map (λ b. sum_below count (λ k. contribution j (first + k) b)) j.bits

-- over with the least of these paths that is over, and where none is, their sums
abbrev pub value_of : Job → ℕ → ℕ → Verdict
value_of j first count = over_or_sum first (first_over j first count) (sums_of j first count)

-- what a range answers
unfoldable pub range_value : Job → ℕ → Verdict
range_value j i = value_of j (first_path j i) (per_range j)

-- what the run answers: the total of what all its ranges answer
unfoldable pub run_value : Job → Verdict
run_value j = total j (λ i. Some (range_value j i))
