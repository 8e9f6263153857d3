-- What a job asks for. Nothing here knows of halves.
use Rattle.std.specs.Prelude.{ℕ, ◌+◌, ◌*◌, drop, Option, Some, None}
use Rattle.qh_ring.specs.declared.number.Omega.{Omega}
use Rattle.qh_ring.specs.States.{sum_below}
use Rattle.qh_gates.specs.Evolution.{uncut}
use Rattle.qh_plan.specs.Paths.{path_count}
use Rattle.qh_plan.specs.Jobs.{Job, job_radices}
use Rattle.qh_plan.specs.PathValues.{path_amplitude}

-- how many paths each prefix value has
abbrev pub paths_per_prefix : Job → ℕ
paths_per_prefix j = path_count (drop j.p (job_radices j))

-- without a prefix value the number of the uncut state, with one the sum over the paths of that prefix
abbrev pub asked_under : Job → Option ℕ → ℕ → Omega
asked_under j None b = uncut j.circuit.gates b
asked_under j (Some w) b = sum_below (paths_per_prefix j) (λ k. path_amplitude j (w * paths_per_prefix j + k) b)

-- the number that is asked for the index b
abbrev pub asked : Job → ℕ → Omega
asked j b = asked_under j j.prefix b
