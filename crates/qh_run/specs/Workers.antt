-- What a worker keeps.
use Rattle.std.specs.Prelude.{◌≡◌}
use Rattle.qh_plan.specs.Jobs.{Job}
use Rattle.qh_prefix.specs.Caches.{Cache}

-- its room and its checkpoints are of its job
pub record IsWorker (j room : Job) (cache : Cache) : Type 0 where
  pub room_is : room ≡ j
  pub cache_is : cache.job ≡ j
