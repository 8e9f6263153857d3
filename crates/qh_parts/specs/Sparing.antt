-- What a run of calls keeps of the slots of a journal, at each of its moments.
use Rattle.std.specs.Prelude.{ℕ}
use Rattle.qh_plan.specs.declared.verdict.Verdict.{Verdict}
use Rattle.qh_plan.specs.Jobs.{Job}
use Rattle.qh_disk.specs.Disk.{Face}
use Rattle.qh_disk.specs.Moments.{Runs, Lasts}
use Rattle.qh_slots.specs.Stands.{Holds}
use Rattle.qh_slots.specs.Moments.{StandsFor}

-- Some calls: what is stable stays stable, a file that stands for the job goes on doing so, and where no crash leaves anything, that stays so.
pub record Spares (j : Job) (old new : Face) : Type 0 where
  pub runs : Runs old new
  pub none : Lasts (λ _. ⊥) old new
  pub begun : Lasts (StandsFor j) old new
  pub stable : (r : ℕ) (v : Verdict) → Lasts (Holds j r v) old new
