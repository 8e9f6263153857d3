-- A cache as the list of its checkpoints, the most recently used first.
use Rattle.std.specs.Prelude.{◌≡◌, ◌==◌, nat_eq, ℕ, ◌≤◌, Bool, not, List, ◌∷◌, ◌++◌, All, length, take, map, Option}
use Rattle.std.specs.List.{IsDistinct, filter, find}
use Rattle.qh_plan.specs.Jobs.{Job}
use Rattle.qh_prefix.specs.Checkpoints.{Checkpoint, IsCheckpoint}

-- the job that a cache serves, and its checkpoints
pub record Cache : Type 0 where
  pub job : Job
  pub points : List Checkpoint

-- whether the checkpoint is of this prefix value
abbrev pub has_prefix : ℕ → Checkpoint → Bool
has_prefix w c = w == c.prefix

-- the checkpoint of a prefix value, if there is one
abbrev pub held : ℕ → List Checkpoint → Option Checkpoint
held w points = find (has_prefix w) points

-- those of other prefix values, in their order
abbrev pub others_of : ℕ → List Checkpoint → List Checkpoint
others_of w points = filter (λ c. not (has_prefix w c)) points

-- that of the prefix value first, where there is one, and the others in their order
abbrev pub brought : ℕ → List Checkpoint → List Checkpoint
brought w points = filter (has_prefix w) points ++ others_of w points

-- a new one first, then those of other prefix values, cut to two
abbrev pub with_new : Checkpoint → List Checkpoint → List Checkpoint
with_new c points = c ∷ take 1 (others_of c.prefix points)

-- what the type of a cache keeps: at most two checkpoints, all for its job, and of two prefix values
pub record IsCache (c : Cache) : Type 0 where
  pub few : length c.points ≤ 2
  pub jobs : All (λ p. p.job ≡ c.job) c.points
  pub apart : IsDistinct nat_eq (map (λ p. p.prefix) c.points)

-- what the code keeps: each checkpoint under its prefix value
pub record IsKept {V : Type 0} (shown : V → Checkpoint) (job : Job) (cap : ℕ) (entries : List (ℕ × V)) : Type 0 where
  pub cap_is : cap ≡ 2
  pub keyed : All (λ e. e.0 ≡ (shown e.1).prefix) entries
  pub cache : IsCache (record { job = job; points = map (λ e. shown e.1) entries })
