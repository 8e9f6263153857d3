-- What a merge keeps of the inputs that it has taken.
use Rattle.std.specs.Prelude.{◌≡◌, ℕ, List, [], ◌∷◌, ◌++◌, Option}
use Rattle.std.specs.Prelude.{◌<◌, length, slice_index, unwrap_or}
use Rattle.qh_ring.specs.declared.number.Omega.{Omega}
use Rattle.qh_plan.specs.Jobs.{Job, IsJob}
use Rattle.qh_plan.specs.Slots.{AreFit, least_over, slot_sums}
use Rattle.qh_slots.specs.Stands.{Slots}
use Rattle.qh_merge.specs.declared.gather.Gathered.{Gathered}
use Rattle.qh_merge.specs.Inputs.{Input}
use Rattle.qh_merge.specs.Union.{family, least_after, sums_after, union_slots, whole}

-- the job of the first input, the prefix values, the sums, and the least path
pub record State : Type 0 where
  pub job : Job
  pub prefixes : List ℕ
  pub sums : List Omega
  pub over : Option ℕ

abbrev pub state_of : Gathered → State
state_of g = record { job = g.job; prefixes = g.prefixes.items; sums = g.sums.items; over = g.over }

-- one more input, with these slots
pub record Adds (old : State) (w : ℕ) (slots : Slots) (new : State) : Type 0 where
  pub job : new.job ≡ old.job
  pub prefixes : new.prefixes ≡ old.prefixes ++ w ∷ []
  pub sums : new.sums ≡ sums_after old.sums slots
  pub over : new.over ≡ least_after old.over slots

-- one more input that repeats a prefix value
pub record Lists (old : State) (w : ℕ) (new : State) : Type 0 where
  pub job : new.job ≡ old.job
  pub prefixes : new.prefixes ≡ old.prefixes ++ w ∷ []
  pub sums : new.sums ≡ old.sums
  pub over : new.over ≡ old.over

-- w is among the prefix values
pub record IsKept (w : ℕ) (prefixes : List ℕ) : Type 0 where
  pub place : ℕ
  pub inside : place < length prefixes
  pub is : slice_index prefixes place ≡ w

-- the prefix values of inputs, that of the first input first
abbrev pub prefixes_of : List Input → List ℕ
prefixes_of [] = []
prefixes_of (x ∷ earlier) = prefixes_of earlier ++ unwrap_or x.job.prefix 0 ∷ []

-- the job of the first of these inputs, if there is one
abbrev pub OfFamily : Job → List Input → Type 0
OfFamily j [] = Unit {0}
OfFamily j (x ∷ earlier) = family x earlier ≡ j

-- what is kept of these inputs
pub record IsGathered (inputs : List Input) (s : State) : Type 0 where
  pub valid : IsJob s.job
  pub family : OfFamily s.job inputs
  pub prefixes : s.prefixes ≡ prefixes_of inputs
  pub sums : s.sums ≡ slot_sums (whole s.job) (union_slots s.job inputs)
  pub over : s.over ≡ least_over (whole s.job) (union_slots s.job inputs)
  pub fit : AreFit (whole s.job) (union_slots s.job inputs)
