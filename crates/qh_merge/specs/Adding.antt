-- An input whose slots are added as they are read.
use Rattle.std.specs.Prelude.{◌≡◌, ◌≢◌, ◌<◌, ◌≤◌, ℕ, List, length, All, Some, Option, IsSome, slice_index}
use Rattle.qh_limits.specs.Limits.{coefficient_bits}
use Rattle.qh_ring.specs.declared.number.Omega.{Omega}
use Rattle.qh_ring.specs.Numbers.{IsWithin}
use Rattle.qh_plan.specs.Jobs.{Job, IsJob, ranges}
use Rattle.qh_plan.specs.Ranges.{IsSameButPrefix}
use Rattle.qh_disk.specs.Disk.{Face}
use Rattle.qh_slots.specs.Stands.{AllFit, Slots, slot_at}
use Rattle.qh_merge.specs.Inputs.{Input, IsRead}
use Rattle.qh_merge.specs.Union.{least_after, sums_after}
use Rattle.qh_merge.specs.Gathered.{Adds, State}
use Rattle.qh_merge.specs.Parts.{Goes}

-- slots of the first ranges of a job: each has a verdict, which fits
pub record AreOpen (j : Job) (t : Slots) : Type 0 where
  pub few : length t ≤ ranges j
  pub some : (r : ℕ) → r < length t → IsSome (slot_at t r)
  pub fits : AllFit j t

-- sums that stay within 126 bits where such slots are added
pub record Takes (j : Job) (sums : List Omega) : Type 0 where
  pub even : length sums ≡ length j.bits
  pub within : (t : Slots) → AreOpen j t → All (IsWithin coefficient_bits) (sums_after sums t)

-- slots of the first n ranges, of which P holds, were added
pub record AreAddedUp (j : Job) (n : ℕ) (P : Slots → Type 0) (old new : List Omega) (over least : Option ℕ) : Type 0 where
  pub slots : Slots
  pub count : length slots ≡ n
  pub open_slots : AreOpen j slots
  pub are : P slots
  pub sums : new ≡ sums_after old slots
  pub lesser : least ≡ least_after over slots

-- a job of the family under a prefix value that no input has yet
pub record IsNewIn (s : State) (j : Job) (w : ℕ) : Type 0 where
  pub prefix : j.prefix ≡ Some w
  pub family : IsSameButPrefix s.job j
  pub none : (q : ℕ) → q < length s.prefixes → slice_index s.prefixes q ≢ w

-- what is kept takes each such job
abbrev pub TakesNew : State → Type 0
TakesNew s = (j : Job) (w : ℕ) → IsJob j → IsNewIn s j w → Takes j s.sums

-- an input with a new prefix value was read, and added
pub record IsAdded (d : Face) (old new : State) : Type 0 where
  pub input : Input
  pub prefix : ℕ
  pub read : IsRead input d
  pub goes : Goes old.job input prefix
  pub fresh : (q : ℕ) → q < length old.prefixes → slice_index old.prefixes q ≢ prefix
  pub adds : Adds old prefix input.slots new
