-- What a merge answers, and why inputs are not merged.
use Rattle.std.specs.Prelude.{◌≡◌, ◌≢◌, ◌<◌, ℕ, List, [], ◌∷◌, length, ⊤, Some, None, IsSome, slice_get}
use Rattle.std.specs.Option.{IsSomeAnd}
use Rattle.qh_ring.specs.declared.number.Omega.{Omega}
use Rattle.qh_limits.specs.Counts.{Rose}
use Rattle.qh_gates.specs.Circuits.{total_weight}
use Rattle.qh_plan.specs.declared.verdict.Verdict.{Verdict}
use Rattle.qh_plan.specs.declared.verdict.Verdict.TheVariants.{Sum, Over}
use Rattle.qh_plan.specs.Jobs.{Job, prefixes, ranges}
use Rattle.qh_plan.specs.Ranges.{IsSameButPrefix}
use Rattle.qh_disk.specs.Disk.{Face}
use Rattle.qh_slots.specs.Stands.{slot_at}
use Rattle.qh_print.specs.Output.{IsText}
use Rattle.qh_parts.specs.Naming.{IsFound}
use Rattle.qh_merge.specs.declared.fault.MergeFault.{MergeFault}
use Rattle.qh_merge.specs.declared.fault.MergeFault.TheVariants.{NoInput, DiskFault, Unread, WholeJob, OtherFamily, Unfinished, Unequal, Missing, Memory}
use Rattle.qh_merge.specs.declared.merging.Merged.{Merged}
use Rattle.qh_merge.specs.declared.merging.Merged.TheVariants.{Lines, Overflow}
use Rattle.qh_merge.specs.Inputs.{AreRead, Input, IsUnread}
use Rattle.qh_merge.specs.Union.{AreEqual, AreTaken, IsFinished, family, first_with, union_total}

-- each disk tells what it reads as
abbrev pub AllTell : {D : Type 0} → (D → Face) → List D → Type 0
AllTell face [] = ⊤
AllTell face (d ∷ disks) = IsSome (face d).content × AllTell face disks

-- the first n disks hold these inputs, and each is taken; where the disks tell what they read as, each repeat is equal
pub record AreGood {D : Type 0} (face : D → Face) (disks : List D) (n : ℕ) (inputs : List Input) : Type 0 where
  pub count : length inputs ≡ n
  pub read : AreRead face disks inputs
  pub taken : AreTaken inputs
  pub equal : AllTell face disks → AreEqual inputs

-- ---- what is merged
-- the job of the first of these
abbrev pub IsFamily : Job → List Input → Type 0
IsFamily j [] = ⊥
IsFamily j (x ∷ earlier) = family x earlier ≡ j

-- each prefix value of the family has an input
abbrev pub AreComplete : Job → List Input → Type 0
AreComplete j inputs = (w : ℕ) → w < prefixes j → IsSome (first_with w inputs)

-- the answer of the inputs of a family: the lines of the union's total, or the path that it names
abbrev pub IsAnswer : Job → List Input → Merged → Type 0
IsAnswer j inputs (Lines text) =
    (sums : List Omega) × (union_total j inputs ≡ Sum sums) × IsText j.circuit.qubits (total_weight j.circuit.gates) j.bits sums text
IsAnswer j inputs (Overflow path) = union_total j inputs ≡ Over path

-- all disks hold inputs that are taken, each prefix value has one, and this is their answer
pub record IsMerged {D : Type 0} (face : D → Face) (disks : List D) (answer : Merged) : Type 0 where
  pub job : Job
  pub inputs : List Input
  pub all : AreGood face disks (length disks) inputs
  pub family : IsFamily job inputs
  pub complete : AreComplete job inputs
  pub is : IsAnswer job inputs answer

-- ---- why an input is not taken, after those before it
-- it has no prefix value
abbrev pub IsWhole : Input → Type 0
IsWhole x = x.job.prefix ≡ None

-- it has one, and is not of the family
pub record IsStrange (x : Input) (earlier : List Input) : Type 0 where
  pub prefix : IsSome x.job.prefix
  pub other : ¬ IsSameButPrefix (family x earlier) x.job

-- it is of the family, and this range is its first without a verdict
pub record IsUnfinished (range : ℕ) (x : Input) (earlier : List Input) : Type 0 where
  pub prefix : IsSome x.job.prefix
  pub family : IsSameButPrefix (family x earlier) x.job
  pub below : range < ranges x.job
  pub shut : slot_at x.slots range ≡ None
  pub least : (q : ℕ) → q < range → IsSome (slot_at x.slots q)

-- it is finished, and this range is the first for which the first input of its prefix value has another verdict
pub record IsUnequal (w range : ℕ) (u v : Verdict) (x : Input) (earlier : List Input) : Type 0 where
  pub prefix : x.job.prefix ≡ Some w
  pub family : IsSameButPrefix (family x earlier) x.job
  pub finished : IsFinished x
  pub repeated : Input
  pub first : first_with w earlier ≡ Some repeated
  pub one : slot_at repeated.slots range ≡ Some u
  pub two : slot_at x.slots range ≡ Some v
  pub unequal : u ≢ v
  pub least : (q : ℕ) → q < range → slot_at repeated.slots q ≡ slot_at x.slots q

-- ---- why inputs are not merged
-- the count of faults of this disk rose
abbrev pub RoseAt : {D : Type 0} → (D → Face) → ℕ → List D → List D → Type 0
RoseAt face place old new = IsSomeAnd (slice_get old place) (λ d. IsSomeAnd (slice_get new place) (λ e. Rose (face d).faults (face e).faults))

-- the inputs before this one are good, and its disk holds no journal
pub record IsUnreadAt {D : Type 0} (face : D → Face) (disks : List D) (place : ℕ) : Type 0 where
  pub earlier : List Input
  pub good : AreGood face disks place earlier
  pub unread : IsSomeAnd (slice_get disks place) (λ d. IsFound IsUnread (face d))

-- the inputs before this one are good, and P is of it
pub record StopsAt {D : Type 0} (face : D → Face) (disks : List D) (place : ℕ) (P : Input → List Input → Type 0) : Type 0 where
  pub earlier : List Input
  pub input : Input
  pub good : AreGood face disks place earlier
  pub read : AreRead face disks (input ∷ earlier)
  pub stops : P input earlier

-- this is the least prefix value of the family without an input
abbrev pub IsMissing : ℕ → List Input → Type 0
IsMissing w [] = ⊥
IsMissing w (x ∷ earlier) = (w < prefixes (family x earlier)) × (first_with w (x ∷ earlier) ≡ None)
    × ((v : ℕ) → v < w → IsSome (first_with v (x ∷ earlier)))

-- all inputs are good, and it is missing
pub record LacksPrefix {D : Type 0} (face : D → Face) (disks : List D) (w : ℕ) : Type 0 where
  pub inputs : List Input
  pub all : AreGood face disks (length disks) inputs
  pub missing : IsMissing w inputs

abbrev pub MergeMayFail : {D : Type 0} → (D → Face) → MergeFault → List D → List D → Type 0
MergeMayFail face NoInput old new = old ≡ []
MergeMayFail face (DiskFault input) old new = RoseAt face input old new
MergeMayFail face (Unread input) old new = IsUnreadAt face new input
MergeMayFail face (WholeJob input) old new = StopsAt face new input (λ x _. IsWhole x)
MergeMayFail face (OtherFamily input) old new = StopsAt face new input IsStrange
MergeMayFail face (Unfinished input range) old new = StopsAt face new input (IsUnfinished range)
MergeMayFail face (Unequal prefix range one two) old new = AllTell face new → (input : ℕ) × StopsAt face new input (IsUnequal prefix range one two)
MergeMayFail face (Missing prefix) old new = LacksPrefix face new prefix
MergeMayFail face Memory old new = ⊤
