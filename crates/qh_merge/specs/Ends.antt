-- How a merge may end, and what it says then.
use Rattle.std.specs.Prelude.{◌≡◌, ◌<◌, ℕ, List, ◌++◌, length, take, codes, decimal}
use Rattle.std.specs.Io.KnownBytes.{Appends}
use Rattle.qh_disk.specs.Disk.{Face}
use Rattle.qh_io.specs.Saying.{Rises, Seen}
use Rattle.qh_merge.specs.declared.fault.MergeFault.{MergeFault}
use Rattle.qh_merge.specs.declared.fault.MergeFault.TheVariants.{NoInput, DiskFault, Unread, WholeJob, OtherFamily, Unfinished, Unequal, Missing, Memory}
use Rattle.qh_merge.specs.declared.merging.Merged.TheVariants.{Lines, Overflow as MergedOverflow}
use Rattle.qh_merge.specs.Laws.{IsExact}
use Rattle.qh_merge.specs.Merging.{IsMerged, MergeMayFail}
use Rattle.qh_merge.specs.declared.stop.Stop.{Stop}
use Rattle.qh_merge.specs.declared.stop.Stop.TheVariants.{Fault, Overflow, WriteFault}

-- ---- the status
abbrev pub status_of_fault : MergeFault → ℕ
status_of_fault NoInput = 1
status_of_fault (DiskFault input) = 5
status_of_fault (Unread input) = 2
status_of_fault (WholeJob input) = 2
status_of_fault (OtherFamily input) = 2
status_of_fault (Unfinished input range) = 2
status_of_fault (Unequal prefix range one two) = 2
status_of_fault (Missing prefix) = 2
status_of_fault Memory = 7

abbrev pub status_of : Stop → ℕ
status_of (Fault u) = status_of_fault u
status_of (Overflow path) = 3
status_of (WriteFault n) = 6

-- ---- the line that tells why: the name of the fault, and its numbers
abbrev pub fault_line : MergeFault → List ℕ
fault_line NoInput = codes "merge: NoInput\n"
fault_line (DiskFault input) = codes "merge: DiskFault " ++ decimal input ++ codes "\n"
fault_line (Unread input) = codes "merge: Unread " ++ decimal input ++ codes "\n"
fault_line (WholeJob input) = codes "merge: WholeJob " ++ decimal input ++ codes "\n"
fault_line (OtherFamily input) = codes "merge: OtherFamily " ++ decimal input ++ codes "\n"
fault_line (Unfinished input range) = codes "merge: Unfinished " ++ decimal input ++ codes " " ++ decimal range ++ codes "\n"
fault_line (Unequal prefix range one two) = codes "merge: Unequal " ++ decimal prefix ++ codes " " ++ decimal range ++ codes "\n"
fault_line (Missing prefix) = codes "merge: Missing " ++ decimal prefix ++ codes "\n"
fault_line Memory = codes "merge: Memory\n"

abbrev pub line_of : Stop → List ℕ
line_of (Fault u) = fault_line u
line_of (Overflow path) = codes "overflow: path " ++ decimal path ++ codes "\n"
line_of (WriteFault n) = codes "write fault after " ++ decimal n ++ codes " bytes\n"

-- ---- what goes to the output
-- the lines of the merged journals went out, as P says of them
abbrev pub Prints : {D : Type 0} → (D → Face) → List D → (List ℕ → Type 0) → Type 0
Prints face disks P = (text : List ℕ) × IsMerged face disks (Lines text) × P text

-- so many of their bytes went out, and then the sink failed
abbrev pub BreaksOff : {D : Type 0} → (D → Face) → List D → Seen → ℕ → Type 0
BreaksOff face disks out n = Rises out × Prints face disks (λ text. (n < length text) × Appends out.before out.after (take n text))

-- ---- why a merge ends otherwise than with status 0
abbrev pub MayStop : {D : Type 0} → (D → Face) → List D → List D → Seen → Stop → Type 0
MayStop face old new out (Fault u) = MergeMayFail face u old new
MayStop face old new out (Overflow path) = IsMerged face new (MergedOverflow path)
MayStop face old new out (WriteFault n) = BreaksOff face new out n

-- it stopped for a cause, with its status, and said so
pub record Stops (status : ℕ) (May : Stop → Type 0) (Told : List ℕ → Type 0) : Type 0 where
  pub stop : Stop
  pub status_is : status ≡ status_of stop
  pub cause : May stop
  pub told : Told (line_of stop)

-- ---- journals that runs of their jobs made
-- the output got the lines of the whole circuit's amplitudes
pub record IsPrinted {D : Type 0} (face : D → Face) (disks : List D) (out : Seen) : Type 0 where
  pub text : List ℕ
  pub exact : IsExact face disks (Lines text)
  pub whole : Appends out.before out.after text

-- the least path of it that is over was told
pub record IsOver {D : Type 0} (face : D → Face) (disks : List D) (Told : List ℕ → Type 0) : Type 0 where
  pub path : ℕ
  pub exact : IsExact face disks (MergedOverflow path)
  pub told : Told (line_of (Overflow path))
