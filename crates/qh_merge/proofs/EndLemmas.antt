-- Which end has status 3, and what it says of journals that runs made.
use Rattle.std.proofs.Common.{◌≡◌, ℕ, List, arith}
use Rattle.qh_disk.specs.Disk.{Face}
use Rattle.qh_io.specs.Saying.{Seen}
use Rattle.qh_merge.specs.declared.fault.MergeFault.{MergeFault}
use Rattle.qh_merge.specs.declared.fault.MergeFault.TheVariants.{NoInput, DiskFault, Unread, WholeJob, OtherFamily, Unfinished, Unequal, Missing, Memory}
use Rattle.qh_merge.specs.declared.merging.Merged.TheVariants.{Lines, Overflow as MergedOverflow}
use Rattle.qh_merge.specs.Laws.{AllMade}
use Rattle.qh_merge.proofs.ExactLemmas.{exact}
use Rattle.qh_merge.specs.declared.stop.Stop.{Stop}
use Rattle.qh_merge.specs.declared.stop.Stop.TheVariants.{Fault, Overflow, WriteFault}
use Rattle.qh_merge.specs.Ends.{IsOver, IsPrinted, MayStop, Prints, line_of, status_of, status_of_fault}
use Rattle.std.specs.Io.KnownBytes.{Appends}

-- no fault of the inputs has it
fault_other : (u : MergeFault) → status_of_fault u ≡ 3 → ⊥
fault_other NoInput e = omega arith
fault_other (DiskFault i) e = omega arith
fault_other (Unread i) e = omega arith
fault_other (WholeJob i) e = omega arith
fault_other (OtherFamily i) e = omega arith
fault_other (Unfinished i r) e = omega arith
fault_other (Unequal p r u v) e = omega arith
fault_other (Missing p) e = omega arith
fault_other Memory e = omega arith

pub is_over : {D : Type 0} (face : D → Face) (old new : List D) (out : Seen) (Told : List ℕ → Type 0) (stop : Stop) → AllMade face new → status_of stop ≡ 3
    → MayStop face old new out stop → Told (line_of stop) → IsOver face new Told
is_over face old new out Told (Fault u) made e may told = absurd (fault_other u e)
is_over face old new out Told (Overflow path) made e may told = record { path = path; exact = exact face new (MergedOverflow path) made may; told = told }
is_over face old new out Told (WriteFault n) made e may told = absurd (omega arith)

pub is_printed : {D : Type 0} (face : D → Face) (disks : List D) (out : Seen) → AllMade face disks → Prints face disks (Appends out.before out.after) → IsPrinted face disks out
is_printed face disks out made prints = record { text = prints.0; exact = exact face disks (Lines prints.0) made prints.1; whole = prints.2 }
