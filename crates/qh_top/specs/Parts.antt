-- How the run of a job ends for the call.
use Rattle.std.specs.Prelude.{◌≡◌, List, length, All}
use Rattle.qh_limits.specs.Limits.{coefficient_bits}
use Rattle.qh_ring.specs.declared.number.Omega.{Omega}
use Rattle.qh_ring.specs.Numbers.{IsWithin}
use Rattle.qh_plan.specs.Jobs.{Job}
use Rattle.qh_run.specs.declared.ended.RunEnd.{RunEnd}
use Rattle.qh_run.specs.declared.ended.RunEnd.TheVariants.{Sums, Over as PathOver, Disk, OldDisk, Refused as RunRefused, OldRefused, Memory as RunMemory}
use Rattle.qh_request.specs.declared.stop.JournalRefusal.TheVariants.{OfJournal, OfOld}
use Rattle.qh_request.specs.declared.stop.Stop.{Stop}
use Rattle.qh_request.specs.declared.stop.Stop.TheVariants.{OverflowPath, DiskFault, Memory, Journal}

-- the stop that the end of a run is
abbrev pub StopsWith : RunEnd → Stop → Type 0
StopsWith (Sums sums) stop = ⊥
StopsWith (PathOver path) stop = stop ≡ OverflowPath path
StopsWith Disk stop = stop ≡ DiskFault
StopsWith OldDisk stop = stop ≡ DiskFault
StopsWith (RunRefused why) stop = stop ≡ Journal (OfJournal why)
StopsWith (OldRefused why) stop = stop ≡ Journal (OfOld why)
StopsWith RunMemory stop = stop ≡ Memory

-- sums of a job that can be printed: one for each bitstring, each within 126 bits
pub record IsPrintable (j : Job) (sums : List Omega) : Type 0 where
  pub count : length sums ≡ length j.bits
  pub within : All (IsWithin coefficient_bits) sums
