-- What a run over an open journal does to its disk, and how it ends.
use Rattle.std.specs.Prelude.{◌≡◌, ℕ, List, Some, IfSome}
use Rattle.qh_plan.specs.Jobs.{Job}
use Rattle.qh_disk.specs.Disk.{Face}
use Rattle.qh_slots.specs.Stands.{Slots}
use Rattle.qh_migrate.specs.declared.open_fault.OpenFault.{OpenFault}
use Rattle.qh_migrate.specs.declared.open_fault.OpenFault.TheVariants as fault
use Rattle.qh_migrate.specs.Opening.{Continues}
use Rattle.qh_run.specs.declared.ended.RunEnd.{RunEnd}
use Rattle.qh_run.specs.declared.ended.RunEnd.TheVariants.{Disk, OldDisk, Refused, OldRefused, Memory}
use Rattle.qh_run.specs.Ends.{answer_of}
use Rattle.qh_run.specs.Carrying.{MayLeave, Completes}

-- the end of a run whose journal is not opened
abbrev pub end_of : OpenFault → RunEnd
end_of fault.Disk = Disk
end_of fault.OldDisk = OldDisk
end_of (fault.Refused why) = Refused why
end_of (fault.OldRefused why) = OldRefused why
end_of fault.Memory = Memory

-- The journal goes on from its table. The run that ends with an answer is whole, and each other end has its cause.
pub record RunsOn {D : Type 0} (face : D → Face) (loans : D → List ℕ) (j : Job) (table : Slots) (end : RunEnd) (d e : D) : Type 0 where
  pub same : loans e ≡ loans d
  pub continues : Continues j table (face d) (face e)
  pub whole : IfSome (answer_of end) (Completes face j table (Some e))
  pub cause : MayLeave face (Some d) (Some e) end
