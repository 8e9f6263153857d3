-- The faults of an attach, of a create and of a migration, among those of an opening.
use Rattle.qh_slots.specs.declared.fault.AttachFault.{AttachFault}
use Rattle.qh_slots.specs.declared.fault.AttachFault.TheVariants.{DiskFault, Memory}
use Rattle.qh_journal.specs.declared.fault.CreateFault.{CreateFault}
use Rattle.qh_journal.specs.declared.fault.CreateFault.TheVariants as create
use Rattle.qh_migrate.specs.declared.fault.MigrateFault.{MigrateFault}
use Rattle.qh_migrate.specs.declared.fault.MigrateFault.TheVariants as migrate
use Rattle.qh_migrate.specs.declared.open_fault.OpenFault.{OpenFault}
use Rattle.qh_migrate.specs.declared.open_fault.OpenFault.TheVariants as fault

abbrev pub attach_stop : AttachFault → OpenFault
attach_stop DiskFault = fault.Disk
attach_stop Memory = fault.Memory
attach_stop why = fault.Refused why

abbrev pub create_stop : CreateFault → OpenFault
create_stop create.DiskFault = fault.Disk
create_stop create.Memory = fault.Memory

abbrev pub migrate_stop : MigrateFault → OpenFault
migrate_stop migrate.OldDisk = fault.OldDisk
migrate_stop migrate.NewDisk = fault.Disk
migrate_stop (migrate.Refused why) = fault.OldRefused why
migrate_stop migrate.Memory = fault.Memory
