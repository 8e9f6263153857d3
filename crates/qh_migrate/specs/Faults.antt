-- The refusals of a migration beside those of an attach.
use Rattle.qh_slots.specs.declared.fault.AttachFault.{AttachFault}
use Rattle.qh_slots.specs.declared.fault.AttachFault.TheVariants.{DiskFault, Empty, Unbegun, OldJournal, NotAJournal, OtherJob, BadLength, BadSlot, Memory}
use Rattle.qh_migrate.specs.declared.fault.OldRefusal.{OldRefusal}
use Rattle.qh_migrate.specs.declared.fault.OldRefusal.TheVariants as old
use Rattle.qh_migrate.specs.declared.fault.MigrateFault.{MigrateFault}
use Rattle.qh_migrate.specs.declared.fault.MigrateFault.TheVariants as migrate

-- a refusal of a journal of the first format, among those of both
abbrev pub attach_of : OldRefusal → AttachFault
attach_of old.Empty = Empty
attach_of old.Unbegun = Unbegun
attach_of old.NotAJournal = NotAJournal
attach_of (old.OtherJob place) = OtherJob place
attach_of (old.BadLength found) = BadLength found
attach_of (old.BadSlot range) = BadSlot range

-- the refusal of a migration that a refusal of an attach means
abbrev pub migrate_of : AttachFault → MigrateFault
migrate_of DiskFault = migrate.OldDisk
migrate_of Memory = migrate.Memory
migrate_of Empty = migrate.Refused old.Empty
migrate_of Unbegun = migrate.Refused old.Unbegun
migrate_of OldJournal = migrate.Refused old.NotAJournal
migrate_of NotAJournal = migrate.Refused old.NotAJournal
migrate_of (OtherJob place) = migrate.Refused (old.OtherJob place)
migrate_of (BadLength found) = migrate.Refused (old.BadLength found)
migrate_of (BadSlot range) = migrate.Refused (old.BadSlot range)
