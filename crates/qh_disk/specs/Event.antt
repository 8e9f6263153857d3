-- What is recorded of a change.
use Rattle.qh_disk.specs.declared.change.Change.{Change}
use Rattle.qh_disk.specs.declared.change.Change.TheVariants.{Wrote, Sized, Synced, Crashed}
use Rattle.qh_disk.specs.History.{Event, wrote, sized, synced, crashed}

-- the event that a record stands for
abbrev pub event_of : Change → Event
event_of (Wrote at bytes) = wrote at bytes.items
event_of (Sized n) = sized n
event_of Synced = synced
event_of (Crashed p) = crashed p
