-- How a disk in memory keeps its history.
use Rattle.std.specs.Prelude.{◌<◌, ◌≡◌, ◌≤◌, drop, map, reverse, vec_len}
use Rattle.std.specs.List.{All}
use Rattle.std.specs.Vec.{vec_capacity}
use Rattle.qh_disk.specs.declared.memory.MemDisk.TheInside.{Inside}
use Rattle.qh_disk.specs.Event.{event_of}
use Rattle.qh_disk.specs.History.{HasRoom, History, state_of}

abbrev pub history_of : Inside → History
history_of d = record { first = d.first.items; events = map event_of d.changes.items; room = d.room; plan = d.plan; shortages = d.shortages; faults = d.faults }

-- the two copies are those of the history, the changes past `settled` are pending, and there is
-- place for one crash
pub record Keeps (d : Inside) : Type 0 where
  pub content : d.bytes.items ≡ (state_of (history_of d)).content
  pub safe : d.safe.items ≡ (state_of (history_of d)).safe
  pub pending : (state_of (history_of d)).pending ≡ reverse (drop d.settled (map event_of d.changes.items))
  pub sizes : All (HasRoom d.room) (map event_of d.changes.items)
  pub settled : d.settled ≤ vec_len d.changes
  pub place : d.settled < vec_len d.changes → vec_len d.changes < vec_capacity d.changes
  pub fits : vec_len d.bytes ≤ d.room
  pub safe_fits : vec_len d.safe ≤ d.room
  pub room : d.room ≤ vec_capacity d.bytes
  pub safe_room : d.room ≤ vec_capacity d.safe
