use Rattle.std.proofs.Common.{◌≡◌, ◌≤◌, take, map, reverse, vec_len}
use Rattle.std.specs.Vec.{vec_capacity}
use Rattle.qh_disk.specs.Event.{event_of}
use Rattle.qh_disk.specs.History.{remade}
use Rattle.qh_disk.proofs.change.remake.Given as goal

abbrev pub invariant-loop-change : goal.invariant-loop-change
invariant-loop-change l = record {
  bytes : l.bytes.items ≡ remade l.blank l.fn.bytes.items (reverse (map event_of (take l.change-index l.changes)));
  fits : vec_len l.bytes ≤ l.room;
  room : l.room ≤ vec_capacity l.bytes;
}
