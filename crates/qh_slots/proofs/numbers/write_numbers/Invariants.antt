use Rattle.std.proofs.Common.{◌≡◌, take}
use Rattle.std.specs.List.{flat_map}
use Rattle.qh_disk.specs.Disk.{overwritten}
use Rattle.qh_slots.specs.Slots.{omega_bytes}
use Rattle.qh_slots.proofs.numbers.write_numbers.Given as goal

abbrev pub invariant-loop-m : goal.invariant-loop-m
invariant-loop-m l = l.bytes ≡ overwritten l.at (flat_map omega_bytes (take l.m l.numbers)) l.initial.bytes
