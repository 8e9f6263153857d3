use Rattle.std.proofs.Common.{◌≡◌, ◌*◌, take}
use Rattle.std.specs.Prelude.{vec_len, All}
use Rattle.std.specs.List.{flat_map}
use Rattle.qh_slots.specs.Slots.{omega_bytes, FitsOmega}
use Rattle.qh_slots.proofs.numbers.read_numbers.Given as goal

abbrev pub invariant-loop-m : goal.invariant-loop-m
invariant-loop-m l = record {
  fits : All FitsOmega l.numbers.items;
  count : vec_len l.numbers ≡ l.m;
  bytes : flat_map omega_bytes l.numbers.items ≡ take (64 * l.m) l.bytes;
}
