use Rattle.std.proofs.Common.{◌+◌, ◌*◌, get_or, ap, ◌∙◌}
use Rattle.qh_ring.specs.Numbers.{nothing}
use Rattle.qh_slots.specs.Slots.{omega_bytes}
use Rattle.qh_disk.specs.Disk.{overwritten}
use Rattle.qh_slots.proofs.ByteLemmas.{write_more}
use Rattle.qh_slots.proofs.numbers.write_numbers.Goals as goal

pub loop-m-preserved : goal.loop-m-preserved
loop-m-preserved c =
    c.write_number.ensures ∙ ap (overwritten (c.args.at + 64 * c.loop-m.m) (omega_bytes (get_or c.args.numbers.now c.loop-m.m nothing))) c.loop-m.invariant
    ∙ write_more c.args.numbers.now c.loop-m.m c.args.at c.args.bytes.now nothing c.loop-m-test.true c.requires
