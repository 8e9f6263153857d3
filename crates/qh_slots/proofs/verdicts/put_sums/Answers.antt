use Rattle.std.proofs.Common.{◌∷◌, ap, ◌∙◌, refl, arith}
use Rattle.std.specs.List.{flat_map}
use Rattle.byteorder.specs.Endian.{big_bytes}
use Rattle.qh_disk.specs.Disk.{overwritten}
use Rattle.qh_slots.specs.Slots.{sum_bytes, omega_bytes}
use Rattle.qh_slots.proofs.SlotLemmas.{sums_size}
use Rattle.qh_slots.proofs.ByteLemmas.{two_written}
use Rattle.qh_slots.proofs.verdicts.put_sums.Goals as goal

pub returns : goal.returns
unfolding sum_bytes
returns c =
    let n = sums_size c.args.numbers.now in
    c.write_numbers.ensures ∙ ap (overwritten 9 (flat_map omega_bytes c.args.numbers.now)) c.begin.ensures
    ∙ two_written (0 ∷ big_bytes 8 0) (flat_map omega_bytes c.args.numbers.now) c.args.bytes.now 9 refl (omega arith)
