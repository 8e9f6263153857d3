use Rattle.std.proofs.Common.{◌≡◌, ◌-◌, ◌*◌, ◌∷◌, ℕ, length, replicate, ap, ◌∙◌, refl, arith}
use Rattle.std.proofs.lemmas.List.{length-replicate}
use Rattle.byteorder.specs.Endian.{big_bytes}
use Rattle.qh_disk.specs.Disk.{overwritten}
use Rattle.qh_slots.specs.Slots.{over_bytes}
use Rattle.qh_slots.proofs.ByteLemmas.{two_written}
use Rattle.qh_slots.proofs.verdicts.put_over.Goals as goal

pub returns : goal.returns
unfolding over_bytes
returns c count size =
    let n = length-replicate {A = ℕ} (64 * count) 0 in
    let kept : length c.begin.new.bytes - 9 ≡ 64 * count = omega arith in
    c.blank.ensures ∙ ap (λ (m : ℕ). overwritten 9 (replicate m 0) c.begin.new.bytes) kept ∙ ap (overwritten 9 (replicate (64 * count) 0)) c.begin.ensures
    ∙ two_written (1 ∷ big_bytes 8 c.args.path) (replicate (64 * count) 0) c.args.bytes.now 9 refl (omega arith)
