use Rattle.std.proofs.Common.{◌≡◌, ◌-◌, length, take, drop, replicate, rules}
use Rattle.qh_slots.proofs.ByteLemmas.{put_zeros}
use Rattle.qh_slots.proofs.verdicts.blank.Goals as goal

pub returns : goal.returns
returns c =
    let filled : c.fill.new.self ≡ replicate (length (take (length c.args.bytes.now - c.args.at) (drop c.args.at c.args.bytes.now))) 0 = search rules in
    put_zeros c.args.at c.args.bytes.now c.fill.new.self c.requires filled
