use Rattle.std.proofs.Common.{◌++◌, ℕ, List, length, drop, set, ap, ◌∙◌, arith}
use Rattle.std.proofs.lemmas.List.{length-set}
use Rattle.std.proofs.lemmas.Slice.{between_to_end}
use Rattle.byteorder.specs.Endian.{big_bytes}
use Rattle.qh_slots.proofs.ByteLemmas.{first_and}
use Rattle.qh_slots.proofs.verdicts.begin.Goals as goal

pub returns : goal.returns
returns c =
    let size = length-set c.args.bytes.now 0 c.args.first in
    first_and c.args.first (big_bytes 8 c.args.path) c.args.bytes.now c.write_u64.new.buf (omega arith)
    (c.write_u64.ensures ∙ ap (λ (l : List ℕ). big_bytes 8 c.args.path ++ drop 8 l) (between_to_end (set c.args.bytes.now 0 c.args.first) 1 (length (set c.args.bytes.now 0 c.args.first)) (omega arith)))
