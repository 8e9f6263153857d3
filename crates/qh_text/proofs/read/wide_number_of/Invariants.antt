use Rattle.std.proofs.Common.{◌^◌}
use Rattle.qh_text.proofs.Digits.{ReadsUpTo}
use Rattle.qh_text.proofs.read.wide_number_of.Given as goal

abbrev pub invariant-loop-byte : goal.invariant-loop-byte
invariant-loop-byte l = ReadsUpTo (2 ^ 64) l.bytes l.byte-index l.number
