use Rattle.std.proofs.Common.{length}
use Rattle.qh_slots.proofs.SpellingLemmas.{has_space}
use Rattle.qh_journal.proofs.writing.spell.Goals as goal

pub put_slot-requires : goal.put_slot-requires
put_slot-requires c = has_space c.args.job.now c.args.range (length c.args.bytes.now) c.args.verdict.now c.requires.fits c.requires.size

pub returns : goal.returns
returns c = c.put_slot.ensures (length c.args.job.now.bits) c.requires.size
