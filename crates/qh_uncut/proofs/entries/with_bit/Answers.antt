use Rattle.std.proofs.Common.{◌^◌, ◌<◌, subst, sym}
use Rattle.qh_ring.proofs.BitLemmas.{with_bit_below}
use Rattle.qh_uncut.proofs.EntryLemmas.{with_bit_is}
use Rattle.qh_uncut.proofs.entries.with_bit.Goals as goal

pub returns-clause-value : goal.returns-clause-value
returns-clause-value c = with_bit_is c.args.x c.args.q c.args.bit c.bit_of.result c.weight_of-weight.result c.bit_of.ensures.value c.weight_of-weight.ensures

pub returns-clause-index : goal.returns-clause-index
returns-clause-index c =
    subst (λ y. y < 2 ^ c.args.qubits)
    (sym (with_bit_is c.args.x c.args.q c.args.bit c.bit_of.result c.weight_of-weight.result c.bit_of.ensures.value c.weight_of-weight.ensures))
    (with_bit_below c.args.q c.args.qubits c.args.bit c.args.x c.requires.bit c.requires.qubit c.requires.index)
