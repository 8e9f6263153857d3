-- The files that the words of a request name, and what else a program takes from them.
use Rattle.std.specs.Prelude.{◌≡◌}
use Rattle.qh_words.specs.declared.options.Options.{Options}
use Rattle.qh_top.specs.declared.names.Names.{Names}

pub record AreNames (o : Options) (names : Names) : Type 0 where
  pub circuit : names.circuit ≡ o.circuit
  pub bits : names.bits ≡ o.bits
  pub out : names.out ≡ o.out
  pub journal : names.journal ≡ o.journal
  pub old : names.old ≡ o.from
  pub lease : names.lease ≡ o.lease
  pub workers : names.workers ≡ o.workers
