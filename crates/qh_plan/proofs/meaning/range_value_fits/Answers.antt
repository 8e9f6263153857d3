use Rattle.qh_plan.proofs.SlotLemmas.{range_fits}
use Rattle.qh_plan.proofs.meaning.range_value_fits.Goals as goal

pub returns : goal.returns
returns c = range_fits
