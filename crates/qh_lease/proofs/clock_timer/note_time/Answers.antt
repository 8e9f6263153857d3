use Rattle.std.proofs.Common.{is_some}
use Rattle.std.proofs.lemmas.List.{map-set}
use Rattle.qh_lease.proofs.clock_timer.note_time.Goals as goal

pub returns : goal.returns
returns g c = (is_some c.ok.result, map-set is_some c.args.since.now.items c.args.range c.ok.result)
