use Rattle.qh_core.proofs.LeaseLaw.{acked_law, stored_law, once_law, kept_law}
use Rattle.qh_core.proofs.run.run_events.Goals as goal

pub returns-in_err-machine-clause-acked : goal.returns-in_err-machine-clause-acked
returns-in_err-machine-clause-acked c = acked_law c.args.ranges c.args.events.now

pub returns-in_err-machine-clause-stored : goal.returns-in_err-machine-clause-stored
returns-in_err-machine-clause-stored c = stored_law c.args.ranges c.args.events.now

pub returns-in_err-machine-clause-once : goal.returns-in_err-machine-clause-once
returns-in_err-machine-clause-once c = once_law c.args.ranges c.args.events.now

pub returns-in_err-machine-clause-kept : goal.returns-in_err-machine-clause-kept
returns-in_err-machine-clause-kept c = kept_law c.args.ranges c.args.events.now

pub returns-clause-acked : goal.returns-clause-acked
returns-clause-acked c = acked_law c.args.ranges c.args.events.now

pub returns-clause-stored : goal.returns-clause-stored
returns-clause-stored c = stored_law c.args.ranges c.args.events.now

pub returns-clause-once : goal.returns-clause-once
returns-clause-once c = once_law c.args.ranges c.args.events.now

pub returns-clause-kept : goal.returns-clause-kept
returns-clause-kept c = kept_law c.args.ranges c.args.events.now
