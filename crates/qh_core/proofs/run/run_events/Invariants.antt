use Rattle.std.proofs.Common.{◌≡◌, length, take}
use Rattle.qh_core.specs.Machine.{after}
use Rattle.qh_core.proofs.run.run_events.Given as goal

-- the machine is as after the events so far, and has its ranges
abbrev pub invariant-loop-event : goal.invariant-loop-event
invariant-loop-event l = record {
  reached : l.machine ≡ after l.fn.ranges (take l.event-index l.events);
  ranges : length l.machine.leases ≡ l.fn.ranges;
}
