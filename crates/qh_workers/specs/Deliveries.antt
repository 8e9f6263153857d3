-- What the answer to a delivery says.
use Rattle.std.specs.Prelude.{⊤}
use Rattle.qh_lease.specs.declared.totals.Totals.{Totals}
use Rattle.qh_range.specs.declared.answers.Delivery.{Delivery}
use Rattle.qh_range.specs.declared.answers.Delivery.TheVariants.{Acked, Repeat, Stranger, Halted, DiskFault}
use Rattle.qh_workers.specs.Shares.{one_ack}

-- what the share has counted then
abbrev pub after_delivery : Delivery → Totals → Totals
after_delivery Acked s = one_ack s
after_delivery Repeat s = s
after_delivery Stranger s = s
after_delivery (Halted faults) s = s
after_delivery DiskFault s = s

-- Repeat, Stranger, Halted and DiskFault come only where these facts hold
abbrev pub DeliveryCause : Type 0 → Type 0 → Type 0 → Type 0 → Delivery → Type 0
DeliveryCause repeat stranger halt fault Acked = ⊤
DeliveryCause repeat stranger halt fault Repeat = repeat
DeliveryCause repeat stranger halt fault Stranger = stranger
DeliveryCause repeat stranger halt fault (Halted faults) = halt
DeliveryCause repeat stranger halt fault DiskFault = fault
