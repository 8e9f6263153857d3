-- What the answer to an admission says.
use Rattle.std.specs.Prelude.{⊤, Option, Some, None}
use Rattle.qh_lease.specs.declared.totals.Totals.{Totals}
use Rattle.qh_range.specs.Results.{Ticket}
use Rattle.qh_range.specs.declared.answers.Admit.{Admit}
use Rattle.qh_range.specs.declared.answers.Admit.TheVariants.{Granted, Taken, Halted}
use Rattle.qh_workers.specs.Shares.{one_grant}

-- the ticket that was granted, if one was
abbrev pub admit_ticket : Admit → Option Ticket
admit_ticket (Granted t) = Some t
admit_ticket Taken = None
admit_ticket (Halted faults) = None

-- what the share has counted then
abbrev pub after_admit : Admit → Totals → Totals
after_admit (Granted t) s = one_grant s
after_admit Taken s = s
after_admit (Halted faults) s = s

-- Halted comes only where the desk may halt
abbrev pub AdmitCause : Type 0 → Admit → Type 0
AdmitCause halt (Granted t) = ⊤
AdmitCause halt Taken = ⊤
AdmitCause halt (Halted faults) = halt
