-- What the answer to a claim says.
use Rattle.std.specs.Prelude.{⊤, Option, Some, None}
use Rattle.qh_lease.specs.declared.totals.Totals.{Totals}
use Rattle.qh_range.specs.Results.{Ticket}
use Rattle.qh_range.specs.declared.answers.Claim.{Claim}
use Rattle.qh_range.specs.declared.answers.Claim.TheVariants.{Granted, Drained, Halted}
use Rattle.qh_workers.specs.Shares.{one_grant}

-- the ticket that was granted, if one was
abbrev pub claim_ticket : Claim → Option Ticket
claim_ticket (Granted t) = Some t
claim_ticket Drained = None
claim_ticket (Halted faults) = None

-- what the share has counted then
abbrev pub after_claim : Claim → Totals → Totals
after_claim (Granted t) s = one_grant s
after_claim Drained s = s
after_claim (Halted faults) s = s

-- Drained comes only where the desk may drain, Halted only where it may halt
abbrev pub ClaimCause : Type 0 → Type 0 → Claim → Type 0
ClaimCause drain halt (Granted t) = ⊤
ClaimCause drain halt Drained = drain
ClaimCause drain halt (Halted faults) = halt
