use Rattle.std.proofs.Common.{ℕ, List, length, ap, ◌∙◌, sym}
use Rattle.qh_slots.proofs.SpellingLemmas.{spelled_size}
use Rattle.qh_slots.proofs.verdicts.read_slot.Goals as goal

pub returns-then-bytes-body_size-clause-alone : goal.returns-then-bytes-body_size-clause-alone
returns-then-bytes-body_size-clause-alone c v is fit =
    absurd (c.if-bytes-body_size.true (ap (λ (l : List ℕ). length l) is ∙ spelled_size c.args.job.now c.args.range v fit ∙ sym c.body_size.ensures.size))
