use Rattle.std.proofs.Common.{ℕ, List, length, replicate, refl, ap, ◌∙◌}
use Rattle.qh_ring.specs.Numbers.{nothing}
use Rattle.qh_slots.proofs.RunningLemmas.{total_of_nones}
use Rattle.qh_slots.proofs.total.RunningTotal.new.Goals as goal

pub returns : goal.returns
returns c =
    total_of_nones c.args.job.now _
    (c.in_ok-sums.ensures.items_if_clones_equal (λ y h. h) ∙ ap (λ (b : List ℕ). replicate (length b) nothing) c.bits.ensures.value)
    refl
