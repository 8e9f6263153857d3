use Rattle.std.proofs.Common.{◌≡◌, ℕ, ◌++◌, ◌<◌, ◌^◌, List, length, All}
use Rattle.std.specs.List.{flat_map}
use Rattle.qh_plan.specs.Texts.{word}
use Rattle.qh_text.proofs.CutLemmas.{Without}
use Rattle.qh_job_text.proofs.ReadLemmas.{IsLeft}
use Rattle.qh_job_text.proofs.reading.numbers_in.Given as goal

abbrev pub invariant-loop-number : goal.invariant-loop-number
invariant-loop-number l = (head numbers : List ℕ) → Without 32 head → All (λ n. n < 2 ^ 32) numbers → l.line ≡ head ++ flat_map word numbers → IsLeft numbers l.numbers.items l.rest

abbrev pub decreases-loop-number : goal.decreases-loop-number
decreases-loop-number l = length l.rest
