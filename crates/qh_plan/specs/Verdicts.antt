-- The total of verdicts.
use Rattle.std.specs.Prelude.{ℕ, zero, suc, min, List, [], ◌∷◌, map, Option, Some, None}
use Rattle.qh_ring.specs.declared.number.Omega.{Omega}
use Rattle.qh_ring.specs.Numbers.{sum, nothing}
use Rattle.qh_plan.specs.declared.verdict.Verdict.{Verdict}
use Rattle.qh_plan.specs.declared.verdict.Verdict.TheVariants.{Sum, Over}
use Rattle.qh_plan.specs.Jobs.{Job, ranges}

-- two lists of sums, added place by place
abbrev pub added : List Omega → List Omega → List Omega
added [] ys = []
added (x ∷ xs) [] = []
added (x ∷ xs) (y ∷ ys) = sum x y ∷ added xs ys

-- two verdicts: the least path where one is over, else the sums added
abbrev pub merged : Verdict → Verdict → Verdict
merged (Sum s) (Sum t) = Sum (added s t)
merged (Sum s) (Over q) = Over q
merged (Over p) (Sum t) = Over p
merged (Over p) (Over q) = Over (min p q)

-- a verdict and that of a slot, if it has one
abbrev pub merged_slot : Verdict → Option Verdict → Verdict
merged_slot v None = v
merged_slot v (Some w) = merged v w

-- the total of the slots below n
abbrev pub total_below : List ℕ → (ℕ → Option Verdict) → ℕ → Verdict
total_below bits slots zero = Sum (map (λ b. nothing) bits)
total_below bits slots (suc n) = merged_slot (total_below bits slots n) (slots n)

-- The total of a job's slots: over with the least path of those that are over, and where none is, for each
-- asked bitstring the sum of their sums.
abbrev pub total : Job → (ℕ → Option Verdict) → Verdict
total j slots = total_below j.bits slots (ranges j)
