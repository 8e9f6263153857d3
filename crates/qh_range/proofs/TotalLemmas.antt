-- The loop over the ranges of a run.
use Rattle.std.proofs.Common.{◌≡◌, ℕ, ◌≤◌, List, [], ◌∷◌, length, map, replicate, All, refl, sym, ap, ◌∙◌}
use Rattle.std.proofs.lemmas.List.{length-map}
use Rattle.qh_ring.specs.declared.number.Omega.{Omega}
use Rattle.qh_ring.specs.Numbers.{nothing, IsWithin}
use Rattle.qh_plan.specs.declared.verdict.Verdict.TheVariants.{Sum}
use Rattle.qh_plan.specs.Jobs.{Job, IsJob, ranges}
use Rattle.qh_plan.specs.Values.{range_value, run_value}
use Rattle.qh_range.specs.Totals.{total_of}
use Rattle.qh_range.proofs.RunLemmas.{partial, partial_within, range_sum, run_is_total, total_none}

nothings : (bits : List ℕ) → replicate (length bits) nothing ≡ map (λ b. nothing) bits
nothings [] = refl
nothings (b ∷ bits) = ap (λ zs. nothing ∷ zs) (nothings bits)

-- before the first range
pub total_start : (j : Job) (s : List Omega) → s ≡ replicate (length j.bits) nothing → total_of j 0 ≡ Sum s
total_start j s e = total_none j ∙ ap Sum (sym (nothings j.bits) ∙ sym e)

-- a range's sums are as many as those so far
pub as_many : (j : Job) (n : ℕ) (s t : List Omega) → total_of j n ≡ Sum s → range_value j n ≡ Sum t → length s ≡ length t
as_many j n s t e f =
    let len : length t ≡ length j.bits = ap (length {A = Omega}) (range_sum j n t f).sums ∙ length-map j.bits _ in
    (partial j n s e).full ∙ sym len

-- behind the last range
pub whole : (j : Job) (n : ℕ) (s : List Omega) → n ≡ ranges j → total_of j n ≡ Sum s → run_value j ≡ Sum s
whole j n s e f = run_is_total j n e ∙ f

pub whole_within : (j : Job) (n : ℕ) (s : List Omega) → IsJob j → n ≤ ranges j → total_of j n ≡ Sum s → All (IsWithin 126) s
whole_within j n s h l e = partial_within j n s h l e
