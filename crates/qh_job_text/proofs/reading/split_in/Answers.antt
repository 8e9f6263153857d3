use Rattle.std.proofs.Common.{◌≢◌, ℕ, ◌∷◌, [], codes, Some, refl}
use Rattle.std.proofs.Math.Path.{ap₂}
use Rattle.std.proofs.lemmas.List.Elements.{All-nil}
use Rattle.qh_text.proofs.CutLemmas.{each_without}
use Rattle.qh_job_text.proofs.reading.split_in.Goals as goal

pub returns-in_default : goal.returns-in_default
returns-in_default c = λ p r lp lr e. absurd (c.in_default.ensures.only (codes "split") p (r ∷ []) (each_without 32 (codes "split") refl) lp e)

pub returns-in_default-next_number : goal.returns-in_default-next_number
returns-in_default-next_number c = λ p r lp lr e.
    let first = c.in-Some.ensures.only (codes "split") p (r ∷ []) (each_without 32 (codes "split") refl) lp e in
    absurd (c.in_default-next_number.ensures.only [] r [] (All-nil (λ b. b ≢ 32)) lr first.1)

pub returns : goal.returns
returns c = λ p r lp lr e.
    let first = c.in-Some.ensures.only (codes "split") p (r ∷ []) (each_without 32 (codes "split") refl) lp e in
    let second = c.in-Some-next_number.ensures.only [] r [] (All-nil (λ b. b ≢ 32)) lr first.1 in
    ap₂ (λ (x y : ℕ). Some (x, y)) first.0 second.0
