use Rattle.std.proofs.Common.{◌≡◌, ℕ, List, ◌∷◌, ◌++◌, length, ap, ◌∙◌}
use Rattle.std.specs.Prelude.{codes}
use Rattle.byteorder.specs.Endian.{big_bytes}
use Rattle.qh_plan.specs.Jobs.{ranges}
use Rattle.qh_plan.specs.Texts.{job_text}
use Rattle.qh_slots.specs.Layout.{mark, head}
use Rattle.qh_slots.proofs.heads.head.Goals as goal

joined : (m a b d t x y z l r1 r2 r3 r4 : List ℕ) → r1 ≡ m ++ x → r2 ≡ r1 ++ y → r3 ≡ r2 ++ z → r4 ≡ r3 ++ l → x ≡ a → y ≡ b → z ≡ d → l ≡ t → r4 ≡ m ++ a ++ b ++ d ++ t
joined m a b d t x y z l r1 r2 r3 r4 e1 e2 e3 e4 ex ey ez el = cc

pub returns-clause-head : goal.returns-clause-head
unfolding head
returns-clause-head c = joined (mark ∷ codes "QSHJ002") (big_bytes 8 (length (job_text c.args.job.now))) (big_bytes 8 (ranges c.args.job.now)) (big_bytes 8 (length c.args.job.now.bits)) (job_text c.args.job.now)
    _ _ _ _ _ _ _ _ c.in_ok-bytes.ensures c.in_ok-extend_from_slice.ensures.items c.in_ok-extend_from_slice-2.ensures.items c.in_ok-extend_from_slice-3.ensures.items
    (ap (λ (l : List ℕ). big_bytes 8 (length l)) c.text-text.ensures.value) (c.to_be_bytes.ensures ∙ ap (big_bytes 8) (c.from.ensures ∙ c.ranges-2.ensures.value))
    (c.to_be_bytes-2.ensures ∙ ap (λ (l : List ℕ). big_bytes 8 (length l)) c.bits.ensures.value) c.text-text.ensures.value
