use Rattle.std.proofs.Common.{◌≡◌, ℕ, List, ◌∷◌, ◌++◌, length, ap}
use Rattle.std.specs.Prelude.{codes}
use Rattle.byteorder.specs.Endian.{big_bytes}
use Rattle.qh_plan.specs.Texts.{job_text}
use Rattle.qh_slots.specs.Layout.{mark, old_head}
use Rattle.qh_slots.proofs.heads.old_head.Goals as goal

joined : (m a t x l r1 r2 : List ℕ) → r1 ≡ m ++ x → r2 ≡ r1 ++ l → x ≡ a → l ≡ t → r2 ≡ m ++ a ++ t
joined m a t x l r1 r2 e1 e2 ex el = cc

pub returns-clause-head : goal.returns-clause-head
unfolding old_head
returns-clause-head c = joined (mark ∷ codes "QSHJ001") (big_bytes 8 (length (job_text c.args.job.now))) (job_text c.args.job.now)
    _ _ _ _ c.in_ok-bytes.ensures c.in_ok-extend_from_slice.ensures.items
    (ap (λ (l : List ℕ). big_bytes 8 (length l)) c.text-text.ensures.value) c.text-text.ensures.value
