-- What a share counts over several calls.
use Rattle.std.proofs.Common.{◌≡◌, ◌+◌, Result, Ok, Err, OnOk, ap, ◌∙◌, arith}
use Rattle.qh_lease.specs.declared.totals.Totals.{Totals}
use Rattle.qh_workers.specs.Shares.{AllAcked, AllAnswered, one_grant, one_ack}

-- a grant and then an acknowledgement
grant_and_ack : (old mid new : Totals) → mid ≡ one_grant old → new ≡ one_ack mid → AllAcked old new
grant_and_ack old mid new p q =
    let granted : mid.grants ≡ old.grants + 1 = ap (λ (t : Totals). t.grants) p in
    let grants : new.grants ≡ mid.grants = ap (λ (t : Totals). t.grants) q in
    let kept : mid.acks ≡ old.acks = ap (λ (t : Totals). t.acks) p in
    let acked : new.acks ≡ mid.acks + 1 = ap (λ (t : Totals). t.acks) q in
    let backs : mid.backs ≡ old.backs = ap (λ (t : Totals). t.backs) p in
    let same : new.backs ≡ mid.backs = ap (λ (t : Totals). t.backs) q in
    record { acks = omega arith; backs = same ∙ backs }

pub served : {T E : Type 0} (r : Result T E) (repeat : Type 0) (old mid new : Totals) → mid ≡ one_grant old → OnOk r (¬ repeat → new ≡ one_ack mid)
    → OnOk r (¬ repeat → AllAcked old new)
served (Ok x) repeat old mid new p h = λ no. grant_and_ack old mid new p (h no)
served (Err e) repeat old mid new p h = tt

-- ---- one stretch of work after another
module _ (old mid new : Totals) (before : AllAcked old mid) where
  pub acked_on : AllAcked mid new → AllAcked old new
  acked_on after =
      let first : mid.acks + old.grants ≡ old.acks + mid.grants = before.acks in
      let then : new.acks + mid.grants ≡ mid.acks + new.grants = after.acks in
      record { acks = omega arith; backs = after.backs ∙ before.backs }

  pub answered_on : AllAnswered mid new → AllAnswered old new
  answered_on after =
      let first : mid.acks + old.grants ≡ old.acks + mid.grants = before.acks in
      let none : mid.backs ≡ old.backs = before.backs in
      let then : new.acks + new.backs + mid.grants ≡ mid.acks + mid.backs + new.grants = after.answers in
      record { answers = omega arith }
