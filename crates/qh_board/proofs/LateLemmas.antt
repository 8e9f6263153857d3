-- What the timer answered, once it was asked for the lowest range that is out from a number on, and once it is told of a grant.
use Rattle.std.proofs.Common.{◌≡◌, ℕ, Bool, false, ◌+◌, List, length, sym, ◌∙◌, subst, inl, inr, arith}
use Rattle.std.proofs.lemmas.Bool.{cases_eq, cases_lt, false≢true}
use Rattle.qh_lease.specs.declared.lease.Lease.{Lease}
use Rattle.qh_lease.specs.Lease.{may_grant_out, count_out, NonePasses, IsLowest}
use Rattle.qh_limits.specs.Counts.{Rose, RoseBy}
use Rattle.qh_board.specs.Claims.{IsAnswered, AreNotDue, IsNext}

module _ {T : Type 0} (may_say : T → ℕ → ℕ → Bool → Type 0) (leases : List Lease) where
  -- for each below it
  pub not_due_below : (from range : ℕ) → IsLowest may_grant_out from leases range → AreNotDue may_say leases from → AreNotDue may_say leases range
  not_due_below from range lowest below lower under out = elim (cases_lt lower from) [
    | inl low ↦ below lower low out
    | inr above ↦ absurd (false≢true (sym (lowest.lowest lower above under) ∙ out))
  ]

  -- and for it too
  pub not_due_past : (from range : ℕ) → IsLowest may_grant_out from leases range → AreNotDue may_say leases from → IsAnswered may_say leases range false
      → AreNotDue may_say leases (range + 1)
  not_due_past from range lowest below said lower under out = elim (cases_eq lower range) [
    | inl is ↦ subst (λ (r : ℕ). IsAnswered may_say leases r false) (sym is) said
    | inr ne ↦ not_due_below from range lowest below lower (omega (arith, ne, under)) out
  ]

  -- where none is out from there on, for each
  pub not_due_all : (from : ℕ) → NonePasses may_grant_out from leases → AreNotDue may_say leases from → AreNotDue may_say leases (length leases)
  not_due_all from none below range under out = elim (cases_lt range from) [
    | inl low ↦ below range low out
    | inr above ↦ absurd (false≢true (sym (none range above under) ∙ out))
  ]

-- what a claim found stays so once the timer is told of the grant
pub next_told : {T : Type 0} (due not_due : T → ℕ) (may_say : T → ℕ → ℕ → Bool → Type 0) (leases : List Lease) (old asked new : T) (range granted : ℕ)
    → granted ≡ range → due new ≡ due asked → not_due new ≡ not_due asked
    → IsNext due not_due may_say leases old asked range → IsNext due not_due may_say leases old new granted
next_told due not_due may_say leases old asked new range granted is same stays next =
    subst (λ (r : ℕ). IsNext due not_due may_say leases old new r) (sym is) (elim next [
      | inl fresh ↦ inl fresh
      | inr (inl returned) ↦ inr (inl returned)
      | inr (inr late) ↦ inr (inr (
        late.0,
        late.1,
        record {
          known = late.2.known;
          out = late.2.out;
          is_due = subst (λ (n : ℕ). Rose (due old) n) (sym same) late.2.is_due;
          before = subst (λ (n : ℕ). RoseBy (count_out leases range) (not_due old) n) (sym stays) late.2.before;
          said = late.2.said;
          lower = late.2.lower;
        },
      ))
    ])
