-- Slots that are added one after the other.
use Rattle.std.proofs.Common.{◌≡◌, ℕ, suc, ◌+◌, ◌<◌, List, [], ◌∷◌, length, take, Option, Some, None, refl, sym, ap, ◌∙◌}
use Rattle.std.proofs.lemmas.List.{take_more}
use Rattle.std.proofs.lemmas.List.Sums.{fold-append}
use Rattle.qh_ring.specs.declared.number.Omega.{Omega}
use Rattle.qh_plan.specs.declared.verdict.Verdict.{Verdict}
use Rattle.qh_plan.specs.declared.verdict.Verdict.TheVariants.{Sum, Over}
use Rattle.qh_plan.proofs.TotalLemmas.{length-added}
use Rattle.qh_slots.specs.Stands.{Slots, slot_at}
use Rattle.qh_merge.specs.Union.{added_slot, least_after, lesser_slot, sums_after}
use Rattle.qh_merge.proofs.UnionLemmas.{taken_is}

-- each sum among the slots has so many numbers
pub record AreEven (n : ℕ) (t : Slots) : Type 0 where
  pub each : (r : ℕ) (more : List Omega) → slot_at t r ≡ Some (Sum more) → n ≡ length more

length_slot : (s : List Omega) (o : Option Verdict) → ((more : List Omega) → o ≡ Some (Sum more) → length s ≡ length more) → length (added_slot s o) ≡ length s
length_slot s None even = refl
length_slot s (Some (Over path)) even = refl
length_slot s (Some (Sum more)) even = length-added s more (length s) refl (sym (even more refl))

pub length_after : (n : ℕ) (s : List Omega) (t : Slots) → length s ≡ n → AreEven n t → length (sums_after s t) ≡ n
length_after n s [] is even = is
length_after n s (o ∷ t) is even =
    length_after n (added_slot s o) t (length_slot s o (λ more e. is ∙ even.each 0 more e) ∙ is) (record { each = λ r more e. even.each (suc r) more e })

pub even_after : (n k : ℕ) (s : List Omega) (t : Slots) (more : List Omega) → length s ≡ n → AreEven n t → slot_at t k ≡ Some (Sum more) → length (sums_after s (take k t)) ≡ length more
even_after n k s t more is even e =
    length_after n s (take k t) is (record { each = λ r some f. even.each r some (taken_is k r t (Sum some) f) }) ∙ even.each k more e

pub sums_more : (s : List Omega) (t : Slots) (n : ℕ) → n < length t → sums_after s (take (n + 1) t) ≡ added_slot (sums_after s (take n t)) (slot_at t n)
sums_more s t n low = ap (sums_after s) (take_more t n None low) ∙ fold-append added_slot s (take n t) (slot_at t n ∷ [])

pub least_more : (o : Option ℕ) (t : Slots) (n : ℕ) → n < length t → least_after o (take (n + 1) t) ≡ lesser_slot (least_after o (take n t)) (slot_at t n)
least_more o t n low = ap (least_after o) (take_more t n None low) ∙ fold-append lesser_slot o (take n t) (slot_at t n ∷ [])
