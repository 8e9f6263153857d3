-- An empty file: it is refused as that, and stands for no job.
use Rattle.std.proofs.Common.{◌≡◌, ℕ, Bool, true, false, List, [], ◌∷◌, length, get_or, Option, Some, None, refl, ap, arith}
use Rattle.std.specs.Prelude.{◌==◌, if◌then◌else◌}
use Rattle.std.proofs.lemmas.Bool.{ne_eqb}
use Rattle.qh_plan.specs.Jobs.{Job}
use Rattle.qh_slots.specs.Stands.{Slots, nones, Stands}
use Rattle.qh_slots.specs.Attaching.{first_refusal, head_refusal, or_bad, slots_of}
use Rattle.qh_slots.specs.declared.fault.AttachFault.{AttachFault}
use Rattle.qh_slots.specs.declared.fault.AttachFault.TheVariants.{Empty, Unbegun, OldJournal, NotAJournal, OtherJob, BadLength}
use Rattle.qh_slots.proofs.StandLemmas.{closed}
use Rattle.qh_parts.specs.Laying.{IsUnbegun}
use Rattle.qh_parts.proofs.StepLemmas.{begun}

pub empty_unbegun : (f : List ℕ) → f ≡ [] → IsUnbegun f
empty_unbegun f is e = let z = ap (λ (l : List ℕ). get_or l 0 0) is in omega arith

pub empty_refused : (j : Job) → first_refusal j [] ≡ Some Empty
unfolding first_refusal head_refusal
empty_refused j = refl

pub empty_slots : (j : Job) (f : List ℕ) → f ≡ [] → slots_of j f ≡ nones j
empty_slots j f is = closed j f (empty_unbegun f is)

pub empty_stands : (j : Job) (s : Slots) (f : List ℕ) → Stands j s f → f ≡ [] → ⊥
empty_stands j s f stands is = empty_unbegun f is (begun j s f stands)

-- ---- and no other is refused as that
if_other : (b : Bool) (x y : AttachFault) (o : Option AttachFault) → (x ≡ y → ⊥) → (o ≡ Some y → ⊥) → (if b then Some x else o) ≡ Some y → ⊥
if_other true x y o other rest e = other (let same : x ≡ y = cc in same)
if_other false x y o other rest e = rest e

if_later : (b : Bool) (x y : AttachFault) (o : Option AttachFault) → b ≡ false → (if b then Some x else o) ≡ Some y → o ≡ Some y
if_later true x y o later e = absurd cc
if_later false x y o later e = e

bad_other : (o : Option AttachFault) (bad : Option ℕ) → (o ≡ Some Empty → ⊥) → or_bad o bad ≡ Some Empty → ⊥
bad_other (Some x) bad other e = other e
bad_other None None other e = cc
bad_other None (Some r) other e = cc

pub refused_empty : (j : Job) (f : List ℕ) → first_refusal j f ≡ Some Empty → f ≡ []
unfolding first_refusal head_refusal
refused_empty j [] e = refl
refused_empty j (x ∷ f) e = absurd (bad_other _ _ (λ h.
    if_other _ Unbegun Empty _ (λ s. cc) (if_other _ OldJournal Empty _ (λ s. cc) (if_other _ NotAJournal Empty _ (λ s. cc)
    (if_other _ (OtherJob _) Empty _ (λ s. cc) (if_other _ (BadLength _) Empty None (λ s. cc) (λ s. cc)))))
    (if_later (length (x ∷ f) == 0) Empty Empty _ (ne_eqb (length (x ∷ f)) 0 (λ z. omega arith)) h)) e)
