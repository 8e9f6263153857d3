-- Where the slots that a run begins with are true, a full record has the value of each range, and its total is that of the run.
use Rattle.std.proofs.Common.{◌≡◌, ◌≢◌, ℕ, ◌<◌, ◌≤◌, inl, inr, Bool, true, false, List, [], ◌∷◌, Option, Some, None, refl, arith, sym, ap, subst, ◌∙◌}
use Rattle.std.specs.Prelude.{IsSome, IfSome, IsSomeAnd, is_some, option_map, option_and_then, if◌then◌else◌}
use Rattle.qh_plan.specs.declared.verdict.Verdict.{Verdict}
use Rattle.qh_plan.specs.Jobs.{Job, IsJob, ranges}
use Rattle.qh_plan.specs.Verdicts.{total}
use Rattle.qh_plan.specs.Values.{range_value, run_value}
use Rattle.qh_plan.proofs.SlotLemmas.{total_same}
use Rattle.qh_disk.specs.Disk.{Face, IsImage, Reads}
use Rattle.qh_slots.specs.Stands.{Slots, slot_at, nones, AreTrue, Made, Made1}
use Rattle.qh_slots.specs.Attaching.{slots_of, slots1_of}
use Rattle.qh_slots.proofs.StandLemmas.{one_map, one_map1, closed, closed1}
use Rattle.qh_parts.proofs.LayLemmas.{none_at}
use Rattle.qh_slots.specs.Record.{Keeping, counted, taken_over, given, slots_before, Extends, IsFull, Migrates}
use Rattle.qh_slots.specs.Moments.{TellsAndEach, OldIsMade, BeginsTrue}

pub none_some : {X : Type 0} (x : X) → None ≡ Some x → ⊥
none_some x e = cc

pub some_inj : {X : Type 0} (x y : X) → Some x ≡ Some y → x ≡ y
some_inj x y e = cc

-- ---- true slots
pub nones_true : (j : Job) → AreTrue j (nones j)
nones_true j r v e = absurd (none_some v (sym (none_at j r) ∙ e))

-- a file that runs of the job made has true slots
pub made_slots : (j : Job) → IsJob j → (f : List ℕ) → Made j f → AreTrue j (slots_of j f)
made_slots j is f (inl no_mark) = subst (AreTrue j) (sym (closed j f no_mark)) (nones_true j)
made_slots j is f (inr made) = subst (AreTrue j) (sym (one_map j is made.slots f made.stands)) made.true_slots

pub made_slots1 : (j : Job) → IsJob j → (f : List ℕ) → Made1 j f → AreTrue j (slots1_of j f)
made_slots1 j is f (inl no_mark) = subst (AreTrue j) (sym (closed1 j f no_mark)) (nones_true j)
made_slots1 j is f (inr made) = subst (AreTrue j) (sym (one_map1 j is made.slots f made.stands)) made.true_slots

-- what extends true slots is true
pub extended_true : (j : Job) (s0 s1 : Slots) → Extends j s0 s1 → AreTrue j s0 → AreTrue j s1
extended_true j s0 s1 extends true_slots r v e = by (slot_at s0 r) refl
  where
    by : (o : Option Verdict) → slot_at s0 r ≡ o → v ≡ range_value j r
    by None at = extends.added r v at e
    by (Some w) at = some_inj v w (sym e ∙ extends.kept r w at) ∙ true_slots r w at

-- full true slots are the values, and their total is that of the run
pub full_values : (j : Job) (s : Slots) → IsFull j s → AreTrue j s → (r : ℕ) → r < ranges j → slot_at s r ≡ Some (range_value j r)
full_values j s full true_slots r below = by (slot_at s r) refl
  where
    by : (o : Option Verdict) → slot_at s r ≡ o → slot_at s r ≡ Some (range_value j r)
    by None at = absurd (none_is (subst IsSome at (full r below)))
      where
        none_is : IsSome {T = Verdict} None → ⊥
        none_is is = cc
    by (Some v) at = at ∙ ap Some (true_slots r v at)

pub full_total : (j : Job) (s : Slots) → IsFull j s → AreTrue j s → total j (slot_at s) ≡ run_value j
unfolding run_value
full_total j s full true_slots = total_same j (slot_at s) (λ i. Some (range_value j i)) (full_values j s full true_slots)

-- ---- the slots at entry
-- those of a journal that counts as f, where it was made by runs of the job, and so was the old one where it is to be taken over
given_true : (k : Keeping) (j : Job) → IsJob j → (f : List ℕ) (old : Face) (s0 : Slots) → Reads old (IsImage old)
    → Made j f → (k.taking ≡ true → f ≡ [] → TellsAndEach (Made1 j) old) → given k j f old.content ≡ Some s0 → AreTrue j s0
given_true k j is [] old s0 current made taken e = by k.taking refl
  where
    old_by : (c : Option (List ℕ)) → old.content ≡ c → TellsAndEach (Made1 j) old → option_map (slots1_of j) old.content ≡ Some s0 → AreTrue j s0
    old_by None at known e = absurd (none_some s0 (sym (ap (option_map (slots1_of j)) at) ∙ e))
    old_by (Some g) at known e =
        subst (AreTrue j) (some_inj _ _ (sym (ap (option_map (slots1_of j)) at) ∙ e)) (made_slots1 j is g (known.each g (current g at)))

    by : (taking : Bool) → k.taking ≡ taking → AreTrue j s0
    by false at = subst (AreTrue j) (some_inj _ _ (sym (ap (λ (b : Bool). if b then option_map (slots1_of j) old.content else Some (nones j)) at) ∙ e)) (nones_true j)
    by true at = old_by old.content refl (taken at refl) (sym (ap (λ (b : Bool). if b then option_map (slots1_of j) old.content else Some (nones j)) at) ∙ e)
given_true k j is (b ∷ bs) old s0 current made taken e = subst (AreTrue j) (some_inj _ _ e) (made_slots j is (b ∷ bs) made)

-- S0 is true
pub before_true : (k : Keeping) (j : Job) → IsJob j → (disk old : Face) (s0 : Slots)
    → Reads disk (IsImage disk) → Reads old (IsImage old) → BeginsTrue k j disk old → slots_before k j disk old ≡ Some s0 → AreTrue j s0
before_true k j is disk old s0 current current_old begins e = by k.kept refl
  where
    counted_by : (f : List ℕ) → disk.content ≡ Some f → k.kept ≡ true → (fresh : Bool) → k.fresh ≡ fresh → Made j (if fresh then [] else f)
    counted_by f at kept true is = inl (λ mark. absurd (omega arith))
    counted_by f at kept false is = begins.journal kept is f (current f at)

    content : (c : Option (List ℕ)) → disk.content ≡ c → k.kept ≡ true → option_and_then (λ f. given k j (counted k f) old.content) c ≡ Some s0 → AreTrue j s0
    content None at kept e = absurd (none_some s0 e)
    content (Some f) at kept e = given_true k j is (counted k f) old s0 current_old (counted_by f at kept k.fresh refl)
        (λ some none. begins.taken (some, subst (λ c. IsSomeAnd c (λ f. counted k f ≡ [])) (sym at) none)) e

    by : (kept : Bool) → k.kept ≡ kept → AreTrue j s0
    by false at = subst (AreTrue j) (some_inj _ _ (sym (ap (λ (b : Bool). if b then option_and_then (λ f. given k j (counted k f) old.content) disk.content else Some (nones j)) at) ∙ e)) (nones_true j)
    by true at = content disk.content refl at (sym (ap (λ (b : Bool). if b then option_and_then (λ f. given k j (counted k f) old.content) disk.content else Some (nones j)) at) ∙ e)

-- where the slots at entry are true, S0 is told
pub before_told : (k : Keeping) (j : Job) (disk old : Face) → BeginsTrue k j disk old → IsSome (slots_before k j disk old)
before_told k j disk old begins = by k.kept refl
  where
    known : (c : Option (List ℕ)) → is_some c ≡ true → IsSome (option_map (slots1_of j) c)
    known None e = absurd (wrong e)
      where
        wrong : false ≡ true → ⊥
        wrong e = cc
    known (Some g) e = refl

    over : (taking : Bool) → (taking ≡ true → is_some old.content ≡ true) → IsSome (if taking then option_map (slots1_of j) old.content else Some (nones j))
    over false t = refl
    over true t = known old.content (t refl)

    whole : (g : List ℕ) → (g ≡ [] → k.taking ≡ true → is_some old.content ≡ true) → IsSome (given k j g old.content)
    whole [] t = over k.taking (t refl)
    whole (b ∷ bs) t = refl

    content : (c : Option (List ℕ)) → disk.content ≡ c → is_some c ≡ true → IsSome (option_and_then (λ f. given k j (counted k f) old.content) c)
    content None at e = absurd (wrong e)
      where
        wrong : false ≡ true → ⊥
        wrong e = cc
    content (Some f) at e = whole (counted k f) (λ none some. (begins.taken (some, subst (λ c. IsSomeAnd c (λ f. counted k f ≡ [])) (sym at) none)).told)

    by : (kept : Bool) → k.kept ≡ kept → IsSome (slots_before k j disk old)
    by false at = rw at refl
    by true at = rw at (content disk.content refl (begins.told at))
