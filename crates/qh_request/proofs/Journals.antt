-- What accepts the journals of a job, and what a call leaves of them.
use Rattle.std.proofs.Common.{◌≡◌, ◌≢◌, ℕ, ◌⊎◌, inl, inr, List, [], true, false, Some, None, IfSome, IsSome, IsSomeAnd, refl, sym, ap, subst, ◌∙◌}
use Rattle.std.specs.declared.option.Option.{Option}
use Rattle.std.proofs.lemmas.Bool.{false≢true}
use Rattle.qh_plan.specs.Jobs.{Job, IsJob}
use Rattle.qh_disk.specs.Disk.{Face}
use Rattle.qh_disk.specs.Moments.{Runs}
use Rattle.qh_disk.proofs.Moments.{runs_same}
use Rattle.qh_slots.specs.Attaching.{first_refusal, first_refusal1, head_refusal}
use Rattle.qh_slots.specs.declared.fault.AttachFault.TheVariants.{Empty}
use Rattle.qh_slots.specs.Record.{Keeping, counted}
use Rattle.qh_slots.specs.Moments.{IsReadOnly, IsUnwritten, StaysStable}
use Rattle.qh_slots.specs.Refusing.{Accepts}
use Rattle.qh_slots.specs.Keeps.{KeepsJournal}
use Rattle.qh_slots.proofs.StillLemmas.{still_keeps, read_only_same}
use Rattle.qh_migrate.specs.Faults.{attach_of}
use Rattle.qh_words.specs.declared.options.Options.{Options}
use Rattle.qh_request.specs.Seen.{Seen}
use Rattle.qh_request.specs.Jobs.{Asks, Takes, keeping}
use Rattle.qh_request.specs.Refusals.{JournalRefuses}
use Rattle.qh_request.specs.Parts.{Moves}
use Rattle.qh_request.specs.declared.stop.JournalRefusal.{JournalRefusal}
use Rattle.qh_request.specs.declared.stop.JournalRefusal.TheVariants.{OfJournal, OfOld}
use Rattle.qh_request.proofs.Inputs.{same_job}

-- ---- refusals
first_empty : (j : Job) → first_refusal j [] ≡ Some Empty
unfolding first_refusal head_refusal
first_empty j = refl

none_some : {X : Type 0} (o : Option X) (x : X) → o ≡ None → o ≡ Some x → ⊥
none_some o x e f = cc

some_same : {X : Type 0} (o : Option X) (x y : X) → o ≡ Some x → o ≡ Some y → x ≡ y
some_same o x y e f = cc

both : (o : Option (List ℕ)) (P Q : List ℕ → Type 0) (R : Type 0) → IfSome o P → IsSomeAnd o Q → ((xs : List ℕ) → P xs → Q xs → R) → R
both None P Q R p q f = absurd q
both (Some xs) P Q R p q f = f xs p q

-- journals that are accepted are not refused
pub accepts_not_refuses : (k : Keeping) (j : Job) (disk old : Face) → Accepts k j disk old → (r : JournalRefusal) → JournalRefuses (λ known P. IfSome known P) k j disk old r → ⊥
accepts_not_refuses k j disk old (inl unkept) (OfJournal r) h = false≢true (sym unkept ∙ h.0)
accepts_not_refuses k j disk old (inl unkept) (OfOld r) h = false≢true (sym unkept ∙ h.0)
accepts_not_refuses k j disk old (inr told) (OfJournal r) h =
    both disk.content _ _ ⊥ h.1.first told (λ f refused accepted. by f refused accepted)
  where
    by : (f : List ℕ) → (first_refusal j (counted k f) ≡ Some r) × (r ≢ Empty)
        → (first_refusal j (counted k f) ≡ None) ⊎ ((counted k f ≡ []) × (k.taking ≡ true → IsSomeAnd old.content (λ g. first_refusal1 j g ≡ None))) → ⊥
    by f refused (inl none) = none_some (first_refusal j (counted k f)) r none refused.0
    by f refused (inr empty) = refused.1 (some_same (first_refusal j []) r Empty (sym (ap (first_refusal j) empty.0) ∙ refused.0) (first_empty j))
accepts_not_refuses k j disk old (inr told) (OfOld r) h =
    both disk.content _ _ ⊥ h.1.empty told (λ f empty accepted. by f empty accepted)
  where
    by : (f : List ℕ) → counted k f ≡ []
        → (first_refusal j (counted k f) ≡ None) ⊎ ((counted k f ≡ []) × (k.taking ≡ true → IsSomeAnd old.content (λ g. first_refusal1 j g ≡ None))) → ⊥
    by f empty (inl none) = none_some (first_refusal j []) Empty (sym (ap (first_refusal j) empty) ∙ none) (first_empty j)
    by f empty (inr taken) = both old.content _ _ ⊥ h.1.first (taken.1 h.1.taking) (λ g refused none. none_some (first_refusal1 j g) (attach_of r) none refused)

-- ---- the disks: no call was made on them, or what a run of the job does
module _ {D F : Type 0} (face : D → Face) (old_face : F → Face) (disk after : D) (old old_after : F) (asked : Option Options) (circuit bits : Seen)
    (moves : ((after ≡ disk) × (old_after ≡ old)) ⊎ IsSomeAnd asked (λ o. Moves o circuit bits (face disk) (face after) (old_face old) (old_face old_after))) where
  moved : (o : Options) → asked ≡ Some o → IsSomeAnd asked (λ o. Moves o circuit bits (face disk) (face after) (old_face old) (old_face old_after))
      → Moves o circuit bits (face disk) (face after) (old_face old) (old_face old_after)
  moved o e m = subst (λ a. IsSomeAnd a (λ o. Moves o circuit bits (face disk) (face after) (old_face old) (old_face old_after))) e m

  some_moves : (P : Type 0) → IsSomeAnd asked (λ o. Moves o circuit bits (face disk) (face after) (old_face old) (old_face old_after))
      → ((o : Options) → Moves o circuit bits (face disk) (face after) (old_face old) (old_face old_after) → P) → P
  some_moves P m f = by asked m
    where
      by : (a : Option Options) → IsSomeAnd a (λ o. Moves o circuit bits (face disk) (face after) (old_face old) (old_face old_after)) → P
      by None m = absurd m
      by (Some o) m = f o m

  pub old_is_read : IsReadOnly (old_face old) (old_face old_after)
  old_is_read = elim moves [
    | inl same ↦ subst (λ e. IsReadOnly (old_face old) (old_face e)) (sym same.1) (read_only_same (old_face old))
    | inr m ↦ some_moves _ m (λ o m. m.moves.reading)
  ]

  pub disk_runs : Runs (face disk) (face after)
  disk_runs = elim moves [
    | inl same ↦ subst (λ e. Runs (face disk) (face e)) (sym same.0) (runs_same (face disk))
    | inr m ↦ some_moves _ m (λ o m. m.moves.keeps.runs)
  ]

  pub old_runs : Runs (old_face old) (old_face old_after)
  old_runs = elim moves [
    | inl same ↦ subst (λ e. Runs (old_face old) (old_face e)) (sym same.1) (runs_same (old_face old))
    | inr m ↦ some_moves _ m (λ o m. m.moves.old_runs)
  ]

  pub keeps_asked : (o : Options) (j : Job) → Asks asked circuit.before bits.before o j → KeepsJournal (keeping o) j (old_face old) (face disk) (face after)
  keeps_asked o j a = elim moves [
    | inl same ↦ subst (λ e. KeepsJournal (keeping o) j (old_face old) (face disk) (face e)) (sym same.0) (still_keeps (keeping o) j (old_face old) (face disk))
    | inr m ↦
        let here = moved o a.request_is m in
        subst (λ i. KeepsJournal (keeping o) i (old_face old) (face disk) (face after)) (same_job asked o circuit bits here.job j here.taken a) here.moves.keeps
  ]

  pub stays_stable : (o : Options) (j : Job) → asked ≡ Some o → o.fresh ≡ false → IsJob j → StaysStable j (face disk).clock (face after)
  stays_stable o j e stale is = elim moves [
    | inl same ↦ subst (λ (e : D). StaysStable j (face disk).clock (face e)) (sym same.0) ((still_keeps (keeping o) j (old_face old) (face disk)).stable stale j is)
    | inr m ↦ (moved o e m).moves.keeps.stable stale j is
  ]

  pub reached_job : ((after ≡ disk) × (old_after ≡ old)) ⊎ IsSomeAnd asked (λ o. IsSome o.journal × ((j : Job) × Takes o circuit bits j))
  reached_job = elim moves [
    | inl same ↦ inl same
    | inr m ↦ inr (by asked m)
  ]
    where
      by : (a : Option Options) → IsSomeAnd a (λ o. Moves o circuit bits (face disk) (face after) (old_face old) (old_face old_after))
          → IsSomeAnd a (λ o. IsSome o.journal × ((j : Job) × Takes o circuit bits j))
      by None m = absurd m
      by (Some o) m = (m.moves.kept, (m.job, m.taken))

  pub unwritten_refused : (o : Options) (j : Job) (r : JournalRefusal) → Asks asked circuit.before bits.before o j → o.fresh ≡ false
      → JournalRefuses (λ known P. IsSomeAnd known P) (keeping o) j (face disk) (old_face old) r → IsUnwritten (face disk) (face after)
  unwritten_refused o j (OfJournal r) a stale h = (keeps_asked o j a).refused r stale h.1
  unwritten_refused o j (OfOld r) a stale h = (keeps_asked o j a).old_refused (attach_of r) stale h.1
