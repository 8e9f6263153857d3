-- Options, a circuit and strings ask for one text.
use Rattle.std.proofs.Common.{◌≡◌, ℕ, List, ◌++◌, map, Bool, true, false, Some, None, IfSome, IsSome, if◌then◌else◌, refl, sym, ap, subst, ◌∙◌}
use Rattle.std.specs.declared.option.Option.{Option}
use Rattle.std.specs.Prelude.{option_map}
use Rattle.qh_ring.specs.declared.number.Omega.{Omega}
use Rattle.qh_gates.specs.Circuits.{Circuit}
use Rattle.qh_plan.specs.declared.verdict.Verdict.{Verdict}
use Rattle.qh_plan.specs.declared.verdict.Verdict.TheVariants.{Sum}
use Rattle.qh_plan.specs.Jobs.{Job}
use Rattle.qh_plan.specs.Verdicts.{total}
use Rattle.qh_text.specs.Bitstrings.{index_of}
use Rattle.qh_disk.specs.Disk.{Face}
use Rattle.qh_slots.specs.Stands.{Slots, slot_at}
use Rattle.qh_slots.specs.Attaching.{slots_of}
use Rattle.qh_slots.specs.Record.{Keeping, values, slots_after, IsEnd}
use Rattle.qh_words.specs.declared.options.Options.{Options}
use Rattle.qh_words.specs.declared.size.GenSize.{GenSize}
use Rattle.qh_request.specs.Jobs.{keeping}
use Rattle.qh_request.specs.Answer.{IsWholeAnswer, IsAnswerBy, IsCutAnswer, IsValuesText, head_text}
use Rattle.qh_request.proofs.Causes.{one_job}
use Rattle.qh_request.proofs.Strings.{one_lines, one_probabilities}

one_values : (g : Option GenSize) (j : Job) (ss : List (List ℕ)) (zs : List Omega) (s t : List ℕ) → IsValuesText g j ss zs s → IsValuesText g j ss zs t → s ≡ t
one_values g j ss zs s t d e = d.text_is ∙ ap (λ l. head_text g j.circuit _ _ ++ l) (one_lines _ ss zs d.lines e.lines d.are_lines e.are_lines) ∙ sym e.text_is

-- the slots at the end are told where no journal is kept, or where its disk tells
end_told : (k : Keeping) (j : Job) (after : Face) → (k.kept ≡ true → IsSome after.content) → IsSome (slots_after k j after)
end_told k j after told = by k.kept refl
  where
    known : (c : Option (List ℕ)) → IsSome c → IsSome (option_map (slots_of j) c)
    known None e = e
    known (Some f) e = refl

    by : (kept : Bool) → k.kept ≡ kept → IsSome (if kept then option_map (slots_of j) after.content else Some (values j))
    by true e = known after.content (told e)
    by false e = refl

one_end : (o : Option Slots) (s t : Slots) → IsSome o → IfSome o (λ s1. s ≡ s1) → IfSome o (λ s1. t ≡ s1) → s ≡ t
one_end None s t some d e = absurd (none some)
  where
    none : ◌≡◌ {A = Bool} false true → ⊥
    none e = cc
one_end (Some s1) s t some d e = d ∙ sym e

same_sums : (v : Verdict) (xs ys : List Omega) → v ≡ Sum xs → v ≡ Sum ys → xs ≡ ys
same_sums v xs ys d e = cc

one_cut : (o : Options) (after : Face) (part : List ℕ) (c : Circuit) (ss : List (List ℕ)) (s t : List ℕ) → (IsSome o.journal → IsSome after.content)
    → IsCutAnswer o after part c ss s → IsCutAnswer o after part c ss t → s ≡ t
one_cut o after part c ss s t told d e =
    let job = one_job o part c (map index_of ss) d.job e.job d.planned e.planned in
    let end = subst (λ (j : Job). IsEnd (keeping o) j after e.slots) (sym job) e.ended in
    let slots = one_end (slots_after (keeping o) d.job after) d.slots e.slots (end_told (keeping o) d.job after told) d.ended end in
    let of_e : total d.job (slot_at d.slots) ≡ Sum e.text_is.sums =
    ap (λ (x : Slots). total d.job (slot_at x)) slots ∙ ap (λ (j : Job). total j (slot_at e.slots)) job ∙ e.text_is.total_is in
    let sums = same_sums (total d.job (slot_at d.slots)) d.text_is.sums e.text_is.sums d.text_is.total_is of_e in
    one_values o.generated d.job ss d.text_is.sums s t d.text_is.values
    (subst (λ zs. IsValuesText o.generated d.job ss zs t) (sym sums) (subst (λ (j : Job). IsValuesText o.generated j ss e.text_is.sums t) (sym job) e.text_is.values))

one_whole : (prob : Bool) (g : Option GenSize) (c : Circuit) (ss : List (List ℕ)) (s t : List ℕ) → IsWholeAnswer prob g c ss s → IsWholeAnswer prob g c ss t → s ≡ t
one_whole true g c ss s t d e = d.text_is ∙ ap (λ l. head_text g c 0 0 ++ l) (one_probabilities c ss d.lines e.lines d.are_lines e.are_lines) ∙ sym e.text_is
one_whole false g c ss s t d e = d.text_is ∙ ap (λ l. head_text g c 0 0 ++ l) (one_lines _ ss _ d.lines e.lines d.are_lines e.are_lines) ∙ sym e.text_is

pub one_text : (part : Option (List ℕ)) (o : Options) (after : Face) (c : Circuit) (ss : List (List ℕ)) (s t : List ℕ) → (IsSome o.journal → IsSome after.content)
    → IsAnswerBy part o after c ss s → IsAnswerBy part o after c ss t → s ≡ t
one_text None o after c ss s t told d e = one_whole o.prob o.generated c ss s t d e
one_text (Some part) o after c ss s t told d e = one_cut o after part c ss s t told d e
