-- The slots with the members of a group.
use Rattle.std.proofs.Common.{◌≡◌, ◌<◌, ◌⊎◌, inl, inr, ℕ, suc, ◌+◌, List, [], ◌∷◌, ◌++◌, length, take, set, get_or, Some, None, refl, sym, ap, subst, ◌∙◌, arith}
use Rattle.std.proofs.lemmas.Bool.{cases_eq, cases_lt}
use Rattle.std.proofs.lemmas.List.{length-set, get_or-set_same, get_or-set_other, get_or_past, take_more}
use Rattle.qh_plan.specs.declared.verdict.Verdict.{Verdict}
use Rattle.qh_plan.specs.Jobs.{Job}
use Rattle.qh_plan.specs.Ranges.{Fits}
use Rattle.qh_slots.specs.Stands.{Slots, slot_at, AllFit, Stands}
use Rattle.qh_parts.specs.Groups.{IsGroup, StandsPartly, filled, range_of, member_of, unused}
use Rattle.qh_parts.specs.declared.member.Member.{Member}

pub filled_length : (s : Slots) (group : List Member) → length (filled s group) ≡ length s
filled_length s [] = refl
filled_length s (m ∷ group) = filled_length (set s m.range (Some m.verdict)) group ∙ length-set s m.range (Some m.verdict)

filled_append : (s : Slots) (group : List Member) (m : Member) → filled s (group ++ m ∷ []) ≡ set (filled s group) m.range (Some m.verdict)
filled_append s [] m = refl
filled_append s (n ∷ group) m = filled_append (set s n.range (Some n.verdict)) group m

-- one member more
pub filled_more : (s : Slots) (group : List Member) (k : ℕ) (x : Member) → k < length group → x ≡ get_or group k unused → filled s (take (k + 1) group) ≡ set (filled s (take k group)) x.range (Some x.verdict)
filled_more s group k x low is =
    ap (filled s) (take_more group k unused low) ∙ filled_append s (take k group) (get_or group k unused)
    ∙ ap (λ (m : Member). set (filled s (take k group)) m.range (Some m.verdict)) (sym is)

-- what a slot of them holds stood there, or is a member
pub record IsMember (group : List Member) (q : ℕ) (w : Verdict) : Type 0 where
  pub index : ℕ
  pub low : index < length group
  pub is_range : range_of group index ≡ q
  pub is_verdict : member_of group index ≡ w

pub filled_from : (s : Slots) (group : List Member) (q : ℕ) (w : Verdict) → slot_at (filled s group) q ≡ Some w → (slot_at s q ≡ Some w) ⊎ IsMember group q w
filled_from s [] q w held = inl held
filled_from s (m ∷ group) q w held = elim (filled_from (set s m.range (Some m.verdict)) group q w held) [
  | inl before ↦ elim (cases_eq q m.range) [
    | inl same ↦ elim (cases_lt m.range (length s)) [
      | inl inside ↦ inr (record {
        index = 0;
        low = omega arith;
        is_range = sym same;
        is_verdict =
            let now : Some m.verdict ≡ Some w = sym (get_or-set_same s m.range (Some m.verdict) None inside) ∙ ap (slot_at (set s m.range (Some m.verdict))) (sym same) ∙ before in
            cc;
      })
      | inr outside ↦ absurd (nothing w (sym (get_or_past (set s m.range (Some m.verdict)) q None (let n = length-set s m.range (Some m.verdict) in omega arith)) ∙ before))
    ]
    | inr ne ↦ inl (sym (get_or-set_other s m.range q (Some m.verdict) None ne) ∙ before)
  ]
  | inr later ↦ inr (record { index = suc later.index; low = (let l = later.low in omega arith); is_range = later.is_range; is_verdict = later.is_verdict })
]
  where
    nothing : (w : Verdict) → None ≡ Some w → ⊥
    nothing w e = cc

pub filled_fits : (j : Job) (s : Slots) (group : List Member) → AllFit j s → IsGroup j group → AllFit j (filled s group)
filled_fits j s group all is = record {
  each = λ r v held. elim (filled_from s group r v held) [
    | inl before ↦ all.each r v before
    | inr member ↦ subst (λ (k : ℕ). Fits j k v) member.is_range (subst (Fits j (range_of group member.index)) member.is_verdict (is.fits member.index member.low))
  ];
}

-- ---- how many members are stored where a gate is torn
pub partly_from : (j : Job) (s : Slots) (group : List Member) (k : ℕ) (x : Member) (f : List ℕ) → k < length group → x ≡ get_or group k unused
    → Stands j (filled s (take k group)) f ⊎ Stands j (set (filled s (take k group)) x.range (Some x.verdict)) f → StandsPartly j s group f
partly_from j s group k x f low is (inl before) = record { stored = k; most = omega arith; stands = before }
partly_from j s group k x f low is (inr now) = record { stored = k + 1; most = omega arith; stands = subst (λ (t : Slots). Stands j t f) (sym (filled_more s group k x low is)) now }

pub partly_none : (j : Job) (s : Slots) (group : List Member) (f : List ℕ) → Stands j s f → StandsPartly j s group f
partly_none j s group f stands = record { stored = 0; most = omega arith; stands = stands }
