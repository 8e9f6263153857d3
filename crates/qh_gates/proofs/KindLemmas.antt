-- What holds of every kind. None of these lemmas has a line for each kind, so a kind that is added changes nothing here.
use Rattle.std.proofs.Common.{◌≡◌, ◌==◌, ◌||◌, ◌⊎◌, ℕ, inl, inr, Bool, true, List, [], ◌∷◌, length, refl, sym, subst, ◌∙◌, Some}
use Rattle.std.specs.declared.option.Option.{Option}
use Rattle.std.specs.List.{find, list_all}
use Rattle.std.specs.Str.{bytes_eq}
use Rattle.std.proofs.lemmas.Bool.{cases_Bool, cases_cond, and_parts, or_cases, cond-true, cond-false, eqb-true}
use Rattle.qh_gates.specs.declared.kind.Kind.{Kind}
use Rattle.qh_gates.specs.Tables.{name_text, qubits_of}
use Rattle.qh_gates.specs.Names.{kinds, kind_named}
use Rattle.qh_gates.specs.Terms.{terms_of}
use Rattle.qh_gates.proofs.NameLemmas.{kind_named-name}

same_found : {X : Type 0} (x y : X) → ◌≡◌ {A = Option X} (Some x) (Some y) → x ≡ y
same_found x y e = cc

-- what holds of each element holds of one that is found
found_holds : {X : Type 0} (p q : X → Bool) (xs : List X) (x : X) → list_all p xs ≡ true → find q xs ≡ Some x → p x ≡ true
found_holds p q [] x h e = absurd (cc)
found_holds p q (y ∷ ys) x h e = elim (cases_Bool (q y)) [
  | inl t ↦ subst (λ z. p z ≡ true) (same_found y x (sym (cond-true (q y) (Some y) (find q ys) t) ∙ e)) (and_parts _ _ h).0
  | inr f ↦ found_holds p q ys x (and_parts _ _ h).1 (sym (cond-false (q y) (Some y) (find q ys) f) ∙ e)
]

-- a test that each kind of the list passes, every kind passes
pub each_kind : (p : Kind → Bool) → list_all p kinds ≡ true → (kind : Kind) → p kind ≡ true
unfolding kind_named
each_kind p h kind = found_holds p (λ k. bytes_eq (name_text k) (name_text kind)) kinds kind h (kind_named-name kind)

-- a gate has one qubit or two
pub one_or_two : (kind : Kind) → (qubits_of kind ≡ 1) ⊎ (qubits_of kind ≡ 2)
one_or_two kind = cases_cond _ 1 2 (qubits_of kind) refl

abbrev is_known : Kind → Bool
is_known k = qubits_of k == 1 || (length (terms_of k) == 1 || (length (terms_of k) == 2 || length (terms_of k) == 4))

-- a kind on two qubits has one, two or four terms
pub radix_of : (kind : Kind) → qubits_of kind ≡ 2 → (length (terms_of kind) ≡ 1) ⊎ ((length (terms_of kind) ≡ 2) ⊎ (length (terms_of kind) ≡ 4))
radix_of kind two = elim (or_cases _ _ (each_kind is_known refl kind)) [
  | inl single ↦ absurd (apart (sym (eqb-true _ _ single) ∙ two))
  | inr some ↦ elim (or_cases _ _ some) [
    | inl one ↦ inl (eqb-true _ _ one)
    | inr more ↦ elim (or_cases _ _ more) [
      | inl pair ↦ inr (inl (eqb-true _ _ pair))
      | inr four ↦ inr (inr (eqb-true _ _ four))
    ]
  ]
]
  where
    apart : ◌≡◌ {A = ℕ} 1 2 → ⊥
    apart e = cc
