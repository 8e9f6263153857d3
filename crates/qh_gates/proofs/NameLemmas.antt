-- The names of the gates: each names its kind alone, no other bytes name one, and none has a byte below 48.
use Rattle.std.proofs.Common.{◌≡◌, ◌≢◌, ℕ, ◌<◌, ◌≤◌, Bool, true, false, nat_le, List, [], ◌∷◌, refl, sym, ap, ◌∙◌, arith, Some, None, All}
use Rattle.std.specs.declared.option.Option.{Option}
use Rattle.std.specs.List.{find, list_all}
use Rattle.std.specs.Str.{bytes_eq}
use Rattle.std.proofs.lemmas.List.Elements.{All-nil, All-cons}
use Rattle.std.proofs.lemmas.Bool.{and_parts, leb-true, cond-false, false_from_ne_true}
use Rattle.std.proofs.lemmas.Slice.Eq.{bytes_eq-Decides}
use Rattle.qh_gates.specs.declared.kind.Kind.{Kind}
use Rattle.qh_gates.specs.declared.kind.Kind.TheVariants.{H, T, X, Y, Z, X12, Y12, Hz12, Cz, Cnot, Is, S, Sw, Id1, Id2}
use Rattle.qh_gates.specs.Tables.{name_text}
use Rattle.qh_gates.specs.Names.{kinds, kind_named}

-- each kind is found by its name
pub kind_named-name : (kind : Kind) → kind_named (name_text kind) ≡ Some kind
unfolding kind_named
kind_named-name H = refl
kind_named-name T = refl
kind_named-name X = refl
kind_named-name Y = refl
kind_named-name Z = refl
kind_named-name X12 = refl
kind_named-name Y12 = refl
kind_named-name Hz12 = refl
kind_named-name Cz = refl
kind_named-name Cnot = refl
kind_named-name Is = refl
kind_named-name S = refl
kind_named-name Sw = refl
kind_named-name Id1 = refl
kind_named-name Id2 = refl

find_none : {X : Type 0} (p : X → Bool) (xs : List X) → ((x : X) → p x ≡ false) → find p xs ≡ None
find_none p [] fails = refl
find_none p (x ∷ xs) fails = cond-false (p x) (Some x) (find p xs) (fails x) ∙ find_none p xs fails

-- what is no kind's name names none
pub kind_named-none : (text : List ℕ) → ((kind : Kind) → text ≢ name_text kind) → kind_named text ≡ None
unfolding kind_named
kind_named-none text other =
    find_none (λ kind. bytes_eq (name_text kind) text) kinds
    (λ kind. false_from_ne_true _ (λ e. other kind (sym ((bytes_eq-Decides (name_text kind) text).0 e))))

same_kind : (j k : Kind) → ◌≡◌ {A = Option Kind} (Some j) (Some k) → j ≡ k
same_kind j k e = cc

-- a name is one kind's alone
pub name_same : (j k : Kind) → name_text j ≡ name_text k → j ≡ k
name_same j k e = same_kind j k (sym (kind_named-name j) ∙ ap kind_named e ∙ kind_named-name k)

high_bytes : (k : Kind) → list_all (nat_le 48) (name_text k) ≡ true
high_bytes H = refl
high_bytes T = refl
high_bytes X = refl
high_bytes Y = refl
high_bytes Z = refl
high_bytes X12 = refl
high_bytes Y12 = refl
high_bytes Hz12 = refl
high_bytes Cz = refl
high_bytes Cnot = refl
high_bytes Is = refl
high_bytes S = refl
high_bytes Sw = refl
high_bytes Id1 = refl
high_bytes Id2 = refl

each_high : (xs : List ℕ) (s : ℕ) → s < 48 → list_all (nat_le 48) xs ≡ true → All (λ b. b ≢ s) xs
each_high [] s l e = All-nil (λ b. b ≢ s)
each_high (x ∷ xs) s l e =
    let p = and_parts _ _ e in
    let h : 48 ≤ x = leb-true 48 x p.0 in
    All-cons (λ b. b ≢ s) x xs (λ f. omega arith) (each_high xs s l p.1)

-- no byte of a name is below 48, as those of white space are
pub name_without : (s : ℕ) (k : Kind) → s < 48 → All (λ b. b ≢ s) (name_text k)
name_without s k l = each_high (name_text k) s l (high_bytes k)
