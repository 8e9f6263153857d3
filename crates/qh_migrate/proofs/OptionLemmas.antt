-- What holds of what an option has.
use Rattle.std.proofs.Common.{◌≡◌, true, List, ℕ, Option, Some, None, refl, subst, ◌∙◌}
use Rattle.std.specs.Prelude.{IfSome, IsSomeAnd, is_some, option_map, option_and_then}

pub some_from : {T : Type 0} (o : Option T) (P : T → Type 0) → ((x : T) → o ≡ Some x → P x) → IfSome o P
some_from None P each = tt
some_from (Some x) P each = each x refl

pub some_to : {T : Type 0} (o : Option T) (P : T → Type 0) (x : T) → IfSome o P → o ≡ Some x → P x
some_to None P x some is = absurd cc
some_to (Some y) P x some is = subst P (let same : y ≡ x = cc in same) some

pub some_map : {T : Type 0} (o : Option T) (P Q : T → Type 0) → ((x : T) → P x → Q x) → IfSome o P → IfSome o Q
some_map None P Q keeps some = tt
some_map (Some x) P Q keeps some = keeps x some

pub and_from : {T : Type 0} (o : Option T) (P : T → Type 0) (x : T) → o ≡ Some x → P x → IsSomeAnd o P
and_from None P x is holds = absurd cc
and_from (Some y) P x is holds = subst P (let same : x ≡ y = cc in same) holds

pub and_map : {T : Type 0} (o : Option T) (P Q : T → Type 0) → ((x : T) → P x → Q x) → IsSomeAnd o P → IsSomeAnd o Q
and_map None P Q keeps some = some
and_map (Some x) P Q keeps some = keeps x some

-- what it has, where it has something
pub record Has {T : Type 0} (o : Option T) (P : T → Type 0) : Type 0 where
  pub value : T
  pub is : o ≡ Some value
  pub holds : P value

pub and_has : {T : Type 0} (o : Option T) (P : T → Type 0) → IsSomeAnd o P → Has o P
and_has None P some = absurd some
and_has (Some x) P some = record { value = x; is = refl; holds = some }

pub is_some_has : {T : Type 0} (o : Option T) → is_some o ≡ true → Has o (λ x. Unit {0})
is_some_has None some = absurd cc
is_some_has (Some x) some = record { value = x; is = refl; holds = tt }

pub has_is_some : {T : Type 0} (o : Option T) (x : T) → o ≡ Some x → is_some o ≡ true
has_is_some None x is = absurd cc
has_is_some (Some y) x is = refl

-- one tells where the other does
pub same_told : (o p : Option (List ℕ)) (f : List ℕ) → is_some p ≡ is_some o → o ≡ Some f → Has p (λ g. Unit {0})
same_told o p f same is = is_some_has p (same ∙ has_is_some o f is)

pub map_has : {T U : Type 0} (f : T → U) (o : Option T) (y : U) → option_map f o ≡ Some y → Has o (λ x. f x ≡ y)
map_has f None y is = absurd cc
map_has f (Some x) y is = record { value = x; is = refl; holds = (let same : f x ≡ y = cc in same) }

pub then_has : {T U : Type 0} (f : T → Option U) (o : Option T) (y : U) → option_and_then f o ≡ Some y → Has o (λ x. f x ≡ Some y)
then_has f None y is = absurd cc
then_has f (Some x) y is = record { value = x; is = refl; holds = is }

pub nothing : {T : Type 0} (x : T) → None ≡ Some x → ⊥
nothing x e = cc

pub one_value : {T : Type 0} (x y : T) → Some x ≡ Some y → x ≡ y
one_value x y e = cc
