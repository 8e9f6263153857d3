-- What the calls of a wipe leave of a file.
use Rattle.std.proofs.Common.{◌≡◌, ◌⊎◌, inl, inr, ℕ, List, [], ◌∷◌, length, get_or, Result, refl, sym, ap, subst, ◌∙◌, arith}
use Rattle.std.proofs.lemmas.Bool.{cases_eq, cases_lt}
use Rattle.std.proofs.lemmas.List.{ext_get_or, get_or_past}
use Rattle.qh_plan.specs.Jobs.{Job}
use Rattle.qh_disk.specs.Disk.{Face, IsImage, IsSafe, Reads, Becomes, overwritten, resized, Torn, Stretched, Turns, Calls}
use Rattle.qh_disk.specs.Moments.{EachImage}
use Rattle.qh_disk.specs.Looks.{Looks}
use Rattle.qh_disk.specs.declared.failed.Failed.{Failed}
use Rattle.qh_disk.proofs.Moments.{lasts_call, lasts_on, runs_call, runs_on, turns_keeps, safe_each, since_new, each_since_call, each_since_on}
use Rattle.qh_disk.proofs.Looking.{narrows_lasts, narrows_since}
use Rattle.qh_disk.proofs.Rules.{told_before, resized_length}
use Rattle.qh_slots.specs.Layout.{mark}
use Rattle.qh_slots.specs.Stands.{Made}
use Rattle.qh_parts.specs.Laying.{IsUnbegun, Wipes}

pub zero_unbegun : (f : List ℕ) → get_or f 0 0 ≡ 0 → IsUnbegun f
zero_unbegun f e is = omega arith

pub wipes_looks : (old new : Face) → Looks old new → Wipes old new
wipes_looks old new looks = record {
  runs = looks.runs;
  none = narrows_lasts (λ _. ⊥) old new looks.narrows;
  since = λ c is. inl (narrows_since old new looks.runs looks.narrows c is);
  made = λ j. narrows_lasts (Made j) old new looks.narrows;
  empty = narrows_lasts (λ f. f ≡ []) old new looks.narrows;
}

pub wipes_on : (old mid new : Face) → Wipes old mid → Wipes mid new → Wipes old new
wipes_on old mid new a b = record {
  runs = runs_on old mid new a.runs b.runs;
  none = lasts_on (λ _. ⊥) old mid new a.none b.runs b.none;
  since = each_since_on (λ c. IsImage old c ⊎ IsUnbegun c) old.clock mid new a.since b.runs (λ c is. elim (b.since c is) [
    | inl was ↦ a.since c (since_new old mid a.runs c was)
    | inr unbegun ↦ inr unbegun
  ]);
  made = λ j. lasts_on (Made j) old mid new (a.made j) b.runs (b.made j);
  empty = lasts_on (λ f. f ≡ []) old mid new a.empty b.runs b.empty;
}

-- the first byte of a file that has it open is written
close_same : (d c : List ℕ) → Torn 0 1 d c → get_or d 0 0 ≡ mark → (d ≡ c) ⊎ IsUnbegun c
close_same d c torn is_open = elim (cases_eq (get_or c 0 0) mark) [
  | inl still ↦ inl (ext_get_or 0 d c (sym torn.size) (λ i low. elim (cases_eq i 0) [
    | inl first ↦ ap (λ (k : ℕ). get_or d k 0) first ∙ is_open ∙ sym still ∙ ap (λ (k : ℕ). get_or c k 0) (sym first)
    | inr ne ↦ sym (torn.beyond i (omega arith))
  ]))
  | inr closed ↦ inr closed
]

close_made : (j : Job) (d c : List ℕ) → Torn 0 1 d c → get_or d 0 0 ≡ mark → Made j d → Made j c
close_made j d c torn is_open was = elim (close_same d c torn is_open) [
  | inl same ↦ subst (Made j) same was
  | inr closed ↦ inl closed
]

pub not_empty : (d : List ℕ) → get_or d 0 0 ≡ mark → d ≡ [] → ⊥
not_empty d is_open none = let z = ap (λ (l : List ℕ). get_or l 0 0) none in omega arith

pub close_wipes : {T : Type 0} (result : Result T Failed) (old new : Face) → Calls result old new → Turns (Torn 0 1) old new → IsSafe old → Reads old (λ f. get_or f 0 0 ≡ mark) → Wipes old new
close_wipes result old new call turns safe reads = record {
  runs = runs_call result old new call;
  none = lasts_call (λ _. ⊥) result old new call (turns_keeps (λ _. ⊥) (Torn 0 1) old new turns (λ d c s p. p));
  since = each_since_call (λ c. IsImage old c ⊎ IsUnbegun c) result old new call (λ c is. inl is) (λ c is.
      let from = turns.images c is in
      elim (close_same from.0 c from.2 (safe_each (λ f. get_or f 0 0 ≡ mark) old safe reads from.0 from.1)) [
        | inl same ↦ inl (subst (IsImage old) same from.1)
        | inr closed ↦ inr closed
      ]);
  made = λ j. lasts_call (Made j) result old new call (λ each c is. let from = turns.images c is in close_made j from.0 c from.2 (safe_each (λ f. get_or f 0 0 ≡ mark) old safe reads from.0 from.1) (each from.0 from.1));
  empty = lasts_call (λ f. f ≡ []) result old new call (λ each c is. let from = turns.images c is in absurd (not_empty from.0 (safe_each (λ f. get_or f 0 0 ≡ mark) old safe reads from.0 from.1) (each from.0 from.1)));
}

pub close_reads : (old new : Face) → Becomes (overwritten 0 (0 ∷ [])) old new → Reads old (λ f. get_or f 0 0 ≡ mark) → Reads new IsUnbegun
close_reads old new becomes reads f told =
    let was = told_before old.content (overwritten 0 (0 ∷ [])) f (sym becomes ∙ told) in
    zero_unbegun f (ap (λ (l : List ℕ). get_or l 0 0) was.2 ∙ first was.0)
  where
    first : (d : List ℕ) → get_or (overwritten 0 (0 ∷ []) d) 0 0 ≡ 0
    first d = refl

-- a file that is not begun is not begun at another length
pub stretched_unbegun : (n : ℕ) (d c : List ℕ) → Stretched n d c → IsUnbegun d → IsUnbegun c
stretched_unbegun n d c stretched unbegun = elim (cases_lt 0 (length c)) [
  | inl some ↦ λ e. unbegun (sym (stretched.same 0 some) ∙ e)
  | inr none ↦ zero_unbegun c (get_or_past c 0 0 none)
]

no_bytes : (f : List ℕ) → length f ≡ 0 → f ≡ []
no_bytes [] e = refl
no_bytes (x ∷ f) e = absurd (omega arith)

clear_empty : (d c : List ℕ) → Stretched 0 d c → d ≡ [] → c ≡ []
clear_empty d c stretched none = no_bytes c (let m = stretched.most in let z = ap (λ (l : List ℕ). length l) none in omega arith)

pub clear_wipes : {T : Type 0} (result : Result T Failed) (old new : Face) → Calls result old new → Turns (Stretched 0) old new → EachImage old IsUnbegun → Wipes old new
clear_wipes result old new call turns unbegun = record {
  runs = runs_call result old new call;
  none = lasts_call (λ _. ⊥) result old new call (turns_keeps (λ _. ⊥) (Stretched 0) old new turns (λ d c s p. p));
  since = each_since_call (λ c. IsImage old c ⊎ IsUnbegun c) result old new call (λ c is. inl is)
      (λ c is. let from = turns.images c is in inr (stretched_unbegun 0 from.0 c from.2 (unbegun from.0 from.1)));
  made = λ j. lasts_call (Made j) result old new call (λ each c is. let from = turns.images c is in inl (stretched_unbegun 0 from.0 c from.2 (unbegun from.0 from.1)));
  empty = lasts_call (λ f. f ≡ []) result old new call (turns_keeps (λ f. f ≡ []) (Stretched 0) old new turns clear_empty);
}

pub clear_reads : (old new : Face) → Becomes (resized 0) old new → Reads new (λ f. f ≡ [])
clear_reads old new becomes f told = let was = told_before old.content (resized 0) f (sym becomes ∙ told) in no_bytes f (ap (λ (l : List ℕ). length l) was.2 ∙ resized_length 0 was.0)
