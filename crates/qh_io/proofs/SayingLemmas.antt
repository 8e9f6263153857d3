-- How what a sink was told adds up.
use Rattle.std.proofs.Common.{ℕ, ◌+◌, ◌≤◌, inl, inr, List, ◌++◌, length, take, sym, subst, ◌∙◌, arith}
use Rattle.std.specs.declared.option.Option.{Option}
use Rattle.std.specs.Io.KnownBytes.{Appends}
use Rattle.std.proofs.KnownBytes.{Appends-trans}
use Rattle.std.proofs.Math.Seq.{take-append-add, take-append_seam}
use Rattle.std.proofs.lemmas.List.{take-append-le, take_all}
use Rattle.std.proofs.lemmas.Bool.{cases_lt}
use Rattle.qh_limits.specs.Counts.{Rose}
use Rattle.qh_limits.proofs.Chains.{rose_before}
use Rattle.qh_io.specs.Saying.{Says}

pub says_whole : (a b : Option (List ℕ)) (f g : ℕ) (x : List ℕ) → f ≤ g → Appends a b x → Says (record { before = a; after = b; faults = f; faults_after = g }) x
says_whole a b f g x l p = record { later = l; front = (length x, subst (Appends a b) (sym (take_all (length x) x (omega arith))) p); whole = λ _. p }

pub says_part : (a b : Option (List ℕ)) (f g n : ℕ) (x : List ℕ) → f ≤ g → Appends a b (take n x) → Rose f g → Says (record { before = a; after = b; faults = f; faults_after = g }) x
says_part a b f g n x l p r = record { later = l; front = (n, p); whole = λ none. absurd (none r) }

pub says_append : (a b c : Option (List ℕ)) (f g h : ℕ) (x y : List ℕ) → f ≤ g → Appends a b x → Says (record { before = b; after = c; faults = g; faults_after = h }) y → Says (record { before = a; after = c; faults = f; faults_after = h }) (x ++ y)
says_append a b c f g h x y l p s = record {
  later = omega (arith, s.later);
  front = (length x + s.front.0, subst (Appends a c) (sym (take-append-add x y s.front.0)) (Appends-trans a b c x _ p s.front.1));
  whole = λ none. Appends-trans a b c x y p (s.whole (λ r. none (rose_before f g h l r)));
}

-- it stopped in the front part
pub says_stop : (a b : Option (List ℕ)) (f g : ℕ) (x y : List ℕ) → Says (record { before = a; after = b; faults = f; faults_after = g }) x → Rose f g → Says (record { before = a; after = b; faults = f; faults_after = g }) (x ++ y)
says_stop a b f g x y s r = elim (cases_lt (length x) s.front.0) [
  | inl h ↦ says_part a b f g (length x) (x ++ y) s.later (subst (Appends a b) (take_all s.front.0 x (omega arith) ∙ sym (take-append_seam x y)) s.front.1) r
  | inr h ↦ says_part a b f g s.front.0 (x ++ y) s.later (subst (Appends a b) (sym (take-append-le s.front.0 x y h)) s.front.1) r
]
