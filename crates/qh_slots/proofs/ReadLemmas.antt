-- What bytes show that are taken apart.
use Rattle.std.proofs.Common.{◌≡◌, ℕ, ◌+◌, ◌*◌, ◌^◌, ◌<◌, ◌≤◌, List, [], ◌∷◌, ◌++◌, length, drop, take, map, replicate, get_or, All, Option, Some, None, refl, sym, ap, ◌∙◌, arith}
use Rattle.std.specs.List.{flat_map, range_with_len}
use Rattle.std.proofs.Math.Path.{ap₂}
use Rattle.std.proofs.lemmas.List.{take-append-drop, length-drop}
use Rattle.std.proofs.lemmas.List.Elements.{All-head, All-tail, All-replicate}
use Rattle.byteorder.specs.Endian.{big_bytes, big_number}
use Rattle.byteorder.specs.Numbers.{big_number-reads_back}
use Rattle.qh_ring.specs.declared.number.Omega.{Omega}
use Rattle.qh_ring.specs.Numbers.{IsWithin}
use Rattle.qh_plan.specs.declared.verdict.Verdict.{Verdict}
use Rattle.qh_plan.specs.declared.verdict.Verdict.TheVariants.{Sum, Over}
use Rattle.qh_plan.specs.Jobs.{Job, IsJob, ranges}
use Rattle.qh_plan.specs.Ranges.{Fits}
use Rattle.qh_slots.specs.Layout.{part}
use Rattle.qh_slots.specs.Slots.{omega_bytes, omega_at, FitsOmega, sum_bytes, over_bytes, spelled}
use Rattle.qh_slots.proofs.SlotLemmas.{sums_back, small_int}
use Rattle.qh_slots.proofs.SpellingLemmas.{few}
use Rattle.qh_slots.proofs.ByteLemmas.{joined}

-- ---- the three parts of a slot behind its gate
take_one : (xs : List ℕ) → 1 ≤ length xs → take 1 xs ≡ get_or xs 0 0 ∷ []
take_one [] le = absurd (omega arith)
take_one (x ∷ xs) le = refl

pub three : (xs : List ℕ) → 9 ≤ length xs → (get_or xs 0 0 ∷ []) ++ part 1 8 xs ++ drop 9 xs ≡ xs
three xs le = ap (λ (l : List ℕ). l ++ part 1 8 xs ++ drop 9 xs) (sym (take_one xs (omega arith))) ∙ ap (λ (l : List ℕ). l ++ drop 9 xs) (joined 1 8 xs) ∙ take-append-drop 9 xs

-- ---- sums
pub sum_parts : (s : List Omega) → (get_or (sum_bytes s) 0 0 ≡ 0) × (part 1 8 (sum_bytes s) ≡ big_bytes 8 0) × (drop 9 (sum_bytes s) ≡ flat_map omega_bytes s)
unfolding sum_bytes
sum_parts s = (refl, refl, refl)

pub sum_found : (xs : List ℕ) (s : List Omega) → 9 ≤ length xs → get_or xs 0 0 ≡ 0 → big_bytes 8 0 ≡ part 1 8 xs → flat_map omega_bytes s ≡ drop 9 xs → xs ≡ sum_bytes s
unfolding sum_bytes
sum_found xs s le first path rest = sym (three xs le) ∙ ap₂ (λ (l m : List ℕ). l ++ m) (ap₂ (λ (a : ℕ) (m : List ℕ). (a ∷ []) ++ m) first (sym path)) (sym rest)

-- numbers of 128 bits are read back
pub one_sum : (s t : List Omega) → All FitsOmega s → All FitsOmega t → length s ≡ length t → flat_map omega_bytes s ≡ flat_map omega_bytes t → s ≡ t
one_sum s t fs ft size same =
    sym (sums_back s (0 ∷ big_bytes 8 0) 0 refl fs)
    ∙ ap₂ (λ (l : List ℕ) (n : ℕ). map (λ k. omega_at (9 + 64 * k) ((0 ∷ big_bytes 8 0) ++ l)) (range_with_len 0 n)) same size
    ∙ sums_back t (0 ∷ big_bytes 8 0) 0 refl ft

pub within_fits : (s : List Omega) → All (IsWithin 126) s → All FitsOmega s
within_fits s all k d low = let w = all k d low in record {
  a = small_int (2 ^ 126) _ (omega arith) w.a;
  b = small_int (2 ^ 126) _ (omega arith) w.b;
  c = small_int (2 ^ 126) _ (omega arith) w.c;
  d = small_int (2 ^ 126) _ (omega arith) w.d;
}

-- ---- what is over
pub over_parts : (count p : ℕ) → (get_or (over_bytes count p) 0 0 ≡ 1) × (part 1 8 (over_bytes count p) ≡ big_bytes 8 p) × (drop 9 (over_bytes count p) ≡ replicate (64 * count) 0)
unfolding over_bytes
over_parts count p = (refl, refl, refl)

zeros : (xs : List ℕ) → All (λ b. b ≡ 0) xs → xs ≡ replicate (length xs) 0
zeros [] all = refl
zeros (x ∷ xs) all = ap₂ (λ (a : ℕ) (l : List ℕ). a ∷ l) (All-head (λ b. b ≡ 0) x xs all) (zeros xs (All-tail (λ b. b ≡ 0) x xs all))

pub zeros_all : (n : ℕ) → All {X = ℕ} (λ b. b ≡ 0) (replicate n 0)
zeros_all n = All-replicate (λ b. b ≡ 0) n 0 refl

pub over_found : (xs : List ℕ) (count p : ℕ) → length xs ≡ 9 + 64 * count → get_or xs 0 0 ≡ 1 → big_bytes 8 p ≡ part 1 8 xs → All (λ b. b ≡ 0) (drop 9 xs) → xs ≡ over_bytes count p
unfolding over_bytes
over_found xs count p size first path rest =
    sym (three xs (omega arith)) ∙ ap₂ (λ (l m : List ℕ). l ++ m) (ap₂ (λ (a : ℕ) (m : List ℕ). (a ∷ []) ++ m) first (sym path))
    (zeros (drop 9 xs) rest ∙ ap (λ (n : ℕ). replicate n 0) (length-drop 9 xs ∙ omega arith))

pub one_path : (p q : ℕ) → p < 2 ^ 64 → q < 2 ^ 64 → big_bytes 8 p ≡ big_bytes 8 q → p ≡ q
one_path p q lp lq same = sym (big_number-reads_back 8 p [] (omega arith)) ∙ ap (λ (l : List ℕ). big_number 8 (l ++ [])) same ∙ big_number-reads_back 8 q [] (omega arith)

-- ---- a verdict that fits is one of those
pub fits_within : (j : Job) → IsJob j → (r : ℕ) → r < ranges j → (s : List Omega) → Fits j r (Sum s) → All (IsWithin 126) s
fits_within j is r below s fit k d low = let f = few j is r below in let w = fit.1 k d low in record {
  a = let x = w.a in omega arith;
  b = let x = w.b in omega arith;
  c = let x = w.c in omega arith;
  d = let x = w.d in omega arith;
}

pub fits_path : (j : Job) → IsJob j → (r : ℕ) → r < ranges j → (p : ℕ) → Fits j r (Over p) → p < 2 ^ 64
fits_path j is r below p fit = let f = few j is r below in let b = fit.below in omega arith

-- ---- what a reader finds that tries sums first, and then what is over
abbrev pub SumsAlone : Job → List ℕ → Option (List Omega) → Type 0
SumsAlone j xs o = (s : List Omega) → xs ≡ sum_bytes s → length s ≡ length j.bits → All (IsWithin 126) s → o ≡ Some s

abbrev pub OverAlone : Job → List ℕ → Option ℕ → Type 0
OverAlone j xs o = (p : ℕ) → p < 2 ^ 64 → xs ≡ over_bytes (length j.bits) p → o ≡ Some p

not_both : (xs : List ℕ) (s : List Omega) (count p : ℕ) → xs ≡ sum_bytes s → xs ≡ over_bytes count p → ⊥
not_both xs s count p is over =
    let zero_first = ap (λ (l : List ℕ). get_or l 0 0) is ∙ (sum_parts s).0 in
    let one_first = ap (λ (l : List ℕ). get_or l 0 0) over ∙ (over_parts count p).0 in
    omega arith

pub only_sums : (j : Job) → IsJob j → (r : ℕ) → r < ranges j → (xs : List ℕ) (o : Option (List Omega)) (s : List Omega) → o ≡ Some s → xs ≡ sum_bytes s → SumsAlone j xs o
    → (v : Verdict) → xs ≡ spelled j v → Fits j r v → v ≡ Sum s
only_sums j is r below xs o s found spells alone (Sum t) e fit = let h = alone t e fit.0 (fits_within j is r below t fit) in cc
only_sums j is r below xs o s found spells alone (Over p) e fit = absurd (not_both xs s (length j.bits) p spells e)

pub only_over : (j : Job) → IsJob j → (r : ℕ) → r < ranges j → (xs : List ℕ) (o : Option (List Omega)) (q : Option ℕ) (p : ℕ) → o ≡ None → SumsAlone j xs o → q ≡ Some p → OverAlone j xs q
    → (v : Verdict) → xs ≡ spelled j v → Fits j r v → v ≡ Over p
only_over j is r below xs o q p none alone found over (Sum t) e fit = let h = alone t e fit.0 (fits_within j is r below t fit) in absurd cc
only_over j is r below xs o q p none alone found over (Over k) e fit = let h = over k (fits_path j is r below k fit) e in cc

pub no_verdict : (j : Job) → IsJob j → (r : ℕ) → r < ranges j → (xs : List ℕ) (o : Option (List Omega)) (q : Option ℕ) → o ≡ None → SumsAlone j xs o → q ≡ None → OverAlone j xs q
    → (v : Verdict) → xs ≡ spelled j v → Fits j r v → ⊥
no_verdict j is r below xs o q none alone nothing over (Sum t) e fit = let h = alone t e fit.0 (fits_within j is r below t fit) in absurd cc
no_verdict j is r below xs o q none alone nothing over (Over k) e fit = let h = over k (fits_path j is r below k fit) e in absurd cc
