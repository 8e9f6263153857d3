-- A verdict that fits is read back from its spelling, and the tests are their words.
use Rattle.std.proofs.Common.{◌≡◌, inl, inr, ℕ, ◌+◌, ◌*◌, ◌^◌, ◌<◌, ◌≤◌, Bool, true, false, not, ◌&&◌, ◌||◌, List, ◌∷◌, ◌++◌, length, map, replicate, refl, sym, ap, subst, ◌∙◌, arith, get_or, All, Option, Some, None}
use Rattle.std.specs.Prelude.{bytes_eq, unsigned_abs, nat_lt, nat_le, ◌==◌}
use Rattle.std.specs.List.{flat_map, list_all, range_with_len}
use Rattle.std.specs.Bool.{Decides}
use Rattle.std.proofs.lemmas.Bool.{and_parts, eqb-true, eqb-false, ltb-true, leb-true, eq-eqb, lt-ltb, le-leb, ne_eqb, cases_Bool}
use Rattle.std.proofs.lemmas.Bool.Decides.{Decides-by_and}
use Rattle.std.proofs.lemmas.List.{length-append, length-replicate}
use Rattle.std.proofs.lemmas.Slice.Eq.{bytes_eq-Decides}
use Rattle.byteorder.specs.Endian.{big_bytes}
use Rattle.byteorder.specs.Numbers.{big_number-reads_back}
use Rattle.qh_ring.specs.declared.number.Omega.{Omega}
use Rattle.qh_plan.specs.declared.verdict.Verdict.{Verdict}
use Rattle.qh_plan.specs.declared.verdict.Verdict.TheVariants.{Sum, Over}
use Rattle.qh_plan.specs.Jobs.{Job, IsJob, ranges, per_range, first_path}
use Rattle.qh_plan.specs.Ranges.{Fits, IsSmall}
use Rattle.qh_plan.proofs.RunLemmas.{range_within}
use Rattle.qh_plan.proofs.PlanLemmas.{counted_job}
use Rattle.qh_slots.specs.Layout.{mark, place, is_open, body, body_size}
use Rattle.qh_slots.specs.Slots.{omega_bytes, FitsOmega, sum_bytes, over_bytes, spelled, HasSpace, omega_at, verdict_of, is_small, fits, is_spelling, SlotIs, slot_of}
use Rattle.qh_slots.specs.Attaching.{is_good}
use Rattle.qh_slots.proofs.SlotLemmas.{small_int, sums_back, sums_size}

-- ---- a verdict that fits is read back
pub few : (j : Job) → IsJob j → (r : ℕ) → r < ranges j → first_path j r + per_range j ≤ 2 ^ 32
few j is r below = let l = range_within j r is (counted_job j is) below in let m = is.few_paths in omega arith

pub fits_small : (limit : ℕ) → limit ≤ 2 ^ 126 → (z : Omega) → IsSmall limit z → FitsOmega z
fits_small limit most z is = record {
  a = small_int limit z.a (omega arith) is.a;
  b = small_int limit z.b (omega arith) is.b;
  c = small_int limit z.c (omega arith) is.c;
  d = small_int limit z.d (omega arith) is.d;
}

pub all_fit : (limit : ℕ) → limit ≤ 2 ^ 126 → (zs : List Omega) → All (IsSmall limit) zs → All FitsOmega zs
all_fit limit most zs all k d low = fits_small limit most _ (all k d low)

pub verdict_back : (j : Job) → IsJob j → (r : ℕ) → r < ranges j → (v : Verdict) → Fits j r v → verdict_of j (spelled j v) ≡ v
unfolding sum_bytes over_bytes verdict_of
verdict_back j is r below (Sum sums) fit =
    let f = few j is r below in
    ap Sum (ap (λ n. map (λ m. omega_at (9 + 64 * m) (0 ∷ big_bytes 8 0 ++ flat_map omega_bytes sums)) (range_with_len 0 n)) (sym fit.0)
    ∙ sums_back sums (0 ∷ big_bytes 8 0) 0 refl (all_fit (per_range j * 2 ^ 94) (omega arith) sums fit.1))
verdict_back j is r below (Over path) fit =
    let f = few j is r below in
    ap Over (big_number-reads_back 8 path (replicate (64 * length j.bits) 0) (let b = fit.below in omega arith))

-- and it is as long as a body
pub spelled_size : (j : Job) (r : ℕ) (v : Verdict) → Fits j r v → length (spelled j v) ≡ body_size j
unfolding sum_bytes over_bytes
spelled_size j r (Sum s) fit =
    let n = sums_size s in let e : length s ≡ length j.bits = fit.0 in let l = length-append (0 ∷ big_bytes 8 0) (flat_map omega_bytes s) in omega arith
spelled_size j r (Over p) fit =
    let n = length-replicate {A = ℕ} (64 * length j.bits) 0 in let l = length-append (1 ∷ big_bytes 8 p) (replicate (64 * length j.bits) 0) in omega arith

-- so it fills a body
pub has_space : (j : Job) (r n : ℕ) (v : Verdict) → Fits j r v → n ≡ body_size j → HasSpace v n
has_space j r n (Sum s) fit is = is ∙ ap (λ (k : ℕ). 9 + 64 * k) (sym fit.0)
has_space j r n (Over p) fit is = omega arith

-- two verdicts that fit have one spelling only where they are one
pub one_spelling : (j : Job) → IsJob j → (r : ℕ) → r < ranges j → (v w : Verdict) → Fits j r v → Fits j r w → spelled j v ≡ spelled j w → v ≡ w
one_spelling j is r below v w fit other same = sym (verdict_back j is r below v fit) ∙ ap (verdict_of j) same ∙ verdict_back j is r below w other

-- ---- the tests
pub both : (a b : Bool) → a ≡ true → b ≡ true → (a && b) ≡ true
both a b e f = rw (e, f) refl

small_decides : (limit : ℕ) (z : Omega) → Decides (is_small limit z) (IsSmall limit z)
small_decides limit z = (
  λ e. let p = and_parts (nat_lt (unsigned_abs z.a) limit) _ e in
      let q = and_parts (nat_lt (unsigned_abs z.b) limit) _ p.1 in
      let s = and_parts (nat_lt (unsigned_abs z.c) limit) _ q.1 in
      record { a = ltb-true _ _ p.0; b = ltb-true _ _ q.0; c = ltb-true _ _ s.0; d = ltb-true _ _ s.1 },
  λ is. both _ _ (lt-ltb _ _ is.a) (both _ _ (lt-ltb _ _ is.b) (both _ _ (lt-ltb _ _ is.c) (lt-ltb _ _ is.d))),
)

pub fits_decides : (j : Job) (r : ℕ) (v : Verdict) → Decides (fits j r v) (Fits j r v)
fits_decides j r (Sum sums) = (
  λ e. let p = and_parts (length sums == length j.bits) _ e in (eqb-true _ _ p.0, (all_decides sums).0 p.1),
  λ fit. both _ _ (eq-eqb _ _ fit.0) ((all_decides sums).1 fit.1),
)
  where
    all_decides : (zs : List Omega) → Decides (list_all (is_small (per_range j * 2 ^ 94)) zs) (All (IsSmall (per_range j * 2 ^ 94)) zs)
    all_decides = Decides-by_and (is_small (per_range j * 2 ^ 94)) (IsSmall (per_range j * 2 ^ 94)) (list_all (is_small (per_range j * 2 ^ 94))) (small_decides (per_range j * 2 ^ 94)) refl (λ _ _. refl)
fits_decides j r (Over path) = (
  λ e. let p = and_parts (nat_le (first_path j r) path) _ e in record { from = leb-true _ _ p.0; below = ltb-true _ _ p.1 },
  λ fit. both _ _ (le-leb _ _ fit.from) (lt-ltb _ _ fit.below),
)

-- ---- a slot
pub slot_back : (h : List ℕ) (j : Job) → IsJob j → (r : ℕ) → r < ranges j → (f : List ℕ) (o : Option Verdict) → SlotIs h j r f o → slot_of h j r f ≡ o
slot_back h j is r below f None shut = rw (ne_eqb (get_or f (place h j r) 0) mark shut) refl
slot_back h j is r below f (Some v) s = rw (eq-eqb (get_or f (place h j r) 0) mark s.0) (ap Some (ap (verdict_of j) s.1 ∙ verdict_back j is r below v s.2))

-- one that is anything is good
pub good_from : (h : List ℕ) (j : Job) → IsJob j → (r : ℕ) → r < ranges j → (f : List ℕ) (o : Option Verdict) → SlotIs h j r f o → is_good h j f r ≡ true
good_from h j is r below f None shut = rw (ne_eqb (get_or f (place h j r) 0) mark shut) refl
good_from h j is r below f (Some v) s = rw (eq-eqb (get_or f (place h j r) 0) mark s.0)
    (ap (is_spelling j r) s.1 ∙ both (bytes_eq (spelled j (verdict_of j (spelled j v))) (spelled j v)) (fits j r (verdict_of j (spelled j v)))
    ((bytes_eq-Decides _ _).1 (ap (spelled j) (verdict_back j is r below v s.2)))
    (ap (fits j r) (verdict_back j is r below v s.2) ∙ (fits_decides j r v).1 s.2))

-- and one that is good is what its bytes read as
pub good_is : (h : List ℕ) (j : Job) (r : ℕ) (f : List ℕ) → is_good h j f r ≡ true → SlotIs h j r f (slot_of h j r f)
good_is h j r f good = elim (cases_Bool (is_open h j r f)) [
  | inl is_true ↦ subst (SlotIs h j r f) (sym (open_slot is_true)) (
      let read = verdict_of j (body h j r f) in
      let spells : is_spelling j r (body h j r f) ≡ true = second is_true good in
      let p = and_parts (bytes_eq (spelled j read) (body h j r f)) (fits j r read) spells in
      (eqb-true _ _ is_true, sym ((bytes_eq-Decides _ _).0 p.0), (fits_decides j r read).0 p.1))
  | inr is_false ↦ subst (SlotIs h j r f) (sym (shut_slot is_false)) (eqb-false _ _ is_false)
]
  where
    open_slot : is_open h j r f ≡ true → slot_of h j r f ≡ Some (verdict_of j (body h j r f))
    open_slot e = rw e refl

    shut_slot : is_open h j r f ≡ false → slot_of h j r f ≡ None
    shut_slot e = rw e refl

    second : is_open h j r f ≡ true → (not (is_open h j r f) || is_spelling j r (body h j r f)) ≡ true → is_spelling j r (body h j r f) ≡ true
    second e g = rw e at g
