-- Slots that are added as they are read.
use Rattle.std.proofs.Common.{◌≡◌, ◌≢◌, ℕ, inl, inr, ◌+◌, ◌<◌, List, [], ◌∷◌, ◌++◌, length, get_or, take, All, Option, Some, None, arith, refl, sym, ap, subst, ◌∙◌}
use Rattle.std.specs.Prelude.{IsSome, slice_get}
use Rattle.std.specs.Option.{IfSome, IsSomeAnd}
use Rattle.std.proofs.Math.Seq.{take-append_seam}
use Rattle.std.proofs.lemmas.Bool.{cases_lt}
use Rattle.std.proofs.lemmas.List.{get_or_append_left, get_or_at, get_or_past, length-append, take_all}
use Rattle.std.proofs.lemmas.List.Sums.{fold-append}
use Rattle.std.proofs.lemmas.Option.{none-some}
use Rattle.qh_ring.specs.declared.number.Omega.{Omega}
use Rattle.qh_ring.specs.Numbers.{IsWithin}
use Rattle.qh_plan.specs.declared.verdict.Verdict.{Verdict}
use Rattle.qh_plan.specs.declared.verdict.Verdict.TheVariants.{Sum}
use Rattle.qh_plan.specs.Jobs.{Job, IsJob, prefixes, ranges}
use Rattle.qh_plan.specs.Ranges.{Fits}
use Rattle.qh_disk.specs.Disk.{Face, Reads}
use Rattle.qh_disk.specs.Looks.{Looks}
use Rattle.qh_disk.proofs.Looking.{looks_reads}
use Rattle.qh_slots.specs.Layout.{place}
use Rattle.qh_slots.specs.Slots.{SlotIs}
use Rattle.qh_slots.specs.Stands.{Slots, StandsBy, slot_at}
use Rattle.qh_slots.specs.Attaching.{Passes}
use Rattle.qh_parts.proofs.ReadingLemmas.{fits_more}
use Rattle.qh_merge.specs.Adding.{AreAddedUp, AreOpen, IsAdded, IsNewIn, Takes, TakesNew}
use Rattle.qh_merge.specs.Inputs.{AllLook, Input, IsRead}
use Rattle.qh_merge.specs.Union.{added_slot, first_with, lesser_slot, sums_after, union_slots}
use Rattle.qh_merge.specs.Gathered.{IsGathered, State}
use Rattle.qh_merge.specs.Merging.{AreGood}
use Rattle.qh_merge.specs.Parts.{IsProgress}
use Rattle.qh_merge.proofs.UnionEndLemmas.{family_on}
use Rattle.qh_merge.proofs.GatherLemmas.{length_sums, within_parts}
use Rattle.qh_merge.proofs.ListLemmas.{good_on}
use Rattle.qh_merge.proofs.MergeLemmas.{progress_new}
use Rattle.qh_merge.proofs.PlaceLemmas.{length_prefixes, none_kept}
use Rattle.qh_merge.proofs.SlotLemmas.{length_after}
use Rattle.qh_merge.proofs.UnionLemmas.{Joins, is_under}

-- what a slice of a whole vector leaves in it
pub written_back : {A : Type 0} (n : ℕ) (w rest : List A) → length w ≡ n → take n (w ++ rest) ≡ w
written_back n w rest e = subst (λ t. take t (w ++ rest) ≡ w) e (take-append_seam w rest)

pub of_some : {T : Type 0} (o : Option T) (t : T) (P : T → Type 0) → o ≡ Some t → IfSome o P → P t
of_some None t P e p = absurd (none-some t e)
of_some (Some u) t P e p = subst P (some_same e) p
  where
    some_same : {T : Type 0} {a b : T} → ◌≡◌ {A = Option T} (Some a) (Some b) → a ≡ b
    some_same e = cc

-- ---- slots that are added: none, and one more
none_at : (r : ℕ) (v : Verdict) → slot_at [] r ≡ Some v → ⊥
none_at r v e = none-some v (sym (get_or_past [] r None (omega arith)) ∙ e)

pub added_none : (j : Job) (P : Slots → Type 0) (sums : List Omega) (over : Option ℕ) → P [] → AreAddedUp j 0 P sums sums over over
added_none j P sums over are = record {
  slots = [];
  count = refl;
  open_slots = record { few = omega arith; some = λ r low. absurd (omega arith); fits = record { each = λ r v e. absurd (none_at r v e) } };
  are = are;
  sums = refl;
  lesser = refl;
}

open_more : (j : Job) (s : Slots) (o : Option Verdict) → AreOpen j s → length s < ranges j → IsSome o → IfSome o (Fits j (length s)) → AreOpen j (s ++ o ∷ [])
open_more j s o is low some fit = record {
  few = let l = length-append s (o ∷ []) in omega arith;
  some = λ r below. elim (cases_lt r (length s)) [
    | inl before ↦ subst (λ (p : Option Verdict). IsSome p) (sym (get_or_append_left s (o ∷ []) None r before)) (is.some r before)
    | inr at ↦
        let same : length s ≡ r = let l = length-append s (o ∷ []) in omega arith in
        subst (λ (p : Option Verdict). IsSome p) (sym (get_or_at s o [] None r same)) some
  ];
  fits = fits_more j s o (length s) refl is.fits fit;
}

pub added_more : (j : Job) (n : ℕ) (P Q : Slots → Type 0) (o : Option Verdict) (old mid new : List Omega) (over a b : Option ℕ) → (added : AreAddedUp j n P old mid over a) → n < ranges j → IsSome o → IfSome o (Fits j n)
    → new ≡ added_slot mid o → b ≡ lesser_slot a o → Q (added.slots ++ o ∷ []) → AreAddedUp j (n + 1) Q old new over b
added_more j n P Q o old mid new over a b added low some fit sums least are =
    let s = added.slots in
    record {
      slots = s ++ o ∷ [];
      count = length-append s (o ∷ []) ∙ ap (λ (m : ℕ). m + 1) added.count;
      open_slots = open_more j s o added.open_slots (subst (λ (m : ℕ). m < ranges j) (sym added.count) low) some (subst (λ (m : ℕ). IfSome o (Fits j m)) (sym added.count) fit);
      are = are;
      sums = sums ∙ ap (λ (z : List Omega). added_slot z o) added.sums ∙ sym (fold-append added_slot old s (o ∷ []));
      lesser = least ∙ ap (λ (p : Option ℕ). lesser_slot p o) added.lesser ∙ sym (fold-append lesser_slot over s (o ∷ []));
    }

-- as many, of which something else is known
pub added_as : (j : Job) (n m : ℕ) (P Q : Slots → Type 0) (old new : List Omega) (over least : Option ℕ) → (added : AreAddedUp j n P old new over least) → n ≡ m → Q added.slots → AreAddedUp j m Q old new over least
added_as j n m P Q old new over least added same are = record {
  slots = added.slots;
  count = added.count ∙ same;
  open_slots = added.open_slots;
  are = are;
  sums = added.sums;
  lesser = added.lesser;
}

-- ---- what the sums take of the next slot
pub even_next : (j : Job) (n : ℕ) (P : Slots → Type 0) (old now : List Omega) (over least : Option ℕ) (o : Option Verdict) (more : List Omega) → Takes j old → AreAddedUp j n P old now over least → IfSome o (Fits j n)
    → o ≡ Some (Sum more) → length now ≡ length more
even_next j n P old now over least o more takes added fit e =
    ap (λ (z : List Omega). length z) added.sums
    ∙ length_after (length old) old added.slots refl (record { each = λ r some f. takes.even ∙ sym (added.open_slots.fits.each r (Sum some) f).0 })
    ∙ takes.even ∙ sym (subst (λ (p : Option Verdict). IfSome p (Fits j n)) e fit).0

pub within_next : (j : Job) (n : ℕ) (P : Slots → Type 0) (old now : List Omega) (over least : Option ℕ) → Takes j old → AreAddedUp j n P old now over least → All (IsWithin 126) now
within_next j n P old now over least takes added = subst (All (IsWithin 126)) (sym added.sums) (takes.within added.slots added.open_slots)

-- ---- what is known of the slots in the file
abbrev pub AreRead : List ℕ → Job → Face → ℕ → Slots → Type 0
AreRead h j d n s = (q : ℕ) → q < n → Reads d (λ f. SlotIs h j q f (slot_at s q))

pub read_more : (h : List ℕ) (j : Job) (n : ℕ) (s : Slots) (o : Option Verdict) (d e : Face) → length s ≡ n → Looks d e → AreRead h j d n s → Reads d (λ f. SlotIs h j n f o) → AreRead h j e (n + 1) (s ++ o ∷ [])
read_more h j n s o d e full looks known here q low f told =
    let before : d.content ≡ Some f = sym looks.content ∙ told in
    elim (cases_lt q n) [
      | inl below ↦ subst (SlotIs h j q f) (sym (get_or_append_left s (o ∷ []) None q (omega arith))) (known q below f before)
      | inr at ↦
          let same : n ≡ q = omega arith in
          subst (SlotIs h j q f) (sym (get_or_at s o [] None q (full ∙ same))) (subst (λ (m : ℕ). SlotIs h j m f o) same (here f before))
    ]

pub read_all : (h : List ℕ) (j : Job) (n : ℕ) (s : Slots) (old new : Face) → length s ≡ n → n ≡ ranges j → Looks old new → Reads old (Passes h (place h j (ranges j))) → AreRead h j new n s → Reads new (StandsBy h j s)
read_all h j n s old new count full looks passes known f told =
    let pass = looks_reads (Passes h (place h j (ranges j))) old new looks passes f told in
    record {
      begins = pass.begins;
      size = pass.long;
      count = count ∙ full;
      slots = λ r low. known r (subst (λ (m : ℕ). r < m) (sym full) low) f told;
    }

-- ---- what is kept takes an input with a new prefix value
no_first : {D : Type 0} (face : D → Face) (ds : List D) (n w : ℕ) (s : State) (earlier : List Input) → AreGood face ds n earlier → IsGathered earlier s → ((q : ℕ) → q < length s.prefixes → get_or s.prefixes q 0 ≢ w)
    → first_with w earlier ≡ None
no_first face ds n w s earlier good kept none =
    none_kept w earlier good.taken (λ q low. subst (λ (ps : List ℕ). get_or ps q 0 ≢ w) kept.prefixes
    (none q (subst (λ (ps : List ℕ). q < length ps) (sym kept.prefixes) (let l = length_prefixes earlier in omega arith))))

part_joins : (j : Job) (w : ℕ) (t : Slots) (earlier : List Input) (s : State) → IsJob j → IsNewIn s j w → AreOpen j t → first_with w earlier ≡ None → Joins s.job w (record { job = j; slots = t }) earlier
part_joins j w t earlier s valid is open_slots none = record {
  family = is.family;
  new = record { prefix = is.prefix; none = none };
  below = subst (λ (k : Job). w < prefixes k) (sym (is_under s.job j (Some w) is.family is.prefix)) (valid.has_prefix w is.prefix);
  count = open_slots.few;
  finished = open_slots.some;
  fits = open_slots.fits;
}

pub takes_new : {D : Type 0} (face : D → Face) (ds : List D) (n : ℕ) (s : State) → IsProgress face ds n s → TakesNew s
takes_new face ds n s p j w valid is = record {
  even = ap (λ (z : List Omega). length z) p.kept.sums ∙ length_sums s.job (union_slots s.job p.inputs) ∙ ap (λ (b : List ℕ). length b) is.family.bits;
  within = λ t open_slots.
      subst (λ (u : Slots). All (IsWithin 126) (sums_after s.sums u)) (take_all (length t) t (omega arith))
      (within_parts w (length t) (record { job = j; slots = t }) p.inputs s p.kept (part_joins j w t p.inputs s valid is open_slots (no_first face ds n w s p.inputs p.good p.kept is.none)) (omega arith));
}

-- ---- and has taken it
by_disk : {D : Type 0} (face : D → Face) (ds : List D) (n : ℕ) (s t : State) (earlier : List Input) → AreGood face ds n earlier → IsGathered earlier s → 0 < n → (o : Option D) → slice_get ds n ≡ o
    → IsSomeAnd o (λ d. IsAdded (face d) s t) → IsProgress face ds (n + 1) t
by_disk {D = D} face ds n s t earlier good kept some None e is = absurd is
by_disk {D = D} face ds n s t earlier good kept some (Some d) e is =
    progress_new face ds n is.prefix is.input earlier s t good kept (family_on s.job is.input earlier kept.family (let c = good.count in omega arith))
    (subst (λ (o : Option D). IsSomeAnd o (λ d. IsRead is.input (face d))) (sym e) is.read) is.goes (no_first face ds n is.prefix s earlier good kept is.fresh) is.adds

pub progress_added : {D : Type 0} (face : D → Face) (loans : D → List ℕ) (old new : List D) (n : ℕ) (s t : State) → IsProgress face old n s → AllLook face loans old new → 0 < n
    → IsSomeAnd (slice_get new n) (λ d. IsAdded (face d) s t) → IsProgress face new (n + 1) t
progress_added face loans old new n s t p looks some is =
    by_disk face new n s t p.inputs (good_on face loans old new n p.inputs looks p.good) p.kept some (slice_get new n) refl is

pub progress_on : {D : Type 0} (face : D → Face) (loans : D → List ℕ) (old new : List D) (n : ℕ) (s t : State) → IsProgress face old n s → AllLook face loans old new → t ≡ s → IsProgress face new n t
progress_on face loans old new n s t p looks same =
    subst (IsProgress face new n) (sym same) (record { inputs = p.inputs; good = good_on face loans old new n p.inputs looks p.good; kept = p.kept })
