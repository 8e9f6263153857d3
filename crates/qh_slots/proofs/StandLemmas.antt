-- A file stands for a job with one list of slots at most, and exactly where nothing refuses it.
use Rattle.std.proofs.Common.{min, ◌≡◌, ◌≢◌, inl, inr, ℕ, suc, ◌+◌, ◌<◌, ◌≤◌, Bool, true, false, not, ◌&&◌, ◌||◌, List, [], ◌∷◌, length, drop, take, refl, sym, ap, subst, ◌∙◌, arith, get_or, Option, Some, None}
use Rattle.std.specs.Prelude.{is_none, nat_lt, nat_le, codes, if◌then◌else◌, ◌==◌}
use Rattle.std.proofs.Math.Path.{ap₂}
use Rattle.std.proofs.lemmas.Bool.{cases_Bool, cases_eq, cases_lt, eq-eqb, ne_eqb, le-ltb, eqb-true, ltb-false, not-false}
use Rattle.std.proofs.lemmas.List.{places, ext_get_or, take_all, drop_more, drop_all, length-take, get_or-take}
use Rattle.std.proofs.lemmas.List.FromFn.{length-map-range_with_len, get_or-map-range_with_len}
use Rattle.qh_plan.specs.Jobs.{Job, IsJob, ranges}
use Rattle.qh_plan.specs.Texts.{job_text}
use Rattle.qh_plan.proofs.RunValueLemmas.{first_failing_none}
use Rattle.qh_plan.proofs.OverLemmas.{failing_none, first_failing_some}
use Rattle.qh_slots.specs.Layout.{mark, head, old_head, place, part}
use Rattle.qh_slots.specs.Slots.{SlotIs, slot_of}
use Rattle.qh_slots.specs.Stands.{Slots, slot_at, StandsBy, Stands, Stands1, nones}
use Rattle.qh_slots.specs.Attaching.{common, is_named, later_refusal, name_refusal, head_refusal, old_head_refusal, is_good, first_bad, or_bad, first_refusal, first_refusal1, slots_by, slots_of, slots1_of, Passes}
use Rattle.qh_slots.specs.Laws.{OneMapLaw, OneMapLaw1, AttachesLaw, AttachesLaw1, ClosedLaw, ClosedLaw1}
use Rattle.qh_slots.specs.declared.fault.AttachFault.{AttachFault}
use Rattle.qh_slots.specs.declared.fault.AttachFault.TheVariants.{Empty, Unbegun, OldJournal, NotAJournal, OtherJob, BadLength, BadSlot}
use Rattle.qh_slots.proofs.SpellingLemmas.{slot_back, good_from, good_is}

-- ---- one list of slots
pub one_list : (h : List ℕ) (j : Job) → IsJob j → (s q : Slots) (f : List ℕ) → StandsBy h j s f → StandsBy h j q f → s ≡ q
one_list h j is s q f stands other = ext_get_or None s q (stands.count ∙ sym other.count)
    (λ r low. let below : r < ranges j = subst (λ (n : ℕ). r < n) stands.count low in
    sym (slot_back h j is r below f (slot_at s r) (stands.slots r below)) ∙ slot_back h j is r below f (slot_at q r) (other.slots r below))

-- ---- two lists agree in no more bytes than either has, and where they agree in all of one, it begins the other
pub common_front : (f h : List ℕ) → take (length h) f ≡ h → common f h ≡ length h
common_front [] [] e = refl
common_front [] (y ∷ h) e = absurd cc
common_front (x ∷ f) [] e = refl
common_front (x ∷ f) (y ∷ h) e = rw (eq-eqb x y (first e)) (ap suc (common_front f h (rest e)))
  where
    first : x ∷ take (length h) f ≡ y ∷ h → x ≡ y
    first e = cc

    rest : x ∷ take (length h) f ≡ y ∷ h → take (length h) f ≡ h
    rest e = cc

pub front_common : (f h : List ℕ) → length h ≤ common f h → take (length h) f ≡ h
front_common [] [] le = refl
front_common [] (y ∷ h) le = absurd (omega arith)
front_common (x ∷ f) [] le = refl
front_common (x ∷ f) (y ∷ h) le = elim (cases_eq x y) [
  | inl same ↦ ap₂ (λ (a : ℕ) (l : List ℕ). a ∷ l) same (front_common f h (more same le))
  | inr ne ↦ absurd (none ne le)
]
  where
    more : x ≡ y → suc (length h) ≤ common (x ∷ f) (y ∷ h) → length h ≤ common f h
    more e l = let g = rw (eq-eqb x y e) at l in omega (arith, g)

    none : (x ≡ y → ⊥) → suc (length h) ≤ common (x ∷ f) (y ∷ h) → ⊥
    none ne l = let g = rw (ne_eqb x y ne) at l in omega (arith, g)

pub common_taken : (f h : List ℕ) → common (take (length h) f) h ≡ common f h
common_taken [] [] = refl
common_taken [] (y ∷ h) = refl
common_taken (x ∷ f) [] = refl
common_taken (x ∷ f) (y ∷ h) = ap (λ (n : ℕ). if x == y then suc n else 0) (common_taken f h)

-- ---- a refusal of the name comes first
if_stops : (b : Bool) (x y : AttachFault) (o p : Option AttachFault) → (o ≡ Some y → p ≡ Some y) → (if b then Some x else o) ≡ Some y → (if b then Some x else p) ≡ Some y
if_stops true x y o p later e = e
if_stops false x y o p later e = later e

if_goes_on : (b : Bool) (x : AttachFault) (o p q : Option AttachFault) → (o ≡ None → p ≡ q) → (if b then Some x else o) ≡ None → (if b then Some x else p) ≡ q
if_goes_on true x o p q later e = absurd cc
if_goes_on false x o p q later e = later e

pub name_stops : (count : ℕ) (front : List ℕ) (x : AttachFault) (other : Option AttachFault) → name_refusal count front None ≡ Some x → name_refusal count front other ≡ Some x
name_stops count front x other =
    if_stops _ Empty x _ _ (if_stops _ Unbegun x _ _ (if_stops _ OldJournal x _ _ (if_stops _ NotAJournal x _ _ (λ e. absurd (nothing e)))))
  where
    nothing : ◌≡◌ {A = Option AttachFault} None (Some x) → ⊥
    nothing e = cc

pub name_goes_on : (count : ℕ) (front : List ℕ) (other : Option AttachFault) → name_refusal count front None ≡ None → name_refusal count front other ≡ other
name_goes_on count front other =
    if_goes_on _ Empty _ _ other (if_goes_on _ Unbegun _ _ other (if_goes_on _ OldJournal _ _ other (if_goes_on _ NotAJournal _ _ other (λ e. refl))))

-- ---- the head
pub head_size : (j : Job) → length (head j) ≡ 32 + length (job_text j)
unfolding head
head_size j = grind (arith, places)

-- the bytes 0 to 7 of the head
pub head_named : (j : Job) → (get_or (head j) 0 0 ≡ mark) × (part 1 7 (head j) ≡ codes "QSHJ002")
unfolding head
head_named j = (refl, refl)

pub old_head_size : (j : Job) → length (old_head j) ≡ 16 + length (job_text j)
unfolding old_head
old_head_size j = grind (arith, places)

pub old_head_named : (j : Job) → (get_or (old_head j) 0 0 ≡ mark) × (part 1 7 (old_head j) ≡ codes "QSHJ001")
unfolding old_head
old_head_named j = (refl, refl)

pub part_taken : (at k n : ℕ) (f : List ℕ) → at + k ≤ n → part at k (take n f) ≡ part at k f
part_taken at k n f le = ext_get_or 0 (part at k (take n f)) (part at k f) (grind (arith, places)) (λ i low. grind (arith, places))

first_taken : (n : ℕ) (f : List ℕ) → 8 ≤ n → get_or (take n f) 0 0 ≡ get_or f 0 0
first_taken n f le = get_or-take n f 0 0 (omega arith)

-- of the bytes that stand before the slots, the head's length is enough
pub refusal_taken : (h : List ℕ) (size count : ℕ) (f : List ℕ) → 8 ≤ length h → head_refusal h size count (take (length h) f) ≡ head_refusal h size count f
unfolding head_refusal
refusal_taken h size count f le = rw (common_taken f h, part_taken 1 7 (length h) f (omega arith), first_taken (length h) f le) refl

pub old_refusal_taken : (h : List ℕ) (size count : ℕ) (f : List ℕ) → 8 ≤ length h → old_head_refusal h size count (take (length h) f) ≡ old_head_refusal h size count f
unfolding old_head_refusal
old_refusal_taken h size count f le = rw (common_taken f h, part_taken 1 7 (length h) f (omega arith), first_taken (length h) f le) refl

-- the head itself, at any length that it leaves room for
if_false : (b : Bool) (x : AttachFault) → (if b && false then Some x else None) ≡ None
if_false true x = refl
if_false false x = refl

whole_head : (h : List ℕ) (n : ℕ) → 32 ≤ n → get_or h 0 0 ≡ mark → part 1 7 h ≡ codes "QSHJ002" → head_refusal h n n h ≡ None
unfolding head_refusal
whole_head h n le first named =
    let same = common_front h h (take_all (length h) h (omega arith)) in
    rw (ne_eqb n 0 (λ e. omega arith), first, named, same, le-ltb n 32 le, le-ltb (length h) (length h) (omega arith), eq-eqb n n refl) (if_false (nat_le 16 n) OldJournal)

whole_old_head : (h : List ℕ) (n : ℕ) → 16 ≤ n → get_or h 0 0 ≡ mark → part 1 7 h ≡ codes "QSHJ001" → old_head_refusal h n n h ≡ None
unfolding old_head_refusal
whole_old_head h n le first named =
    let same = common_front h h (take_all (length h) h (omega arith)) in
    rw (ne_eqb n 0 (λ e. omega arith), first, named, same, le-ltb n 16 le, le-ltb (length h) (length h) (omega arith), eq-eqb n n refl) refl

-- a file that begins with the head and has the length is not refused for them
pub head_passes : (j : Job) (size : ℕ) (f : List ℕ) → take (length (head j)) f ≡ head j → length f ≡ size → head_refusal (head j) size (length f) f ≡ None
head_passes j size f begins is =
    sym (refusal_taken (head j) size (length f) f (let s = head_size j in omega arith))
    ∙ ap (head_refusal (head j) size (length f)) begins ∙ ap (λ (n : ℕ). head_refusal (head j) size n (head j)) is
    ∙ whole_head (head j) size more (head_named j).0 (head_named j).1
  where
    more : 32 ≤ size
    more = let s = head_size j in let l = ap length begins in let m = length-take (length (head j)) f in omega arith

old_head_passes : (j : Job) (size : ℕ) (f : List ℕ) → take (length (old_head j)) f ≡ old_head j → length f ≡ size → old_head_refusal (old_head j) size (length f) f ≡ None
old_head_passes j size f begins is =
    sym (old_refusal_taken (old_head j) size (length f) f (let s = old_head_size j in omega arith))
    ∙ ap (old_head_refusal (old_head j) size (length f)) begins ∙ ap (λ (n : ℕ). old_head_refusal (old_head j) size n (old_head j)) is
    ∙ whole_old_head (old_head j) size more (old_head_named j).0 (old_head_named j).1
  where
    more : 16 ≤ size
    more = let s = old_head_size j in let l = ap length begins in let m = length-take (length (old_head j)) f in omega arith

if_none : (b : Bool) (x : AttachFault) (o : Option AttachFault) → (if b then Some x else o) ≡ None → (b ≡ false) × (o ≡ None)
if_none true x o e = absurd cc
if_none false x o e = (refl, e)

later_passes : (h : List ℕ) (size : ℕ) (f : List ℕ) → later_refusal h size (length f) f ≡ None → Passes h size f
later_passes h size f none =
    let e = if_none (nat_lt (common f h) (length h)) (OtherJob (common f h)) _ none in
    let g = if_none (not (length f == size)) (BadLength (length f)) None e.1 in
    record {
      begins = front_common f h (ltb-false _ _ e.0);
      long = eqb-true _ _ (not-false _ g.0);
    }

pub passes : (h : List ℕ) (size : ℕ) (f : List ℕ) → head_refusal h size (length f) f ≡ None → Passes h size f
unfolding head_refusal
passes h size f none =
    let a = if_none (length f == 0) Empty _ none in
    let b = if_none (not (get_or f 0 0 == mark)) Unbegun _ a.1 in
    let c = if_none (nat_le 16 (length f) && is_named (codes "QSHJ001") f) OldJournal _ b.1 in
    let d = if_none (nat_lt (length f) 32 || not (is_named (codes "QSHJ002") f)) NotAJournal _ c.1 in
    later_passes h size f d.1

pub old_passes : (h : List ℕ) (size : ℕ) (f : List ℕ) → old_head_refusal h size (length f) f ≡ None → Passes h size f
unfolding old_head_refusal
old_passes h size f none =
    let a = if_none (length f == 0) Empty _ none in
    let b = if_none (not (get_or f 0 0 == mark)) Unbegun _ a.1 in
    let c = if_none (nat_lt (length f) 16 || not (is_named (codes "QSHJ001") f)) NotAJournal _ b.1 in
    later_passes h size f c.1

-- ---- the whole
bad_none : (o : Option ℕ) → or_bad None o ≡ None → o ≡ None
bad_none None e = refl
bad_none (Some r) e = absurd cc

both_none : (o : Option AttachFault) (bad : Option ℕ) → or_bad o bad ≡ None → (o ≡ None) × (bad ≡ None)
both_none None bad e = (refl, bad_none bad e)
both_none (Some x) bad e = absurd cc

-- what is read of a file that begins with the head and whose slots are good
pub stands_from : (h : List ℕ) (j : Job) (f : List ℕ) → Passes h (place h j (ranges j)) f → ((r : ℕ) → r < ranges j → is_good h j f r ≡ true) → StandsBy h j (slots_by h j f) f
unfolding slots_by
stands_from h j f pass good = record {
  begins = pass.begins;
  size = pass.long;
  count = length-map-range_with_len (λ r. slot_of h j r f) 0 (ranges j);
  slots = λ r low. subst (SlotIs h j r f) (sym (get_or-map-range_with_len (λ k. slot_of h j k f) 0 (ranges j) r r None low (omega arith))) (good_is h j r f (good r low));
}

-- the slots of a file that nothing refuses, and of one that something refuses
is_slots : (o : Option AttachFault) (s t : Slots) → o ≡ None → (if is_none o then s else t) ≡ s
is_slots None s t e = refl
is_slots (Some x) s t e = absurd cc

no_slots : (o : Option AttachFault) (x : AttachFault) (s t : Slots) → o ≡ Some x → (if is_none o then s else t) ≡ t
no_slots None x s t e = absurd cc
no_slots (Some y) x s t e = refl

refusal_none : (j : Job) → IsJob j → (f : List ℕ) → first_refusal j f ≡ None → Stands j (slots_of j f) f
unfolding first_refusal slots_of
refusal_none j is f none =
    let p = both_none (head_refusal (head j) (place (head j) j (ranges j)) (length f) f) (first_bad (head j) j f) none in
    subst (λ (s : Slots). Stands j s f) (sym (is_slots (first_refusal j f) (slots_by (head j) j f) (nones j) none))
    (stands_from (head j) j f (passes (head j) (place (head j) j (ranges j)) f p.0) (failing_none (ranges j) (is_good (head j) j f) p.1))

refusal_none1 : (j : Job) → IsJob j → (f : List ℕ) → first_refusal1 j f ≡ None → Stands1 j (slots1_of j f) f
unfolding first_refusal1 slots1_of
refusal_none1 j is f none =
    let p = both_none (old_head_refusal (old_head j) (place (old_head j) j (ranges j)) (length f) f) (first_bad (old_head j) j f) none in
    subst (λ (s : Slots). Stands1 j s f) (sym (is_slots (first_refusal1 j f) (slots_by (old_head j) j f) (nones j) none))
    (stands_from (old_head j) j f (old_passes (old_head j) (place (old_head j) j (ranges j)) f p.0) (failing_none (ranges j) (is_good (old_head j) j f) p.1))

none_bad : (h : List ℕ) (j : Job) → IsJob j → (s : Slots) (f : List ℕ) → StandsBy h j s f → first_bad h j f ≡ None
none_bad h j is s f stands = first_failing_none (ranges j) (is_good h j f) (λ r low. good_from h j is r low f (slot_at s r) (stands.slots r low))

pub none_refusal : (j : Job) → IsJob j → (s : Slots) (f : List ℕ) → Stands j s f → first_refusal j f ≡ None
unfolding first_refusal
none_refusal j is s f stands = ap₂ or_bad (head_passes j (place (head j) j (ranges j)) f stands.begins stands.size) (none_bad (head j) j is s f stands)

pub none_refusal1 : (j : Job) → IsJob j → (s : Slots) (f : List ℕ) → Stands1 j s f → first_refusal1 j f ≡ None
unfolding first_refusal1
none_refusal1 j is s f stands = ap₂ or_bad (old_head_passes j (place (old_head j) j (ranges j)) f stands.begins stands.size) (none_bad (old_head j) j is s f stands)

-- ---- the laws
pub attaches : AttachesLaw
attaches = record { stands = refusal_none; attaches = none_refusal }

pub attaches1 : AttachesLaw1
attaches1 = record { stands = refusal_none1; attaches = none_refusal1 }

pub one_map : OneMapLaw
one_map j is s f stands = one_list (head j) j is (slots_of j f) s f (refusal_none j is f (none_refusal j is s f stands)) stands

pub one_map1 : OneMapLaw1
one_map1 j is s f stands = one_list (old_head j) j is (slots1_of j f) s f (refusal_none1 j is f (none_refusal1 j is s f stands)) stands

-- a file that is not begun is refused
unbegun_refused : (n x : ℕ) (o : Option AttachFault) → x ≢ mark → (if n == 0 then Some Empty else (if not (x == mark) then Some Unbegun else o)) ≡ Some (if n == 0 then Empty else Unbegun)
unbegun_refused n x o ne = elim (cases_Bool (n == 0)) [
  | inl none ↦ rw none refl
  | inr some ↦ rw (some, ne_eqb x mark ne) refl
]

pub closed : ClosedLaw
unfolding slots_of first_refusal head_refusal
closed j f ne = no_slots (first_refusal j f) _ (slots_by (head j) j f) (nones j) (ap (λ (o : Option AttachFault). or_bad o (first_bad (head j) j f)) (unbegun_refused (length f) (get_or f 0 0) _ ne))

pub closed1 : ClosedLaw1
unfolding slots1_of first_refusal1 old_head_refusal
closed1 j f ne = no_slots (first_refusal1 j f) _ (slots_by (old_head j) j f) (nones j) (ap (λ (o : Option AttachFault). or_bad o (first_bad (old_head j) j f)) (unbegun_refused (length f) (get_or f 0 0) _ ne))

-- ---- the refusals, for a reader that comes to the slots in order
pub refused_early : (j : Job) (f : List ℕ) (fault : AttachFault) → head_refusal (head j) (place (head j) j (ranges j)) (length f) f ≡ Some fault → first_refusal j f ≡ Some fault
unfolding first_refusal
refused_early j f fault e = ap (λ o. or_bad o (first_bad (head j) j f)) e

pub refused_early1 : (j : Job) (f : List ℕ) (fault : AttachFault) → old_head_refusal (old_head j) (place (old_head j) j (ranges j)) (length f) f ≡ Some fault → first_refusal1 j f ≡ Some fault
unfolding first_refusal1
refused_early1 j f fault e = ap (λ o. or_bad o (first_bad (old_head j) j f)) e

pub bad_first : (h : List ℕ) (j : Job) (f : List ℕ) (r : ℕ) → r < ranges j → ((k : ℕ) → k < r → is_good h j f k ≡ true) → is_good h j f r ≡ false → first_bad h j f ≡ Some r
bad_first h j f r low good bad = first_failing_some (ranges j) r (is_good h j f) low good bad

pub refused_slot : (j : Job) (f : List ℕ) (r : ℕ) → Passes (head j) (place (head j) j (ranges j)) f → first_bad (head j) j f ≡ Some r → first_refusal j f ≡ Some (BadSlot r)
unfolding first_refusal
refused_slot j f r pass bad = ap₂ or_bad (head_passes j (place (head j) j (ranges j)) f pass.begins pass.long) bad

pub refused_slot1 : (j : Job) (f : List ℕ) (r : ℕ) → Passes (old_head j) (place (old_head j) j (ranges j)) f → first_bad (old_head j) j f ≡ Some r → first_refusal1 j f ≡ Some (BadSlot r)
unfolding first_refusal1
refused_slot1 j f r pass bad = ap₂ or_bad (old_head_passes j (place (old_head j) j (ranges j)) f pass.begins pass.long) bad

-- ---- how far two lists agree, byte by byte
pub common_more : (xs ys : List ℕ) (n : ℕ) → n < length xs → n < length ys → get_or xs n 0 ≡ get_or ys n 0 → common (drop n xs) (drop n ys) ≡ suc (common (drop (n + 1) xs) (drop (n + 1) ys))
common_more xs ys n lx ly same =
    ap₂ common (drop_more xs n 0 lx) (drop_more ys n 0 ly) ∙ step (get_or xs n 0) (get_or ys n 0) (common (drop (n + 1) xs) (drop (n + 1) ys)) same
  where
    step : (x y k : ℕ) → x ≡ y → (if x == y then suc k else 0) ≡ suc k
    step x y k e = rw (eq-eqb x y e) refl

pub common_stops : (xs ys : List ℕ) (n : ℕ) → n < length xs → n < length ys → get_or xs n 0 ≢ get_or ys n 0 → common (drop n xs) (drop n ys) ≡ 0
common_stops xs ys n lx ly other =
    ap₂ common (drop_more xs n 0 lx) (drop_more ys n 0 ly) ∙ step (get_or xs n 0) (get_or ys n 0) (common (drop (n + 1) xs) (drop (n + 1) ys)) other
  where
    step : (x y k : ℕ) → (x ≡ y → ⊥) → (if x == y then suc k else 0) ≡ 0
    step x y k e = rw (ne_eqb x y e) refl

common_nil : (xs : List ℕ) → common xs [] ≡ 0
common_nil [] = refl
common_nil (x ∷ xs) = refl

pub common_ends : (xs ys : List ℕ) (n : ℕ) → n ≡ min (length xs) (length ys) → common (drop n xs) (drop n ys) ≡ 0
common_ends xs ys n is = elim (cases_lt (length xs) (length ys)) [
  | inl shorter ↦ ap (λ (l : List ℕ). common l (drop n ys)) (drop_all n xs (omega arith))
  | inr longer ↦ ap (common (drop n xs)) (drop_all n ys (omega arith)) ∙ common_nil (drop n xs)
]
