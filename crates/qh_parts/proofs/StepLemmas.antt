-- What one torn write leaves of a journal.
use Rattle.std.proofs.Common.{◌≡◌, ◌≢◌, ◌<◌, ◌⊎◌, inl, inr, ℕ, ◌+◌, ◌≤◌, List, [], length, take, set, get_or, Option, Some, None, refl, sym, ap, subst, ◌∙◌, arith}
use Rattle.std.proofs.lemmas.Bool.{cases_eq, cases_lt}
use Rattle.std.proofs.lemmas.List.{places, ext_get_or, length-set, get_or-set_same, get_or-set_other, get_or-take}
use Rattle.qh_plan.specs.declared.verdict.Verdict.{Verdict}
use Rattle.qh_plan.specs.Jobs.{Job, IsJob, ranges}
use Rattle.qh_plan.specs.Ranges.{Fits}
use Rattle.qh_plan.specs.Values.{range_value}
use Rattle.qh_disk.specs.Disk.{Torn}
use Rattle.qh_slots.specs.Layout.{mark, head, place, part, slot_size, body_size, body}
use Rattle.qh_slots.specs.Slots.{SlotIs, spelled}
use Rattle.qh_slots.specs.Stands.{Slots, slot_at, Stands, StandsTrue, Made, Holds, Shut, Behind}
use Rattle.qh_slots.specs.Record.{Extends}
use Rattle.qh_slots.specs.Moments.{StandsFor, GoesOn}
use Rattle.qh_slots.proofs.StandLemmas.{one_list, head_size, head_named}
use Rattle.qh_slots.proofs.PlaceLemmas.{place_start, apart}

-- ---- bytes outside the range that was torn
pub part_torn : (k m at n : ℕ) (d c : List ℕ) → Torn k m d c → (at + n ≤ k) ⊎ (k + m ≤ at) → part at n c ≡ part at n d
part_torn k m at n d c torn out = ext_get_or 0 (part at n c) (part at n d) (let s = torn.size in grind (arith, places)) (λ i low. elim out [
  | inl before ↦ let e = torn.below (at + i) in grind (arith, places, e)
  | inr behind ↦ let e = torn.beyond (at + i) in grind (arith, places, e)
])

pub byte_torn : (k m i : ℕ) (d c : List ℕ) → Torn k m d c → (i < k) ⊎ (k + m ≤ i) → get_or c i 0 ≡ get_or d i 0
byte_torn k m i d c torn (inl before) = torn.below i before
byte_torn k m i d c torn (inr behind) = torn.beyond i behind

pub front_torn : (k m n : ℕ) (d c : List ℕ) → Torn k m d c → n ≤ k → take n c ≡ take n d
front_torn k m n d c torn le = ext_get_or 0 (take n c) (take n d) (let s = torn.size in grind (arith, places)) (λ i low. let e = torn.below i in grind (arith, places, e))

-- ---- a write within the slot of range r
pub record IsWithinSlot (h : List ℕ) (j : Job) (r at n : ℕ) : Type 0 where
  pub from : place h j r ≤ at
  pub to : at + n ≤ place h j r + slot_size j

pub other_slot : (h : List ℕ) (j : Job) (q r at n : ℕ) (d c : List ℕ) → Torn at n d c → IsWithinSlot h j r at n → q ≢ r → (o : Option Verdict) → SlotIs h j q d o → SlotIs h j q c o
other_slot h j q r at n d c torn within ne o is = elim (cases_lt q r) [
  | inl before ↦ let a = apart h j q r before in let f = within.from in keeps (inl (omega arith)) (inl (omega arith)) o is
  | inr behind ↦ let a = apart h j r q (omega arith) in let t = within.to in keeps (inr (omega arith)) (inr (omega arith)) o is
]
  where
    keeps : (place h j q < at) ⊎ (at + n ≤ place h j q) → (place h j q + 1 + body_size j ≤ at) ⊎ (at + n ≤ place h j q + 1) → (o : Option Verdict) → SlotIs h j q d o → SlotIs h j q c o
    keeps gate rest None shut = λ e. shut (sym (byte_torn at n (place h j q) d c torn gate) ∙ e)
    keeps gate rest (Some v) s = (byte_torn at n (place h j q) d c torn gate ∙ s.0, part_torn at n (place h j q + 1) (body_size j) d c torn rest ∙ s.1, s.2)

pub stands_torn : (j : Job) (r at n : ℕ) (s t : Slots) (d c : List ℕ) → Torn at n d c → IsWithinSlot (head j) j r at n → Stands j s d → length t ≡ length s → ((q : ℕ) → q ≢ r → slot_at t q ≡ slot_at s q)
    → SlotIs (head j) j r c (slot_at t r) → Stands j t c
stands_torn j r at n s t d c torn within was size others here = record {
  begins = front_torn at n (length (head j)) d c torn (let p = place_start (head j) j r in let f = within.from in omega arith) ∙ was.begins;
  size = torn.size ∙ was.size;
  count = size ∙ was.count;
  slots = λ q low. elim (cases_eq q r) [
    | inl same ↦ subst (λ (k : ℕ). SlotIs (head j) j k c (slot_at t k)) (sym same) here
    | inr ne ↦ subst (SlotIs (head j) j q c) (sym (others q ne)) (other_slot (head j) j q r at n d c torn within ne (slot_at s q) (was.slots q low))
  ];
}

-- ---- a body is written
body_within : (j : Job) (r : ℕ) → IsWithinSlot (head j) j r (place (head j) j r + 1) (body_size j)
body_within j r = record { from = omega arith; to = omega arith }

none_is : (h : List ℕ) (j : Job) (r : ℕ) (f : List ℕ) (o : Option Verdict) → o ≡ None → SlotIs h j r f o → get_or f (place h j r) 0 ≢ mark
none_is h j r f None e is = is
none_is h j r f (Some v) e is = absurd cc

below_count : (j : Job) (r : ℕ) (s : Slots) (f : List ℕ) → r < ranges j → Stands j s f → r < length s
below_count j r s f low stands = subst (λ (n : ℕ). r < n) (sym stands.count) low

pub body_step : (j : Job) (r : ℕ) (s : Slots) (d c : List ℕ) → r < ranges j → Torn (place (head j) j r + 1) (body_size j) d c → Stands j s d → slot_at s r ≡ None → Stands j s c
body_step j r s d c low torn was shut = stands_torn j r (place (head j) j r + 1) (body_size j) s s d c torn (body_within j r) was refl (λ q ne. refl)
    (subst (SlotIs (head j) j r c) (sym shut) (λ e. none_is (head j) j r d (slot_at s r) shut (was.slots r low) (sym (torn.below (place (head j) j r) (omega arith)) ∙ e)))

-- ---- a gate is written
gate_within : (j : Job) (r : ℕ) → IsWithinSlot (head j) j r (place (head j) j r) 1
gate_within j r = record { from = omega arith; to = omega arith }

pub gate_shut : (j : Job) (r : ℕ) (s : Slots) (d c : List ℕ) → r < ranges j → Torn (place (head j) j r) 1 d c → Stands j s d → slot_at s r ≡ None → get_or c (place (head j) j r) 0 ≢ mark → Stands j s c
gate_shut j r s d c low torn was shut still = stands_torn j r (place (head j) j r) 1 s s d c torn (gate_within j r) was refl (λ q ne. refl) (subst (SlotIs (head j) j r c) (sym shut) still)

pub gate_open : (j : Job) (r : ℕ) (v : Verdict) (s : Slots) (d c : List ℕ) → r < ranges j → Torn (place (head j) j r) 1 d c → Stands j s d → body (head j) j r d ≡ spelled j v → Fits j r v → get_or c (place (head j) j r) 0 ≡ mark → Stands j (set s r (Some v)) c
gate_open j r v s d c low torn was rest fits is_open = stands_torn j r (place (head j) j r) 1 s (set s r (Some v)) d c torn (gate_within j r) was (length-set s r (Some v)) (λ q ne. get_or-set_other s r q (Some v) None ne)
    (subst (SlotIs (head j) j r c) (sym (get_or-set_same s r (Some v) None (below_count j r s d low was))) (is_open, part_torn (place (head j) j r) 1 (place (head j) j r + 1) (body_size j) d c torn (inr (omega arith)) ∙ rest, fits))

-- ---- true slots are those that go on from none
pub true_goes : (j : Job) (f : List ℕ) → StandsTrue j f → GoesOn j [] f
true_goes j f was = record {
  slots = was.slots;
  stands = was.stands;
  extends = record { kept = λ q w held. absurd (nothing w held); added = λ q w none held. was.true_slots q w held };
}
  where
    nothing : (w : Verdict) → None ≡ Some w → ⊥
    nothing w e = cc

pub goes_true : (j : Job) (f : List ℕ) → GoesOn j [] f → StandsTrue j f
goes_true j f was = record { slots = was.slots; stands = was.stands; true_slots = λ q w held. was.extends.added q w refl held }

-- ---- the families
pub begun : (j : Job) (s : Slots) (f : List ℕ) → Stands j s f → get_or f 0 0 ≡ mark
begun j s f stands = let n = head_size j in sym (get_or-take (length (head j)) f 0 0 (omega arith)) ∙ ap (λ (l : List ℕ). get_or l 0 0) stands.begins ∙ (head_named j).0

module _ (j : Job) (is : IsJob j) (r : ℕ) (low : r < ranges j) (d c : List ℕ) where
  -- the slot is closed by whatever slots it stands
  pub shut_here : Shut j r d → (s : Slots) → Stands j s d → slot_at s r ≡ None
  shut_here shut s stands = ap (λ (t : Slots). slot_at t r) (one_list (head j) j is s shut.slots d stands shut.stands) ∙ shut.shut

  pub body_shut : Torn (place (head j) j r + 1) (body_size j) d c → Shut j r d → Shut j r c
  body_shut torn was = record { slots = was.slots; stands = body_step j r was.slots d c low torn was.stands was.shut; shut = was.shut }

  pub body_holds : Torn (place (head j) j r + 1) (body_size j) d c → Shut j r d → (q : ℕ) (w : Verdict) → Holds j q w d → Holds j q w c
  body_holds torn shut q w was = record { slots = was.slots; stands = body_step j r was.slots d c low torn was.stands (shut_here shut was.slots was.stands); held = was.held }

  pub body_begun : Torn (place (head j) j r + 1) (body_size j) d c → Shut j r d → StandsFor j d → StandsFor j c
  body_begun torn shut was = record { slots = was.slots; stands = body_step j r was.slots d c low torn was.stands (shut_here shut was.slots was.stands) }

  pub body_goes : (s0 : Slots) → Torn (place (head j) j r + 1) (body_size j) d c → Shut j r d → GoesOn j s0 d → GoesOn j s0 c
  body_goes s0 torn shut was = record {
    slots = was.slots;
    stands = body_step j r was.slots d c low torn was.stands (shut_here shut was.slots was.stands);
    extends = was.extends;
  }

  pub body_made : Torn (place (head j) j r + 1) (body_size j) d c → Shut j r d → Made j d → Made j c
  body_made torn shut (inl closed) = absurd (closed (begun j shut.slots d shut.stands))
  body_made torn shut (inr was) = inr (goes_true j c (body_goes [] torn shut (true_goes j d was)))

  gate_cases : (get_or c (place (head j) j r) 0 ≡ mark) ⊎ (get_or c (place (head j) j r) 0 ≡ mark → ⊥)
  gate_cases = cases_eq (get_or c (place (head j) j r) 0) mark

  pub gate_either : (v : Verdict) → Torn (place (head j) j r) 1 d c → Behind j r v d → (s : Slots) → Stands j s d → Stands j s c ⊎ Stands j (set s r (Some v)) c
  gate_either v torn behind s stands = elim gate_cases [
    | inl is_open ↦ inr (gate_open j r v s d c low torn stands behind.body behind.fits is_open)
    | inr still ↦ inl (gate_shut j r s d c low torn stands (shut_here behind.shut s stands) still)
  ]

  pub gate_holds : (v : Verdict) → Torn (place (head j) j r) 1 d c → Behind j r v d → (q : ℕ) (w : Verdict) → Holds j q w d → Holds j q w c
  gate_holds v torn behind q w was = elim (gate_either v torn behind was.slots was.stands) [
    | inl still ↦ record { slots = was.slots; stands = still; held = was.held }
    | inr now ↦ record { slots = set was.slots r (Some v); stands = now; held = get_or-set_other was.slots r q (Some v) None other ∙ was.held }
  ]
    where
      other : q ≢ r
      other same = let none : slot_at was.slots q ≡ None = ap (slot_at was.slots) same ∙ shut_here behind.shut was.slots was.stands in let some = was.held in absurd cc

  pub gate_begun : (v : Verdict) → Torn (place (head j) j r) 1 d c → Behind j r v d → StandsFor j d → StandsFor j c
  gate_begun v torn behind was = elim (gate_either v torn behind was.slots was.stands) [
    | inl still ↦ record { slots = was.slots; stands = still }
    | inr now ↦ record { slots = set was.slots r (Some v); stands = now }
  ]

  -- one slot more, which holds its range's value
  extends_more : (v : Verdict) → v ≡ range_value j r → (s0 s : Slots) → r < length s → slot_at s r ≡ None → Extends j s0 s → Extends j s0 (set s r (Some v))
  extends_more v is_true s0 s inside shut was = record {
    kept = λ q w held. get_or-set_other s r q (Some v) None (other q w held) ∙ was.kept q w held;
    added = λ q w none held. elim (cases_eq q r) [
      | inl same ↦
          let here : slot_at (set s r (Some v)) q ≡ Some v = ap (slot_at (set s r (Some v))) same ∙ get_or-set_same s r (Some v) None inside in
          let one : w ≡ v = cc in one ∙ is_true ∙ ap (range_value j) (sym same)
      | inr ne ↦ was.added q w none (sym (get_or-set_other s r q (Some v) None ne) ∙ held)
    ];
  }
    where
      other : (q : ℕ) (w : Verdict) → slot_at s0 q ≡ Some w → q ≢ r
      other q w held same = let some : slot_at s q ≡ Some w = was.kept q w held in let none : slot_at s q ≡ None = ap (slot_at s) same ∙ shut in absurd cc

  pub gate_goes : (v : Verdict) → v ≡ range_value j r → (s0 : Slots) → Torn (place (head j) j r) 1 d c → Behind j r v d → GoesOn j s0 d → GoesOn j s0 c
  gate_goes v is_true s0 torn behind was = elim (gate_either v torn behind was.slots was.stands) [
    | inl still ↦ record { slots = was.slots; stands = still; extends = was.extends }
    | inr now ↦ record {
      slots = set was.slots r (Some v);
      stands = now;
      extends = extends_more v is_true s0 was.slots (below_count j r was.slots d low was.stands) (shut_here behind.shut was.slots was.stands) was.extends;
    }
  ]

  pub gate_made : (v : Verdict) → v ≡ range_value j r → Torn (place (head j) j r) 1 d c → Behind j r v d → Made j d → Made j c
  gate_made v is_true torn behind (inl closed) = absurd (closed (begun j behind.shut.slots d behind.shut.stands))
  gate_made v is_true torn behind (inr was) = inr (goes_true j c (gate_goes v is_true [] torn behind (true_goes j d was)))

  -- a gate that is written whole
  pub gate_holds_it : (v : Verdict) → Torn (place (head j) j r) 1 d c → Behind j r v d → get_or c (place (head j) j r) 0 ≡ mark → Holds j r v c
  gate_holds_it v torn behind is_open = record {
    slots = set behind.shut.slots r (Some v);
    stands = gate_open j r v behind.shut.slots d c low torn behind.shut.stands behind.body behind.fits is_open;
    held = get_or-set_same behind.shut.slots r (Some v) None (below_count j r behind.shut.slots d low behind.shut.stands);
  }

-- ---- what a write in one slot leaves of another
behind_stays : (j : Job) → (r q at n : ℕ) (w : Verdict) (s : Slots) (d c : List ℕ) → Torn at n d c → IsWithinSlot (head j) j r at n → q ≢ r → body (head j) j q d ≡ spelled j w → body (head j) j q c ≡ spelled j w
behind_stays j r q at n w s d c torn within ne rest = elim (cases_lt q r) [
  | inl before ↦ let a = apart (head j) j q r before in let f = within.from in part_torn at n (place (head j) j q + 1) (body_size j) d c torn (inl (omega arith)) ∙ rest
  | inr behind ↦ let a = apart (head j) j r q (omega arith) in let t = within.to in part_torn at n (place (head j) j q + 1) (body_size j) d c torn (inr (omega arith)) ∙ rest
]

module _ (j : Job) (is : IsJob j) (r : ℕ) (low : r < ranges j) (d c : List ℕ) (q : ℕ) (ne : q ≢ r) where
  pub body_other_shut : Torn (place (head j) j r + 1) (body_size j) d c → Shut j r d → Shut j q d → Shut j q c
  body_other_shut torn shut was = record { slots = was.slots; stands = body_step j r was.slots d c low torn was.stands (shut_here j is r low d c shut was.slots was.stands); shut = was.shut }

  pub body_other_behind : (w : Verdict) → Torn (place (head j) j r + 1) (body_size j) d c → Shut j r d → Behind j q w d → Behind j q w c
  body_other_behind w torn shut was = record {
    shut = body_other_shut torn shut was.shut;
    body = behind_stays j r q (place (head j) j r + 1) (body_size j) w was.shut.slots d c torn (body_within j r) ne was.body;
    fits = was.fits;
  }

  pub gate_other_behind : (v w : Verdict) → Torn (place (head j) j r) 1 d c → Behind j r v d → Behind j q w d → Behind j q w c
  gate_other_behind v w torn behind was = record {
    shut = elim (gate_either j is r low d c v torn behind was.shut.slots was.shut.stands) [
      | inl still ↦ record { slots = was.shut.slots; stands = still; shut = was.shut.shut }
      | inr now ↦ record { slots = set was.shut.slots r (Some v); stands = now; shut = get_or-set_other was.shut.slots r q (Some v) None ne ∙ was.shut.shut }
    ];
    body = behind_stays j r q (place (head j) j r) 1 w was.shut.slots d c torn (gate_within j r) ne was.body;
    fits = was.fits;
  }
