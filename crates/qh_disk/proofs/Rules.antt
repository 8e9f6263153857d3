-- The rules of a disk, each drawn from the clauses of its calls.
use Rattle.std.proofs.Common.{◌≡◌, ◌<◌, ◌⊎◌, ℕ, ◌+◌, ◌≤◌, List, length, get_or, Option, Some, None, option_map, arith, inl, inr, refl, sym, ◌∙◌}
use Rattle.std.proofs.lemmas.Bool.{cases_lt}
use Rattle.std.proofs.lemmas.List.{places, get_or_past}
use Rattle.qh_disk.specs.Disk.{Face, IsImage, Reads, IsHonest, IsSafe, overwritten, resized, Torn, Stretched, Unchanged, Shrinks, Turns}
use Rattle.qh_disk.specs.Moments.{EachImage, Runs}

-- Between two syncs the bytes outside a range that was written stay: what each image had there,
-- each image has.
pub outside_stays : (at n i b : ℕ) (old new : Face) → Turns (Torn at n) old new → (i < at) ⊎ (at + n ≤ i) → EachImage old (λ d. get_or d i 0 ≡ b) → EachImage new (λ c. get_or c i 0 ≡ b)
outside_stays at n i b old new turns (inl below) each c is = let from = turns.images c is in from.2.below i below ∙ each from.0 from.1
outside_stays at n i b old new turns (inr beyond) each c is = let from = turns.images c is in from.2.beyond i beyond ∙ each from.0 from.1

-- A write changes no length, as read or in the images.
pub length_stays : (at n k : ℕ) (old new : Face) → Turns (Torn at n) old new → EachImage old (λ d. length d ≡ k) → EachImage new (λ c. length c ≡ k)
length_stays at n k old new turns each c is = let from = turns.images c is in from.2.size ∙ each from.0 from.1

-- A write that succeeds makes its range read as the given bytes, and changes nothing else.
pub overwritten_inside : (at : ℕ) (bytes f : List ℕ) (i k : ℕ) → k ≡ at + i → at + length bytes ≤ length f → i < length bytes → get_or (overwritten at bytes f) k 0 ≡ get_or bytes i 0
overwritten_inside at bytes f i k is le lt = grind (arith, places)

pub overwritten_torn : (at : ℕ) (bytes f : List ℕ) → at + length bytes ≤ length f → Torn at (length bytes) f (overwritten at bytes f)
overwritten_torn at bytes f le = record {
  size = grind (arith, places);
  below = λ i h. grind (arith, places);
  beyond = λ i h. grind (arith, places);
}

-- A new length cuts, or lengthens with zeros.
pub resized_length : (n : ℕ) (f : List ℕ) → length (resized n f) ≡ n
resized_length n f = grind (arith, places)

pub resized_below : (n : ℕ) (f : List ℕ) (i : ℕ) → i < n → get_or (resized n f) i 0 ≡ get_or f i 0
resized_below n f i lt = grind (arith, places)

pub resized_beyond : (n : ℕ) (f : List ℕ) (i : ℕ) → length f ≤ i → get_or (resized n f) i 0 ≡ 0
resized_beyond n f i le = grind (arith, places)

-- After a crash the length is one from the old to the new, and past the old end there are zeros.
pub stretched_zeros : (n i : ℕ) (old new : Face) → Turns (Stretched n) old new → EachImage old (λ d. length d ≤ i) → EachImage new (λ c. get_or c i 0 ≡ 0)
stretched_zeros n i old new turns each c is =
    let from = turns.images c is in
    let past : length from.0 ≤ i = each from.0 from.1 in
    elim (cases_lt i (length c)) [
      | inl inside ↦ let none : get_or from.0 i 0 ≡ 0 = get_or_past from.0 i 0 past in from.2.same i inside ∙ none
      | inr outside ↦ get_or_past c i 0 outside
    ]

pub stretched_between : (n low high : ℕ) (old new : Face) → Turns (Stretched n) old new → low ≤ n → n ≤ high → EachImage old (λ d. (low ≤ length d) × (length d ≤ high)) → EachImage new (λ c. (low ≤ length c) × (length c ≤ high))
stretched_between n low high old new turns above below each c is =
    let from = turns.images c is in
    let was = each from.0 from.1 in
    (omega (arith, from.2.least, was.0), omega (arith, from.2.most, was.1))

-- After a sync that succeeds, a list is an image exactly where it is what the disk reads as, and
-- that is what it read as before.
pub synced_exactly : (old new : Face) → Shrinks old new → IsSafe new → Reads new (IsImage new) → (c : List ℕ) → (IsImage new c → old.content ≡ Some c) × (old.content ≡ Some c → IsImage new c)
synced_exactly old new shrinks safe current c = (λ is. sym shrinks.content ∙ safe c is, λ told. current c (shrinks.content ∙ told))

-- A call that changes nothing leaves the images in both directions.
pub unchanged_exactly : (old new : Face) → Unchanged old new → (c : List ℕ) → (IsImage new c → IsImage old c) × (IsImage old c → IsImage new c)
unchanged_exactly old new same c = (same.images c, same.kept c)

-- Where a disk tells what it reads as after a step, it told it before.
pub turned_from : (step : List ℕ → List ℕ → Type 0) (old new : Face) → Turns step old new → (f : List ℕ) → new.content ≡ Some f → (d : List ℕ) × (old.content ≡ Some d) × step d f
turned_from step old new turns f told = turns.content f told

-- where the content is told after a write or a new length, it was told before
pub told_before : (o : Option (List ℕ)) (h : List ℕ → List ℕ) (f : List ℕ) → option_map h o ≡ Some f → (d : List ℕ) × (o ≡ Some d) × (f ≡ h d)
told_before None h f is = absurd cc
told_before (Some d) h f is = (d, refl, cc)

-- A disk is honest after calls exactly where it was honest before.
pub honest_after : (old new : Face) → Runs old new → Reads new (IsImage new) → IsHonest old → IsHonest new
honest_after old new runs current honest = record { told = runs.told ∙ honest.told; current = current }

pub honest_before : (old new : Face) → Runs old new → Reads old (IsImage old) → IsHonest new → IsHonest old
honest_before old new runs current honest = record { told = sym runs.told ∙ honest.told; current = current }
