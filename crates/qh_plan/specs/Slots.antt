-- The slots of a run: verdicts for some of its ranges or for all, whoever wrote them, and their total.
use Rattle.std.specs.Prelude.{◌≡◌, ◌≢◌, ℕ, zero, suc, ◌<◌, ◌≤◌, min, List, All, length, map, Option, Some, None}
use Rattle.std.specs.List.{range_with_len}
use Rattle.qh_limits.specs.Limits.{coefficient_bits}
use Rattle.qh_ring.specs.declared.number.Omega.{Omega}
use Rattle.qh_ring.specs.Numbers.{nothing, IsWithin}
use Rattle.qh_ring.specs.States.{sum_below, at_index}
use Rattle.qh_plan.specs.declared.verdict.Verdict.{Verdict}
use Rattle.qh_plan.specs.declared.verdict.Verdict.TheVariants.{Sum, Over}
use Rattle.qh_plan.specs.Jobs.{Job, IsJob, ranges}
use Rattle.qh_plan.specs.Ranges.{Fits}
use Rattle.qh_plan.specs.Verdicts.{added, total_below, total}
use Rattle.qh_plan.specs.Values.{range_value}

-- ---- what slots give
-- what a slot gives the asked index of this place
abbrev pub slot_number : Option Verdict → ℕ → Omega
slot_number None place = nothing
slot_number (Some (Sum sums)) place = at_index sums place
slot_number (Some (Over path)) place = nothing

-- what the slots below n give it together: a slot that is over, or has no verdict, adds nothing
abbrev pub sum_of_slots : (ℕ → Option Verdict) → ℕ → ℕ → Omega
sum_of_slots slots n place = sum_below n (λ r. slot_number (slots r) place)

-- for each asked index, what the slots of the job give it together
unfoldable pub slot_sums : Job → (ℕ → Option Verdict) → List Omega
slot_sums j slots = map (sum_of_slots slots (ranges j)) (range_with_len 0 (length j.bits))

-- the path that a slot names
abbrev pub path_in : Option Verdict → Option ℕ
path_in None = None
path_in (Some (Sum sums)) = None
path_in (Some (Over path)) = Some path

-- the lesser of two paths, where there are two
abbrev pub lesser : Option ℕ → Option ℕ → Option ℕ
lesser None other = other
lesser (Some path) None = Some path
lesser (Some path) (Some other) = Some (min path other)

-- the least path that one of the slots below n names
abbrev pub least_below : (ℕ → Option Verdict) → ℕ → Option ℕ
least_below slots zero = None
least_below slots (suc n) = lesser (least_below slots n) (path_in (slots n))

-- the least path that one of the job's slots names
unfoldable pub least_over : Job → (ℕ → Option Verdict) → Option ℕ
least_over j slots = least_below slots (ranges j)

-- over with this path if there is one, else these sums
abbrev pub over_or : Option ℕ → List Omega → Verdict
over_or None sums = Sum sums
over_or (Some path) sums = Over path

-- sums, and those of one more verdict
abbrev pub added_verdict : List Omega → Verdict → List Omega
added_verdict sums (Sum more) = added sums more
added_verdict sums (Over path) = sums

-- ---- the total of any verdicts, of some of the ranges or of all
-- each sum has a number for each asked index
abbrev pub AreFull : Job → (ℕ → Option Verdict) → Type 0
AreFull j slots = (i : ℕ) (sums : List Omega) → slots i ≡ Some (Sum sums) → length sums ≡ length j.bits

-- one of the job's slots names this path
pub record IsNamed (j : Job) (slots : ℕ → Option Verdict) (path : ℕ) : Type 0 where
  pub range : ℕ
  pub below : range < ranges j
  pub is : slots range ≡ Some (Over path)

-- the total is over with the least path that a slot names, and where none does, it is the sum of their sums
pub record IsTotal (j : Job) (slots : ℕ → Option Verdict) : Type 0 where
  pub over : (path : ℕ) → total j slots ≡ Over path → IsNamed j slots path
  pub least : (path other : ℕ) → total j slots ≡ Over path → IsNamed j slots other → path ≤ other
  pub none : (sums : List Omega) → total j slots ≡ Sum sums → (path : ℕ) → ¬ IsNamed j slots path
  pub full : (sums : List Omega) → total j slots ≡ Sum sums → length sums ≡ length j.bits
  pub sum : (sums : List Omega) → total j slots ≡ Sum sums → (place : ℕ) → place < length j.bits
      → at_index sums place ≡ sum_below (ranges j) (λ i. slot_number (slots i) place)

abbrev pub TotalLaw : Type 0
TotalLaw = (j : Job) (slots : ℕ → Option Verdict) → AreFull j slots → IsTotal j slots

-- ---- slots by whoever wrote them
-- each verdict below the number of ranges may be that of its range
pub record AreFit (j : Job) (slots : ℕ → Option Verdict) : Type 0 where
  pub each : (r : ℕ) (v : Verdict) → r < ranges j → slots r ≡ Some v → Fits j r v

-- what a range answers may be that of the range
abbrev pub RangeFitsLaw : Type 0
RangeFitsLaw = (j : Job) → IsJob j → (r : ℕ) → Fits j r (range_value j r)

-- the slots below each n add up to numbers within 126 bits, and so does the total
pub record AreBounded (j : Job) (slots : ℕ → Option Verdict) : Type 0 where
  pub number : (n place : ℕ) → n ≤ ranges j → IsWithin coefficient_bits (sum_of_slots slots n place)
  pub sums : All (IsWithin coefficient_bits) (slot_sums j slots)
  pub below : (n : ℕ) (sums : List Omega) → n ≤ ranges j → total_below j.bits slots n ≡ Sum sums → All (IsWithin coefficient_bits) sums
  pub total : (sums : List Omega) → total j slots ≡ Sum sums → All (IsWithin coefficient_bits) sums

abbrev pub FitLaw : Type 0
FitLaw = (j : Job) (slots : ℕ → Option Verdict) → IsJob j → AreFit j slots → AreBounded j slots

-- the total depends on the slots below the number of ranges alone
abbrev pub BelowLaw : Type 0
BelowLaw = (j : Job) (slots others : ℕ → Option Verdict) → ((r : ℕ) → r < ranges j → slots r ≡ others r) → total j slots ≡ total j others

-- each sum below the number of ranges has a number for each asked index
pub record AreFullBelow (j : Job) (slots : ℕ → Option Verdict) : Type 0 where
  pub each : (r : ℕ) (sums : List Omega) → r < ranges j → slots r ≡ Some (Sum sums) → length sums ≡ length j.bits

-- the total is over with the least path that a slot names, and where none does, it is what the slots give together
abbrev pub PartedLaw : Type 0
PartedLaw = (j : Job) (slots : ℕ → Option Verdict) → AreFullBelow j slots → total j slots ≡ over_or (least_over j slots) (slot_sums j slots)

-- the slots, and the same with this verdict in one that had none
pub record IsFilled (j : Job) (slots others : ℕ → Option Verdict) (range : ℕ) (verdict : Verdict) : Type 0 where
  pub below : range < ranges j
  pub empty : slots range ≡ None
  pub filled : others range ≡ Some verdict
  pub elsewhere : (r : ℕ) → r ≢ range → others r ≡ slots r

-- one more verdict adds its numbers, or its path if that is less
pub record AreMore (j : Job) (slots others : ℕ → Option Verdict) (verdict : Verdict) : Type 0 where
  pub sums : slot_sums j others ≡ added_verdict (slot_sums j slots) verdict
  pub least : least_over j others ≡ lesser (least_over j slots) (path_in (Some verdict))

abbrev pub FilledLaw : Type 0
FilledLaw = (j : Job) (slots others : ℕ → Option Verdict) (range : ℕ) (verdict : Verdict)
    → AreFullBelow j others → IsFilled j slots others range verdict → AreMore j slots others verdict
