-- The union of the inputs: for each pair of a prefix value and a range the verdict of the first input with that prefix
-- value.
use Rattle.std.specs.Prelude.{◌≡◌, ◌<◌, ℕ, ◌==◌, ◌/◌, ◌%◌, Bool, false, List, [], ◌∷◌, Option, Some, None, IsSome, if◌then◌else◌}
use Rattle.qh_ring.specs.declared.number.Omega.{Omega}
use Rattle.std.specs.List.{fold}
use Rattle.qh_plan.specs.declared.verdict.Verdict.{Verdict}
use Rattle.qh_plan.specs.Jobs.{Job, ranges, roots}
use Rattle.qh_plan.specs.Ranges.{IsSameButPrefix}
use Rattle.qh_plan.specs.Verdicts.{total}
use Rattle.qh_plan.specs.Slots.{added_verdict, lesser, path_in}
use Rattle.qh_slots.specs.Stands.{Slots, slot_at}
use Rattle.qh_merge.specs.Inputs.{Input}

-- whether a prefix value is given, and is w
abbrev pub is_value : ℕ → Option ℕ → Bool
is_value w None = false
is_value w (Some v) = v == w

-- the elder of two, where there are two
abbrev pub elder : Option Input → Option Input → Option Input
elder (Some x) other = Some x
elder None other = other

-- the first input with this prefix value
abbrev pub first_with : ℕ → List Input → Option Input
first_with w [] = None
first_with w (x ∷ earlier) = elder (first_with w earlier) (if is_value w x.job.prefix then Some x else None)

-- the slot of a range of an input, if there is one
abbrev pub slot_in : Option Input → ℕ → Option Verdict
slot_in None r = None
slot_in (Some x) r = slot_at x.slots r

-- the verdict of a prefix value and a range
abbrev pub union : List Input → ℕ → ℕ → Option Verdict
union xs w r = slot_in (first_with w xs) r

-- the job of all prefix values
abbrev pub whole : Job → Job
whole j = record { circuit = j.circuit; part = j.part; p = j.p; r = j.r; prefix = None; bits = j.bits }

-- the slots of its ranges, in their order
abbrev pub union_slots : Job → List Input → ℕ → Option Verdict
union_slots j xs q = union xs (q / roots j) (q % roots j)

-- the total of the union
abbrev pub union_total : Job → List Input → Verdict
union_total j xs = total (whole j) (union_slots j xs)

-- ---- which inputs are taken
-- the job of the first of an input and those before it
abbrev pub family : Input → List Input → Job
family x [] = x.job
family x (y ∷ earlier) = family y earlier

-- each range of it has a verdict
abbrev pub IsFinished : Input → Type 0
IsFinished x = (r : ℕ) → r < ranges x.job → IsSome (slot_at x.slots r)

-- it is of one prefix value and of the family, and finished
pub record IsTaken (x : Input) (earlier : List Input) : Type 0 where
  pub prefix : IsSome x.job.prefix
  pub family : IsSameButPrefix (family x earlier) x.job
  pub finished : IsFinished x

-- each is taken
abbrev pub AreTaken : List Input → Type 0
AreTaken [] = Unit {0}
AreTaken (x ∷ earlier) = IsTaken x earlier × AreTaken earlier

-- it says what the first input of its prefix value said
abbrev pub Repeats : Input → List Input → Type 0
Repeats x earlier = (w : ℕ) (y : Input) → x.job.prefix ≡ Some w → first_with w earlier ≡ Some y → y.slots ≡ x.slots

-- each does
abbrev pub AreEqual : List Input → Type 0
AreEqual [] = Unit {0}
AreEqual (x ∷ earlier) = Repeats x earlier × AreEqual earlier

-- ---- what slots give together, one after the other
-- sums, and those of a slot
abbrev pub added_slot : List Omega → Option Verdict → List Omega
added_slot sums None = sums
added_slot sums (Some v) = added_verdict sums v

-- a path, and that of a slot, whichever is less
abbrev pub lesser_slot : Option ℕ → Option Verdict → Option ℕ
lesser_slot over slot = lesser over (path_in slot)

abbrev pub sums_after : List Omega → Slots → List Omega
sums_after sums slots = fold added_slot sums slots

abbrev pub least_after : Option ℕ → Slots → Option ℕ
least_after over slots = fold lesser_slot over slots
