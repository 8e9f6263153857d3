-- Why a file is not attached, by the first refusal that applies, and else its slots.
use Rattle.std.specs.Prelude.{◌≡◌, take, ℕ, suc, ◌==◌, Bool, not, ◌&&◌, ◌||◌, nat_lt, nat_le, List, [], ◌∷◌, length, map, codes, bytes_eq, is_none, Option, Some, None, option_map, if◌then◌else◌}
use Rattle.std.specs.List.{range_with_len}
use Rattle.std.proofs.Common.{get_or}
use Rattle.qh_plan.specs.Jobs.{Job, ranges}
use Rattle.qh_plan.specs.Values.{first_failing}
use Rattle.qh_slots.specs.Layout.{mark, head, old_head, place, part, is_open, body}
use Rattle.qh_slots.specs.Slots.{is_spelling, slot_of}
use Rattle.qh_slots.specs.Stands.{Slots, nones}
use Rattle.qh_slots.specs.declared.fault.AttachFault.{AttachFault}
use Rattle.qh_slots.specs.declared.fault.AttachFault.TheVariants.{Empty, Unbegun, OldJournal, NotAJournal, OtherJob, BadLength, BadSlot}

-- in how many bytes two lists agree from their start
abbrev pub common : List ℕ → List ℕ → ℕ
common [] ys = 0
common (x ∷ xs) [] = 0
common (x ∷ xs) (y ∷ ys) = if x == y then suc (common xs ys) else 0

-- the name in bytes 1 to 7
abbrev pub is_named : List ℕ → List ℕ → Bool
is_named name f = bytes_eq (part 1 7 f) name

-- ---- the refusals before the slots, of `count` bytes that begin with `front`, where the head h and the length `size` are wanted
-- those behind the name
abbrev pub later_refusal : List ℕ → ℕ → ℕ → List ℕ → Option AttachFault
later_refusal h size count front =
    if nat_lt (common front h) (length h) then Some (OtherJob (common front h))
    else (if not (count == size) then Some (BadLength count)
    else None)

-- format 2 up to the name, and else another refusal
abbrev pub name_refusal : ℕ → List ℕ → Option AttachFault → Option AttachFault
name_refusal count front other =
    if count == 0 then Some Empty
    else (if not (get_or front 0 0 == mark) then Some Unbegun
    else (if nat_le 16 count && is_named (codes "QSHJ001") front then Some OldJournal
    else (if nat_lt count 32 || not (is_named (codes "QSHJ002") front) then Some NotAJournal
    else other)))

-- format 2
unfoldable pub head_refusal : List ℕ → ℕ → ℕ → List ℕ → Option AttachFault
head_refusal h size count front = name_refusal count front (later_refusal h size count front)

-- format 1
unfoldable pub old_head_refusal : List ℕ → ℕ → ℕ → List ℕ → Option AttachFault
old_head_refusal h size count front =
    if count == 0 then Some Empty
    else (if not (get_or front 0 0 == mark) then Some Unbegun
    else (if nat_lt count 16 || not (is_named (codes "QSHJ001") front) then Some NotAJournal
    else later_refusal h size count front))

-- f begins with the head h and is as long as is wanted
pub record Passes (h : List ℕ) (size : ℕ) (f : List ℕ) : Type 0 where
  pub begins : take (length h) f ≡ h
  pub long : length f ≡ size

-- ---- the slots of a file whose head is h
-- whether slot r is closed, or spells a verdict that fits
abbrev pub is_good : List ℕ → Job → List ℕ → ℕ → Bool
is_good h j f r = not (is_open h j r f) || is_spelling j r (body h j r f)

-- the first open slot that spells no verdict that fits
abbrev pub first_bad : List ℕ → Job → List ℕ → Option ℕ
first_bad h j f = first_failing (ranges j) (is_good h j f)

-- what they read as
unfoldable pub slots_by : List ℕ → Job → List ℕ → Slots
slots_by h j f = map (λ r. slot_of h j r f) (range_with_len 0 (ranges j))

-- ---- the first refusal that applies to f
-- the refusal before the slots, or that of the first bad slot
abbrev pub or_bad : Option AttachFault → Option ℕ → Option AttachFault
or_bad (Some fault) bad = Some fault
or_bad None bad = option_map (λ r. BadSlot r) bad

-- format 2
unfoldable pub first_refusal : Job → List ℕ → Option AttachFault
first_refusal j f = or_bad (head_refusal (head j) (place (head j) j (ranges j)) (length f) f) (first_bad (head j) j f)

-- format 1
unfoldable pub first_refusal1 : Job → List ℕ → Option AttachFault
first_refusal1 j f = or_bad (old_head_refusal (old_head j) (place (old_head j) j (ranges j)) (length f) f) (first_bad (old_head j) j f)

-- ---- the slots with which f stands for the job; none where it does not
unfoldable pub slots_of : Job → List ℕ → Slots
slots_of j f = if is_none (first_refusal j f) then slots_by (head j) j f else nones j

unfoldable pub slots1_of : Job → List ℕ → Slots
slots1_of j f = if is_none (first_refusal1 j f) then slots_by (old_head j) j f else nones j
