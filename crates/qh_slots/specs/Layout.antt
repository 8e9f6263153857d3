-- Where the parts of a journal stand: a head `h`, and behind it a slot for each range. The two formats differ in their head alone.
use Rattle.std.specs.Prelude.{ℕ, ◌+◌, ◌*◌, ◌==◌, Bool, List, ◌∷◌, ◌++◌, length, take, drop, codes}
use Rattle.std.proofs.Common.{get_or}
use Rattle.byteorder.specs.Endian.{big_bytes}
use Rattle.qh_plan.specs.Jobs.{Job, ranges}
use Rattle.qh_plan.specs.Texts.{job_text}

-- the byte of an open gate; each other byte is a closed one
abbrev pub mark : ℕ
mark = 165

-- format 2: the gate, the name, how many bytes the job text has, how many ranges and bitstrings there are, the job text
unfoldable pub head : Job → List ℕ
head j = (mark ∷ codes "QSHJ002") ++ big_bytes 8 (length (job_text j)) ++ big_bytes 8 (ranges j) ++ big_bytes 8 (length j.bits) ++ job_text j

-- format 1: the gate, the name, how many bytes the job text has, the job text
unfoldable pub old_head : Job → List ℕ
old_head j = (mark ∷ codes "QSHJ001") ++ big_bytes 8 (length (job_text j)) ++ job_text j

-- behind its gate a slot has 9 bytes of the verdict, and 64 for each bitstring
abbrev pub body_size : Job → ℕ
body_size j = 9 + 64 * length j.bits

-- a slot: its gate and its body
abbrev pub slot_size : Job → ℕ
slot_size j = 10 + 64 * length j.bits

-- where the slot of range r begins, and, at the number of ranges, how long the file is
unfoldable pub place : List ℕ → Job → ℕ → ℕ
place h j r = length h + r * slot_size j

-- n bytes of f from `at` on
abbrev pub part : ℕ → ℕ → List ℕ → List ℕ
part at n f = take n (drop at f)

-- whether the gate of range r is open
abbrev pub is_open : List ℕ → Job → ℕ → List ℕ → Bool
is_open h j r f = get_or f (place h j r) 0 == mark

-- what stands behind that gate
abbrev pub body : List ℕ → Job → ℕ → List ℕ → List ℕ
body h j r f = part (place h j r + 1) (body_size j) f
