-- What a plan is asked for, and the first refusal.
use Rattle.std.specs.Prelude.{◌≡◌, ◌⊎◌, ℕ, zero, suc, ◌==◌, ◌+◌, ◌-◌, ◌*◌, ◌^◌, ◌<◌, ◌≤◌, nat_lt, nat_le, Bool, false, List, [], ◌∷◌, ◌++◌, length, take, Option, Some, None, sum_by, All, if◌then◌else◌}
use Rattle.std.specs.Option.{ForSome}
use Rattle.std.specs.List.{list_any}
use Rattle.std.specs.List.Sorted.{IsStrictlyIncreasing}
use Rattle.qh_limits.specs.Limits.{max_part_qubits, max_crossing, max_path_bits, max_ranges, max_bitstrings, max_journal_bytes}
use Rattle.qh_gates.specs.Circuits.{Circuit, IsCircuit}
use Rattle.qh_plan.specs.declared.fault.PlanFault.{PlanFault}
use Rattle.qh_plan.specs.declared.fault.PlanFault.TheVariants.{NoSuchQubit, QubitTwice, EmptyPart, PartTooWide, TooManyCrossing, TooManyPaths, PrefixRoot, PrefixValue, TooManyRanges, JournalTooLong}
use Rattle.qh_plan.specs.Paths.{path_count}
use Rattle.qh_plan.specs.Jobs.{Job, IsJob, job_radices, prefixes, roots, per_range, ranges}
use Rattle.qh_plan.specs.Texts.{job_text, journal_length}

-- the qubits below n that the list names, in rising order
abbrev pub rising : ℕ → List ℕ → List ℕ
rising zero items = []
rising (suc n) items = if list_any (λ k. k == n) items then rising n items ++ n ∷ [] else rising n items

-- the job that is asked for by a circuit, the items of part 1 in any order, a split, a prefix value if there is one,
-- and basis indices
abbrev pub job_of : Circuit → List ℕ → ℕ → ℕ → Option ℕ → List ℕ → Job
job_of c items p r w bits = record { circuit = c; part = rising c.qubits items; p = p; r = r; prefix = w; bits = bits }

-- ---- refusals, in their order

-- the first item that is no qubit below n or occurred before
abbrev pub item_fault : ℕ → List ℕ → List ℕ → Option PlanFault
item_fault n earlier [] = None
item_fault n earlier (q ∷ items) =
    if nat_le n q then Some (NoSuchQubit q)
    else (if list_any (λ k. k == q) earlier then Some (QubitTwice q)
    else item_fault n (earlier ++ q ∷ []) items)

-- a part without qubits or with too many, of a circuit with n qubits of which m lie in part 1
abbrev pub width_fault : ℕ → ℕ → Option PlanFault
width_fault n m =
    if m == 0 then Some EmptyPart
    else (if m == n then Some EmptyPart
    else (if nat_lt max_part_qubits m then Some (PartTooWide m)
    else (if nat_lt max_part_qubits (n - m) then Some (PartTooWide (n - m))
    else None)))

-- a crossing gate has one, two or four terms
abbrev pub IsRadix : ℕ → Type 0
IsRadix r = (r ≡ 1) ⊎ ((r ≡ 2) ⊎ (r ≡ 4))

-- one, two and four are these powers of 2
abbrev pub term_bits : ℕ → ℕ
term_bits r = if r == 4 then 2 else (if r == 2 then 1 else 0)

-- the number of paths is 2 to this power
abbrev pub path_bits : List ℕ → ℕ
path_bits radices = sum_by term_bits radices

-- too many crossing gates, or too many paths
abbrev pub path_fault : List ℕ → Option PlanFault
path_fault radices =
    if nat_lt max_crossing (length radices) then Some (TooManyCrossing (length radices))
    else (if nat_lt (2 ^ max_path_bits) (path_count radices) then Some (TooManyPaths (path_bits radices))
    else None)

-- whether the prefix value is not below n
abbrev pub is_past : ℕ → Option ℕ → Bool
is_past n None = false
is_past n (Some w) = nat_le n w

-- a split of more gates than cross, or a prefix value that is none
abbrev pub split_fault : List ℕ → ℕ → ℕ → Option ℕ → Option PlanFault
split_fault radices p r prefix =
    if nat_lt (length radices) (p + r) then Some (PrefixRoot (length radices))
    else (if is_past (path_count (take p radices)) prefix then Some (PrefixValue (path_count (take p radices)))
    else None)

-- too many ranges, or a journal of too many bytes
abbrev pub size_fault : ℕ → ℕ → Option PlanFault
size_fault ranges bytes =
    if nat_lt max_ranges ranges then Some (TooManyRanges ranges)
    else (if nat_lt max_journal_bytes bytes then Some (JournalTooLong bytes)
    else None)

-- the first fault, or that of the rest
abbrev pub or_else : Option PlanFault → Option PlanFault → Option PlanFault
or_else None rest = rest
or_else (Some f) rest = Some f

-- the first refusal of what is asked for
unfoldable pub first_fault : Circuit → List ℕ → ℕ → ℕ → Option ℕ → List ℕ → Option PlanFault
first_fault c items p r w bits =
    let j = job_of c items p r w bits in
    or_else (item_fault c.qubits [] items)
    (or_else (width_fault c.qubits (length j.part))
    (or_else (path_fault (job_radices j))
    (or_else (split_fault (job_radices j) p r w)
    (size_fault (ranges j) (journal_length j)))))

-- all pairs of a prefix and a root value, or the roots under the given prefix value
abbrev pub range_count : ℕ → ℕ → Option ℕ → ℕ
range_count prefixes roots None = prefixes * roots
range_count prefixes roots (Some w) = roots

-- ---- what a job keeps: it is valid, and its journal is not too long
pub record IsPlanned (j : Job) : Type 0 where
  pub valid : IsJob j
  pub short : journal_length j ≤ max_journal_bytes

-- the bitstrings that may be asked: at least one and not too many, each below 2^n
pub record AreBits (n : ℕ) (bits : List ℕ) : Type 0 where
  pub some : 1 ≤ length bits
  pub few : length bits ≤ max_bitstrings
  pub below : All (λ b. b < 2 ^ n) bits

-- a job before its ranges are counted, and the numbers of terms of its crossing gates
pub record IsDraft (j : Job) (radices : List ℕ) : Type 0 where
  pub valid : IsCircuit j.circuit
  pub is_rising : IsStrictlyIncreasing j.part
  pub in_circuit : All (λ q. q < j.circuit.qubits) j.part
  pub some_in_one : 1 ≤ length j.part
  pub some_in_two : length j.part < j.circuit.qubits
  pub narrow_one : length j.part ≤ max_part_qubits
  pub narrow_two : j.circuit.qubits ≤ length j.part + max_part_qubits
  pub radices_are : radices ≡ job_radices j
  pub known : All IsRadix radices
  pub few_crossing : length radices ≤ max_crossing
  pub few_paths : path_count radices ≤ 2 ^ max_path_bits
  pub is_split : j.p + j.r ≤ length radices
  pub has_prefix : ForSome j.prefix (λ w. w < path_count (take j.p radices))
  pub bits_are : AreBits j.circuit.qubits j.bits

-- what the code keeps of a job beside its parts
pub record Kept : Type 0 where
  pub radices : List ℕ
  pub prefixes : ℕ
  pub roots : ℕ
  pub per_range : ℕ
  pub text : List ℕ

pub record IsKept (j : Job) (k : Kept) : Type 0 where
  pub planned : IsPlanned j
  pub radices_are : k.radices ≡ job_radices j
  pub known : All IsRadix k.radices
  pub prefixes_are : k.prefixes ≡ prefixes j
  pub roots_are : k.roots ≡ roots j
  pub per_range_is : k.per_range ≡ per_range j
  pub text_is : k.text ≡ job_text j
