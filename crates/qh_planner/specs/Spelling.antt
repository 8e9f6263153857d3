-- How a refusal of a plan and a table of cuts are spelled.
use Rattle.std.specs.Prelude.{ℕ, List, [], ◌∷◌, ◌++◌, codes, decimal, Option, Some, None}
use Rattle.std.specs.List.{flat_map}
use Rattle.qh_text.specs.Words.{word_of}
use Rattle.qh_plan.specs.declared.fault.PlanFault.{PlanFault}
use Rattle.qh_plan.specs.declared.fault.PlanFault.TheVariants.{PartText, NoSuchQubit, QubitTwice, EmptyPart, PartTooWide, TooManyCrossing, TooManyPaths, PrefixRoot, PrefixValue, TooManyRanges, JournalTooLong, UncutTooWide, Memory}
use Rattle.qh_planner.specs.declared.row.CutAnswer.{CutAnswer}
use Rattle.qh_planner.specs.declared.row.CutAnswer.TheVariants.{Allowed, Refused}
use Rattle.qh_planner.specs.declared.row.CutRow.{CutRow}

-- ---- a refusal of a plan

abbrev pub fault_name : PlanFault → List ℕ
fault_name (PartText item) = codes "PartText"
fault_name (NoSuchQubit qubit) = codes "NoSuchQubit"
fault_name (QubitTwice qubit) = codes "QubitTwice"
fault_name EmptyPart = codes "EmptyPart"
fault_name (PartTooWide qubits) = codes "PartTooWide"
fault_name (TooManyCrossing count) = codes "TooManyCrossing"
fault_name (TooManyPaths log2) = codes "TooManyPaths"
fault_name (PrefixRoot crossing) = codes "PrefixRoot"
fault_name (PrefixValue prefixes) = codes "PrefixValue"
fault_name (TooManyRanges ranges) = codes "TooManyRanges"
fault_name (JournalTooLong bytes) = codes "JournalTooLong"
fault_name (UncutTooWide qubits) = codes "UncutTooWide"
fault_name Memory = codes "Memory"

abbrev pub fault_number : PlanFault → Option ℕ
fault_number (PartText item) = Some item
fault_number (NoSuchQubit qubit) = Some qubit
fault_number (QubitTwice qubit) = Some qubit
fault_number EmptyPart = None
fault_number (PartTooWide qubits) = Some qubits
fault_number (TooManyCrossing count) = Some count
fault_number (TooManyPaths log2) = Some log2
fault_number (PrefixRoot crossing) = Some crossing
fault_number (PrefixValue prefixes) = Some prefixes
fault_number (TooManyRanges ranges) = Some ranges
fault_number (JournalTooLong bytes) = Some bytes
fault_number (UncutTooWide qubits) = Some qubits
fault_number Memory = None

-- a space and the number, where there is one
abbrev pub number_word : Option ℕ → List ℕ
number_word None = []
number_word (Some number) = word_of (decimal number)

-- the name, and the number where the refusal has one
abbrev pub fault_text : PlanFault → List ℕ
fault_text fault = fault_name fault ++ number_word (fault_number fault)

-- ---- a table of cuts

-- the power of 2 that counts the paths, and the cost; or the refusal
abbrev pub answer_text : CutAnswer → List ℕ
answer_text (Allowed log2 units) = word_of (decimal log2) ++ word_of (decimal units)
answer_text (Refused fault) = word_of (fault_text fault)

-- cut m c cost, or cut m and the refusal
abbrev pub row_line : CutRow → List ℕ
row_line row = codes "cut" ++ word_of (decimal row.size) ++ answer_text row.answer ++ 10 ∷ []

-- a line for each row, in their order
abbrev pub table_text : List CutRow → List ℕ
table_text rows = flat_map row_line rows
