-- How a call may end otherwise, and what it says then.
use Rattle.std.specs.Prelude.{ℕ, ◌≤◌, List, [], ◌++◌, take, codes, decimal, Option, Some, None}
use Rattle.std.specs.Io.KnownBytes.{Appends}
use Rattle.qh_circuit.specs.declared.fault.Why.{Why}
use Rattle.qh_circuit.specs.declared.fault.Why.TheVariants.{NoCount, BadCount, BadTime, UnknownGate, BadQubit, SameQubit, Extra, TimeBack, Overlap, TooManyGates}
use Rattle.qh_bits.specs.declared.faults.BitsWhy.{BitsWhy}
use Rattle.qh_bits.specs.declared.faults.BitsWhy.TheVariants.{NoStrings, TooMany, Letter, Length}
use Rattle.qh_plan.specs.declared.fault.PlanFault.{PlanFault}
use Rattle.qh_plan.specs.declared.fault.PlanFault.TheVariants.{PartText, NoSuchQubit, QubitTwice, EmptyPart, PartTooWide, TooManyCrossing, TooManyPaths, PrefixRoot, PrefixValue, TooManyRanges, JournalTooLong, UncutTooWide, Memory as PlanMemory}
use Rattle.qh_planner.specs.Spelling.{fault_text}
use Rattle.qh_slots.specs.declared.fault.AttachFault.{AttachFault}
use Rattle.qh_slots.specs.declared.fault.AttachFault.TheVariants.{DiskFault as AttachDisk, Empty, Unbegun, OldJournal, NotAJournal, OtherJob, BadLength, BadSlot, Memory as AttachMemory}
use Rattle.qh_migrate.specs.Faults.{attach_of}
use Rattle.qh_request.specs.Seen.{Seen, Rises}
use Rattle.qh_request.specs.declared.stop.Refusal.{Refusal}
use Rattle.qh_request.specs.declared.stop.Refusal.TheVariants.{CircuitTooLong, CircuitLine, BitsTooLong, BitsLine, Plan, ProbTooDeep, NoCut}
use Rattle.qh_request.specs.declared.stop.Input.{Input}
use Rattle.qh_request.specs.declared.stop.Input.TheVariants.{OfCircuit, OfBits}
use Rattle.qh_request.specs.declared.stop.JournalRefusal.{JournalRefusal}
use Rattle.qh_request.specs.declared.stop.JournalRefusal.TheVariants.{OfJournal, OfOld}
use Rattle.qh_request.specs.declared.stop.Stop.{Stop}
use Rattle.qh_request.specs.declared.stop.Stop.TheVariants.{Usage, Refused, OverflowGate, OverflowPath, ReadFault, DiskFault, WriteFault, Memory, Journal}

abbrev pub status_of : Stop → ℕ
status_of Usage = 1
status_of (Refused r) = 2
status_of (OverflowGate gate) = 3
status_of (OverflowPath path) = 3
status_of (ReadFault input) = 4
status_of DiskFault = 5
status_of (WriteFault n) = 6
status_of Memory = 7
status_of (Journal r) = 8

-- the end of the line that names a faulty line of a circuit text
abbrev pub circuit_why : Why → List ℕ
circuit_why NoCount = codes ": NoCount\n"
circuit_why BadCount = codes ": BadCount\n"
circuit_why BadTime = codes ": BadTime\n"
circuit_why UnknownGate = codes ": UnknownGate\n"
circuit_why BadQubit = codes ": BadQubit\n"
circuit_why SameQubit = codes ": SameQubit\n"
circuit_why Extra = codes ": Extra\n"
circuit_why TimeBack = codes ": TimeBack\n"
circuit_why Overlap = codes ": Overlap\n"
circuit_why TooManyGates = codes ": TooManyGates\n"

abbrev pub bits_why : BitsWhy → List ℕ
bits_why NoStrings = codes ": NoStrings\n"
bits_why TooMany = codes ": TooMany\n"
bits_why Letter = codes ": Letter\n"
bits_why Length = codes ": Length\n"

-- the digits of a number that may be absent
abbrev pub number_text : Option ℕ → List ℕ
number_text None = []
number_text (Some n) = decimal n

abbrev pub refusal_line : Refusal → List ℕ
refusal_line CircuitTooLong = codes "refused: circuit too long\n"
refusal_line (CircuitLine line why) = codes "refused: circuit line " ++ decimal line ++ circuit_why why
refusal_line BitsTooLong = codes "refused: bitstrings too long\n"
refusal_line (BitsLine line why) = codes "refused: bitstrings line " ++ decimal line ++ bits_why why
refusal_line (Plan fault) = codes "refused: plan: " ++ (fault_text fault ++ codes "\n")
refusal_line (ProbTooDeep weight) = codes "refused: plan: ProbTooDeep " ++ decimal weight ++ codes "\n"
refusal_line NoCut = codes "refused: plan: NoCut\n"

abbrev pub fault_line : Input → List ℕ
fault_line OfCircuit = codes "read fault: circuit\n"
fault_line OfBits = codes "read fault: bitstrings\n"

-- a refusal of a journal: its name, and its number where it has one
abbrev pub attach_name : AttachFault → List ℕ
attach_name AttachDisk = codes "DiskFault"
attach_name Empty = codes "Empty"
attach_name Unbegun = codes "Unbegun"
attach_name OldJournal = codes "OldJournal"
attach_name NotAJournal = codes "NotAJournal"
attach_name (OtherJob place) = codes "OtherJob at "
attach_name (BadLength found) = codes "BadLength "
attach_name (BadSlot range) = codes "BadSlot "
attach_name AttachMemory = codes "Memory"

abbrev pub attach_number : AttachFault → List ℕ
attach_number (OtherJob place) = decimal place
attach_number (BadLength found) = decimal found
attach_number (BadSlot range) = decimal range
attach_number _ = []

abbrev pub attach_text : AttachFault → List ℕ
attach_text r = attach_name r ++ attach_number r ++ codes "\n"

abbrev pub journal_line : JournalRefusal → List ℕ
journal_line (OfJournal r) = codes "journal: " ++ attach_text r
journal_line (OfOld r) = codes "old journal: " ++ attach_text (attach_of r)

abbrev pub usage_line : List ℕ
usage_line = codes "usage: qsimh_amplitudes -c FILE -i FILE [-d T] [-k LIST] [-p N] [-r N] [-w N] [-o FILE] [-t N] [-v N] [-j FILE] [-l SECONDS] [--new] [-g S,R,C,D]\n"

-- the one line that tells why
abbrev pub message_of : Stop → List ℕ
message_of Usage = usage_line
message_of (Refused r) = refusal_line r
message_of (OverflowGate gate) = codes "overflow: gate " ++ decimal gate ++ codes "\n"
message_of (OverflowPath path) = codes "overflow: path " ++ decimal path ++ codes "\n"
message_of (ReadFault input) = fault_line input
message_of DiskFault = codes "disk fault\n"
message_of (WriteFault n) = codes "write fault after " ++ decimal n ++ codes " bytes\n"
message_of Memory = codes "out of memory\n"
message_of (Journal r) = journal_line r

-- a sink got a front of a line, and the whole line where its count did not rise
pub record Says (err : Seen) (line : List ℕ) : Type 0 where
  pub later : err.faults ≤ err.faults_after
  pub front : (n : ℕ) × Appends err.before err.after (take n line)
  pub whole : (Rises err → ⊥) → Appends err.before err.after line

-- where a plan is refused, and for want of memory
abbrev pub stop_of : PlanFault → Stop
stop_of PlanMemory = Memory
stop_of fault = Refused (Plan fault)
