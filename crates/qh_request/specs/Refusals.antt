-- When a request is refused.
use Rattle.std.specs.Prelude.{◌≡◌, ℕ, ◌+◌, ◌<◌, ◌≤◌, ◌⊎◌, List, length, Bool, true, false, Option, Some, None, IsSome}
use Rattle.qh_limits.specs.Limits.{max_uncut_qubits, max_weight, max_circuit_bytes, max_bits_bytes}
use Rattle.qh_gates.specs.Circuits.{Circuit, total_weight}
use Rattle.qh_plan.specs.Items.{items_of, AreNumbers, IsItemFault}
use Rattle.qh_plan.specs.Plans.{first_fault}
use Rattle.qh_plan.specs.Jobs.{Job}
use Rattle.qh_plan.specs.declared.fault.PlanFault.{PlanFault}
use Rattle.qh_plan.specs.declared.fault.PlanFault.TheVariants.{PartText, PrefixRoot, PrefixValue, UncutTooWide as Wide, Memory as PlanMemory}
use Rattle.qh_limits.specs.Counts.{Rose}
use Rattle.qh_disk.specs.Disk.{Face}
use Rattle.qh_slots.specs.Record.{Keeping}
use Rattle.qh_slots.specs.Refusing.{RefusesJournal, RefusesOld}
use Rattle.qh_migrate.specs.Faults.{attach_of}
use Rattle.qh_words.specs.declared.options.Options.{Options}
use Rattle.qh_words.specs.declared.size.GenSize.{GenSize}
use Rattle.qh_request.specs.Seen.{Seen, Rises}
use Rattle.qh_request.specs.Chosen.{is_auto, asks_auto, HasNoCut}
use Rattle.qh_request.specs.Inputs.{IsCircuitFile, IsBitsFile, IsFaultyCircuit, AreFaultyBits, circuit_by, first_indices}
use Rattle.qh_request.specs.declared.stop.JournalRefusal.{JournalRefusal}
use Rattle.qh_request.specs.declared.stop.JournalRefusal.TheVariants.{OfJournal, OfOld}
use Rattle.qh_request.specs.declared.stop.Refusal.{Refusal}
use Rattle.qh_request.specs.declared.stop.Refusal.TheVariants.{CircuitTooLong, CircuitLine, BitsTooLong, BitsLine, Plan, ProbTooDeep, NoCut}

-- The text of part 1 is faulty, or else the plan has this first fault. The cheapest cut is an allowed one.
abbrev pub PartRefuses : Bool → List ℕ → Options → Circuit → List ℕ → PlanFault → Type 0
PartRefuses true part o c xs fault = ⊥
PartRefuses false part o c xs fault =
    IsItemFault (items_of part) fault ⊎ ((items : List ℕ) × AreNumbers (items_of part) items × (first_fault c items o.p o.r o.w xs ≡ Some fault))

-- Without a cut the circuit is too wide; with one part 1 or its plan is refused.
abbrev pub PlanRefusesBy : Option (List ℕ) → Options → Circuit → List ℕ → PlanFault → Type 0
PlanRefusesBy None o c xs fault = (fault ≡ Wide c.qubits) × (max_uncut_qubits < c.qubits)
PlanRefusesBy (Some part) o c xs fault = PartRefuses (is_auto part) part o c xs fault

abbrev pub PlanRefuses : Options → Circuit → List ℕ → PlanFault → Type 0
PlanRefuses o c xs fault = PlanRefusesBy o.part o c xs fault

-- probabilities are asked of an uncut circuit of at most 16 qubits that has this weight, above 120
pub record IsTooDeep (o : Options) (c : Circuit) (weight : ℕ) : Type 0 where
  pub asked : o.prob ≡ true
  pub uncut : o.part ≡ None
  pub narrow : c.qubits ≤ max_uncut_qubits
  pub weight_is : weight ≡ total_weight c.gates
  pub deep : max_weight < weight

-- a refusal of a circuit and basis indices that were read, or generated
abbrev pub CircuitRefuses : Options → Refusal → Circuit → List ℕ → Type 0
CircuitRefuses o (Plan fault) c xs = PlanRefuses o c xs fault
CircuitRefuses o (ProbTooDeep weight) c xs = IsTooDeep o c weight
CircuitRefuses o NoCut c xs = HasNoCut o c xs
CircuitRefuses o _ c xs = ⊥

-- Both files are accepted, and P holds of what they hold. Told says what is claimed of a source's content: IfSome claims nothing where it is not told, and
-- IsSomeAnd claims that it is told.
abbrev pub FilesHold : (Option (List ℕ) → (List ℕ → Type 0) → Type 0) → ℕ → (Circuit → List ℕ → Type 0) → Option (List ℕ) → Option (List ℕ) → Type 0
FilesHold Told T P circuit bits = Told circuit (λ text. (c : Circuit) × IsCircuitFile T c text × Told bits (λ bytes. (xs : List ℕ) × IsBitsFile c xs bytes × P c xs))

-- a refusal of two files, by what the sources hold
abbrev pub FilesRefuse : (Option (List ℕ) → (List ℕ → Type 0) → Type 0) → Options → Refusal → Option (List ℕ) → Option (List ℕ) → Type 0
FilesRefuse Told o CircuitTooLong circuit bits = Told circuit (λ bytes. max_circuit_bytes < length bytes)
FilesRefuse Told o (CircuitLine line why) circuit bits = Told circuit (IsFaultyCircuit o.max_time line why)
FilesRefuse Told o BitsTooLong circuit bits = Told circuit (λ text. (c : Circuit) × IsCircuitFile o.max_time c text × Told bits (λ bytes. max_bits_bytes < length bytes))
FilesRefuse Told o (BitsLine line why) circuit bits = Told circuit (λ text. (c : Circuit) × IsCircuitFile o.max_time c text × Told bits (AreFaultyBits c line why))
FilesRefuse Told o (Plan fault) circuit bits = FilesHold Told o.max_time (CircuitRefuses o (Plan fault)) circuit bits
FilesRefuse Told o (ProbTooDeep weight) circuit bits = FilesHold Told o.max_time (CircuitRefuses o (ProbTooDeep weight)) circuit bits
FilesRefuse Told o NoCut circuit bits = FilesHold Told o.max_time (CircuitRefuses o NoCut) circuit bits

-- a refusal of a generated circuit
abbrev pub SizeRefuses : Options → GenSize → Refusal → Type 0
SizeRefuses o size r = CircuitRefuses o r (circuit_by size) (first_indices (circuit_by size).qubits)

abbrev pub RefusesBy : Option GenSize → (Option (List ℕ) → (List ℕ → Type 0) → Type 0) → Options → Refusal → Option (List ℕ) → Option (List ℕ) → Type 0
RefusesBy None Told o r circuit bits = FilesRefuse Told o r circuit bits
RefusesBy (Some size) Told o r circuit bits = SizeRefuses o size r

abbrev pub Refuses : (Option (List ℕ) → (List ℕ → Type 0) → Type 0) → Options → Refusal → Option (List ℕ) → Option (List ℕ) → Type 0
Refuses Told o r circuit bits = RefusesBy o.generated Told o r circuit bits

-- one of the sources that a refusal of files rests on rose its count
abbrev pub FilesReading : Seen → Seen → Refusal → Type 0
FilesReading circuit bits CircuitTooLong = Rises circuit
FilesReading circuit bits (CircuitLine line why) = Rises circuit
FilesReading circuit bits _ = Rises circuit ⊎ Rises bits

-- a generated circuit rests on no source
abbrev pub ReadingBy : Option GenSize → Seen → Seen → Refusal → Type 0
ReadingBy None circuit bits r = FilesReading circuit bits r
ReadingBy (Some size) circuit bits r = ⊥

abbrev pub Reading : Options → Seen → Seen → Refusal → Type 0
Reading o circuit bits r = ReadingBy o.generated circuit bits r

-- a source that the request reads rose its count; a generated circuit reads none
abbrev pub SourceRises : Option GenSize → Seen → Seen → Type 0
SourceRises None circuit bits = Rises circuit ⊎ Rises bits
SourceRises (Some size) circuit bits = ⊥

-- ---- what rests on the words alone, whatever the sources tell
-- these options are refused over every circuit and all basis indices, as where the text of part 1 is no list of numbers
abbrev pub RefusesAll : Options → Type 0
RefusesAll o = (c : Circuit) (xs : List ℕ) → (r : Refusal) × CircuitRefuses o r c xs

-- a first fault of the plan by the split and the prefix value that are asked for
abbrev pub IsOfSplit : ℕ → ℕ → Option ℕ → PlanFault → Type 0
IsOfSplit p r w (PartText item) = ⊥
IsOfSplit p r w (Wide qubits) = ⊥
IsOfSplit p r w PlanMemory = ⊥
IsOfSplit p r w (PrefixRoot crossing) = 0 < p + r
IsOfSplit p r w (PrefixValue prefixes) = IsSome w
IsOfSplit p r w fault = Unit {0}

-- The text of part 1 is faulty, or else a list of numbers.
abbrev pub IsOfPart : Bool → List ℕ → Options → PlanFault → Type 0
IsOfPart true part o fault = ⊥
IsOfPart false part o fault =
    IsItemFault (items_of part) fault ⊎ ((items : List ℕ) × AreNumbers (items_of part) items × IsOfSplit o.p o.r o.w fault)

-- Without a cut the circuit is too wide; with one the refusal is of its part 1 or of its split.
abbrev pub IsOfCut : Option (List ℕ) → Options → PlanFault → Type 0
IsOfCut None o fault = (qubits : ℕ) × (fault ≡ Wide qubits)
IsOfCut (Some part) o fault = IsOfPart (is_auto part) part o fault

-- what a refusal says of the words: the plan's of the cut, a circuit too deep that probabilities are asked, and any other that the texts are files
abbrev pub IsOfWords : Options → Refusal → Type 0
IsOfWords o (Plan fault) = IsOfCut o.part o fault
IsOfWords o (ProbTooDeep weight) = (o.prob ≡ true) × (o.part ≡ None)
IsOfWords o NoCut = asks_auto o.part ≡ true
IsOfWords o r = o.generated ≡ None

-- ---- the journals
-- the journal of the run is refused, or the old one that is to be taken over
abbrev pub JournalRefuses : (Option (List ℕ) → (List ℕ → Type 0) → Type 0) → Keeping → Job → Face → Face → JournalRefusal → Type 0
JournalRefuses Told k j disk old (OfJournal r) = (k.kept ≡ true) × RefusesJournal Told k j disk r
JournalRefuses Told k j disk old (OfOld r) = (k.kept ≡ true) × RefusesOld Told k j disk old (attach_of r)

-- the count of the journal's disk rose, or that of an old journal that is to be taken over; a run without a journal calls on neither
abbrev pub DisksRise : Keeping → Face → Face → Face → Face → Type 0
DisksRise k disk after old old_after = (k.kept ≡ true) × (Rose disk.faults after.faults ⊎ ((k.taking ≡ true) × Rose old.faults old_after.faults))
