-- When a call may end otherwise than with status 0, and that it says so.
use Rattle.std.specs.Prelude.{◌≡◌, ◌⊎◌, ℕ, List, [], ◌++◌, Bool, true, false, IfSome, Option, Some, None}
use Rattle.std.specs.Io.KnownBytes.{Appends}
use Rattle.qh_gates.specs.Circuits.{Circuit}
use Rattle.qh_plan.specs.Jobs.{Job}
use Rattle.qh_disk.specs.Disk.{Face}
use Rattle.qh_words.specs.declared.options.Options.{Options}
use Rattle.qh_request.specs.Seen.{Seen, Rises}
use Rattle.qh_request.specs.declared.stop.Input.TheVariants.{OfCircuit, OfBits}
use Rattle.qh_request.specs.declared.stop.Stop.{Stop}
use Rattle.qh_request.specs.declared.stop.Stop.TheVariants.{Usage, Refused, OverflowGate, OverflowPath, ReadFault, DiskFault, WriteFault, Memory, Journal}
use Rattle.qh_request.specs.Stops.{status_of, message_of, Says}
use Rattle.qh_planner.specs.Cuts.{IsTable}
use Rattle.qh_planner.specs.Spelling.{table_text}
use Rattle.qh_planner.specs.declared.row.CutRow.{CutRow}
use Rattle.qh_request.specs.declared.stop.Refusal.TheVariants.{CircuitTooLong, CircuitLine, BitsTooLong, BitsLine}
use Rattle.qh_request.specs.Chosen.{asks_auto, cut_asked}
use Rattle.qh_request.specs.Inputs.{IsCircuitFile, IsInput}
use Rattle.qh_request.specs.Jobs.{Takes, keeping}
use Rattle.qh_request.specs.Refusals.{Refuses, IsOfWords, JournalRefuses, DisksRise}
use Rattle.qh_request.specs.Request.{BreaksOff, OverflowsAt, OverflowsOn}

-- when the call may stop so, by the options: `after` and `old_after` are the two disks when it ends
abbrev pub MayStopBy : Options → Seen → Seen → Seen → Face → Face → Face → Face → Stop → Type 0
MayStopBy o circuit bits out disk after old old_after Usage = ⊥
MayStopBy o circuit bits out disk after old old_after (Refused r) = IsOfWords o r × Refuses (λ known P. IfSome known P) o r circuit.before bits.before
MayStopBy o circuit bits out disk after old old_after (OverflowGate gate) = OverflowsAt o circuit bits gate
MayStopBy o circuit bits out disk after old old_after (OverflowPath path) = OverflowsOn o circuit bits after path
MayStopBy o circuit bits out disk after old old_after (ReadFault OfCircuit) = (o.generated ≡ None) × Rises circuit
MayStopBy o circuit bits out disk after old old_after (ReadFault OfBits) =
    (o.generated ≡ None) × Rises bits × IfSome circuit.before (λ text. (c : Circuit) × IsCircuitFile o.max_time c text)
MayStopBy o circuit bits out disk after old old_after DiskFault = ((j : Job) × Takes o circuit bits j) × DisksRise (keeping o) disk after old old_after
MayStopBy o circuit bits out disk after old old_after (WriteFault n) = BreaksOff o circuit bits out after n
MayStopBy o circuit bits out disk after old old_after Memory = Unit {0}
MayStopBy o circuit bits out disk after old old_after (Journal r) =
    (j : Job) × Takes o circuit bits j × JournalRefuses (λ known P. IfSome known P) (keeping o) j disk old r

-- words that are no request stop for usage or want of memory, and others for a cause of their options
abbrev pub MayStop : Option Options → Seen → Seen → Seen → Face → Face → Face → Face → Stop → Type 0
MayStop None circuit bits out disk after old old_after Usage = Unit {0}
MayStop None circuit bits out disk after old old_after Memory = Unit {0}
MayStop None circuit bits out disk after old old_after _ = ⊥
MayStop (Some o) circuit bits out disk after old old_after stop = MayStopBy o circuit bits out disk after old old_after stop

-- ---- what the error sink gets
-- the text of the table of cuts of the input that the call took
pub record HasTable (o : Options) (circuit bits : Seen) (table : List ℕ) : Type 0 where
  pub value : Circuit
  pub indices : List ℕ
  pub input : IsInput o.generated o.max_time circuit bits value indices
  pub rows : List CutRow
  pub is_table : IsTable (cut_asked o value indices) rows
  pub text_is : table ≡ table_text rows

-- it is told where the cheapest cut is asked for
abbrev pub IsTableText : Bool → Options → Seen → Seen → List ℕ → Type 0
IsTableText true o circuit bits table = HasTable o circuit bits table
IsTableText false o circuit bits table = table ≡ []

-- what is told before the line of a stop: nothing where the call stops before it has its input
abbrev pub IsBefore : Options → Seen → Seen → Stop → List ℕ → Type 0
IsBefore o circuit bits Usage table = table ≡ []
IsBefore o circuit bits (Refused CircuitTooLong) table = table ≡ []
IsBefore o circuit bits (Refused (CircuitLine line why)) table = table ≡ []
IsBefore o circuit bits (Refused BitsTooLong) table = table ≡ []
IsBefore o circuit bits (Refused (BitsLine line why)) table = table ≡ []
IsBefore o circuit bits (ReadFault input) table = table ≡ []
IsBefore o circuit bits Memory table = (table ≡ []) ⊎ IsTableText (asks_auto o.part) o circuit bits table
IsBefore o circuit bits _ table = IsTableText (asks_auto o.part) o circuit bits table

-- what the sink got so far is this text: all of it where it took all, and else a front
pub record IsSaid (err : Seen) (open_still : Bool) (text : List ℕ) : Type 0 where
  pub says : Says err text
  pub whole : open_still ≡ true → Appends err.before err.after text
  pub cause : open_still ≡ false → Rises err

-- so far the table or nothing, as the stop asks, before its line
abbrev pub SaysBefore : Options → Seen → Seen → Seen → Bool → Stop → Type 0
SaysBefore o circuit bits err open_still stop = (table : List ℕ) × IsBefore o circuit bits stop table × IsSaid err open_still table

-- the table, where there is one, and the line of the stop: a front of them, and all of them where the count of the sink did not rise
abbrev pub Tells : Option Options → Seen → Seen → Seen → Stop → Type 0
Tells None circuit bits err stop = Says err (message_of stop)
Tells (Some o) circuit bits err stop = (table : List ℕ) × IsBefore o circuit bits stop table × Says err (table ++ message_of stop)

-- with status 0 the table alone, where there is one
abbrev pub TellsTable : Bool → Options → Seen → Seen → Seen → Type 0
TellsTable true o circuit bits err = (table : List ℕ) × HasTable o circuit bits table × Says err table
TellsTable false o circuit bits err = Unit {0}

-- the call stopped, for a cause, with its status, and said so
pub record Stops (status : ℕ) (May : Stop → Type 0) (Told : Stop → Type 0) : Type 0 where
  pub stop : Stop
  pub status_is : status ≡ status_of stop
  pub cause : May stop
  pub told : Told stop
