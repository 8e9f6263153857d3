-- How a request is answered.
use Rattle.std.specs.Prelude.{◌≡◌, ℕ, ◌<◌, ◌≤◌, ◌⊎◌, true, false, List, length, Some, None, Option, IfSome, IsSomeAnd, take}
use Rattle.std.specs.Io.KnownBytes.{Appends}
use Rattle.qh_limits.specs.Limits.{max_uncut_qubits, max_weight}
use Rattle.qh_limits.specs.Counts.{RoseBy}
use Rattle.qh_gates.specs.Circuits.{Circuit, total_weight}
use Rattle.qh_gates.specs.Evolution.{IsUncutOver}
use Rattle.qh_plan.specs.Jobs.{Job}
use Rattle.qh_plan.specs.Verdicts.{total}
use Rattle.qh_plan.specs.declared.verdict.Verdict.{Verdict}
use Rattle.qh_plan.specs.declared.verdict.Verdict.TheVariants.{Over}
use Rattle.qh_plan.specs.Values.{run_value}
use Rattle.qh_disk.specs.Disk.{Face}
use Rattle.qh_slots.specs.Stands.{Slots, slot_at}
use Rattle.qh_slots.specs.Record.{Keeping, slots_before, count_bare, IsEnd, IsFull}
use Rattle.qh_slots.specs.Moments.{BeginsTrue}
use Rattle.qh_slots.specs.Keeps.{IsWhole}
use Rattle.qh_slots.specs.Refusing.{Accepts}
use Rattle.qh_words.specs.declared.options.Options.{Options}
use Rattle.qh_request.specs.Seen.{Seen, Rises}
use Rattle.qh_request.specs.Inputs.{IsInput, HasInput, asked_strings}
use Rattle.qh_request.specs.Jobs.{Asks, Takes, keeping, job_strings}
use Rattle.qh_request.specs.Answer.{IsAnswer, IsJobText}
use Rattle.qh_request.specs.Refusals.{Refuses, RefusesAll, SourceRises, JournalRefuses, DisksRise}
use Rattle.qh_request.specs.declared.stop.Refusal.{Refusal}
use Rattle.qh_request.specs.declared.stop.JournalRefusal.{JournalRefusal}

-- a status with which the whole run was computed: the answer was written, or it is over, or the output failed
abbrev pub RunIsWhole : ℕ → Type 0
RunIsWhole status = (status ≡ 0) ⊎ ((status ≡ 3) ⊎ (status ≡ 6))

-- a status with which the call ends before it comes to a job
abbrev pub EndsEarly : ℕ → Type 0
EndsEarly status = (status ≡ 1) ⊎ ((status ≡ 2) ⊎ (status ≡ 4))

-- what is asked for went to a sink: all of it, or a front. `after` is the disk of the journal when the call ends.
pub record Prints (o : Options) (circuit bits out : Seen) (after : Face) (front : List ℕ → List ℕ) : Type 0 where
  pub value : Circuit
  pub indices : List ℕ
  pub input : IsInput o.generated o.max_time circuit bits value indices
  pub text : List ℕ
  pub answer : IsAnswer o after value (asked_strings o.generated o.max_time circuit bits value indices input) text
  pub went : Appends out.before out.after (front text)

-- the sink failed behind the first n bytes of the text
abbrev pub BreaksOff : Options → Seen → Seen → Seen → Face → ℕ → Type 0
BreaksOff o circuit bits out after n = Rises out × ((p : Prints o circuit bits out after (take n)) × (n < length p.text))

-- what the job alone asks for: with status 0 the text of its amplitudes went to the sink, with status 6 a front of it, and with status 3 a path of its run is over
pub record PrintsAsked (o : Options) (j : Job) (out : Seen) (status : ℕ) : Type 0 where
  pub whole : status ≡ 0 → (text : List ℕ) × IsJobText o.generated j (job_strings j) text × Appends out.before out.after text
  pub front : status ≡ 6 → (text : List ℕ) × (n : ℕ) × IsJobText o.generated j (job_strings j) text × Appends out.before out.after (take n text)
  pub over : status ≡ 3 → (path : ℕ) × (run_value j ≡ Over path)

-- uncut, a coefficient first reaches 2^126 after this gate; under --prob none does
pub record OverflowsAt (o : Options) (circuit bits : Seen) (gate : ℕ) : Type 0 where
  pub value : Circuit
  pub indices : List ℕ
  pub input : IsInput o.generated o.max_time circuit bits value indices
  pub uncut : o.part ≡ None
  pub amplitudes : o.prob ≡ false
  pub narrow : value.qubits ≤ max_uncut_qubits
  pub over : IsUncutOver value gate

-- cut, the total of the slots that the call ends with is over with this path; where no journal is kept, it is the value of the run
pub record OverflowsOn (o : Options) (circuit bits : Seen) (after : Face) (path : ℕ) : Type 0 where
  pub job : Job
  pub taken : Takes o circuit bits job
  pub slots : Slots
  pub ended : IsEnd (keeping o) job after slots
  pub full : IsFull job slots
  pub over : total job (slot_at slots) ≡ Over path
  pub unkept : o.journal ≡ None → run_value job ≡ Over path

-- ---- the whole run of a job
-- The whole run is recorded, with this total: no journal was refused. What Granted says of a number of granted ranges holds of those that had no slot. Without a
-- journal the total is the value of the run.
pub record IsRun (k : Keeping) (j : Job) (old disk after : Face) (Granted : ℕ → Type 0) (verdict : Verdict) : Type 0 where
  pub whole : IsWhole k j old disk after verdict
  pub accepted : (r : JournalRefusal) → ¬ JournalRefuses (λ known P. IsSomeAnd known P) k j disk old r
  pub granted : IfSome (slots_before k j disk old) (λ s0. Granted (count_bare j s0))
  pub unkept : k.kept ≡ false → verdict ≡ run_value j

-- The call came to a job and made its whole run; what went out is what that job asks for where the slots at entry were true.
pub record EndsWholeBy (o : Options) (circuit bits out : Seen) (disk after old : Face) (Granted : ℕ → Type 0) (status : ℕ) : Type 0 where
  pub job : Job
  pub taken : Takes o circuit bits job
  pub verdict : Verdict
  pub run : IsRun (keeping o) job old disk after Granted verdict
  pub exact : BeginsTrue (keeping o) job disk old → PrintsAsked o job out status

-- the same of a timer that heard of each grant: this many counts before the call, and after it
abbrev pub EndsWhole : Options → Seen → Seen → Seen → Face → Face → Face → ℕ → ℕ → ℕ → Type 0
EndsWhole o circuit bits out disk after old grants grants_after status =
    EndsWholeBy o circuit bits out disk after old (λ n. RoseBy n grants grants_after) status

-- the timer heard of so many grants
abbrev pub HeardOf : ℕ → ℕ → ℕ → Type 0
HeardOf before after n = RoseBy n before after

-- nothing is said of a number of granted ranges
abbrev pub AnyGrants : ℕ → Type 0
AnyGrants n = Unit {0}

-- ---- faults, and what is answered without one
-- a count of what words call on rose: of a source that they read, the output or a disk; words that are no request call on nothing
abbrev pub FaultCame : Option Options → Seen → Seen → Seen → Face → Face → Face → Face → Type 0
FaultCame None circuit bits out disk after old old_after = ⊥
FaultCame (Some o) circuit bits out disk after old old_after =
    SourceRises o.generated circuit bits ⊎ (Rises out ⊎ DisksRise (keeping o) disk after old old_after)

-- a fault of the outside came first: of a source that is read, or of one of the disks
abbrev pub FaultFirst : Options → Seen → Seen → Face → Face → Face → Face → ℕ → Type 0
FaultFirst o circuit bits disk after old old_after status =
    ((status ≡ 4) × SourceRises o.generated circuit bits) ⊎ ((status ≡ 5) × DisksRise (keeping o) disk after old old_after)

-- How words are answered where no fault came: the sources and the disks held this at entry, as far as they tell. A refusal that rests on the words alone, and
-- a generated circuit, ask nothing of what the sources tell.
pub record Answers (asked : Option Options) (circuit bits : Option (List ℕ)) (disk old : Face) (status : ℕ) : Type 0 where
  pub usage : asked ≡ None → (status ≡ 1) ⊎ (status ≡ 7)
  pub refused : (o : Options) → asked ≡ Some o → (r : Refusal) → Refuses (λ known P. IsSomeAnd known P) o r circuit bits → (status ≡ 2) ⊎ (status ≡ 7)
  pub refused_by_words : (o : Options) → asked ≡ Some o → RefusesAll o → (status ≡ 2) ⊎ (status ≡ 7)
  pub journal_refused : (o : Options) (j : Job) → Asks asked circuit bits o j
      → (r : JournalRefusal) → JournalRefuses (λ known P. IsSomeAnd known P) (keeping o) j disk old r → (status ≡ 8) ⊎ (status ≡ 7)
  pub uncut : (o : Options) → asked ≡ Some o → (c : Circuit) (xs : List ℕ) → HasInput o.generated o.max_time circuit bits c xs
      → o.part ≡ None → o.prob ≡ false → c.qubits ≤ max_uncut_qubits → (status ≡ 0) ⊎ ((status ≡ 3) ⊎ (status ≡ 7))
  pub prob : (o : Options) → asked ≡ Some o → (c : Circuit) (xs : List ℕ) → HasInput o.generated o.max_time circuit bits c xs
      → o.part ≡ None → o.prob ≡ true → c.qubits ≤ max_uncut_qubits → total_weight c.gates ≤ max_weight → (status ≡ 0) ⊎ (status ≡ 7)
  pub cut : (o : Options) (j : Job) → Asks asked circuit bits o j → Accepts (keeping o) j disk old → (status ≡ 0) ⊎ ((status ≡ 3) ⊎ (status ≡ 7))
