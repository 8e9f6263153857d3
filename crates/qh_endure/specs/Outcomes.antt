-- What runs over a journal in memory come to.
use Rattle.std.specs.Prelude.{◌≡◌, ◌≢◌, ◌⊎◌, ℕ, ◌≤◌, List, ◌++◌, false, Option, Some, None, IsSome, IsSomeAnd}
use Rattle.qh_limits.specs.Counts.{Rose}
use Rattle.qh_plan.specs.Jobs.{Job}
use Rattle.qh_plan.specs.declared.verdict.Verdict.TheVariants.{Over}
use Rattle.qh_plan.specs.Values.{run_value}
use Rattle.qh_io.specs.Memory.{Tray}
use Rattle.qh_disk.specs.Disk.{Face}
use Rattle.qh_disk.specs.History.{History, content_of, face_of}
use Rattle.qh_disk.specs.Moments.{EachImageSince, Runs}
use Rattle.qh_slots.specs.Stands.{Made}
use Rattle.qh_slots.specs.Attaching.{first_refusal}
use Rattle.qh_slots.specs.declared.fault.AttachFault.{AttachFault}
use Rattle.qh_slots.specs.declared.fault.AttachFault.TheVariants.{Empty}
use Rattle.qh_words.specs.declared.options.Options.{Options}
use Rattle.qh_request.specs.Jobs.{Asks, job_strings}
use Rattle.qh_request.specs.Answer.{IsJobText}
use Rattle.qh_request.specs.Refusals.{Refuses}
use Rattle.qh_request.specs.declared.stop.Refusal.{Refusal}

-- the circuit is cut, and a journal is kept that takes over no old one
pub record KeepsOwnJournal (o : Options) : Type 0 where
  pub cut : IsSome o.part
  pub kept : IsSome o.journal
  pub alone : o.from ≡ None

-- each image of the disk since moment t was made by runs of the job that is asked for
abbrev pub IsMadeSince : Option Options → List ℕ → List ℕ → ℕ → Face → Type 0
IsMadeSince asked circuit bits t d = (o : Options) (j : Job) → Asks asked (Some circuit) (Some bits) o j → EachImageSince t d (Made j)

-- and each image that it has now
abbrev pub IsMadeNow : Option Options → List ℕ → List ℕ → Face → Type 0
IsMadeNow asked circuit bits d = IsMadeSince asked circuit bits d.clock d

-- what a sink holds ends with the text of the job that is asked for
pub record EndsWithAnswer (asked : Option Options) (circuit bits held : List ℕ) : Type 0 where
  pub options : Options
  pub job : Job
  pub asks : Asks asked (Some circuit) (Some bits) options job
  pub text : List ℕ
  pub is_text : IsJobText options.generated job (job_strings job) text
  pub earlier : List ℕ
  pub ends : held ≡ earlier ++ text

-- the words are a request that is refused
pub record IsRefused (asked : Option Options) (circuit bits : List ℕ) : Type 0 where
  pub options : Options
  pub request_is : asked ≡ Some options
  pub refusal : Refusal
  pub refuses : Refuses (λ known P. IsSomeAnd known P) options refusal (Some circuit) (Some bits)

-- the value of the whole run of the job that is asked for is over
pub record IsOver (asked : Option Options) (circuit bits : List ℕ) : Type 0 where
  pub options : Options
  pub job : Job
  pub asks : Asks asked (Some circuit) (Some bits) options job
  pub path : ℕ
  pub over : run_value job ≡ Over path

-- without --new, the file f is refused as the journal of the job that is asked for, and it is not empty
pub record RefusesFile (asked : Option Options) (circuit bits f : List ℕ) : Type 0 where
  pub options : Options
  pub job : Job
  pub asks : Asks asked (Some circuit) (Some bits) options job
  pub kept : options.fresh ≡ false
  pub why : AttachFault
  pub first : first_refusal job f ≡ Some why
  pub begun : why ≢ Empty

-- What runs do to the disk and to the output, however they end.
pub record Proceeds (asked : Option Options) (circuit bits : List ℕ) (disk after : History) (out out_after : Tray) : Type 0 where
  pub made : IsMadeSince asked circuit bits (face_of disk).clock (face_of after)
  pub moments : Runs (face_of disk) (face_of after)
  pub later : out.faults ≤ out_after.faults

-- What the status of the last run says of what is asked for, and of the disk and the output before and after.
pub record Ends (asked : Option Options) (circuit bits : List ℕ) (disk after : History) (out out_after : Tray) (status : ℕ) : Type 0 where
  pub answer : status ≡ 0 → EndsWithAnswer asked circuit bits out_after.held
  pub usage : asked ≡ None → (status ≡ 1) ⊎ (status ≡ 7)
  pub usage_only : status ≡ 1 → asked ≡ None
  pub refused : IsRefused asked circuit bits → (status ≡ 2) ⊎ (status ≡ 7)
  pub refused_only : status ≡ 2 → IsRefused asked circuit bits
  pub over : status ≡ 3 → IsOver asked circuit bits
  pub all_read : status ≢ 4
  pub disk_fault : status ≡ 5 → Rose disk.faults after.faults
  pub write_fault : status ≡ 6 → Rose out.faults out_after.faults
  pub journal : status ≡ 8 → RefusesFile asked circuit bits (content_of after)
