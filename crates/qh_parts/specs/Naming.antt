-- The job that a file names, and why it names none.
use Rattle.std.specs.Prelude.{◌≡◌, ◌+◌, ◌<◌, ◌≤◌, ℕ, List, length, take, drop, ⊤, Some, None}
use Rattle.byteorder.specs.Endian.{big_number}
use Rattle.qh_limits.specs.Counts.{Rose}
use Rattle.qh_limits.specs.Limits.{max_job_bytes}
use Rattle.qh_plan.specs.Jobs.{Job}
use Rattle.qh_plan.specs.Plans.{IsPlanned}
use Rattle.qh_disk.specs.Disk.{Face, IsSafe, Reads}
use Rattle.qh_slots.specs.Layout.{head}
use Rattle.qh_slots.specs.Attaching.{name_refusal}
use Rattle.qh_slots.specs.declared.fault.AttachFault.{AttachFault}
use Rattle.qh_slots.specs.declared.fault.AttachFault.TheVariants as attach
use Rattle.qh_parts.specs.declared.job_fault.JobFault.{JobFault}
use Rattle.qh_parts.specs.declared.job_fault.JobFault.TheVariants.{DiskFault, Empty, Unbegun, OldJournal, NotAJournal, NoJob, Memory}

-- how many bytes the job text of f is said to have
abbrev pub told_length : List ℕ → ℕ
told_length f = big_number 8 (drop 8 f)

-- f begins with the head of the job's journal, and its job text is not said to be too long to be read
pub record Names (j : Job) (f : List ℕ) : Type 0 where
  pub planned : IsPlanned j
  pub few : told_length f ≤ max_job_bytes
  pub begins : take (length (head j)) f ≡ head j

-- f has the name of a journal, and names no job
pub record IsJobless (f : List ℕ) : Type 0 where
  pub name : name_refusal (length f) f None ≡ None
  pub none : (j : Job) → Names j f → ⊥

-- the refusal of a name, as an attach calls it
abbrev pub attach_of : JobFault → AttachFault
attach_of DiskFault = attach.DiskFault
attach_of Empty = attach.Empty
attach_of Unbegun = attach.Unbegun
attach_of OldJournal = attach.OldJournal
attach_of NotAJournal = attach.NotAJournal
attach_of NoJob = attach.NotAJournal
attach_of Memory = attach.Memory

-- the disk is safe, and P is of what it reads as
pub record IsFound (P : List ℕ → Type 0) (d : Face) : Type 0 where
  pub safe : IsSafe d
  pub reads : Reads d P

-- ---- the parts of reading it
-- f has so many bytes, and begins with these, 32 of them or all
pub record IsStart (size : ℕ) (front f : List ℕ) : Type 0 where
  pub long : size ≡ length f
  pub read : front ≡ take 32 f

-- what 32 bytes, or all, say of a file of so many: its name is right, and the job text stands in the file and is not too long
pub record Tells (size : ℕ) (front : List ℕ) (told : ℕ) : Type 0 where
  pub name : name_refusal size front None ≡ None
  pub is : told ≡ told_length front
  pub few : told ≤ max_job_bytes
  pub inside : 32 + told ≤ size

-- the name is right, and the job text is too long, or ends behind the file
pub record TellsNone (size : ℕ) (front : List ℕ) : Type 0 where
  pub name : name_refusal size front None ≡ None
  pub long : 32 ≤ size
  pub outside : told_length front ≤ max_job_bytes → size < 32 + told_length front

-- why they say nothing
abbrev pub FrontRefuses : JobFault → ℕ → List ℕ → Type 0
FrontRefuses DiskFault size front = ⊥
FrontRefuses Memory size front = ⊥
FrontRefuses NoJob size front = TellsNone size front
FrontRefuses fault size front = name_refusal size front None ≡ Some (attach_of fault)

-- why bytes are no head
abbrev pub BytesRefuse : JobFault → List ℕ → Type 0
BytesRefuse Memory bytes = ⊤
BytesRefuse NoJob bytes = (j : Job) → IsPlanned j → bytes ≡ head j → ⊥
BytesRefuse fault bytes = ⊥

-- the fault that one of the calls below means here
abbrev pub job_fault : AttachFault → JobFault
job_fault attach.DiskFault = DiskFault
job_fault attach.Empty = Empty
job_fault attach.Unbegun = Unbegun
job_fault attach.OldJournal = OldJournal
job_fault attach.NotAJournal = NotAJournal
job_fault attach.Memory = Memory
job_fault (attach.OtherJob place) = NoJob
job_fault (attach.BadLength found) = NoJob
job_fault (attach.BadSlot range) = NoJob

-- ---- why no job is read: of the refusals of the name the first that applies, or that no job is named behind it
abbrev pub JobMayFail : JobFault → Face → Face → Type 0
JobMayFail DiskFault old new = Rose old.faults new.faults
JobMayFail Memory old new = ⊤
JobMayFail NoJob old new = IsFound IsJobless new
JobMayFail fault old new = IsFound (λ f. name_refusal (length f) f None ≡ Some (attach_of fault)) new
