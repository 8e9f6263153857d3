-- Why an input is not read, put together from why its parts are not.
use Rattle.std.proofs.Common.{◌≡◌, ◌≢◌, ℕ, inl, inr, List, length, Option, Some, None, arith, refl, sym, subst, ◌∙◌}
use Rattle.std.proofs.lemmas.Bool.{le-ltb, ne_eqb}
use Rattle.qh_limits.proofs.Chains.{rose_before}
use Rattle.qh_plan.specs.Jobs.{Job, ranges}
use Rattle.qh_disk.specs.Disk.{Face, IsSafe, Reads}
use Rattle.qh_disk.specs.Looks.{Looks}
use Rattle.qh_slots.specs.Layout.{head, place}
use Rattle.qh_slots.specs.Attaching.{Passes, first_bad, head_refusal, later_refusal, name_refusal}
use Rattle.qh_slots.specs.declared.fault.AttachFault.{AttachFault}
use Rattle.qh_slots.specs.declared.fault.AttachFault.TheVariants.{DiskFault, Empty, Unbegun, OldJournal, NotAJournal, OtherJob, BadLength, BadSlot, Memory}
use Rattle.qh_slots.proofs.StandLemmas.{common_front, head_passes, name_goes_on, name_stops, refused_early, refused_slot}
use Rattle.qh_parts.specs.Reading.{SlotsMayFail}
use Rattle.qh_parts.specs.declared.job_fault.JobFault.{JobFault}
use Rattle.qh_parts.specs.declared.job_fault.JobFault.TheVariants as job
use Rattle.qh_parts.specs.Naming.{IsFound, JobMayFail, Names}
use Rattle.qh_merge.specs.declared.input.ReadFault.{ReadFault}
use Rattle.qh_merge.specs.declared.input.ReadFault.TheVariants as read
use Rattle.qh_merge.specs.Inputs.{IsUnread}
use Rattle.qh_merge.specs.Parts.{ReadMayFail, of_job, of_slots}

-- ---- a file that begins with a head has the name of a journal
no_refusal : (x : AttachFault) → ◌≡◌ {A = Option AttachFault} None (Some x) → ⊥
no_refusal x e = cc

named : (j : Job) (f : List ℕ) (x : AttachFault) → Names j f → name_refusal (length f) f None ≡ Some x → ⊥
unfolding head_refusal
named j f x names e = no_refusal x (sym (head_passes j (length f) f names.begins refl) ∙ name_stops (length f) f x _ e)

unnamed : (x : AttachFault) (d : Face) → IsFound (λ f. name_refusal (length f) f None ≡ Some x) d → IsFound IsUnread d
unnamed x d is = record { safe = is.safe; reads = λ f told. inl (λ j names. named j f x names (is.reads f told)) }

pub job_fails : (u : JobFault) (old new : Face) → JobMayFail u old new → ReadMayFail (of_job u) old new
job_fails job.DiskFault old new why = why
job_fails job.Memory old new why = tt
job_fails job.NoJob old new why = record { safe = why.safe; reads = λ f told. inl (why.reads f told).none }
job_fails job.Empty old new why = unnamed _ new why
job_fails job.Unbegun old new why = unnamed _ new why
job_fails job.OldJournal old new why = unnamed _ new why
job_fails job.NotAJournal old new why = unnamed _ new why

-- ---- a file of another length than its journal
name_none : (j : Job) (f : List ℕ) → Names j f → name_refusal (length f) f None ≡ None
name_none j f names = by_refusal (name_refusal (length f) f None) refl
  where
    by_refusal : (o : Option AttachFault) → name_refusal (length f) f None ≡ o → name_refusal (length f) f None ≡ None
    by_refusal None e = e
    by_refusal (Some x) e = absurd (named j f x names e)

wrong_length : (j : Job) (f : List ℕ) (size : ℕ) → Names j f → length f ≢ size → head_refusal (head j) size (length f) f ≡ Some (BadLength (length f))
unfolding head_refusal
wrong_length j f size names ne = name_goes_on (length f) f (later_refusal (head j) size (length f) f) (name_none j f names) ∙ later
  where
    later : later_refusal (head j) size (length f) f ≡ Some (BadLength (length f))
    later = rw (common_front f (head j) names.begins, le-ltb (length (head j)) (length (head j)) (omega arith), ne_eqb (length f) size ne) refl

pub long_fails : (j : Job) (size : ℕ) (new : Face) → IsSafe new → Reads new (Names j) → Reads new (λ f. size ≡ length f) → size ≢ place (head j) j (ranges j) → IsFound IsUnread new
long_fails j size new safe names counts ne = record {
  safe = safe;
  reads = λ f told. inr (record {
    job = j;
    names = names f told;
    fault = BadLength (length f);
    first = refused_early j f (BadLength (length f)) (wrong_length j f (place (head j) j (ranges j)) (names f told) (λ e. ne (counts f told ∙ e)));
  });
}

pub long_passes : (j : Job) (size : ℕ) (d : Face) → Reads d (Names j) → Reads d (λ f. size ≡ length f) → size ≡ place (head j) j (ranges j) → Reads d (Passes (head j) (place (head j) j (ranges j)))
long_passes j size d names counts is f told = record { begins = (names f told).begins; long = sym (counts f told) ∙ is }

-- the same, by a head that is the job's
pub passed : (j : Job) (h : List ℕ) (d : Face) → h ≡ head j → Reads d (Passes (head j) (place (head j) j (ranges j))) → Reads d (Passes h (place h j (ranges j)))
passed j h d is reads = subst (λ (k : List ℕ). Reads d (Passes k (place k j (ranges j)))) (sym is) reads

-- ---- a file with a bad slot
bad_fails : (j : Job) (r : ℕ) (mid new : Face) → Looks mid new → IsSafe mid → Reads mid (Names j) → Reads mid (Passes (head j) (place (head j) j (ranges j)))
    → Reads mid (λ f. first_bad (head j) j f ≡ Some r) → IsFound IsUnread new
bad_fails j r mid new last safe names pass bad = record {
  safe = last.safe safe;
  reads = λ f told.
      let before = sym last.content ∙ told in
      inr (record { job = j; names = names f before; fault = BadSlot r; first = refused_slot j f r (pass f before) (bad f before) });
}

pub slots_fail : (j : Job) (u : AttachFault) (old mid new : Face) → Looks old mid → Looks mid new → IsSafe mid → Reads mid (Names j)
    → Reads mid (Passes (head j) (place (head j) j (ranges j))) → SlotsMayFail (head j) j u mid new → ReadMayFail (of_slots u) old new
slots_fail j DiskFault old mid new first last safe names pass why = rose_before old.faults mid.faults new.faults first.runs.faults why
slots_fail j Memory old mid new first last safe names pass why = tt
slots_fail j Empty old mid new first last safe names pass why = bad_fails j why.0 mid new last safe names pass why.2
slots_fail j Unbegun old mid new first last safe names pass why = bad_fails j why.0 mid new last safe names pass why.2
slots_fail j OldJournal old mid new first last safe names pass why = bad_fails j why.0 mid new last safe names pass why.2
slots_fail j NotAJournal old mid new first last safe names pass why = bad_fails j why.0 mid new last safe names pass why.2
slots_fail j (OtherJob k) old mid new first last safe names pass why = bad_fails j why.0 mid new last safe names pass why.2
slots_fail j (BadLength k) old mid new first last safe names pass why = bad_fails j why.0 mid new last safe names pass why.2
slots_fail j (BadSlot k) old mid new first last safe names pass why = bad_fails j why.0 mid new last safe names pass why.2

-- ---- a table that is not read, after the job is
pub table_fails : (u : ReadFault) (old mid new : Face) → Looks old mid → ReadMayFail u mid new → ReadMayFail u old new
table_fails read.DiskFault old mid new first why = rose_before old.faults mid.faults new.faults first.runs.faults why
table_fails read.Unread old mid new first why = why
table_fails read.Memory old mid new first why = tt
