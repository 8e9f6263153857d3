-- Why an attach stops, put together from why its parts stop.
use Rattle.std.proofs.Common.{◌≡◌, ◌<◌, ℕ, Bool, true, false, inl, inr, List, [], ◌∷◌, length, take, Option, Some, None, Result, Ok, Err, refl, sym, subst, ◌∙◌, arith}
use Rattle.std.specs.Prelude.{if◌then◌else◌, IfErr, OnOk}
use Rattle.std.proofs.lemmas.Bool.{cases_eq, ne_eqb}
use Rattle.std.proofs.Math.Path.{ap₂}
use Rattle.qh_limits.proofs.Chains.{rose_before}
use Rattle.qh_plan.specs.declared.verdict.Verdict.{Verdict}
use Rattle.qh_plan.specs.Jobs.{Job, ranges}
use Rattle.qh_disk.specs.Disk.{Face, IsSafe, Reads}
use Rattle.qh_disk.specs.Looks.{Looks}
use Rattle.qh_disk.specs.Moments.{EachImage}
use Rattle.qh_disk.proofs.Looking.{looks_reads}
use Rattle.qh_disk.proofs.Moments.{safe_each}
use Rattle.qh_slots.specs.Layout.{head, place}
use Rattle.qh_slots.specs.Stands.{Slots, slot_at, Stands, Holds}
use Rattle.qh_slots.specs.Attaching.{first_bad, or_bad, first_refusal, head_refusal, Passes}
use Rattle.qh_slots.specs.declared.fault.AttachFault.{AttachFault}
use Rattle.qh_slots.specs.declared.fault.AttachFault.TheVariants.{DiskFault, Empty, Unbegun, OldJournal, NotAJournal, OtherJob, BadLength, BadSlot, Memory}
use Rattle.qh_slots.proofs.StandLemmas.{head_size, passes, refusal_taken, refused_early, refused_slot}
use Rattle.qh_parts.specs.Reading.{SlotsMayFail, FrontMayFail}
use Rattle.qh_journal.specs.Calls.{IsRefused, AttachMayFail}

-- ---- what holds of a result
pub err_on : {T : Type 0} (result : Result T AttachFault) (A B : AttachFault → Type 0) → ((u : AttachFault) → A u → B u) → IfErr result A → IfErr result B
err_on (Ok x) A B f a = a
err_on (Err u) A B f a = f u a

pub ok_always : {T E : Type 0} (result : Result T E) (B : Type 0) → B → OnOk result B
ok_always (Ok x) B b = b
ok_always (Err u) B b = tt

-- ---- a bad slot
bad_refused : (j : Job) (r : ℕ) (mid new : Face) → IsSafe mid → Looks mid new → Reads mid (Passes (head j) (place (head j) j (ranges j))) → Reads mid (λ f. first_bad (head j) j f ≡ Some r) → IsRefused j (BadSlot r) new
bad_refused j r mid new safe last pass bad = record {
  safe = last.safe safe;
  first = looks_reads (λ f. first_refusal j f ≡ Some (BadSlot r)) mid new last (λ f told. refused_slot j f r (pass f told) (bad f told));
}

pub slots_fault : (j : Job) (fault : AttachFault) (old mid new : Face) → Looks old mid → Looks mid new → IsSafe mid → Reads mid (Passes (head j) (place (head j) j (ranges j))) → SlotsMayFail (head j) j fault mid new → AttachMayFail j fault old new
slots_fault j DiskFault old mid new first last safe pass why = rose_before old.faults mid.faults new.faults first.runs.faults why
slots_fault j Memory old mid new first last safe pass why = tt
slots_fault j Empty old mid new first last safe pass why = absurd (let e = why.1 in cc)
slots_fault j Unbegun old mid new first last safe pass why = absurd (let e = why.1 in cc)
slots_fault j OldJournal old mid new first last safe pass why = absurd (let e = why.1 in cc)
slots_fault j NotAJournal old mid new first last safe pass why = absurd (let e = why.1 in cc)
slots_fault j (OtherJob k) old mid new first last safe pass why = absurd (let e = why.1 in cc)
slots_fault j (BadLength k) old mid new first last safe pass why = absurd (let e = why.1 in cc)
slots_fault j (BadSlot k) old mid new first last safe pass why =
    let same : why.0 ≡ k = (let e = why.1 in cc) in
    subst (λ (n : ℕ). IsRefused j (BadSlot n) new) same (bad_refused j why.0 mid new safe last pass why.2)

pub front_fault : (j : Job) (fault : AttachFault) (old mid new : Face) → Looks old mid → FrontMayFail fault mid new → AttachMayFail j fault old new
front_fault j DiskFault old mid new first why = rose_before old.faults mid.faults new.faults first.runs.faults why
front_fault j Memory old mid new first why = why
front_fault j Empty old mid new first why = absurd why
front_fault j Unbegun old mid new first why = absurd why
front_fault j OldJournal old mid new first why = absurd why
front_fault j NotAJournal old mid new first why = absurd why
front_fault j (OtherJob k) old mid new first why = absurd why
front_fault j (BadLength k) old mid new first why = absurd why
front_fault j (BadSlot k) old mid new first why = absurd why

-- ---- the refusals before the slots
OfHead : AttachFault → Type 0
OfHead DiskFault = ⊥
OfHead Memory = ⊥
OfHead Empty = Unit {0}
OfHead Unbegun = Unit {0}
OfHead OldJournal = Unit {0}
OfHead NotAJournal = Unit {0}
OfHead (OtherJob k) = Unit {0}
OfHead (BadLength k) = Unit {0}
OfHead (BadSlot k) = Unit {0}

step : (b : Bool) (x y : AttachFault) (o : Option AttachFault) → OfHead x → (o ≡ Some y → OfHead y) → (if b then Some x else o) ≡ Some y → OfHead y
step true x y o here later e = subst OfHead (let s : x ≡ y = cc in s) here
step false x y o here later e = later e

of_head : (h : List ℕ) (size count : ℕ) (front : List ℕ) (y : AttachFault) → head_refusal h size count front ≡ Some y → OfHead y
unfolding head_refusal OfHead
of_head h size count front y =
    step _ Empty y _ tt (step _ Unbegun y _ tt (step _ OldJournal y _ tt (step _ NotAJournal y _ tt (step _ (OtherJob _) y _ tt (step _ (BadLength _) y _ tt (λ e. absurd (none e)))))))
  where
    none : None ≡ Some y → ⊥
    none e = cc

may_fail : (j : Job) (fault : AttachFault) (old new : Face) → OfHead fault → IsRefused j fault new → AttachMayFail j fault old new
unfolding OfHead
may_fail j DiskFault old new of is = absurd of
may_fail j Memory old new of is = absurd of
may_fail j Empty old new of is = is
may_fail j Unbegun old new of is = is
may_fail j OldJournal old new of is = is
may_fail j NotAJournal old new of is = is
may_fail j (OtherJob k) old new of is = is
may_fail j (BadLength k) old new of is = is
may_fail j (BadSlot k) old new of is = is

-- what is read before the slots
pub record IsFront (j : Job) (count : ℕ) (front f : List ℕ) : Type 0 where
  pub long : count ≡ length f
  pub read : front ≡ take (length (head j)) f

refusal_read : (j : Job) (size count : ℕ) (front f : List ℕ) → IsFront j count front f → head_refusal (head j) size count front ≡ head_refusal (head j) size (length f) f
refusal_read j size count front f is =
    ap₂ (λ (n : ℕ) (l : List ℕ). head_refusal (head j) size n l) is.long is.read ∙ refusal_taken (head j) size (length f) f (let s = head_size j in omega arith)

pub head_fault : (j : Job) (count : ℕ) (front : List ℕ) (fault : AttachFault) (old new : Face) → IsSafe new → head_refusal (head j) (place (head j) j (ranges j)) count front ≡ Some fault → Reads new (IsFront j count front) → AttachMayFail j fault old new
head_fault j count front fault old new safe e reads = may_fail j fault old new (of_head (head j) (place (head j) j (ranges j)) count front fault e) (record {
  safe = safe;
  first = λ f told. refused_early j f fault (sym (refusal_read j (place (head j) j (ranges j)) count front f (reads f told)) ∙ e);
})

pub head_pass : (j : Job) (count : ℕ) (front : List ℕ) (new : Face) → head_refusal (head j) (place (head j) j (ranges j)) count front ≡ None → Reads new (IsFront j count front) → Reads new (Passes (head j) (place (head j) j (ranges j)))
head_pass j count front new e reads f told = passes (head j) (place (head j) j (ranges j)) f (sym (refusal_read j (place (head j) j (ranges j)) count front f (reads f told)) ∙ e)

-- what is stable where the disk is safe
pub stable_from : (j : Job) (s : Slots) (d : Face) → IsSafe d → Reads d (Stands j s) → (r : ℕ) (v : Verdict) → slot_at s r ≡ Some v → EachImage d (Holds j r v)
stable_from j s d safe reads r v held c is = record { slots = s; stands = reads c (safe c is); held = held }

-- ---- what Empty tells
IsLater : AttachFault → Type 0
IsLater x = x ≡ Empty → ⊥

no_empty : (b : Bool) (x : AttachFault) (o : Option AttachFault) → IsLater x → (o ≡ Some Empty → ⊥) → (if b then Some x else o) ≡ Some Empty → ⊥
unfolding IsLater
no_empty true x o here later e = here (let s : x ≡ Empty = cc in s)
no_empty false x o here later e = later e

unbegun_later : IsLater Unbegun
unfolding IsLater
unbegun_later e = cc

old_later : IsLater OldJournal
unfolding IsLater
old_later e = cc

other_later : IsLater NotAJournal
unfolding IsLater
other_later e = cc

job_later : (k : ℕ) → IsLater (OtherJob k)
unfolding IsLater
job_later k e = cc

length_later : (k : ℕ) → IsLater (BadLength k)
unfolding IsLater
length_later k e = cc

nothing : None ≡ Some Empty → ⊥
nothing e = cc

early_empty : (h : List ℕ) (size count : ℕ) (front : List ℕ) → head_refusal h size count front ≡ Some Empty → count ≡ 0
unfolding head_refusal
early_empty h size count front e = elim (cases_eq count 0) [
  | inl zero_bytes ↦ zero_bytes
  | inr some ↦ absurd (no_empty _ Unbegun _ unbegun_later (no_empty _ OldJournal _ old_later (no_empty _ NotAJournal _ other_later (no_empty _ (OtherJob _) _ (job_later _) (no_empty _ (BadLength _) _ (length_later _) nothing)))) (rw (ne_eqb count 0 some) at e))
]

no_bytes : (f : List ℕ) → length f ≡ 0 → f ≡ []
no_bytes [] e = refl
no_bytes (x ∷ f) e = absurd (omega arith)

slot_is_later : (o : Option AttachFault) (bad : Option ℕ) → or_bad o bad ≡ Some Empty → o ≡ Some Empty
slot_is_later None None e = absurd (nothing e)
slot_is_later None (Some r) e = absurd cc
slot_is_later (Some x) bad e = e

pub refused_empty : (j : Job) (d : Face) → IsRefused j Empty d → Reads d (λ f. f ≡ [])
unfolding first_refusal
refused_empty j d is f told = no_bytes f (early_empty (head j) (place (head j) j (ranges j)) (length f) f (slot_is_later (head_refusal (head j) (place (head j) j (ranges j)) (length f) f) (first_bad (head j) j f) (is.first f told)))

pub refused_empty_only : (j : Job) (d : Face) → IsRefused j Empty d → EachImage d (λ f. f ≡ [])
refused_empty_only j d is = safe_each (λ f. f ≡ []) d is.safe (refused_empty j d is)
