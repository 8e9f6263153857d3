-- What the bytes of a head say of the file that begins with them.
use Rattle.std.proofs.Common.{◌≡◌, ◌≢◌, ◌<◌, ℕ, ◌+◌, ◌-◌, ◌*◌, ◌^◌, ◌≤◌, List, [], ◌∷◌, ◌++◌, length, take, drop, min, Option, Some, None, Result, Ok, Err, refl, sym, ap, subst, ◌∙◌, arith, get_or}
use Rattle.std.specs.Prelude.{IfOk, IfErr}
use Rattle.std.proofs.lemmas.List.{append_assoc, drop-append-le, length-drop, length-take, take-append-drop, get_or-take, take_all, take_rest}
use Rattle.byteorder.specs.Endian.{big_bytes, big_number}
use Rattle.byteorder.specs.Numbers.{big_from-append, big_number-reads_back}
use Rattle.qh_plan.specs.Jobs.{Job, ranges}
use Rattle.qh_plan.specs.Plans.{IsPlanned}
use Rattle.qh_plan.specs.Texts.{job_text, journal_length}
use Rattle.qh_disk.specs.Disk.{Face, IsSafe, Reads}
use Rattle.qh_disk.specs.Looks.{Looks}
use Rattle.qh_slots.specs.Layout.{head, place, part}
use Rattle.qh_slots.specs.Attaching.{name_refusal}
use Rattle.qh_slots.specs.declared.fault.AttachFault.{AttachFault}
use Rattle.qh_slots.proofs.StandLemmas.{head_size, part_taken}
use Rattle.qh_parts.specs.declared.job_fault.JobFault.{JobFault}
use Rattle.qh_parts.specs.declared.job_fault.JobFault.TheVariants.{DiskFault, Empty, Unbegun, OldJournal, NotAJournal, NoJob, Memory}
use Rattle.qh_parts.specs.Naming.{BytesRefuse, FrontRefuses, IsFound, IsJobless, IsStart, JobMayFail, Names, Tells, TellsNone, told_length}

-- ---- the parts of a head
pub head_text : (j : Job) → drop 32 (head j) ≡ job_text j
unfolding head
head_text j = refl

pub text_of : (j : Job) (bytes : List ℕ) → bytes ≡ head j → take (length bytes - 32) (drop 32 bytes) ≡ job_text j
text_of j bytes is = take_rest bytes 32 ∙ ap (drop 32) is ∙ head_text j

behind_name : (j : Job) (rest : List ℕ) → drop 8 (head j ++ rest) ≡ big_bytes 8 (length (job_text j)) ++ (big_bytes 8 (ranges j) ++ (big_bytes 8 (length j.bits) ++ (job_text j ++ rest)))
unfolding head
behind_name j rest =
    let a = big_bytes 8 (length (job_text j)) in
    let b = big_bytes 8 (ranges j) in
    let d = big_bytes 8 (length j.bits) in
    append_assoc a (b ++ (d ++ job_text j)) rest ∙ ap (λ (l : List ℕ). a ++ l) (append_assoc b (d ++ job_text j) rest ∙ ap (λ (l : List ℕ). b ++ l) (append_assoc d (job_text j) rest))

short_text : (j : Job) → IsPlanned j → length (job_text j) ≤ 1073741824
unfolding journal_length
short_text j planned = let p = planned.short in omega arith

-- a file that begins with it says how long the job text is, and is as long as that
pub named_length : (j : Job) (f : List ℕ) → Names j f → told_length f ≡ length (job_text j)
named_length j f names =
    let whole : f ≡ head j ++ drop (length (head j)) f = sym (take-append-drop (length (head j)) f) ∙ ap (λ (l : List ℕ). l ++ drop (length (head j)) f) names.begins in
    let short = short_text j names.planned in
    ap (λ (l : List ℕ). big_number 8 (drop 8 l)) whole ∙ ap (big_number 8) (behind_name j (drop (length (head j)) f))
    ∙ big_number-reads_back 8 (length (job_text j)) (big_bytes 8 (ranges j) ++ (big_bytes 8 (length j.bits) ++ (job_text j ++ drop (length (head j)) f))) (omega arith)

named_size : (j : Job) (f : List ℕ) → Names j f → 32 + told_length f ≤ length f
named_size j f names =
    let n = named_length j f names in
    let s = head_size j in
    let t = ap (λ (l : List ℕ). length l) names.begins in
    let m = length-take (length (head j)) f in
    omega arith

-- ---- the start of a file says the same as the file
length_read : (size : ℕ) (front f : List ℕ) → IsStart size front f → 32 ≤ size → told_length front ≡ told_length f
length_read size front f is long =
    let l = is.long in
    let m = ap (λ (l : List ℕ). length l) is.read ∙ length-take 32 f in
    sym (big_from-append 8 (drop 8 front) (drop 32 f) (let d = length-drop 8 front in omega arith))
    ∙ ap (big_number 8) (sym (drop-append-le 8 front (drop 32 f) (omega arith)) ∙ ap (drop 8) (ap (λ (k : List ℕ). k ++ drop 32 f) is.read ∙ take-append-drop 32 f))

name_read : (size : ℕ) (front f : List ℕ) → IsStart size front f → name_refusal size front None ≡ name_refusal (length f) f None
name_read size front f is = rw (is.long, is.read, part_taken 1 7 32 f (omega arith), get_or-take 32 f 0 0 (omega arith)) refl

-- ---- what is read of a file, and the job that it names
pub record IsRead (size told : ℕ) (front bytes f : List ℕ) : Type 0 where
  pub start : IsStart size front f
  pub tells : Tells size front told
  pub read : bytes ≡ take (32 + told) f

told_is : (size told : ℕ) (front bytes f : List ℕ) → IsRead size told front bytes f → told ≡ told_length f
told_is size told front bytes f is = is.tells.is ∙ length_read size front f is.start (let i = is.tells.inside in omega arith)

pub names_from : (size told : ℕ) (front bytes f : List ℕ) (j : Job) → IsRead size told front bytes f → IsPlanned j → bytes ≡ head j → Names j f
names_from size told front bytes f j is planned same =
    let l = is.start.long in
    let i = is.tells.inside in
    let n = ap (λ (l : List ℕ). length l) (sym same ∙ is.read) ∙ length-take (32 + told) f in
    let e : length (head j) ≡ 32 + told = omega arith in
    record {
      planned = planned;
      few = subst (λ (k : ℕ). k ≤ 1048576) (told_is size told front bytes f is) is.tells.few;
      begins = ap (λ (k : ℕ). take k f) e ∙ sym is.read ∙ same;
    }

pub none_from : (size told : ℕ) (front bytes f : List ℕ) → IsRead size told front bytes f → ((j : Job) → IsPlanned j → bytes ≡ head j → ⊥) → IsJobless f
none_from size told front bytes f is none = record {
  name = sym (name_read size front f is.start) ∙ is.tells.name;
  none = λ j names.
      let n = named_length j f names in
      let s = head_size j in
      let t = told_is size told front bytes f is in
      let e : 32 + told ≡ length (head j) = omega arith in
      none j names.planned (is.read ∙ ap (λ (k : ℕ). take k f) e ∙ names.begins);
}

none_told : (size : ℕ) (front f : List ℕ) → IsStart size front f → TellsNone size front → IsJobless f
none_told size front f is tells = record {
  name = sym (name_read size front f is) ∙ tells.name;
  none = λ j names.
      let t = length_read size front f is tells.long in
      let n = named_size j f names in
      let few : told_length front ≤ 1048576 = subst (λ (k : ℕ). k ≤ 1048576) (sym t) names.few in
      let o = tells.outside few in
      let l = is.long in
      omega arith;
}

pub names_on : (size told : ℕ) (front bytes : List ℕ) (old new : Face) (result : Result Job JobFault) → Looks old new → Reads old (IsRead size told front bytes)
    → IfOk result (λ j. bytes ≡ head j) → IfOk result (λ j. IsPlanned j) → IfOk result (λ j. Reads new (Names j))
names_on size told front bytes old new (Ok j) looks reads same planned = λ f at. names_from size told front bytes f j (reads f (sym looks.content ∙ at)) planned same
names_on size told front bytes old new (Err fault) looks reads same planned = tt

-- ---- why no job is read
found : (P : List ℕ → Type 0) (size : ℕ) (front : List ℕ) (d : Face) → IsSafe d → Reads d (IsStart size front) → ((f : List ℕ) → IsStart size front f → P f) → IsFound P d
found P size front d safe reads says = record { safe = safe; reads = λ f told. says f (reads f told) }

refused : (x : AttachFault) (size : ℕ) (front : List ℕ) (d : Face) → IsSafe d → Reads d (IsStart size front) → name_refusal size front None ≡ Some x → IsFound (λ f. name_refusal (length f) f None ≡ Some x) d
refused x size front d safe reads e = found _ size front d safe reads (λ f is. sym (name_read size front f is) ∙ e)

pub front_may_fail : (fault : JobFault) (size : ℕ) (front : List ℕ) (old d : Face) → IsSafe d → Reads d (IsStart size front) → FrontRefuses fault size front → JobMayFail fault old d
front_may_fail DiskFault size front old d safe reads why = absurd why
front_may_fail Memory size front old d safe reads why = absurd why
front_may_fail NoJob size front old d safe reads why = found IsJobless size front d safe reads (λ f is. none_told size front f is why)
front_may_fail Empty size front old d safe reads why = refused _ size front d safe reads why
front_may_fail Unbegun size front old d safe reads why = refused _ size front d safe reads why
front_may_fail OldJournal size front old d safe reads why = refused _ size front d safe reads why
front_may_fail NotAJournal size front old d safe reads why = refused _ size front d safe reads why

pub bytes_may_fail : (fault : JobFault) (size told : ℕ) (front bytes : List ℕ) (old d : Face) → IsSafe d → Reads d (IsRead size told front bytes) → BytesRefuse fault bytes → JobMayFail fault old d
bytes_may_fail DiskFault size told front bytes old d safe reads why = absurd why
bytes_may_fail Memory size told front bytes old d safe reads why = why
bytes_may_fail NoJob size told front bytes old d safe reads why = record { safe = safe; reads = λ f at. none_from size told front bytes f (reads f at) why }
bytes_may_fail Empty size told front bytes old d safe reads why = absurd why
bytes_may_fail Unbegun size told front bytes old d safe reads why = absurd why
bytes_may_fail OldJournal size told front bytes old d safe reads why = absurd why
bytes_may_fail NotAJournal size told front bytes old d safe reads why = absurd why

pub bytes_fail_on : (size told : ℕ) (front bytes : List ℕ) (first old new : Face) (result : Result Job JobFault) → Looks old new → IsSafe old → Reads old (IsRead size told front bytes)
    → IfErr result (λ u. BytesRefuse u bytes) → IfErr result (λ u. JobMayFail u first new)
bytes_fail_on size told front bytes first old new (Ok j) looks safe reads why = tt
bytes_fail_on size told front bytes first old new (Err fault) looks safe reads why =
    bytes_may_fail fault size told front bytes first new (looks.safe safe) (λ f at. reads f (sym looks.content ∙ at)) why
