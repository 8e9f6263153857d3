-- From the answer of a circuit and basis indices to what a run promises.
use Rattle.std.proofs.Common.{◌≡◌, ◌⊎◌, ℕ, ◌<◌, ◌^◌, inl, inr, List, length, take, All, Some, None, IsSome, refl, sym, subst, arith}
use Rattle.std.specs.declared.option.Option.{Option}
use Rattle.std.specs.Io.KnownBytes.{Appends}
use Rattle.qh_gates.specs.Circuits.{Circuit}
use Rattle.qh_plan.specs.declared.verdict.Verdict.TheVariants.{Sum, Over}
use Rattle.qh_plan.specs.Jobs.{Job}
use Rattle.qh_disk.specs.Disk.{Face}
use Rattle.qh_slots.specs.Record.{Keeping}
use Rattle.qh_slots.specs.Moments.{BeginsTrue}
use Rattle.qh_words.specs.declared.options.Options.{Options}
use Rattle.qh_words.specs.declared.size.GenSize.{GenSize}
use Rattle.qh_request.specs.Seen.{Seen, Rises}
use Rattle.qh_request.specs.Inputs.{IsInput}
use Rattle.qh_request.specs.Jobs.{keeping, job_strings}
use Rattle.qh_request.specs.Answer.{IsJobText}
use Rattle.qh_request.specs.Indexed.{IsIndexedBy, IsCutText}
use Rattle.qh_request.specs.Request.{Prints, BreaksOff, RunIsWhole, EndsWholeBy, EndsEarly}
use Rattle.qh_request.specs.Parts.{UncutMayStop, CutMayStop, AnswerMayStop, JobMayStop, AnswerMoves, FilesMayStop, InputMayStop, Moves, Ended}
use Rattle.qh_request.specs.Stops.{status_of}
use Rattle.qh_request.specs.declared.stop.Stop.{Stop}
use Rattle.qh_request.specs.declared.stop.Stop.TheVariants.{Usage, Refused, OverflowGate, OverflowPath, ReadFault, DiskFault, WriteFault, Memory, Journal}
use Rattle.qh_request.proofs.Causes.{taken_job}
use Rattle.qh_request.proofs.Strings.{asked_named, named_by, asked_text}

not_whole : (status : ℕ) → (status ≡ 0 → ⊥) → (status ≡ 3 → ⊥) → (status ≡ 6 → ⊥) → RunIsWhole status → ⊥
not_whole status a b c (inl e) = a e
not_whole status a b c (inr (inl e)) = b e
not_whole status a b c (inr (inr e)) = c e

not_early : (status : ℕ) → (status ≡ 1 → ⊥) → (status ≡ 2 → ⊥) → (status ≡ 4 → ⊥) → EndsEarly status → ⊥
not_early status a b c (inl e) = a e
not_early status a b c (inr (inl e)) = b e
not_early status a b c (inr (inr e)) = c e

no_part : (p : Option (List ℕ)) → p ≡ None → IsSome p → ⊥
no_part p e s = cc

-- a run does not stop early
pub job_not_early : (k : Keeping) (j : Job) (disk after old old_after : Face) (Granted : ℕ → Type 0) (stop : Stop)
    → JobMayStop k j disk after old old_after Granted stop → EndsEarly (status_of stop) → ⊥
job_not_early k j disk after old old_after Granted Usage h = absurd h
job_not_early k j disk after old old_after Granted (Refused r) h = absurd h
job_not_early k j disk after old old_after Granted (OverflowGate gate) h = absurd h
job_not_early k j disk after old old_after Granted (OverflowPath path) h = not_early 3 (λ e. omega (arith, e)) (λ e. omega (arith, e)) (λ e. omega (arith, e))
job_not_early k j disk after old old_after Granted (ReadFault input) h = absurd h
job_not_early k j disk after old old_after Granted DiskFault h = not_early 5 (λ e. omega (arith, e)) (λ e. omega (arith, e)) (λ e. omega (arith, e))
job_not_early k j disk after old old_after Granted (WriteFault n) h = absurd h
job_not_early k j disk after old old_after Granted Memory h = not_early 7 (λ e. omega (arith, e)) (λ e. omega (arith, e)) (λ e. omega (arith, e))
job_not_early k j disk after old old_after Granted (Journal r) h = not_early 8 (λ e. omega (arith, e)) (λ e. omega (arith, e)) (λ e. omega (arith, e))

pub six_not_early : EndsEarly 6 → ⊥
six_not_early = not_early 6 (λ e. omega (arith, e)) (λ e. omega (arith, e)) (λ e. omega (arith, e))

module _ (o : Options) (circuit bits : Seen) (disk after old : Face) (Granted : ℕ → Type 0) (c : Circuit) (xs : List ℕ)
    (input : IsInput o.generated o.max_time circuit bits c xs) where
  -- ---- the text
  pub answered_prints : (out : Seen) (front : List ℕ → List ℕ) (text : List ℕ) → All (λ x. x < 2 ^ c.qubits) xs
      → IsIndexedBy o.part o disk after old Granted c xs text → Appends out.before out.after (front text) → Prints o circuit bits out after front
  answered_prints out front text below answer went = record {
    value = c;
    indices = xs;
    input = input;
    text = text;
    answer = named_by o.part o disk after old Granted c xs _ text (asked_named o.max_time circuit bits c xs o.generated input) below answer;
    went = went;
  }

  pub breaks_off : (out : Seen) (n : ℕ) (text : List ℕ) → All (λ x. x < 2 ^ c.qubits) xs
      → IsIndexedBy o.part o disk after old Granted c xs text → Rises out → Appends out.before out.after (take n text) → n < length text → BreaksOff o circuit bits out after n
  unfolding answered_prints
  breaks_off out n text below answer rose went less = (rose, (answered_prints out (take n) text below answer went, less))

  -- ---- the disks
  pub answer_moves : (old_after : Face) (part : Option (List ℕ)) → o.part ≡ part → AnswerMoves part o c xs disk after old old_after → Moves o circuit bits disk after old old_after
  answer_moves old_after None e m = absurd m
  answer_moves old_after (Some part) e m = record { job = m.job; taken = taken_job o circuit bits c xs input part e m.job m.planned; moves = m.moves }

  pub moves_or_stays : (old_after : Face) (Stays : Type 0) → Stays ⊎ AnswerMoves o.part o c xs disk after old old_after → Stays ⊎ Moves o circuit bits disk after old old_after
  moves_or_stays old_after Stays (inl stays) = inl stays
  moves_or_stays old_after Stays (inr moves) = inr (answer_moves old_after o.part refl moves)

  -- ---- the whole run
  -- where the text was written, or the sink failed
  exact_text : (out : Seen) (text : List ℕ) (part : List ℕ) (h : IsCutText o disk after old Granted part c xs text) → BeginsTrue (keeping o) h.job disk old
      → IsJobText o.generated h.job (job_strings h.job) text
  exact_text out text part h begins = asked_text o.generated h.job h.sums text h.valid (sym (h.run.whole.exact begins)) h.text_is

  written_ends : (out : Seen) (text : List ℕ) (part : Option (List ℕ)) → o.part ≡ part → IsIndexedBy part o disk after old Granted c xs text
      → Appends out.before out.after text → IsSome o.part → EndsWholeBy o circuit bits out disk after old Granted 0
  written_ends out text None e h went some = absurd (no_part o.part e some)
  written_ends out text (Some part) e h went some = record {
    job = h.job;
    taken = taken_job o circuit bits c xs input part e h.job h.planned;
    verdict = Sum h.sums;
    run = h.run;
    exact = λ begins. record {
      whole = λ zero. (text, exact_text out text part h begins, went);
      front = λ six. absurd (omega (arith, six));
      over = λ three. absurd (omega (arith, three));
    };
  }

  broken_ends : (out : Seen) (n : ℕ) (text : List ℕ) (part : Option (List ℕ)) → o.part ≡ part → IsIndexedBy part o disk after old Granted c xs text
      → Appends out.before out.after (take n text) → IsSome o.part → EndsWholeBy o circuit bits out disk after old Granted 6
  broken_ends out n text None e h went some = absurd (no_part o.part e some)
  broken_ends out n text (Some part) e h went some = record {
    job = h.job;
    taken = taken_job o circuit bits c xs input part e h.job h.planned;
    verdict = Sum h.sums;
    run = h.run;
    exact = λ begins. record {
      whole = λ zero. absurd (omega (arith, zero));
      front = λ six. (text, n, exact_text out text part h begins, went);
      over = λ three. absurd (omega (arith, three));
    };
  }

  pub written : (out : Seen) (text : List ℕ) → IsIndexedBy o.part o disk after old Granted c xs text
      → Appends out.before out.after text → Ended o circuit bits out disk after old Granted 0
  written out text h went = record { whole = λ done some. written_ends out text o.part refl h went some; unwritten = λ eight. absurd (omega (arith, eight)) }

  pub broken : (out : Seen) (n : ℕ) (text : List ℕ) → IsIndexedBy o.part o disk after old Granted c xs text
      → Appends out.before out.after (take n text) → Ended o circuit bits out disk after old Granted 6
  broken out n text h went = record { whole = λ done some. broken_ends out n text o.part refl h went some; unwritten = λ eight. absurd (omega (arith, eight)) }

  -- ---- where it stopped before the text
  none_ends : (out : Seen) (status : ℕ) → (status ≡ 0 → ⊥) → (status ≡ 3 → ⊥) → (status ≡ 6 → ⊥) → (status ≡ 8 → ⊥) → Ended o circuit bits out disk after old Granted status
  none_ends out status a b c d = record { whole = λ done some. absurd (not_whole status a b c done); unwritten = λ eight. absurd (d eight) }

  uncut_ends : (out : Seen) → o.part ≡ None → (stop : Stop) → UncutMayStop o.prob c stop → Ended o circuit bits out disk after old Granted (status_of stop)
  uncut_ends out e Usage h = absurd h
  uncut_ends out e (Refused r) h = none_ends out 2 (λ e. omega (arith, e)) (λ e. omega (arith, e)) (λ e. omega (arith, e)) (λ e. omega (arith, e))
  uncut_ends out e (OverflowGate gate) h = record { whole = λ done some. absurd (no_part o.part e some); unwritten = λ eight. absurd (omega (arith, eight)) }
  uncut_ends out e (OverflowPath path) h = absurd h
  uncut_ends out e (ReadFault input) h = absurd h
  uncut_ends out e DiskFault h = absurd h
  uncut_ends out e (WriteFault n) h = absurd h
  uncut_ends out e Memory h = none_ends out 7 (λ e. omega (arith, e)) (λ e. omega (arith, e)) (λ e. omega (arith, e)) (λ e. omega (arith, e))
  uncut_ends out e (Journal r) h = absurd h

  cut_ends : (out : Seen) (old_after : Face) (part : List ℕ) → o.part ≡ Some part → (stop : Stop) → CutMayStop o part c xs disk after old old_after Granted stop
      → Ended o circuit bits out disk after old Granted (status_of stop)
  cut_ends out old_after part e Usage h = absurd h.stops
  cut_ends out old_after part e (Refused r) h = none_ends out 2 (λ e. omega (arith, e)) (λ e. omega (arith, e)) (λ e. omega (arith, e)) (λ e. omega (arith, e))
  cut_ends out old_after part e (OverflowGate gate) h = absurd h.stops
  cut_ends out old_after part e (OverflowPath path) h = record {
    whole = λ done some. record {
      job = h.job;
      taken = taken_job o circuit bits c xs input part e h.job h.planned;
      verdict = Over path;
      run = h.stops;
      exact = λ begins. record { whole = λ zero. absurd (omega (arith, zero)); front = λ six. absurd (omega (arith, six)); over = λ three. (path, sym (h.stops.whole.exact begins)) };
    };
    unwritten = λ eight. absurd (omega (arith, eight));
  }
  cut_ends out old_after part e (ReadFault input) h = absurd h.stops
  cut_ends out old_after part e DiskFault h = none_ends out 5 (λ e. omega (arith, e)) (λ e. omega (arith, e)) (λ e. omega (arith, e)) (λ e. omega (arith, e))
  cut_ends out old_after part e (WriteFault n) h = absurd h.stops
  cut_ends out old_after part e Memory h = none_ends out 7 (λ e. omega (arith, e)) (λ e. omega (arith, e)) (λ e. omega (arith, e)) (λ e. omega (arith, e))
  cut_ends out old_after part e (Journal r) h = record {
    whole = λ done some. absurd (not_whole 8 (λ e. omega (arith, e)) (λ e. omega (arith, e)) (λ e. omega (arith, e)) done);
    unwritten = λ eight stale. h.stops.1 stale;
  }

  pub stopped_ends : (out : Seen) (old_after : Face) (part : Option (List ℕ)) → o.part ≡ part → (stop : Stop)
      → AnswerMayStop part o c xs disk after old old_after Granted stop → Ended o circuit bits out disk after old Granted (status_of stop)
  stopped_ends out old_after None e stop h = uncut_ends out e stop h
  stopped_ends out old_after (Some part) e stop h = cut_ends out old_after part e stop h

-- ---- where it stopped with its input
module _ (o : Options) (circuit bits out : Seen) (disk old : Face) (Granted : ℕ → Type 0) where
  early : (status : ℕ) → (status ≡ 0 → ⊥) → (status ≡ 3 → ⊥) → (status ≡ 6 → ⊥) → (status ≡ 8 → ⊥) → Ended o circuit bits out disk disk old Granted status
  early status a b c d = record { whole = λ done some. absurd (not_whole status a b c done); unwritten = λ eight. absurd (d eight) }

  pub memory_ends : Ended o circuit bits out disk disk old Granted 7
  memory_ends = early 7 (λ e. omega (arith, e)) (λ e. omega (arith, e)) (λ e. omega (arith, e)) (λ e. omega (arith, e))

  files_end : (T : ℕ) (stop : Stop) → FilesMayStop T circuit bits stop → Ended o circuit bits out disk disk old Granted (status_of stop)
  files_end T Usage h = absurd h
  files_end T (Refused r) h = early 2 (λ e. omega (arith, e)) (λ e. omega (arith, e)) (λ e. omega (arith, e)) (λ e. omega (arith, e))
  files_end T (OverflowGate gate) h = absurd h
  files_end T (OverflowPath path) h = absurd h
  files_end T (ReadFault input) h = early 4 (λ e. omega (arith, e)) (λ e. omega (arith, e)) (λ e. omega (arith, e)) (λ e. omega (arith, e))
  files_end T DiskFault h = absurd h
  files_end T (WriteFault n) h = absurd h
  files_end T Memory h = memory_ends
  files_end T (Journal r) h = absurd h

  pub input_ends : (T : ℕ) (g : Option GenSize) (stop : Stop) → InputMayStop g T circuit bits stop → Ended o circuit bits out disk disk old Granted (status_of stop)
  input_ends T None stop h = files_end T stop h
  input_ends T (Some size) stop h = subst (λ s. Ended o circuit bits out disk disk old Granted (status_of s)) (sym h) memory_ends
