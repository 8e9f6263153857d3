-- The job of a call.
use Rattle.std.specs.Prelude.{◌≡◌, ℕ, List, Option, Some, None, map, is_some, string_bytes}
use Rattle.std.specs.declared.string.String.{String}
use Rattle.qh_text.specs.Bitstrings.{bits_text}
use Rattle.qh_gates.specs.Circuits.{Circuit}
use Rattle.qh_plan.specs.Jobs.{Job}
use Rattle.qh_plan.specs.Plans.{first_fault, job_of}
use Rattle.qh_slots.specs.Record.{Keeping}
use Rattle.qh_words.specs.Request.{options_of}
use Rattle.qh_words.specs.declared.options.Options.{Options}
use Rattle.qh_request.specs.Seen.{Seen}
use Rattle.qh_request.specs.Inputs.{IsInput, HasInput}
use Rattle.qh_request.specs.Chosen.{IsPart}

-- what the words ask for; none where they are no request
abbrev pub request : {Z : Type 0} → List (String Z) → Option Options
request words = options_of (map string_bytes words)

-- how a run of these options keeps its record: with -j, --new and --from
abbrev pub keeping : Options → Keeping
keeping o = record { kept = is_some o.journal; fresh = o.fresh; taking = is_some o.from }

-- the job that a part 1 and the options plan
pub record IsPlannedJob (o : Options) (part : List ℕ) (c : Circuit) (xs : List ℕ) (j : Job) : Type 0 where
  pub items : List ℕ
  pub part_is : IsPart o part c xs items
  pub accepted : first_fault c items o.p o.r o.w xs ≡ None
  pub job : j ≡ job_of c items o.p o.r o.w xs

-- the words ask for this job, by what the sources hold at entry, as far as they tell it
pub record Asks (asked : Option Options) (circuit bits : Option (List ℕ)) (o : Options) (j : Job) : Type 0 where
  pub request_is : asked ≡ Some o
  pub value : Circuit
  pub indices : List ℕ
  pub input : HasInput o.generated o.max_time circuit bits value indices
  pub part : List ℕ
  pub cut : o.part ≡ Some part
  pub planned : IsPlannedJob o part value indices j

-- the call came to this job: both sources were read to their end, or the circuit is generated
pub record Takes (o : Options) (circuit bits : Seen) (j : Job) : Type 0 where
  pub value : Circuit
  pub indices : List ℕ
  pub input : IsInput o.generated o.max_time circuit bits value indices
  pub part : List ℕ
  pub cut : o.part ≡ Some part
  pub planned : IsPlannedJob o part value indices j

-- the strings that the job asks, as its basis indices are spelled
abbrev pub job_strings : Job → List (List ℕ)
job_strings j = map (bits_text j.circuit.qubits) j.bits
