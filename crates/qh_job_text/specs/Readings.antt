-- What the code keeps of a text that is being read.
use Rattle.std.specs.Prelude.{◌≡◌, [], ◌∷◌, ◌++◌, length, codes}
use Rattle.std.specs.List.{flat_map}
use Rattle.qh_plan.specs.declared.fault.PlanFault.{PlanFault}
use Rattle.qh_plan.specs.declared.fault.PlanFault.TheVariants.{Memory as PlanMemory}
use Rattle.qh_job_text.specs.declared.fault.JobTextFault.{JobTextFault}
use Rattle.qh_job_text.specs.declared.fault.JobTextFault.TheVariants.{NotOne, Memory}
use Rattle.qh_job_text.specs.declared.reading.Lines.{Lines}
use Rattle.qh_job_text.specs.declared.reading.Parts.{Parts}
use Rattle.qh_plan.specs.Jobs.{Job}
use Rattle.qh_plan.specs.Texts.{words, prefix_text, bits_line, gates_text}

-- the lines are those of this job
pub record HasLines (j : Job) (l : Lines) : Type 0 where
  pub part : l.part.now ≡ words (codes "part") j.part
  pub split : l.split.now ≡ words (codes "split") (j.p ∷ j.r ∷ [])
  pub prefix : l.prefix.now ≡ prefix_text j.prefix
  pub count : l.count.now ≡ words (codes "bits") (length j.bits ∷ [])
  pub rest : l.rest.now ≡ flat_map (bits_line j.circuit.qubits) j.bits ++ gates_text j.circuit

-- the parts are those of this job
pub record AreParts (j : Job) (p : Parts) : Type 0 where
  pub circuit : p.circuit ≡ j.circuit
  pub part : p.part.items ≡ j.part
  pub first : p.split.0 ≡ j.p
  pub second : p.split.1 ≡ j.r
  pub prefix : p.prefix ≡ j.prefix
  pub bits : p.bits.items ≡ j.bits

-- a plan that is refused for another cause than memory is of no job's text
abbrev pub text_fault : PlanFault → JobTextFault
text_fault PlanMemory = Memory
text_fault _ = NotOne
