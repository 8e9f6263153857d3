-- The text of a job. Numbers are decimal without leading zeros, one space (32) stands between words, and each line
-- ends with a line feed (10).
use Rattle.std.specs.Prelude.{ℕ, ◌+◌, ◌*◌, List, [], ◌∷◌, ◌++◌, length, codes, decimal, Option, Some, None}
use Rattle.std.specs.List.{flat_map}
use Rattle.qh_text.specs.Bitstrings.{bits_text}
use Rattle.qh_gates.specs.Circuits.{Circuit}
use Rattle.qh_circuit.specs.Spelling.{circuit_text}
use Rattle.qh_plan.specs.Jobs.{Job, ranges}

-- a space and the number
abbrev pub word : ℕ → List ℕ
word n = 32 ∷ decimal n

-- a name and numbers
abbrev pub words : List ℕ → List ℕ → List ℕ
words name numbers = name ++ flat_map word numbers

-- all prefix values, or the one that is given
abbrev pub prefix_text : Option ℕ → List ℕ
prefix_text None = codes "prefix all"
prefix_text (Some w) = words (codes "prefix") (w ∷ [])

-- a bitstring and the end of its line
abbrev pub bits_line : ℕ → ℕ → List ℕ
bits_line qubits x = bits_text qubits x ++ 10 ∷ []

-- the lines after the bitstrings: how many gates there are, and the printed circuit
abbrev pub gates_text : Circuit → List ℕ
gates_text c = words (codes "gates") (length c.gates ∷ []) ++ 10 ∷ circuit_text c

-- the lines from the number of bitstrings on
abbrev pub asked_text : Circuit → List ℕ → List ℕ
asked_text c bits = words (codes "bits") (length bits ∷ []) ++ 10 ∷ (flat_map (bits_line c.qubits) bits ++ gates_text c)

-- `job 1`, `part` and the qubits of part 1, `split` and p and r, `prefix`, then the lines above
unfoldable pub job_text : Job → List ℕ
job_text j =
    codes "job 1" ++ 10 ∷ (words (codes "part") j.part ++ 10 ∷ (words (codes "split") (j.p ∷ j.r ∷ [])
    ++ 10 ∷ (prefix_text j.prefix ++ 10 ∷ asked_text j.circuit j.bits)))

-- the bytes of a journal of this job: 32 of its head, the job text, and for each range 10 and 64 for each bitstring
unfoldable pub journal_length : Job → ℕ
journal_length j = 32 + length (job_text j) + ranges j * (10 + 64 * length j.bits)
