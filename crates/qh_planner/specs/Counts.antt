-- What the code counts of a cut. No public contract speaks of it.
use Rattle.std.specs.Prelude.{◌≡◌, ℕ, ◌+◌, ◌-◌, ◌*◌, ◌^◌, ◌<◌, ◌≤◌, nat_lt, nat_le, Bool, ◌&&◌, List, [], ◌∷◌, ◌++◌, length, take, drop, codes, Option, Some, None, if◌then◌else◌}
use Rattle.qh_gates.specs.Circuits.{Circuit}
use Rattle.qh_circuit.specs.Spelling.{circuit_text}
use Rattle.qh_plan.specs.declared.fault.PlanFault.{PlanFault}
use Rattle.qh_plan.specs.declared.fault.PlanFault.TheVariants.{TooManyCrossing, TooManyPaths, PrefixRoot, PrefixValue}
use Rattle.qh_plan.specs.Texts.{word}
use Rattle.qh_plan.specs.Plans.{path_bits, width_fault, is_past, size_fault, range_count, or_else}
use Rattle.qh_planner.specs.declared.crossing.Crossing.{Crossing}
use Rattle.qh_planner.specs.declared.row.CutAnswer.{CutAnswer}
use Rattle.qh_planner.specs.declared.row.CutAnswer.TheVariants.{Allowed, Refused}

-- whether a qubit is below m
abbrev pub below : ℕ → ℕ → Bool
below m q = nat_lt q m

-- the counts of the crossing gates with these numbers of terms
pub record IsCounted (radices : List ℕ) (p r : ℕ) (x : Crossing) : Type 0 where
  pub gates : x.gates ≡ length radices
  pub paths : x.paths ≡ path_bits radices
  pub prefixes : x.prefixes ≡ path_bits (take p radices)
  pub roots : x.roots ≡ path_bits (take r (drop p radices))

-- the counts with one crossing gate more, of 2^bits terms
abbrev pub one_more : ℕ → ℕ → ℕ → Crossing → Crossing
one_more p r bits x = record {
  gates = x.gates + 1;
  paths = x.paths + bits;
  prefixes = if nat_lt x.gates p then x.prefixes + bits else x.prefixes;
  roots = if nat_le p x.gates && nat_lt x.gates (p + r) then x.roots + bits else x.roots;
}

-- a gate has at most four terms, and no gate is both prefix and root
pub record IsSmall (x : Crossing) : Type 0 where
  pub paths : x.paths ≤ 2 * x.gates
  pub parts : x.prefixes + x.roots ≤ x.paths

-- ---- refusals by the counts

abbrev pub path_refusal : Crossing → Option PlanFault
path_refusal x =
    if nat_lt 32 x.gates then Some (TooManyCrossing x.gates)
    else (if nat_lt 32 x.paths then Some (TooManyPaths x.paths) else None)

abbrev pub split_refusal : Crossing → ℕ → ℕ → Option ℕ → Option PlanFault
split_refusal x p r prefix =
    if nat_lt x.gates (p + r) then Some (PrefixRoot x.gates)
    else (if is_past (2 ^ x.prefixes) prefix then Some (PrefixValue (2 ^ x.prefixes)) else None)

abbrev pub range_total : Crossing → Option ℕ → ℕ
range_total x prefix = range_count (2 ^ x.prefixes) (2 ^ x.roots) prefix

abbrev pub size_refusal : Crossing → Option ℕ → ℕ → ℕ → Option PlanFault
size_refusal x prefix text bits = size_fault (range_total x prefix) (32 + text + range_total x prefix * (10 + 64 * bits))

-- of a circuit with n qubits of which m lie in part 1, a job text of so many bytes and so many bitstrings
unfoldable pub counted_refusal : ℕ → ℕ → Crossing → ℕ → ℕ → Option ℕ → ℕ → ℕ → Option PlanFault
counted_refusal n m x p r prefix text bits =
    or_else (width_fault n m) (or_else (path_refusal x) (or_else (split_refusal x p r prefix) (size_refusal x prefix text bits)))

-- the cost by the counts
abbrev pub counted_cost : ℕ → ℕ → Crossing → ℕ
counted_cost n m x = 2 ^ x.paths * (2 ^ m + 2 ^ (n - m))

abbrev pub IsCountedAnswer : ℕ → ℕ → Crossing → Option PlanFault → CutAnswer → Type 0
IsCountedAnswer n m x refused (Allowed log2 units) = (refused ≡ None) × (log2 ≡ x.paths) × (units ≡ counted_cost n m x)
IsCountedAnswer n m x refused (Refused fault) = refused ≡ Some fault

-- ---- the length of a job's text

-- all prefix values, or the one that is given, as a word
abbrev pub prefix_word : Option ℕ → List ℕ
prefix_word None = codes " all"
prefix_word (Some w) = word w

-- what of the text hangs on the circuit, the split, the prefix value and the number of bitstrings, in another order
abbrev pub loose_text : Circuit → ℕ → ℕ → Option ℕ → List ℕ → List ℕ
loose_text c p r prefix bits =
    circuit_text c ++ word p ++ word r ++ prefix_word prefix ++ word (length bits) ++ word (length c.gates)

-- the names and ends of lines, and the lines of the bitstrings
abbrev pub fixed_length : ℕ → ℕ → ℕ
fixed_length n bits = 35 + bits * (n + 1)
