-- Rows that are known, computed by the definitions.
use Rattle.std.proofs.Common.{◌≡◌, ℕ, zero, suc, pos, [], ◌∷◌, refl, Option, Some, None, map}
use Rattle.qh_ring.specs.Numbers.{one as unity, unit, nothing}
use Rattle.qh_gates.specs.declared.gate.Gate.{Gate}
use Rattle.qh_gates.specs.declared.kind.Kind.TheVariants.{Cz, Is, Id2}
use Rattle.qh_plan.specs.declared.verdict.Verdict.{Verdict}
use Rattle.qh_plan.specs.declared.verdict.Verdict.TheVariants.{Sum, Over}
use Rattle.qh_plan.specs.Parts.{others, count_below, local_index}
use Rattle.qh_plan.specs.Paths.{path_number}
use Rattle.qh_plan.specs.Jobs.{Job, in_one, job_radices, crossing, paths, prefixes, roots, per_range, ranges, first_path, digits_of}
use Rattle.qh_plan.specs.Verdicts.{total_below}

-- a cz and an is across the cut: path 6 takes term 1 of the first and term 2 of the second
two_kinds : Job
two_kinds = record {
  circuit = record { qubits = 2; gates = record { time = 0; kind = Cz; q0 = 0; q1 = 1 } ∷ record { time = 1; kind = Is; q0 = 1; q1 = 0 } ∷ [] };
  part = 0 ∷ [];
  p = 0;
  r = 0;
  prefix = None;
  bits = 0 ∷ [];
}

two_kinds_radices : job_radices two_kinds ≡ 2 ∷ 4 ∷ []
unfolding two_kinds
two_kinds_radices = refl

two_kinds_digits : digits_of two_kinds 6 ≡ 1 ∷ 2 ∷ []
unfolding two_kinds
two_kinds_digits = refl

two_kinds_number : path_number (job_radices two_kinds) (1 ∷ 2 ∷ []) ≡ 6
unfolding two_kinds
two_kinds_number = refl

-- three cz, of which one is prefix and one root: range 3 begins with path 6
cz_at : ℕ → Gate
cz_at t = record { time = t; kind = Cz; q0 = 0; q1 = 1 }

three : Job
three = record {
  circuit = record { qubits = 2; gates = cz_at 0 ∷ cz_at 1 ∷ cz_at 2 ∷ [] };
  part = 1 ∷ [];
  p = 1;
  r = 1;
  prefix = None;
  bits = 0 ∷ [];
}

three_counts : paths three ∷ prefixes three ∷ roots three ∷ per_range three ∷ ranges three ∷ first_path three 3 ∷ [] ≡ 8 ∷ 2 ∷ 2 ∷ 2 ∷ 4 ∷ 6 ∷ []
unfolding three cz_at
three_counts = refl

three_digits : digits_of three 5 ≡ 1 ∷ 0 ∷ 1 ∷ []
unfolding three cz_at
three_digits = refl

-- under prefix value 1 the run has two ranges, the paths 4 and 5 and the paths 6 and 7
three_under_one : map (first_path (record three { prefix = Some 1 })) (0 ∷ 1 ∷ []) ≡ 4 ∷ 6 ∷ []
unfolding three cz_at
three_under_one = refl

-- an id2 across the cut counts as crossing and has one path
still : Job
still = record three { circuit = record { qubits = 2; gates = record { time = 0; kind = Id2; q0 = 0; q1 = 1 } ∷ [] } }

still_counts : crossing still ∷ paths still ∷ [] ≡ 1 ∷ 1 ∷ []
unfolding still three cz_at
still_counts = refl

-- of the qubits 0 to 3, part 1 has 1 and 3: index 13 is 1011 from qubit 0 on
crossed_part : Job
crossed_part = record three { circuit = record { qubits = 4; gates = [] }; part = 1 ∷ 3 ∷ [] }

crossed_places : map (count_below (in_one crossed_part)) (1 ∷ 3 ∷ []) ≡ 0 ∷ 1 ∷ []
unfolding crossed_part three cz_at
crossed_places = refl

crossed_indices : local_index (in_one crossed_part) 4 13 ∷ local_index (others (in_one crossed_part)) 4 13 ∷ [] ≡ 2 ∷ 3 ∷ []
unfolding crossed_part three cz_at
crossed_indices = refl

-- the least path that is over is named, whichever range has it; a range without a verdict adds nothing
over_slots : ℕ → Option Verdict
over_slots zero = Some (Sum (unity ∷ []))
over_slots (suc zero) = Some (Over 9)
over_slots (suc (suc zero)) = None
over_slots (suc (suc (suc i))) = Some (Over 5)

over_total : total_below (0 ∷ []) over_slots 4 ≡ Over 5
unfolding over_slots
over_total = refl

sum_slots : ℕ → Option Verdict
sum_slots zero = Some (Sum (unity ∷ nothing ∷ []))
sum_slots (suc zero) = None
sum_slots (suc (suc i)) = Some (Sum (unity ∷ unit ∷ []))

sum_total : total_below (0 ∷ 1 ∷ []) sum_slots 3 ≡ Sum (record { a = pos 2; b = pos 0; c = pos 0; d = pos 0 } ∷ unit ∷ [])
unfolding sum_slots
sum_total = refl
