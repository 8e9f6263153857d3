-- Rows that are known, computed by the definitions.
use Rattle.std.proofs.Common.{◌≡◌, ℕ, zero, suc, ◌-◌, ◌^◌, Bool, true, false, List, [], ◌∷◌, refl, pos, negsuc, Option, Some, None, map}
use Rattle.qh_ring.specs.declared.number.Omega.{Omega}
use Rattle.qh_ring.specs.Numbers.{product, nothing, one as unity}
use Rattle.qh_ring.specs.States.{with_bit, applied}
use Rattle.qh_gates.specs.declared.gate.Gate.{Gate}
use Rattle.qh_gates.specs.declared.kind.Kind.{Kind}
use Rattle.qh_gates.specs.declared.kind.Kind.TheVariants.{H, X, Cz, Cnot, Is}
use Rattle.qh_plan.specs.declared.verdict.Verdict.{Verdict}
use Rattle.qh_plan.specs.declared.verdict.Verdict.TheVariants.{Sum, Over}
use Rattle.qh_plan.specs.Jobs.{Job}
use Rattle.qh_plan.specs.PathValues.{path_amplitude}
use Rattle.qh_plan.specs.Asked.{asked}
use Rattle.qh_plan.specs.MeaningLimits.{is_within, are_narrow, path_fits}
use Rattle.qh_plan.specs.Values.{first_failing, range_value, run_value}
use Rattle.qh_plan.specs.Slots.{sum_of_slots, least_below}

-- a gate on one qubit, and one on two
on : ℕ → Kind → ℕ → Gate
on time kind q = record { time = time; kind = kind; q0 = q; q1 = q }

over : ℕ → Kind → ℕ → ℕ → Gate
over time kind p q = record { time = time; kind = kind; q0 = p; q1 = q }

four_bits : List ℕ
four_bits = 0 ∷ 1 ∷ 2 ∷ 3 ∷ []

minus_one : Omega
minus_one = record { a = negsuc 0; b = pos 0; c = pos 0; d = pos 0 }

-- ---- the Bell state: with qubit 0 alone in part 1 the control lies there, with qubit 1 alone in part 2
bell : List ℕ → Job
bell part = record {
  circuit = record { qubits = 2; gates = on 0 H 0 ∷ over 1 Cnot 0 1 ∷ [] };
  part = part;
  p = 0;
  r = 0;
  prefix = None;
  bits = four_bits;
}

bell_asked : map (asked (bell (0 ∷ []))) four_bits ≡ unity ∷ nothing ∷ nothing ∷ unity ∷ []
unfolding bell four_bits on over applied with_bit product
bell_asked = refl

bell_path_0 : map (path_amplitude (bell (0 ∷ [])) 0) four_bits ≡ unity ∷ nothing ∷ nothing ∷ nothing ∷ []
unfolding bell four_bits on over applied with_bit product
bell_path_0 = refl

bell_path_1 : map (path_amplitude (bell (0 ∷ [])) 1) four_bits ≡ nothing ∷ nothing ∷ nothing ∷ unity ∷ []
unfolding bell four_bits on over applied with_bit product
bell_path_1 = refl

bell_run : run_value (bell (0 ∷ [])) ≡ Sum (unity ∷ nothing ∷ nothing ∷ unity ∷ [])
unfolding bell four_bits on over applied with_bit product run_value range_value path_fits
bell_run = refl

bell_turned : run_value (bell (1 ∷ [])) ≡ Sum (unity ∷ nothing ∷ nothing ∷ unity ∷ [])
unfolding bell four_bits on over applied with_bit product run_value range_value path_fits
bell_turned = refl

-- ---- iSWAP moves the 1 of qubit 0 to qubit 1, times i: term 3 alone gives it
moved : Job
moved = record {
  circuit = record { qubits = 2; gates = on 0 X 0 ∷ over 1 Is 0 1 ∷ [] };
  part = 0 ∷ [];
  p = 0;
  r = 0;
  prefix = None;
  bits = four_bits;
}

imaginary : Omega
imaginary = record { a = pos 0; b = pos 0; c = pos 1; d = pos 0 }

moved_run : run_value moved ≡ Sum (nothing ∷ nothing ∷ imaginary ∷ nothing ∷ [])
unfolding moved imaginary four_bits on over applied with_bit product run_value range_value path_fits
moved_run = refl

-- ---- two cz across the cut, of which the first is the prefix
two : Option ℕ → Job
two prefix = record {
  circuit = record { qubits = 2; gates = on 0 H 0 ∷ on 0 H 1 ∷ over 1 Cz 0 1 ∷ on 2 H 0 ∷ over 3 Cz 0 1 ∷ [] };
  part = 0 ∷ [];
  p = 1;
  r = 0;
  prefix = prefix;
  bits = four_bits;
}

two_under_0 : run_value (two (Some 0)) ≡ Sum (unity ∷ unity ∷ unity ∷ minus_one ∷ [])
unfolding two minus_one four_bits on over applied with_bit product run_value range_value path_fits
two_under_0 = refl

two_under_1 : run_value (two (Some 1)) ≡ Sum (unity ∷ minus_one ∷ minus_one ∷ minus_one ∷ [])
unfolding two minus_one four_bits on over applied with_bit product run_value range_value path_fits
two_under_1 = refl

two_range_1 : range_value (two None) 1 ≡ Sum (unity ∷ minus_one ∷ minus_one ∷ minus_one ∷ [])
unfolding two minus_one four_bits on over applied with_bit product run_value range_value path_fits
two_range_1 = refl

-- ---- the limits: 2^126 - 1 is within 126 bits, 2^126 is not; a product of 2^92 - 1 is narrow, one of 2^92 is not
whole : ℕ → Omega
whole n = record { a = pos n; b = pos 0; c = pos 0; d = pos 0 }

limits : is_within 126 (whole (2 ^ 126 - 1)) ∷ is_within 126 (whole (2 ^ 126)) ∷ [] ≡ true ∷ false ∷ []
unfolding whole
limits = refl

narrow_limits : are_narrow (whole (2 ^ 92 - 1)) minus_one ∷ are_narrow (whole (2 ^ 46)) (whole (2 ^ 46)) ∷ [] ≡ true ∷ false ∷ []
unfolding whole minus_one
narrow_limits = refl

-- the least that fails a test is named
is_even : ℕ → Bool
is_even zero = true
is_even (suc zero) = false
is_even (suc (suc n)) = is_even n

first_odd : first_failing 1 is_even ∷ first_failing 4 is_even ∷ [] ≡ None ∷ Some 1 ∷ []
unfolding is_even
first_odd = refl

-- a slot that is over adds nothing to the sums, and the least path is kept apart
mixed_slots : ℕ → Option Verdict
mixed_slots zero = Some (Sum (unity ∷ []))
mixed_slots (suc zero) = Some (Over 9)
mixed_slots (suc (suc zero)) = None
mixed_slots (suc (suc (suc zero))) = Some (Over 5)
mixed_slots (suc (suc (suc (suc r)))) = Some (Sum (minus_one ∷ []))

mixed_sums : sum_of_slots mixed_slots 4 0 ∷ sum_of_slots mixed_slots 5 0 ∷ [] ≡ unity ∷ nothing ∷ []
unfolding mixed_slots minus_one
mixed_sums = refl

mixed_least : least_below mixed_slots 1 ∷ least_below mixed_slots 3 ∷ least_below mixed_slots 5 ∷ [] ≡ None ∷ Some 9 ∷ Some 5 ∷ []
unfolding mixed_slots
mixed_least = refl
