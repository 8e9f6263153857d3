use Rattle.std.proofs.Common.{◌≡◌, ℕ, ◌++◌, ◌<◌, ◌≤◌, ◌^◌, List, length, take, drop, All}
use Rattle.std.specs.List.{flat_map}
use Rattle.qh_plan.specs.Texts.{bits_line}
use Rattle.qh_job_text.proofs.reading.read_bits.Given as goal

abbrev pub invariant-loop-i : goal.invariant-loop-i
invariant-loop-i l = (n : ℕ) (bits back : List ℕ) → n ≤ 40 → All (λ x. x < 2 ^ n) bits → length bits ≡ l.count → l.text ≡ flat_map (bits_line n) bits ++ back
    → (l.bits.items ≡ take l.i bits) × (l.rest ≡ flat_map (bits_line n) (drop l.i bits) ++ back)
