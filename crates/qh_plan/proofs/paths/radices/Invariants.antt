use Rattle.std.proofs.Common.{◌≡◌, ◌==◌, ◌≤◌, ◌++◌, All, length, drop}
use Rattle.std.specs.List.{list_any}
use Rattle.qh_plan.specs.Paths.{radices}
use Rattle.qh_plan.specs.Plans.{IsRadix}
use Rattle.qh_plan.proofs.paths.radices.Given as goal

abbrev pub invariant-loop-gate : goal.invariant-loop-gate
invariant-loop-gate l = record {
  value : l.radices.items ++ radices (λ q. list_any (λ k. k == q) l.part) (drop l.gate-index l.gates) ≡ radices (λ q. list_any (λ k. k == q) l.part) l.gates;
  known : All IsRadix l.radices.items;
  bounded : length l.radices.items ≤ l.gate-index;
}
