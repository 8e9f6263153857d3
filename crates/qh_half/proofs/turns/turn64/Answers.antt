use Rattle.std.proofs.Common.{[], ◌∷◌, ℕ, ◌+◌, ◌-◌, ◌/◌, ◌≤◌, ◌<◌, List, arith, ap, subst, sym, ◌∙◌}
use Rattle.std.specs.Prelude.{Some}
use Rattle.qh_ring.specs.declared.number.Omega.{Omega}
use Rattle.qh_ring.specs.Matrices.{number_in}
use Rattle.qh_narrow.specs.Columns.{Columns}
use Rattle.qh_narrow.specs.Factor.{with_factor}
use Rattle.qh_half.specs.Halves.{IsVector, AfterMatrix}
use Rattle.qh_half.specs.Forms.{held}
use Rattle.qh_half.proofs.RootLemmas.{same_factor, turned_numbers, turned_vector, vector_of}
use Rattle.qh_half.proofs.turns.turn64.Goals as goal

few_roots : (roots taken : ℕ) → roots ≤ 128 → taken ≤ 128 - roots → 62 + (roots + taken + 1) / 2 ≤ 126
few_roots roots taken l f = omega arith

pub try64-requires : goal.try64-requires
try64-requires c = subst (λ t. c.args.q < t) (sym (c.take_factor-taken.ensures.qubits ∙ c.requires.kept.alike.narrow64)) c.requires.qubit

pub returns-in_default-clause-kept : goal.returns-in_default-clause-kept
returns-in_default-clause-kept c = record {
  alike = record {
    few = c.requires.kept.alike.few;
    narrow16 = c.requires.kept.alike.narrow16;
    narrow32 = c.requires.kept.alike.narrow32;
    narrow64 = c.in_default.ensures.qubits ∙ c.take_factor-taken.ensures.qubits ∙ c.requires.kept.alike.narrow64;
    wide = c.requires.kept.alike.wide;
  };
  roots = let l = c.requires.kept.roots in let few = c.take_factor-taken.ensures.few in omega arith;
  vector = turned_vector c.args.qubits c.args.roots c.take_factor-taken.result 62 (number_in c.args.m.now.rows) (c.args.q ∷ []) c.args.places.now.narrow64.numbers c.take_factor-taken.new.self.numbers c.try64.new.columns.numbers
      (few_roots c.args.roots c.take_factor-taken.result c.requires.kept.roots c.take_factor-taken.ensures.few) c.requires.kept.vector c.take_factor-taken.ensures.numbers c.in_default.ensures.exact c.in_default.ensures.within;
}

pub returns-in_default-clause-numbers : goal.returns-in_default-clause-numbers
returns-in_default-clause-numbers c =
    let v = turned_vector c.args.qubits c.args.roots c.take_factor-taken.result 62 (number_in c.args.m.now.rows) (c.args.q ∷ []) c.args.places.now.narrow64.numbers c.take_factor-taken.new.self.numbers c.try64.new.columns.numbers
    (few_roots c.args.roots c.take_factor-taken.result c.requires.kept.roots c.take_factor-taken.ensures.few) c.requires.kept.vector c.take_factor-taken.ensures.numbers c.in_default.ensures.exact c.in_default.ensures.within in (
      turned_numbers c.args.roots c.take_factor-taken.result (number_in c.args.m.now.rows) (c.args.q ∷ []) c.args.places.now.narrow64.numbers c.take_factor-taken.new.self.numbers c.try64.new.columns.numbers
          c.take_factor-taken.ensures.numbers c.in_default.ensures.exact,
      v.within,
    )

pub turn_spread-requires-clause-alike : goal.turn_spread-requires-clause-alike
turn_spread-requires-clause-alike c = record {
  few = c.requires.kept.alike.few;
  narrow16 = c.requires.kept.alike.narrow16;
  narrow32 = c.requires.kept.alike.narrow32;
  narrow64 = ap (λ (s : Columns). s.qubits) c.in-Err.ensures.same ∙ c.take_factor-taken.ensures.qubits ∙ c.requires.kept.alike.narrow64;
  wide = c.requires.kept.alike.wide;
}

pub turn_spread-requires-clause-vector : goal.turn_spread-requires-clause-vector
turn_spread-requires-clause-vector c =
    subst (λ (v : List Omega). IsVector c.args.qubits (with_factor (c.args.roots + c.take_factor-taken.result) v)) (sym (ap (λ (s : Columns). s.numbers) c.in-Err.ensures.same))
    (vector_of c.args.qubits c.args.roots c.take_factor-taken.result c.args.places.now.narrow64.numbers c.take_factor-taken.new.self.numbers c.requires.kept.vector c.take_factor-taken.ensures.numbers)

pub returns-clause-numbers : goal.returns-clause-numbers
returns-clause-numbers c =
    subst (λ (v : List Omega). AfterMatrix (number_in c.args.m.now.rows) (c.args.q ∷ []) (Some v) (held c.turn_spread.result c.turn_spread.new.places))
    (ap (with_factor (c.args.roots + c.take_factor-taken.result)) (ap (λ (s : Columns). s.numbers) c.in-Err.ensures.same)
    ∙ same_factor c.args.roots c.take_factor-taken.result c.args.places.now.narrow64.numbers c.take_factor-taken.new.self.numbers c.take_factor-taken.ensures.numbers)
    c.turn_spread.ensures.numbers
