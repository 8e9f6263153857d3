use Rattle.std.proofs.Common.{[], ◌∷◌, ℕ, arith, subst, sym, ◌∙◌}
use Rattle.qh_ring.specs.Matrices.{number_in}
use Rattle.qh_half.specs.Halves.{IsVector}
use Rattle.qh_half.proofs.FormLemmas.{vector_after}
use Rattle.qh_half.proofs.turns.turn_wide.Goals as goal

pub apply1-requires-clause-vector : goal.apply1-requires-clause-vector
apply1-requires-clause-vector c = subst (λ (n : ℕ). IsVector n c.args.places.now.wide.numbers) (sym c.requires.kept.alike.wide) c.requires.kept.vector

pub returns-in_default-clause-kept : goal.returns-in_default-clause-kept
returns-in_default-clause-kept c = record {
  alike = record {
    few = c.requires.kept.alike.few;
    narrow16 = c.requires.kept.alike.narrow16;
    narrow32 = c.requires.kept.alike.narrow32;
    narrow64 = c.requires.kept.alike.narrow64;
    wide = c.in_default.ensures.qubits ∙ c.requires.kept.alike.wide;
  };
  roots = omega arith;
  vector = tt;
}

pub returns-clause-kept : goal.returns-clause-kept
returns-clause-kept c = record {
  alike = record {
    few = c.requires.kept.alike.few;
    narrow16 = c.requires.kept.alike.narrow16;
    narrow32 = c.requires.kept.alike.narrow32;
    narrow64 = c.requires.kept.alike.narrow64;
    wide = c.apply1.ensures.qubits ∙ c.requires.kept.alike.wide;
  };
  roots = omega arith;
  vector = vector_after c.args.qubits 126 (number_in c.args.m.now.rows) (c.args.q ∷ []) c.args.places.now.wide.numbers c.apply1.new.self.numbers (omega arith)
      c.requires.kept.vector c.in-Ok.ensures.exact c.in-Ok.ensures.within;
}
