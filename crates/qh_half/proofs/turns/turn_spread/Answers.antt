use Rattle.std.proofs.Common.{[], ◌∷◌, ℕ, List, subst, sym, ◌∙◌, arith}
use Rattle.std.specs.Prelude.{Some}
use Rattle.qh_ring.specs.declared.number.Omega.{Omega}
use Rattle.qh_ring.specs.Matrices.{number_in}
use Rattle.qh_narrow.specs.Factor.{with_factor}
use Rattle.qh_half.specs.Halves.{IsVector, AfterMatrix}
use Rattle.qh_half.specs.Forms.{held}
use Rattle.qh_half.proofs.turns.turn_spread.Goals as goal

pub spread_from-requires-clause-alike : goal.spread_from-requires-clause-alike
spread_from-requires-clause-alike c = c.requires.alike.narrow64 ∙ sym c.requires.alike.wide

pub spread_from-requires-clause-vector : goal.spread_from-requires-clause-vector
spread_from-requires-clause-vector c = subst (λ (n : ℕ). IsVector n (with_factor c.args.roots c.args.places.now.narrow64.numbers)) (sym c.requires.alike.narrow64) c.requires.vector

pub turn_wide-requires-clause-kept : goal.turn_wide-requires-clause-kept
turn_wide-requires-clause-kept c = record {
  alike = record {
    few = c.requires.alike.few;
    narrow16 = c.requires.alike.narrow16;
    narrow32 = c.requires.alike.narrow32;
    narrow64 = c.requires.alike.narrow64;
    wide = c.spread_from.ensures.qubits ∙ c.requires.alike.wide;
  };
  roots = omega arith;
  vector = subst (λ (v : List Omega). IsVector c.args.qubits v) (sym c.spread_from.ensures.numbers) c.requires.vector;
}

pub returns-clause-numbers : goal.returns-clause-numbers
returns-clause-numbers c =
    subst (λ (v : List Omega). AfterMatrix (number_in c.args.m.now.rows) (c.args.q ∷ []) (Some v) (held c.turn_wide.result c.turn_wide.new.places)) c.spread_from.ensures.numbers c.turn_wide.ensures.numbers
