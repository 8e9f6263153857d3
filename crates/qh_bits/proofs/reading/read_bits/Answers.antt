use Rattle.std.proofs.Common.{vec_len, ◌≡◌, ◌^◌, ◌<◌, ◌∷◌, [], All, length, sym, subst, ◌∙◌, inr, arith, length-append, ap, ℕ}
use Rattle.std.proofs.lemmas.List.{nil_from_length}
use Rattle.std.proofs.lemmas.List.Elements.{All-push}
use Rattle.std.proofs.lemmas.Bool.{eqb-true, eqb-false}
use Rattle.qh_bits.proofs.SpellingLemmas.{spelled}
use Rattle.qh_bits.proofs.ReadOn.{read_on_start, read_on_fault, read_on_more, read_on_none, read_on_end}
use Rattle.qh_bits.proofs.reading.read_bits.Goals as goal

pub loop-line-init : goal.loop-line-init
loop-line-init c =
    let start = read_on_start c.args.qubits c.args.bytes.now in
    record {
      same = rw (c.new-indices.ensures.items, c.into_iter-line-iterator.ensures.into_iter_gives, c.new-line-items.ensures) start;
      few = omega (arith, ap (length {A = ℕ}) c.new-indices.ensures.items);
      below = λ k d h. absurd (omega (arith, ap (length {A = ℕ}) c.new-indices.ensures.items));
    }

pub loop-line-preserved : goal.loop-line-preserved
loop-line-preserved c =
    let found = c.loop-line.indices.items in
    let made = c.in-Ok-push.ensures.items in
    let count : c.len.result ≡ length found = omega arith in
    record {
      same = c.loop-line.invariant.same
          ∙ read_on_more _ _ _ _ _ _ _ _ _ _ c.in-Some.ensures.steps c.trimmed.ensures count c.in-Ok.ensures.sound c.in-Ok.ensures.index made;
      few = omega (arith, ap (length {A = ℕ}) made, length-append found (c.in-Ok.index ∷ []), c.in-Ok.ensures.few);
      below = subst (All (λ index. index < 2 ^ c.args.qubits)) (sym made)
          (All-push (λ index. index < 2 ^ c.args.qubits) found c.in-Ok.index c.loop-line.invariant.below c.in-Ok.ensures.below);
    }

pub returns-in-Err-clause-fault : goal.returns-in-Err-clause-fault
returns-in-Err-clause-fault c =
    let count : c.len.result ≡ length c.loop-line.indices.items = omega arith in
    inr (c.loop-line.invariant.same ∙ read_on_fault _ _ _ _ _ _ _ _ _ c.in-Some.ensures.steps c.trimmed.ensures count c.in-Err.ensures.fault)

pub returns-then-is_empty-clause-fault : goal.returns-then-is_empty-clause-fault
returns-then-is_empty-clause-fault c =
    let none = eqb-true (vec_len c.loop-line.indices) 0 (sym c.is_empty.ensures ∙ c.if-is_empty.true) in
    let empty : c.loop-line.indices.items ≡ [] = nil_from_length c.loop-line.indices.items (omega (arith, none)) in
    inr (c.loop-line.invariant.same ∙ read_on_none _ _ _ c.in-None.ensures.steps.0 empty)

pub returns-clause-indices : goal.returns-clause-indices
returns-clause-indices c =
    c.loop-line.invariant.same ∙ read_on_end _ _ _ c.in-None.ensures.steps.0 (λ e. eqb-false (vec_len c.loop-line.indices) 0 (sym c.is_empty.ensures ∙ c.if-is_empty.false) (omega (arith, ap (length {A = ℕ}) e)))

pub returns-clause-strings : goal.returns-clause-strings
returns-clause-strings c = spelled c.args.qubits c.args.bytes.now c.loop-line.indices.items (returns-clause-indices c)
