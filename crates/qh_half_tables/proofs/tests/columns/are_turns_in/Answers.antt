use Rattle.std.proofs.Common.{◌≡◌, ℕ, ◌+◌, ◌<◌, ◌≤◌, List, [], ◌∷◌, ◌++◌, length, take, get_or, arith, refl, ap, subst, sym, ◌∙◌}
use Rattle.std.specs.List.{All}
use Rattle.std.proofs.lemmas.List.{take_more, take_all}
use Rattle.std.proofs.lemmas.List.Elements.{All-push}
use Rattle.qh_passes.specs.declared.turn.Turn.{Turn}
use Rattle.qh_passes.specs.Turns.{IsTurnIn}
use Rattle.qh_half_tables.proofs.tests.columns.are_turns_in.Goals as goal

more_turns : (run : List Turn) (i : ℕ) (turn : Turn) → i < length run → turn ≡ get_or run i turn → take (i + 1) run ≡ take i run ++ turn ∷ []
more_turns run i turn l is = take_more run i turn l ∙ ap (λ t. take i run ++ t ∷ []) (sym is)

turns_more : (P : Turn → Type 0) (run : List Turn) (i : ℕ) (turn : Turn) → i < length run → turn ≡ get_or run i turn → All P (take i run) → P turn → All P (take (i + 1) run)
turns_more P run i turn l is h p = subst (All P) (sym (more_turns run i turn l is)) (All-push P (take i run) turn h p)

turns_all : (P : Turn → Type 0) (run : List Turn) (i : ℕ) → length run ≤ i → All P (take i run) → All P run
turns_all P run i l h = subst (All P) (take_all i run l) h

pub loop-turn-preserved : goal.loop-turn-preserved
loop-turn-preserved c =
    turns_more (IsTurnIn c.args.limit) c.args.run.now c.loop-turn.turn-index c.turn-item.result c.loop-turn-test.true c.turn-item.is c.loop-turn.invariant (c.if-not-is_turn_in.ensures refl)

pub returns : goal.returns
returns c = λ t. let done = c.loop-turn-test.false in turns_all (IsTurnIn c.args.limit) c.args.run.now c.loop-turn.turn-index (omega (arith, done)) c.loop-turn.invariant
