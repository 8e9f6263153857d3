-- A run of turns within a tile, on blocks that hold no number but the state's.
use Rattle.std.proofs.Common.{◌≡◌, ℕ, ◌+◌, ◌-◌, ◌*◌, ◌^◌, ◌<◌, ◌≤◌, ℤ, List, [], ◌∷◌, ◌++◌, length, take, get_or, map, arith, sym, ap, subst, ◌∙◌, refl}
use Rattle.std.specs.List.{All, range_with_len}
use Rattle.std.proofs.lemmas.Nat.{pow-add}
use Rattle.std.proofs.lemmas.List.{take_more, take_all}
use Rattle.std.proofs.lemmas.List.Elements.{All-take, All-push}
use Rattle.qh_ring.specs.Laws.{AllLess}
use Rattle.qh_ring.specs.States.{listed}
use Rattle.qh_blocks.specs.declared.block.Block.{Block}
use Rattle.qh_blocks.specs.Numbers.{number_at, numbers}
use Rattle.qh_passes.specs.declared.turn.Turn.{Turn}
use Rattle.qh_passes.specs.declared.turn.Turn.TheVariants.{One, Two}
use Rattle.qh_passes.specs.Turns.{qubits_in, after_turns, IsTurnIn, width_turned, width_after_turns}
use Rattle.qh_passes.proofs.RunLemmas.{widths_append}
use Rattle.qh_narrow.specs.Columns.{first_numbers, AreBlocksOf}
use Rattle.qh_narrow.proofs.BlocksLemmas.{past_end}

-- ---- blocks that are full
full : (q b : ℕ) → b ≤ q → 2 ^ b * 2 ^ (q - b) ≡ 2 ^ q
full q b l = let e : b + (q - b) ≡ q = omega arith in sym (pow-add 2 b (q - b)) ∙ ap (λ n. 2 ^ n) e

all_numbers : {V : Type 0} (lanes : V → List ℤ) (b q : ℕ) (v : List (Block V)) → b ≤ q → length v ≡ 2 ^ (q - b) → numbers lanes b v ≡ first_numbers lanes b q v
unfolding numbers listed
all_numbers lanes b q v l e = ap (λ n. map (number_at lanes b v) (range_with_len 0 n)) (ap (λ n. 2 ^ b * n) e ∙ full q b l)

pub run_first : {V : Type 0} (lanes : V → List ℤ) (b q : ℕ) (run : List Turn) (v w : List (Block V)) → b ≤ q → AreBlocksOf lanes b q v → length w ≡ length v
    → numbers lanes b w ≡ after_turns run (numbers lanes b v) → first_numbers lanes b q w ≡ after_turns run (first_numbers lanes b q v)
run_first lanes b q run v w l h len e =
    sym (all_numbers lanes b q w l (len ∙ h.len)) ∙ e ∙ ap (after_turns run) (all_numbers lanes b q v l h.len)

pub run_blocks : {V : Type 0} (lanes : V → List ℤ) (b q : ℕ) (v w : List (Block V)) → b ≤ q → AreBlocksOf lanes b q v → length w ≡ length v → AreBlocksOf lanes b q w
run_blocks lanes b q v w l h len = record {
  few = h.few;
  len = len ∙ h.len;
  others = λ k g. past_end lanes b w k (subst (λ n. n ≤ k) (sym (ap (λ n. 2 ^ b * n) (len ∙ h.len) ∙ full q b l)) g);
}

-- ---- turns within a tile
turn_below : (n m : ℕ) (turn : Turn) → IsTurnIn n turn → AllLess m (qubits_in turn) → IsTurnIn m turn
turn_below n m (One matrix qubit) t h = h.0
turn_below n m (Two matrix first second) t h = (h.0, h.1.0, t.2, t.3)

pub turns_below : (n m c : ℕ) (run : List Turn) → All (IsTurnIn n) run → All (λ turn. AllLess m (qubits_in turn)) (take c run) → All (IsTurnIn m) (take c run)
turns_below n m c run t h i d l = turn_below n m (get_or (take c run) i d) (All-take (IsTurnIn n) c run t i d l) (h i d l)

-- ---- the first turns that qualify
pub record AreFirst (limit bits room bound : ℕ) (run : List Turn) (i : ℕ) : Type 0 where
  pub below : All (λ turn. AllLess limit (qubits_in turn)) (take i run)
  pub bound_is : bound ≡ width_after_turns (take i run) bits
  pub room_left : bound < room

pub first_none : (limit bits room : ℕ) (run : List Turn) → bits < room → AreFirst limit bits room bits run 0
first_none limit bits room run l = record { below = λ i d l. absurd (omega arith); bound_is = refl; room_left = l }

pub first_more : (limit bits room bound next : ℕ) (run : List Turn) (i : ℕ) (turn : Turn) → i < length run → turn ≡ get_or run i turn → AreFirst limit bits room bound run i
    → AllLess limit (qubits_in turn) → next ≡ width_turned turn bound → next < room → AreFirst limit bits room next run (i + 1)
first_more limit bits room bound next run i turn l is h less e room_left =
    let P : Turn → Type 0 = λ turn. AllLess limit (qubits_in turn) in
    let more : take (i + 1) run ≡ take i run ++ turn ∷ [] = take_more run i turn l ∙ ap (λ t. take i run ++ t ∷ []) (sym is) in
    record {
      below = subst (All P) (sym more) (All-push P (take i run) turn h.below less);
      bound_is = e ∙ ap (width_turned turn) h.bound_is ∙ sym (ap (λ ts. width_after_turns ts bits) more ∙ widths_append (take i run) (turn ∷ []) bits);
      room_left = room_left;
    }

pub first_all : (limit bits room bound : ℕ) (run : List Turn) (i : ℕ) → length run ≤ i → AreFirst limit bits room bound run i → AreFirst limit bits room bound run (length run)
first_all limit bits room bound run i l h =
    let e : take i run ≡ take (length run) run = take_all i run l ∙ sym (take_all (length run) run (omega arith)) in
    record { below = subst (All (λ turn. AllLess limit (qubits_in turn))) e h.below; bound_is = h.bound_is ∙ ap (λ ts. width_after_turns ts bits) e; room_left = h.room_left }

-- where there are more blocks than one tile has, the qubits are more than those of the lanes
pub some_high : (qubits b b' high tile : ℕ) → b' ≡ b → high ≡ qubits - b' → tile < high → b ≤ qubits
some_high qubits b b' high tile e h l = omega arith
