-- One more pair of blocks.
use Rattle.std.proofs.Common.{◌≡◌, ℕ, ◌+◌, ◌*◌, ◌/◌, ◌^◌, ◌<◌, ◌≤◌, ℤ, List, [], ◌∷◌, length, set, get_or, arith, sym, ap, subst, ◌∙◌}
use Rattle.std.specs.List.{All}
use Rattle.qh_ring.specs.declared.number.Omega.{Omega}
use Rattle.qh_ring.specs.States.{with_bits, applied}
use Rattle.qh_ring.proofs.AgreeLemmas.{bits_twice}
use Rattle.qh_kernel.specs.Places.{with_gap}
use Rattle.qh_kernel.specs.Rows.{row_sum2}
use Rattle.qh_kernel.proofs.PlaceLemmas.{rank, below_two}
use Rattle.qh_kernel.proofs.GroupLemmas.{one_qubit, IsPairAt, pair_at}
use Rattle.qh_blocks.specs.declared.block.Block.{Block}
use Rattle.qh_blocks.specs.Blocks.{lane, IsBlock}
use Rattle.qh_blocks.specs.Numbers.{number_at}
use Rattle.qh_blocks.proofs.PartLemmas.{IsPart, part_more, old_number, old_block}
use Rattle.qh_blocks.proofs.ValueLemmas.{pair_value}

pair_rank : (qubits q p low high : ℕ) → IsPairAt qubits q p low high → (rank q low ≡ p) × (rank q high ≡ p)
pair_rank qubits q p low high at = (
  at.group.there low at.group.base,
  at.group.there high (ap (with_bits (q ∷ []) 0) (sym (at.places 1 (omega arith))) ∙ bits_twice (q ∷ []) 0 1 low ∙ at.group.base),
)

-- what one step may rest on
pub record IsReady {V : Type 0} (lanes : V → List ℤ) (b bits qubits q p : ℕ) (v0 v : List (Block V)) (low high : ℕ) : Type 0 where
  pub at : IsPairAt qubits q p low high
  pub low_below : low < length v
  pub high_below : high < length v
  pub x : (d : Block V) → d ≡ get_or v low d → IsBlock lanes (2 ^ b) bits d
  pub y : (d : Block V) → d ≡ get_or v high d → IsBlock lanes (2 ^ b) bits d
  pub xs : (d : Block V) → d ≡ get_or v low d → (r : ℕ) → r < 2 ^ b → lane lanes r d ≡ number_at lanes b v0 (r + low * 2 ^ b)
  pub ys : (d : Block V) → d ≡ get_or v high d → (r : ℕ) → r < 2 ^ b → lane lanes r d ≡ number_at lanes b v0 (r + high * 2 ^ b)

pub pair_ready : {V : Type 0} (lanes : V → List ℤ) (b : ℕ) (m : ℕ → ℕ → Omega) (qs : List ℕ) (qubits q bits out p low stride : ℕ) (v0 v : List (Block V)) → q < qubits → length v0 ≡ 2 ^ qubits
    → p < length v0 / 2 → low ≡ with_gap q p → stride ≡ 2 ^ q → All (IsBlock lanes (2 ^ b) bits) v0 → IsPart lanes b m qs (rank q) out v0 v p
    → IsReady lanes b bits qubits q p v0 v low (low + stride)
pair_ready {V} lanes b m qs qubits q bits out p low stride v0 v l e lp el es all h =
    let at = pair_at qubits q p low stride (length v0) l e lp el es in
    let ranks = pair_rank qubits q p low (low + stride) at in
    let rl : p ≤ rank q low = exactly p (rank q low) ranks.0 in
    let rh : p ≤ rank q (low + stride) = exactly p (rank q (low + stride)) ranks.1 in
    let lb : low < length v0 = subst (λ n. low < n) (sym e) at.low_below in
    let hb : low + stride < length v0 = subst (λ n. low + stride < n) (sym e) at.high_below in
    record {
      at = at;
      low_below = subst (λ n. low < n) (sym h.same_length) lb;
      high_below = subst (λ n. low + stride < n) (sym h.same_length) hb;
      x = λ d is. old_block lanes b m qs (rank q) bits out v0 v p low d lb rl all h is;
      y = λ d is. old_block lanes b m qs (rank q) bits out v0 v p (low + stride) d hb rh all h is;
      xs = λ d is. old_number lanes b m qs (rank q) out v0 v p low d lb rl h is;
      ys = λ d is. old_number lanes b m qs (rank q) out v0 v p (low + stride) d hb rh h is;
    }
  where
    exactly : (p r : ℕ) → r ≡ p → p ≤ r
    exactly p r e = omega arith

-- the new blocks of the pair, by what the matrix on any qubits makes of their numbers
pub pair_put : {V : Type 0} (lanes : V → List ℤ) (b : ℕ) (m : ℕ → ℕ → Omega) (qs : List ℕ) (qubits q out p low high : ℕ) (v0 v : List (Block V)) (x y : Block V) → q < qubits → length v0 ≡ 2 ^ qubits
    → IsPairAt qubits q p low high → IsPart lanes b m qs (rank q) out v0 v p
    → ((r : ℕ) → r < 2 ^ b → lane lanes r x ≡ applied m qs (number_at lanes b v0) (r + low * 2 ^ b))
    → ((r : ℕ) → r < 2 ^ b → lane lanes r y ≡ applied m qs (number_at lanes b v0) (r + high * 2 ^ b))
    → IsBlock lanes (2 ^ b) out x → IsBlock lanes (2 ^ b) out y → IsPart lanes b m qs (rank q) out v0 (set (set v low x) high y) (p + 1)
pair_put {V} lanes b m qs qubits q out p low high v0 v x y l e at h vx vy bx by =
    part_more lanes b m qs (rank q) out v0 v p (q ∷ []) qubits low (low ∷ high ∷ []) (x ∷ y ∷ []) x (one_qubit qubits q l) e at.low_below at.group at.places h
    (λ j r lj lr. below_two (λ j. lane lanes r (get_or (x ∷ y ∷ []) j x) ≡ applied m qs (number_at lanes b v0) (r + get_or (low ∷ high ∷ []) j 0 * 2 ^ b)) (vx r lr) (vy r lr) j lj)
    (below_two (λ j. IsBlock lanes (2 ^ b) out (get_or (x ∷ y ∷ []) j x)) bx by)

-- a matrix on the pair's qubit alone
pub pair_more : {V : Type 0} (lanes : V → List ℤ) (b : ℕ) (m : ℕ → ℕ → Omega) (qubits q bits out p low high : ℕ) (v0 v : List (Block V)) (x y new_x new_y : Block V) → q < qubits → length v0 ≡ 2 ^ qubits
    → IsReady lanes b bits qubits q p v0 v low high → IsPart lanes b m ((q + b) ∷ []) (rank q) out v0 v p → x ≡ get_or v low x → y ≡ get_or v high y
    → ((r : ℕ) → r < 2 ^ b → lane lanes r new_x ≡ row_sum2 (m 0 0) (m 0 1) (lane lanes r x) (lane lanes r y))
    → ((r : ℕ) → r < 2 ^ b → lane lanes r new_y ≡ row_sum2 (m 1 0) (m 1 1) (lane lanes r x) (lane lanes r y))
    → IsBlock lanes (2 ^ b) out new_x → IsBlock lanes (2 ^ b) out new_y → IsPart lanes b m ((q + b) ∷ []) (rank q) out v0 (set (set v low new_x) high new_y) (p + 1)
pair_more lanes b m qubits q bits out p low high v0 v x y new_x new_y l e ready h ex ey wx wy bx by =
    pair_put lanes b m ((q + b) ∷ []) qubits q out p low high v0 v new_x new_y l e ready.at h
    (λ r lr. pair_value b m qubits q (number_at lanes b v0) low high (lane lanes r x) (lane lanes r y) (lane lanes r new_x) r 0 (one_qubit qubits q l) ready.at.places (omega arith) lr (ready.xs x ex r lr) (ready.ys y ey r lr) (wx r lr))
    (λ r lr. pair_value b m qubits q (number_at lanes b v0) low high (lane lanes r x) (lane lanes r y) (lane lanes r new_y) r 1 (one_qubit qubits q l) ready.at.places (omega arith) lr (ready.xs x ex r lr) (ready.ys y ey r lr) (wy r lr))
    bx by
