-- Blocks with their memory: none of them, or those of a state.
use Rattle.std.proofs.Common.{◌≡◌, ℕ, ◌-◌, ◌^◌, ◌<◌, ◌≤◌, ℤ, List, [], ◌∷◌, length, take, ◌++◌, arith, refl, sym, ap, subst, ◌∙◌}
use Rattle.std.proofs.Math.Seq.{take-append_seam}
use Rattle.std.specs.List.{All}
use Rattle.std.specs.declared.vec.Vec.{Vec}
use Rattle.std.specs.Vec.{vec_capacity}
use Rattle.qh_limits.specs.Limits.{max_part_qubits}
use Rattle.qh_ring.specs.declared.number.Omega.{Omega}
use Rattle.qh_ring.specs.Numbers.{IsWithin}
use Rattle.qh_ring.specs.States.{place_on, applied, applied_list, listed}
use Rattle.qh_ring.proofs.SumLemmas.{sum_below_none, product_nothing}
use Rattle.qh_ring.proofs.ListedLemmas.{listed_same, applied_listed}
use Rattle.qh_kernel.proofs.DoneLemmas.{AreQubits}
use Rattle.qh_blocks.specs.declared.block.Block.{Block}
use Rattle.qh_blocks.specs.Blocks.{IsBlock}
use Rattle.qh_blocks.specs.Numbers.{number_at}
use Rattle.qh_blocks.proofs.PartLemmas.{blocks_more}
use Rattle.qh_narrow.specs.Columns.{first_numbers, zeros, AreKept, AreHeld}
use Rattle.qh_narrow.proofs.WithinLemmas.{kept_more, within_nothing, all_listed, first_below}

-- ---- none
pub first_none : {V : Type 0} (lanes : V → List ℤ) (b q : ℕ) (v : List (Block V)) → length v ≡ 0 → first_numbers lanes b q v ≡ listed q zeros
first_none lanes b q [] e = listed_same q (number_at lanes b []) zeros (λ k l. refl)
first_none lanes b q (x ∷ v) e = absurd (omega arith)

applied_zeros : (q : ℕ) (m : ℕ → ℕ → Omega) (qs : List ℕ) → AreQubits q qs → applied_list m qs (listed q zeros) ≡ listed q zeros
unfolding applied
applied_zeros q m qs are =
    applied_listed q m qs zeros are.less
    ∙ listed_same q (applied m qs zeros) zeros (λ k l. sum_below_none (2 ^ length qs) _ (λ c b. product_nothing (m (place_on qs k) c)))

-- a matrix leaves the numbers 0
pub none_applied : {V : Type 0} (lanes : V → List ℤ) (b q : ℕ) (m : ℕ → ℕ → Omega) (qs : List ℕ) (v : List (Block V)) → AreQubits q qs → length v ≡ 0
    → first_numbers lanes b q v ≡ applied_list m qs (first_numbers lanes b q v)
none_applied lanes b q m qs v are e =
    first_none lanes b q v e ∙ sym (applied_zeros q m qs are) ∙ ap (applied_list m qs) (sym (first_none lanes b q v e))

pub none_within : {V : Type 0} (lanes : V → List ℤ) (b q n : ℕ) (v : List (Block V)) → length v ≡ 0 → All (IsWithin n) (first_numbers lanes b q v)
none_within lanes b q n v e = subst (All (IsWithin n)) (sym (first_none lanes b q v e)) (all_listed q n zeros (λ k l. within_nothing n))

pub none_held : {V : Type 0} (lanes : V → List ℤ) (b room q bits : ℕ) (v : List (Block V)) → q ≤ max_part_qubits → length v ≡ 0 → AreHeld lanes b room q bits v
none_held lanes b room q bits v few e = record { few = few; kept = λ some. absurd (omega arith) }

-- ---- those of a state
pub kept_held : {V : Type 0} (lanes : V → List ℤ) (b room q bits : ℕ) (v : List (Block V)) → AreKept lanes b room q bits v → AreHeld lanes b room q bits v
kept_held lanes b room q bits v k = record { few = k.blocks.few; kept = λ some. k }

pub some_items : {A : Type 0} (v : List A) → (length v ≡ 0 → ⊥) → 0 < length v
some_items [] none = absurd (none refl)
some_items (x ∷ v) none = omega arith

-- the memory of a list has its items
pub item_room : {X Z : Type 0} (v : Vec X Z) (n : ℕ) → length v.items ≡ n → n ≤ vec_capacity v
item_room v n e = let l = v.ok.0 in let c = v.ok.1 in omega arith

-- a list that was lent as a slice, and came back
pub written_back : {A : Type 0} (n : ℕ) (w rest : List A) → length w ≡ n → take n (w ++ rest) ≡ w
written_back n w rest e = subst (λ t. take t (w ++ rest) ≡ w) e (take-append_seam w rest)

-- ---- either
some_item : (i n : ℕ) → i < n → 0 < n
some_item i n l = omega arith

pub held_bounded : {V : Type 0} (lanes : V → List ℤ) (b room q bits : ℕ) (v : List (Block V)) → AreHeld lanes b room q bits v → All (IsBlock lanes (2 ^ b) (room - 1)) v
held_bounded lanes b room q bits v h i d l =
    let k = h.kept (some_item i (length v) l) in
    kept_more lanes (2 ^ b) bits room v k.room_left k.bounded i d l

pub held_room : {V : Type 0} (lanes : V → List ℤ) (b room q bits : ℕ) (v : List (Block V)) → AreHeld lanes b room q bits v → All (IsBlock lanes (2 ^ b) room) v
held_room lanes b room q bits v h i d l =
    let k = h.kept (some_item i (length v) l) in
    let le = k.room_left in
    blocks_more lanes (2 ^ b) bits room v (omega arith) k.bounded i d l

by_length : {A : Type 0} {P : Type 0} (v : List A) → (length v ≡ 0 → P) → (0 < length v → P) → P
by_length [] none some = none refl
by_length (x ∷ v) none some = some (omega arith)

pub held_within : {V : Type 0} (lanes : V → List ℤ) (b room q bits : ℕ) (v : List (Block V)) → AreHeld lanes b room q bits v → All (IsWithin (room - 1)) (first_numbers lanes b q v)
held_within lanes b room q bits v h = by_length v (none_within lanes b q (room - 1) v)
    (λ some. let k = h.kept some in first_below lanes b q bits room v k.room_left k.blocks k.bounded)

-- they fit the memory of another such list
pub held_fits : {V : Type 0} (lanes : V → List ℤ) (b room q bits n : ℕ) (v : List (Block V)) → AreHeld lanes b room q bits v → 2 ^ (q - b) ≤ n → length v ≤ n
held_fits lanes b room q bits n v h space = by_length v (λ e. omega arith) (λ some. let k = h.kept some in let e = k.blocks.len in omega arith)
