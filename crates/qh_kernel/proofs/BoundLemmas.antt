-- Bounds of lanes.
use Rattle.std.proofs.Common.{◌≡◌, ℕ, ◌<◌, ◌≤◌, ◌+◌, ◌-◌, ◌*◌, ◌^◌, ℤ, pos, List, length, sym, subst, arith, ◌∙◌, ◌+ℤ◌, neg_ℤ, if◌then◌else◌, nat_eq, Bool, true, false, inl, inr, set, length-set}
use Rattle.std.proofs.Math.Pow.{pow_mono}
use Rattle.std.proofs.lemmas.Nat.{pow-add}
use Rattle.std.proofs.lemmas.Int.{ints}
use Rattle.std.proofs.lemmas.Bool.{cases_eq}
use Rattle.std.proofs.lemmas.List.{get_or-set_same, get_or-set_other}
use Rattle.std.specs.Int.{bit_at}
use Rattle.std.proofs.lemmas.Nat.Bits.{bit_at-lt}
use Rattle.qh_ring.specs.Numbers.{IsBelow}
use Rattle.qh_ring.proofs.BitLemmas.{with_bit_below}
use Rattle.qh_kernel.specs.Lanes.{at_lane, AreBelow, flipped, chosen}

pub below_more : (n b m : ℕ) (v : List ℤ) → b ≤ m → AreBelow n b v → AreBelow n m v
below_more n b m v l h = record { len = h.len; each = λ r k. let p : 2 ^ b ≤ 2 ^ m = pow_mono l in let e = h.each r k in omega arith }

pub sums_below : (n bits : ℕ) (xs ys zs : List ℤ) → length zs ≡ n → AreBelow n bits xs → AreBelow n bits ys → ((r : ℕ) → r < n → at_lane zs r ≡ at_lane xs r +ℤ at_lane ys r) → AreBelow n (bits + 1) zs
sums_below n bits xs ys zs len a b h = record {
  len = len;
  each = λ r l.
      let p : 2 ^ (bits + 1) ≡ 2 ^ bits * 2 = pow-add 2 bits 1 in
      let ea = a.each r l in let eb = b.each r l in let e = h r l in
      omega (arith, ints);
}

pub negations_below : (n bits : ℕ) (ys zs : List ℤ) → length zs ≡ n → AreBelow n bits ys → ((r : ℕ) → r < n → at_lane zs r ≡ neg_ℤ (at_lane ys r)) → AreBelow n bits zs
negations_below n bits ys zs len b h = record { len = len; each = λ r l. let eb = b.each r l in let e = h r l in omega (arith, ints) }

-- ---- a turned bit stays within the lanes
pub flipped_below : (q p r : ℕ) → q < p → r < 2 ^ p → flipped q r < 2 ^ p
flipped_below q p r l m = let b = bit_at-lt r q in with_bit_below q p (1 - bit_at r q) r (omega arith) l m

pub partners_below : (p q bits : ℕ) (xs zs : List ℤ) → q < p → length zs ≡ 2 ^ p → AreBelow (2 ^ p) bits xs → ((r : ℕ) → r < 2 ^ p → at_lane zs r ≡ at_lane xs (flipped q r)) → AreBelow (2 ^ p) bits zs
partners_below p q bits xs zs b len h e = record { len = len; each = λ r l. subst (IsBelow bits) (sym (e r l)) (h.each (flipped q r) (flipped_below q p r b l)) }

either : (P : ℤ → Type 0) (b : Bool) (x y : ℤ) → P x → P y → P (if b then x else y)
either P true x y h k = h
either P false x y h k = k

pub blends_below : (n q bits : ℕ) (xs ys zs : List ℤ) → length zs ≡ n → AreBelow n bits xs → AreBelow n bits ys → ((r : ℕ) → r < n → at_lane zs r ≡ chosen q r (at_lane xs r) (at_lane ys r)) → AreBelow n bits zs
blends_below n q bits xs ys zs len h k e = record {
  len = len;
  each = λ r l. subst (IsBelow bits) (sym (e r l)) (either (IsBelow bits) (nat_eq (bit_at r q) 0) (at_lane xs r) (at_lane ys r) (h.each r l) (k.each r l));
}

pub set_below : (n bits : ℕ) (v : List ℤ) (i : ℕ) (x : ℤ) → i < n → AreBelow n bits v → IsBelow bits x → AreBelow n bits (set v i x)
set_below n bits v i x l h b =
    let len = h.len in
    let il : i < length v = omega arith in
    record {
      len = length-set v i x ∙ h.len;
      each = λ r k. elim (cases_eq r i) [
        | inl e ↦ rw e (subst (IsBelow bits) (sym (get_or-set_same v i x (pos 0) il)) b)
        | inr ne ↦ subst (IsBelow bits) (sym (get_or-set_other v i r x (pos 0) ne)) (h.each r k)
      ];
    }
