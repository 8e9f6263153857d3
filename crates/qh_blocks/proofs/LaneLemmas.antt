-- A number and its partners within a block.
use Rattle.std.proofs.Common.{◌≡◌, ℕ, zero, suc, ◌+◌, ◌*◌, ◌/◌, ◌%◌, ◌^◌, ◌<◌, [], ◌∷◌, refl, sym, ap, ◌∙◌, arith, if◌then◌else◌, nat_eq}
use Rattle.std.proofs.Math.Path.{ap₂}
use Rattle.std.specs.Int.{bit_at}
use Rattle.std.proofs.lemmas.Nat.{pow_pos, mod_below}
use Rattle.std.proofs.lemmas.Nat.Bits.{bit_at-lt}
use Rattle.qh_ring.specs.declared.number.Omega.{Omega}
use Rattle.qh_ring.specs.Numbers.{sum, product}
use Rattle.qh_ring.specs.States.{with_bit, applied}
use Rattle.qh_ring.proofs.PairLemmas.{pair_of, applied_pair}
use Rattle.qh_kernel.specs.Lanes.{flipped, chosen}

flip_low : (q r : ℕ) → bit_at r q ≡ 0 → flipped q r ≡ r + 2 ^ q
unfolding with_bit
flip_low q r e = rw e (omega arith)

flip_high : (q r low : ℕ) → bit_at r q ≡ 1 → r ≡ low + 2 ^ q → flipped q r ≡ low
unfolding with_bit
flip_high q r low e s = rw e (omega arith)

-- any matrix on qubit q by a number and its partner
pub chosen_applied : (m : ℕ → ℕ → Omega) (q r : ℕ) (f : ℕ → Omega) (low high : Omega) → low ≡ sum (product (m 0 0) (f r)) (product (m 0 1) (f (flipped q r)))
    → high ≡ sum (product (m 1 0) (f (flipped q r))) (product (m 1 1) (f r)) → chosen q r low high ≡ applied m (q ∷ []) f r
chosen_applied m q r f low high el eh = by_bit (bit_at r q) refl (bit_at-lt r q)
  where
    by_bit : (b : ℕ) → bit_at r q ≡ b → b < 2 → chosen q r low high ≡ applied m (q ∷ []) f r
    by_bit zero e l =
        let p : r ≡ 2 * (r / 2 ^ q / 2) * 2 ^ q + r % 2 ^ q = pair_of r q ∙ ap (λ b. (2 * (r / 2 ^ q / 2) + b) * 2 ^ q + r % 2 ^ q) e ∙ omega arith in
        let z : r + 0 * 2 ^ q ≡ r = omega arith in
        ap (λ b. if nat_eq b 0 then low else high) e ∙ el ∙ ap (λ t. sum (product (m 0 0) (f r)) (product (m 0 1) (f t))) (flip_low q r e)
        ∙ sym (applied_pair m q f (r / 2 ^ q / 2) 0 (r % 2 ^ q) r (omega arith) (mod_below r (2 ^ q) (pow_pos q)) p)
        ∙ ap (applied m (q ∷ []) f) z
    by_bit (suc zero) e l =
        let low_place = 2 * (r / 2 ^ q / 2) * 2 ^ q + r % 2 ^ q in
        let p : r ≡ low_place + 2 ^ q = pair_of r q ∙ ap (λ b. (2 * (r / 2 ^ q / 2) + b) * 2 ^ q + r % 2 ^ q) e ∙ omega arith in
        let z : low_place + 1 * 2 ^ q ≡ r = omega arith in
        ap (λ b. if nat_eq b 0 then low else high) e ∙ eh
        ∙ ap₂ (λ s t. sum (product (m 1 0) (f s)) (product (m 1 1) (f t))) (flip_high q r low_place e p) p
        ∙ sym (applied_pair m q f (r / 2 ^ q / 2) 1 (r % 2 ^ q) low_place (omega arith) (mod_below r (2 ^ q) (pow_pos q)) refl)
        ∙ ap (applied m (q ∷ []) f) z
    by_bit (suc (suc b)) e l = absurd (omega arith)
