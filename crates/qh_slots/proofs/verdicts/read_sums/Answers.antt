use Rattle.std.proofs.Common.{◌≡◌, ℕ, List, length, drop, get_or, All, sym, ap, subst, ◌∙◌, arith, rules, Option, Some, None}
use Rattle.std.specs.Option.{IfSome}
use Rattle.std.proofs.lemmas.Slice.{between_to_end}
use Rattle.qh_ring.specs.declared.number.Omega.{Omega}
use Rattle.qh_ring.specs.Numbers.{IsWithin}
use Rattle.qh_slots.specs.Layout.{part}
use Rattle.qh_slots.specs.Slots.{sum_bytes}
use Rattle.qh_slots.proofs.ReadLemmas.{sum_parts, sum_found, one_sum, one_path, within_fits}
use Rattle.qh_slots.proofs.verdicts.read_sums.Goals as goal

pub returns-then-bytes-ne-SUM-clause-alone : goal.returns-then-bytes-ne-SUM-clause-alone
returns-then-bytes-ne-SUM-clause-alone c s is size within = absurd (c.if-bytes-ne-SUM.true (ap (λ (l : List ℕ). get_or l 0 0) is ∙ (sum_parts s).0))

pub returns-then-read_path-ne0-clause-alone : goal.returns-then-read_path-ne0-clause-alone
returns-then-read_path-ne0-clause-alone c s is size within =
    absurd (c.if-read_path-ne0.true (one_path c.read_path.result 0 c.read_path.type_inv (omega arith) (c.read_path.ensures ∙ ap (part 1 8) is ∙ (sum_parts s).1)))

found : (o : Option (List Omega)) (items : List Omega) (count : ℕ) (xs : List ℕ) → IfSome o (λ s. (s ≡ items) × All (IsWithin 126) s) → xs ≡ sum_bytes items → length items ≡ count
    → IfSome o (λ s. (xs ≡ sum_bytes s) × (length s ≡ count))
found None items count xs h is size = tt
found (Some s) items count xs h is size = (is ∙ ap sum_bytes (sym h.0), ap length h.0 ∙ size)

pub returns-clause-found : goal.returns-clause-found
returns-clause-found c =
    let path : c.read_path.result ≡ 0 = search rules in
    found c.sums_within.result c.in_ok-numbers.numbers.items c.args.count c.args.bytes.now c.sums_within.ensures.found
    (sum_found c.args.bytes.now c.in_ok-numbers.numbers.items (omega arith) c.if-bytes-ne-SUM.false (rw path at c.read_path.ensures)
    (c.in_ok-numbers.ensures.bytes ∙ between_to_end c.args.bytes.now 9 (length c.args.bytes.now) (omega arith)))
    (search rules)

pub returns-clause-alone : goal.returns-clause-alone
returns-clause-alone c s is size within =
    let same : c.in_ok-numbers.numbers.items ≡ s = one_sum c.in_ok-numbers.numbers.items s c.in_ok-numbers.ensures.fits (within_fits s within) (search rules)
    (c.in_ok-numbers.ensures.bytes ∙ between_to_end c.args.bytes.now 9 (length c.args.bytes.now) (omega arith) ∙ ap (drop 9) is ∙ (sum_parts s).2) in
    c.sums_within.ensures.all (subst (All (IsWithin 126)) (sym same) within) ∙ ap Some same
