use Rattle.std.proofs.Common.{◌≡◌, ◌*◌, ℕ, List, drop, get_or, All, refl, sym, ap, subst, ◌∙◌, Some}
use Rattle.std.proofs.lemmas.Bool.{false≢true}
use Rattle.qh_slots.specs.Layout.{part}
use Rattle.qh_slots.proofs.ReadLemmas.{over_parts, over_found, one_path, zeros_all}
use Rattle.qh_slots.proofs.verdicts.read_over.Goals as goal

pub returns-then-bytes-ne-OVER-clause-alone : goal.returns-then-bytes-ne-OVER-clause-alone
returns-then-bytes-ne-OVER-clause-alone c p low is = absurd (c.if-bytes-ne-OVER.true (ap (λ (l : List ℕ). get_or l 0 0) is ∙ (over_parts c.args.count p).0))

pub returns-then-not-is_blank-clause-alone : goal.returns-then-not-is_blank-clause-alone
returns-then-not-is_blank-clause-alone c p low is =
    absurd (false≢true (c.if-not-is_blank.ensures.1 (subst (All (λ b. b ≡ 0)) (sym (ap (drop 9) is ∙ (over_parts c.args.count p).2)) (zeros_all (64 * c.args.count)))))

pub returns-clause-found : goal.returns-clause-found
returns-clause-found c =
    over_found c.args.bytes.now c.args.count c.read_path.result c.requires c.if-bytes-ne-OVER.false c.read_path.ensures (c.if-not-is_blank.ensures.0 refl)

pub returns-clause-alone : goal.returns-clause-alone
returns-clause-alone c p low is =
    ap Some (one_path c.read_path.result p c.read_path.type_inv low (c.read_path.ensures ∙ ap (part 1 8) is ∙ (over_parts c.args.count p).1))
