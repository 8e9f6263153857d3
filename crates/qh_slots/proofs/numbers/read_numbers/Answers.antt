use Rattle.std.proofs.Common.{◌≡◌, ◌+◌, ◌-◌, ◌*◌, ℕ, take, drop, All, subst, sym, ap, ◌∙◌, arith, rules}
use Rattle.std.specs.List.{flat_map}
use Rattle.std.proofs.lemmas.List.Elements.{All-push}
use Rattle.qh_slots.specs.Slots.{omega_bytes, FitsOmega}
use Rattle.qh_slots.proofs.ByteLemmas.{read_more}
use Rattle.qh_slots.proofs.numbers.read_numbers.Goals as goal

pub loop-m-preserved : goal.loop-m-preserved
loop-m-preserved c = record {
  fits = subst (All FitsOmega) (sym c.in_ok-push.ensures.items) (All-push FitsOmega c.loop-m.numbers.items c.read_number.result c.loop-m.invariant.fits c.read_number.ensures.fits);
  count = search rules;
  bytes =
      let size : 64 * c.loop-m.m + 64 - 64 * c.loop-m.m ≡ 64 = omega arith in
      ap (flat_map omega_bytes) c.in_ok-push.ensures.items
      ∙ read_more c.loop-m.numbers.items c.read_number.result c.loop-m.m c.args.bytes.now c.loop-m.invariant.bytes
      (c.read_number.ensures.bytes ∙ ap (λ (n : ℕ). take n (drop (64 * c.loop-m.m) c.args.bytes.now)) size);
}
