use Rattle.std.proofs.Common.{◌^◌, pos, subst, sym, ◌∙◌}
use Rattle.qh_ring.specs.Numbers.{IsWithin, scaled_by}
use Rattle.qh_ring.proofs.NumberLemmas.{same_number}
use Rattle.qh_half.proofs.RootLemmas.{doubles, product_fits, product_is}
use Rattle.qh_half.proofs.scaled.doubled.Goals as goal

pub product_of-requires : goal.product_of-requires
product_of-requires c =
    let fits : IsWithin 126 (scaled_by (pos (2 ^ c.args.twos)) c.args.z.now) = subst (IsWithin 126) (doubles c.args.twos c.args.z.now) c.requires.fits in
    product_fits c.args.twos c.power_of-power.result c.args.z.now.a c.requires.few c.power_of-power.ensures c.requires.here.a fits.a

pub product_of-requires-2 : goal.product_of-requires-2
product_of-requires-2 c =
    let fits : IsWithin 126 (scaled_by (pos (2 ^ c.args.twos)) c.args.z.now) = subst (IsWithin 126) (doubles c.args.twos c.args.z.now) c.requires.fits in
    product_fits c.args.twos c.power_of-power.result c.args.z.now.b c.requires.few c.power_of-power.ensures c.requires.here.b fits.b

pub product_of-requires-3 : goal.product_of-requires-3
product_of-requires-3 c =
    let fits : IsWithin 126 (scaled_by (pos (2 ^ c.args.twos)) c.args.z.now) = subst (IsWithin 126) (doubles c.args.twos c.args.z.now) c.requires.fits in
    product_fits c.args.twos c.power_of-power.result c.args.z.now.c c.requires.few c.power_of-power.ensures c.requires.here.c fits.c

pub product_of-requires-4 : goal.product_of-requires-4
product_of-requires-4 c =
    let fits : IsWithin 126 (scaled_by (pos (2 ^ c.args.twos)) c.args.z.now) = subst (IsWithin 126) (doubles c.args.twos c.args.z.now) c.requires.fits in
    product_fits c.args.twos c.power_of-power.result c.args.z.now.d c.requires.few c.power_of-power.ensures c.requires.here.d fits.d

pub returns : goal.returns
returns c =
    let fits : IsWithin 126 (scaled_by (pos (2 ^ c.args.twos)) c.args.z.now) = subst (IsWithin 126) (doubles c.args.twos c.args.z.now) c.requires.fits in
    same_number _ _
    (product_is c.args.twos c.power_of-power.result c.args.z.now.a c.product_of.result c.requires.few c.power_of-power.ensures c.requires.here.a fits.a c.product_of.ensures)
    (product_is c.args.twos c.power_of-power.result c.args.z.now.b c.product_of-2.result c.requires.few c.power_of-power.ensures c.requires.here.b fits.b c.product_of-2.ensures)
    (product_is c.args.twos c.power_of-power.result c.args.z.now.c c.product_of-3.result c.requires.few c.power_of-power.ensures c.requires.here.c fits.c c.product_of-3.ensures)
    (product_is c.args.twos c.power_of-power.result c.args.z.now.d c.product_of-4.result c.requires.few c.power_of-power.ensures c.requires.here.d fits.d c.product_of-4.ensures)
    ∙ sym (doubles c.args.twos c.args.z.now)
