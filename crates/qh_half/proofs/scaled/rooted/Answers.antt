use Rattle.std.proofs.Common.{◌+ℤ◌, ◌-ℤ◌, subst, sym, ◌∙◌}
use Rattle.qh_ring.specs.Numbers.{IsWithin}
use Rattle.qh_ring.proofs.NumberLemmas.{same_number, root_times}
use Rattle.qh_half.proofs.RootLemmas.{sum_fits, sum_is, difference_fits, difference_is}
use Rattle.qh_half.proofs.scaled.rooted.Goals as goal

pub difference_of-requires : goal.difference_of-requires
difference_of-requires c =
    let fits : IsWithin 126 (record { a = c.args.z.now.b -ℤ c.args.z.now.d; b = c.args.z.now.a +ℤ c.args.z.now.c; c = c.args.z.now.b +ℤ c.args.z.now.d; d = c.args.z.now.c -ℤ c.args.z.now.a }) = subst (IsWithin 126) (root_times c.args.z.now) c.requires.fits in
    difference_fits c.args.z.now.b c.args.z.now.d c.requires.here.b c.requires.here.d fits.a

pub sum_of-requires : goal.sum_of-requires
sum_of-requires c =
    let fits : IsWithin 126 (record { a = c.args.z.now.b -ℤ c.args.z.now.d; b = c.args.z.now.a +ℤ c.args.z.now.c; c = c.args.z.now.b +ℤ c.args.z.now.d; d = c.args.z.now.c -ℤ c.args.z.now.a }) = subst (IsWithin 126) (root_times c.args.z.now) c.requires.fits in
    sum_fits c.args.z.now.a c.args.z.now.c c.requires.here.a c.requires.here.c fits.b

pub sum_of-requires-2 : goal.sum_of-requires-2
sum_of-requires-2 c =
    let fits : IsWithin 126 (record { a = c.args.z.now.b -ℤ c.args.z.now.d; b = c.args.z.now.a +ℤ c.args.z.now.c; c = c.args.z.now.b +ℤ c.args.z.now.d; d = c.args.z.now.c -ℤ c.args.z.now.a }) = subst (IsWithin 126) (root_times c.args.z.now) c.requires.fits in
    sum_fits c.args.z.now.b c.args.z.now.d c.requires.here.b c.requires.here.d fits.c

pub difference_of-requires-2 : goal.difference_of-requires-2
difference_of-requires-2 c =
    let fits : IsWithin 126 (record { a = c.args.z.now.b -ℤ c.args.z.now.d; b = c.args.z.now.a +ℤ c.args.z.now.c; c = c.args.z.now.b +ℤ c.args.z.now.d; d = c.args.z.now.c -ℤ c.args.z.now.a }) = subst (IsWithin 126) (root_times c.args.z.now) c.requires.fits in
    difference_fits c.args.z.now.c c.args.z.now.a c.requires.here.c c.requires.here.a fits.d

pub returns : goal.returns
returns c =
    let fits : IsWithin 126 (record { a = c.args.z.now.b -ℤ c.args.z.now.d; b = c.args.z.now.a +ℤ c.args.z.now.c; c = c.args.z.now.b +ℤ c.args.z.now.d; d = c.args.z.now.c -ℤ c.args.z.now.a }) = subst (IsWithin 126) (root_times c.args.z.now) c.requires.fits in
    same_number _ _
    (difference_is c.args.z.now.b c.args.z.now.d c.difference_of.result c.requires.here.b c.requires.here.d fits.a c.difference_of.ensures)
    (sum_is c.args.z.now.a c.args.z.now.c c.sum_of.result c.requires.here.a c.requires.here.c fits.b c.sum_of.ensures)
    (sum_is c.args.z.now.b c.args.z.now.d c.sum_of-2.result c.requires.here.b c.requires.here.d fits.c c.sum_of-2.ensures)
    (difference_is c.args.z.now.c c.args.z.now.a c.difference_of-2.result c.requires.here.c c.requires.here.a fits.d c.difference_of-2.ensures)
    ∙ sym (root_times c.args.z.now)
