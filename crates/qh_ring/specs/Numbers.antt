-- Numbers a + b w + c w^2 + d w^3 with w^4 = -1, over whole numbers of any size.
-- They are the ring Z[w] of the primitive eighth root of unity w = (1 + i) / sqrt 2.
use Rattle.std.specs.Prelude.{◌≡◌, ℕ, zero, suc, ◌-◌, ◌^◌, ◌<◌, ◌≤◌, ℤ, pos, negsuc, ◌+ℤ◌, ◌-ℤ◌, ◌*ℤ◌, unsigned_abs}
use Rattle.qh_limits.specs.Limits.{product_bits}
use Rattle.qh_ring.specs.declared.number.Omega.{Omega}
use Rattle.qh_ring.specs.declared.canon.Canon.{Canon}

-- the magnitude is below 2 ^ bits
abbrev pub IsBelow : ℕ → ℤ → Type 0
IsBelow bits x = unsigned_abs x < 2 ^ bits

-- each coefficient's magnitude is below 2 ^ bits
pub record IsWithin (bits : ℕ) (z : Omega) : Type 0 where
  pub a : IsBelow bits z.a
  pub b : IsBelow bits z.b
  pub c : IsBelow bits z.c
  pub d : IsBelow bits z.d

-- sums go by coefficient
abbrev pub sum : Omega → Omega → Omega
sum x y = record { a = x.a +ℤ y.a; b = x.b +ℤ y.b; c = x.c +ℤ y.c; d = x.d +ℤ y.d }

-- coefficient m is the sum of x_i y_j with i + j = m, less the sum of those with i + j = m + 4
unfoldable pub product : Omega → Omega → Omega
product x y = record {
  a = x.a *ℤ y.a -ℤ x.b *ℤ y.d -ℤ x.c *ℤ y.c -ℤ x.d *ℤ y.b;
  b = x.a *ℤ y.b +ℤ x.b *ℤ y.a -ℤ x.c *ℤ y.d -ℤ x.d *ℤ y.c;
  c = x.a *ℤ y.c +ℤ x.b *ℤ y.b +ℤ x.c *ℤ y.a -ℤ x.d *ℤ y.d;
  d = x.a *ℤ y.d +ℤ x.b *ℤ y.c +ℤ x.c *ℤ y.b +ℤ x.d *ℤ y.a;
}

-- the number 0
abbrev pub nothing : Omega
nothing = record { a = pos 0; b = pos 0; c = pos 0; d = pos 0 }

-- the number 1
abbrev pub one : Omega
one = record { a = pos 1; b = pos 0; c = pos 0; d = pos 0 }

-- w itself
abbrev pub unit : Omega
unit = record { a = pos 0; b = pos 1; c = pos 0; d = pos 0 }

-- w^j
abbrev pub unit_power : ℕ → Omega
unit_power zero = one
unit_power (suc j) = product unit (unit_power j)

-- the square root of 2, w - w^3
abbrev pub root : Omega
root = record { a = pos 0; b = pos 1; c = pos 0; d = negsuc 0 }

-- z times the square root of 2, n times over
abbrev pub times_root : ℕ → Omega → Omega
times_root zero z = z
times_root (suc n) z = product root (times_root n z)

-- of the pairs (z', k') with k' from 0 to k and z' root^(k - k') = z, the one of least k'
pub record IsCanon (z : Omega) (k : ℕ) (canon : Canon) : Type 0 where
  pub bounded : canon.k ≤ k
  pub same : times_root (k - canon.k) canon.z ≡ z
  pub least : (y : Omega) (j : ℕ) → j ≤ k → times_root (k - j) y ≡ z → canon.k ≤ j

-- each coefficient of y, times x
abbrev pub scaled_by : ℤ → Omega → Omega
scaled_by x y = record { a = x *ℤ y.a; b = x *ℤ y.b; c = x *ℤ y.c; d = x *ℤ y.d }

-- each of the sixteen products of a coefficient of x and one of y has a magnitude below 2 ^ 92
pub record AreNarrow (x y : Omega) : Type 0 where
  pub a : IsWithin product_bits (scaled_by x.a y)
  pub b : IsWithin product_bits (scaled_by x.b y)
  pub c : IsWithin product_bits (scaled_by x.c y)
  pub d : IsWithin product_bits (scaled_by x.d y)
