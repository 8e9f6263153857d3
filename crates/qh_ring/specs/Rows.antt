-- A product, put together from the rows that the code computes.
use Rattle.std.specs.Prelude.{◌+ℤ◌, ◌-ℤ◌}
use Rattle.qh_ring.specs.declared.number.Omega.{Omega}

-- p + q w + r w^2 + s w^3
abbrev pub combined : Omega → Omega → Omega → Omega → Omega
combined p q r s = record {
  a = p.a -ℤ q.d -ℤ r.c -ℤ s.b;
  b = p.b +ℤ q.a -ℤ r.d -ℤ s.c;
  c = p.c +ℤ q.b +ℤ r.a -ℤ s.d;
  d = p.d +ℤ q.c +ℤ r.b +ℤ s.a;
}
