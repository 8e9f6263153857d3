-- The ranges of a run, and what may stand in one.
use Rattle.std.specs.Prelude.{◌≡◌, ℕ, ◌+◌, ◌*◌, ◌/◌, ◌^◌, ◌<◌, ◌≤◌, unsigned_abs, length, All}
use Rattle.std.specs.Option.{ForSome}
use Rattle.qh_ring.specs.declared.number.Omega.{Omega}
use Rattle.qh_plan.specs.declared.verdict.Verdict.{Verdict}
use Rattle.qh_plan.specs.declared.verdict.Verdict.TheVariants.{Sum, Over}
use Rattle.qh_plan.specs.Jobs.{Job, paths, roots, per_range, earlier, first_path}

-- the path stands in the range
pub record IsInRange (j : Job) (range path : ℕ) : Type 0 where
  pub from : first_path j range ≤ path
  pub below : path < first_path j range + per_range j

-- the prefix value of a range
abbrev pub prefix_of : Job → ℕ → ℕ
prefix_of j range = (earlier j j.prefix + range) / roots j

-- a path of the run: of all paths, or of those under the given prefix value
pub record IsOfRun (j : Job) (path : ℕ) : Type 0 where
  pub below : path < paths j
  pub under : ForSome j.prefix (λ w. path / (roots j * per_range j) ≡ w)

-- each coefficient's magnitude is below the limit
pub record IsSmall (limit : ℕ) (z : Omega) : Type 0 where
  pub a : unsigned_abs z.a < limit
  pub b : unsigned_abs z.b < limit
  pub c : unsigned_abs z.c < limit
  pub d : unsigned_abs z.d < limit

-- A sum has a number for each bitstring, as small as that many paths make it; what is over names a path of the range.
abbrev pub Fits : Job → ℕ → Verdict → Type 0
Fits j range (Sum s) = (length s ≡ length j.bits) × All (IsSmall (per_range j * 2 ^ 94)) s
Fits j range (Over path) = IsInRange j range path

-- two jobs that differ in their prefix value at most
pub record IsSameButPrefix (j k : Job) : Type 0 where
  pub circuit : j.circuit ≡ k.circuit
  pub part : j.part ≡ k.part
  pub p : j.p ≡ k.p
  pub r : j.r ≡ k.r
  pub bits : j.bits ≡ k.bits
