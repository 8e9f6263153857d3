-- How rises of a count follow one another.
use Rattle.std.proofs.Common.{ℕ, ◌≡◌, ◌+◌, ◌-◌, ◌^◌, ◌≤◌, arith}
use Rattle.qh_limits.specs.Counts.{raised, Rose, RoseBy}

-- a count that rose, rose over a longer run, on either side
pub rose_on : (old mid new : ℕ) → Rose old mid → mid ≤ new → Rose old new
rose_on old mid new rose later = omega arith

pub rose_before : (old mid new : ℕ) → old ≤ mid → Rose mid new → Rose old new
rose_before old mid new earlier rose = omega arith

pub rose_raised : (old new : ℕ) → new ≡ raised old → Rose old new
rose_raised old new is = omega arith

-- a count within 64 bits that rose by so many did not fall
pub rose_by_later : (n old new : ℕ) → old ≤ 2 ^ 64 - 1 → RoseBy n old new → old ≤ new
rose_by_later n old new fits rose = omega arith

-- no rise
pub rose_by_none : (old new : ℕ) → old ≤ new → RoseBy 0 old new
rose_by_none old new later = omega arith

-- by so many and then by so many more
pub rose_by_on : (m n old mid new : ℕ) → RoseBy m old mid → RoseBy n mid new → RoseBy (m + n) old new
rose_by_on m n old mid new first then = omega arith

pub rose_more : (n old mid new : ℕ) → RoseBy n old mid → Rose mid new → RoseBy (n + 1) old new
rose_more n old mid new first then = rose_by_on n 1 old mid new first then

-- a rise over a longer run, on either side
pub rose_by_kept : (n old mid new : ℕ) → RoseBy n old mid → mid ≤ new → RoseBy n old new
rose_by_kept n old mid new rose later = omega arith

pub rose_by_before : (n old mid new : ℕ) → old ≤ mid → RoseBy n mid new → RoseBy n old new
rose_by_before n old mid new earlier rose = omega arith

-- a rise by so many is one by fewer
pub rose_by_fewer : (m n old new : ℕ) → m ≤ n → RoseBy n old new → RoseBy m old new
rose_by_fewer m n old new fewer rose = omega arith
