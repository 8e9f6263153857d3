-- What a lease says of its range, and the lowest range of a kind.
use Rattle.std.specs.Prelude.{◌≡◌, ℕ, ◌<◌, ◌≤◌, Bool, true, false, nat_lt, List, length, slice_index_or, map, take, count_by}
use Rattle.qh_limits.specs.Limits.{max_grants, max_ranges}
use Rattle.qh_lease.specs.declared.lease.Lease.{Lease}
use Rattle.qh_lease.specs.declared.lease.Lease.TheVariants.{Fresh, Out, Returned, Acked}

-- the lease of a range
abbrev pub lease_at : List Lease → ℕ → Lease
lease_at leases range = slice_index_or leases range Fresh

-- the number of the last grant, 0 before the first; of an acknowledged range it is not kept
abbrev pub grants_of : Lease → ℕ
grants_of Fresh = 0
grants_of (Out attempt) = attempt
grants_of (Returned attempt) = attempt
grants_of Acked = 0

abbrev pub is_fresh : Lease → Bool
is_fresh Fresh = true
is_fresh (Out attempt) = false
is_fresh (Returned attempt) = false
is_fresh Acked = false

abbrev pub is_acked : Lease → Bool
is_acked Fresh = false
is_acked (Out attempt) = false
is_acked (Returned attempt) = false
is_acked Acked = true

-- it is out, and may be granted again
abbrev pub may_grant_out : Lease → Bool
may_grant_out Fresh = false
may_grant_out (Out attempt) = nat_lt attempt max_grants
may_grant_out (Returned attempt) = false
may_grant_out Acked = false

-- it was given back, and may be granted again
abbrev pub may_grant_returned : Lease → Bool
may_grant_returned Fresh = false
may_grant_returned (Out attempt) = false
may_grant_returned (Returned attempt) = nat_lt attempt max_grants
may_grant_returned Acked = false

-- it is not acknowledged, and has had fewer than the most grants
abbrev pub may_grant : Lease → Bool
may_grant Fresh = true
may_grant (Out attempt) = nat_lt attempt max_grants
may_grant (Returned attempt) = nat_lt attempt max_grants
may_grant Acked = false

-- how many of the ranges below a number are out and may be granted again
abbrev pub count_out : List Lease → ℕ → ℕ
count_out leases range = count_by may_grant_out (take range leases)

-- no lease at or above from passes the test
abbrev pub NonePasses : (Lease → Bool) → ℕ → List Lease → Type 0
NonePasses test from leases = (range : ℕ) → from ≤ range → range < length leases → test (lease_at leases range) ≡ false

-- the lowest range at or above from whose lease passes the test
pub record IsLowest (test : Lease → Bool) (from : ℕ) (leases : List Lease) (range : ℕ) : Type 0 where
  pub within : range < length leases
  pub above : from ≤ range
  pub passes : test (lease_at leases range) ≡ true
  pub lowest : (lower : ℕ) → from ≤ lower → lower < range → test (lease_at leases lower) ≡ false

-- the three sets have the ranges that are fresh, that were given back and that are out
pub record AreSorted (leases : List Lease) (fresh returned out : List Bool) : Type 0 where
  pub few : length leases ≤ max_ranges
  pub fresh_is : fresh ≡ map is_fresh leases
  pub returned_is : returned ≡ map may_grant_returned leases
  pub out_is : out ≡ map may_grant_out leases
