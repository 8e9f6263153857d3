-- How many ranges are out and may be granted again, below the one that is found and past it.
use Rattle.std.proofs.Common.{◌≡◌, ℕ, zero, suc, ◌+◌, ◌-◌, ◌≤◌, ◌<◌, false, List, length, refl, ap, sym, ◌∙◌, arith}
use Rattle.std.proofs.lemmas.List.Sums.{count_by_more_no, count_by_more_yes}
use Rattle.qh_lease.specs.declared.lease.Lease.{Lease}
use Rattle.qh_lease.specs.declared.lease.Lease.TheVariants.{Fresh}
use Rattle.qh_lease.specs.Lease.{lease_at, may_grant_out, count_out, NonePasses, IsLowest}

-- none is below the first range
pub count_out-first : (leases : List Lease) → count_out leases 0 ≡ 0
count_out-first leases = refl

-- where none of so many ranges is one, their number stays
stays : (leases : List Lease) (from many : ℕ) → from + many ≤ length leases → ((range : ℕ) → from ≤ range → range < from + many → may_grant_out (lease_at leases range) ≡ false) → count_out leases (from + many) ≡ count_out leases from
stays leases from zero within none = ap (λ n. count_out leases n) (let same : from + 0 ≡ from = omega arith in same)
stays leases from (suc many) within none =
    let more : from + suc many ≡ from + many + 1 = omega arith in
    ap (λ n. count_out leases n) more
    ∙ count_by_more_no may_grant_out leases (from + many) Fresh (omega arith) (none (from + many) (omega arith) (omega arith))
    ∙ stays leases from many (omega arith) (λ range above below. none range above (omega arith))

stays_to : (leases : List Lease) (from to : ℕ) → from ≤ to → to ≤ length leases → ((range : ℕ) → from ≤ range → range < to → may_grant_out (lease_at leases range) ≡ false) → count_out leases to ≡ count_out leases from
stays_to leases from to above within none =
    let is : from + (to - from) ≡ to = omega arith in
    ap (λ n. count_out leases n) (sym is) ∙ stays leases from (to - from) (omega arith) (λ range low high. none range low (omega arith))

-- the lowest from a number on has as many below it as that number
pub count_out-lowest : (leases : List Lease) (from range : ℕ) → IsLowest may_grant_out from leases range → count_out leases range ≡ count_out leases from
count_out-lowest leases from range lowest = stays_to leases from range lowest.above (omega (arith, lowest.within)) lowest.lowest

-- and one more up to it
pub count_out-past : (leases : List Lease) (from range : ℕ) → IsLowest may_grant_out from leases range → count_out leases (range + 1) ≡ count_out leases from + 1
count_out-past leases from range lowest =
    count_by_more_yes may_grant_out leases range Fresh lowest.within lowest.passes ∙ ap (λ n. n + 1) (count_out-lowest leases from range lowest)

-- where there is none from a number on, all are below it
pub count_out-none : (leases : List Lease) (from : ℕ) → from ≤ length leases → NonePasses may_grant_out from leases → count_out leases (length leases) ≡ count_out leases from
count_out-none leases from within none = stays_to leases from (length leases) within (omega arith) none
