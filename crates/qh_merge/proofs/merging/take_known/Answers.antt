use Rattle.std.proofs.Common.{◌≡◌, ◌≢◌, ◌≤◌, ◌<◌, ℕ, List, length, take, get_or, All, Some, sym, subst, arith}
use Rattle.qh_ring.specs.declared.number.Omega.{Omega}
use Rattle.qh_ring.specs.Numbers.{IsWithin}
use Rattle.qh_plan.specs.declared.verdict.Verdict.TheVariants.{Sum}
use Rattle.qh_slots.specs.Stands.{Slots, slot_at}
use Rattle.qh_merge.specs.declared.fault.MergeFault.{MergeFault}
use Rattle.qh_merge.specs.Inputs.{IsLookedAt}
use Rattle.qh_merge.specs.Union.{sums_after}
use Rattle.qh_merge.specs.Gathered.{Adds, state_of}
use Rattle.qh_merge.specs.Merging.{MergeMayFail}
use Rattle.qh_merge.specs.Parts.{input_of}
use Rattle.qh_merge.proofs.GatherLemmas.{even_parts, within_parts}
use Rattle.qh_merge.proofs.ListLemmas.{all_on, good_on, length_all, looked_on}
use Rattle.qh_merge.proofs.MergeLemmas.{known_at, miss_fails, read_fails}
use Rattle.qh_merge.proofs.TakeLemmas.{first_at, kept_below, repeat_fails, take_new, take_repeat, taking, taking_joins, taking_on}
use Rattle.qh_merge.proofs.merging.take_known.Goals as goal

pub read_at-requires : goal.read_at-requires
read_at-requires g c = c.requires.place

pub returns-in-Err-clause-fault : goal.returns-in-Err-clause-fault
returns-in-Err-clause-fault g c =
    subst (λ (u : MergeFault). MergeMayFail g.D.Disk.face u c.args.disks.now c.read_at.new.disks) (sym c.fault_at.ensures)
    (read_fails g.D.Disk.face c.args.disks.now c.read_at.new.disks c.args.place c.in-Err.fault c.requires.kept.inputs
    (good_on g.D.Disk.face g.D.Disk.loans c.args.disks.now c.read_at.new.disks c.args.place c.requires.kept.inputs c.read_at.ensures.looks c.requires.kept.good) c.in-Err.ensures.fault)

pub returns-in-Err-clause-looks : goal.returns-in-Err-clause-looks
returns-in-Err-clause-looks g c = c.read_at.ensures.looks

pub check-requires-clause-count : goal.check-requires-clause-count
check-requires-clause-count g c = (known_at g.D.Disk.face (input_of c.in-Ok.input) _ c.in-Ok.ensures.read).count

pub check-requires-clause-few : goal.check-requires-clause-few
check-requires-clause-few g c = (known_at g.D.Disk.face (input_of c.in-Ok.input) _ c.in-Ok.ensures.read).planned.valid.few_ranges

pub returns-in-Err-check-clause-fault : goal.returns-in-Err-check-clause-fault
returns-in-Err-check-clause-fault g c =
    let t = taking g.D.Disk.face g.D.Disk.loans c.args.disks.now c.read_at.new.disks c.args.place (state_of c.args.gathered.now) (input_of c.in-Ok.input) c.requires.kept c.read_at.ensures.looks c.requires.behind c.in-Ok.ensures.read in
    miss_fails g.D.Disk.face c.args.disks.now c.read_at.new.disks c.args.place c.in-Err-check.fault (input_of c.in-Ok.input) t.earlier c.args.gathered.now.job t.good t.family t.at c.in-Err-check.ensures.fault

pub returns-in-Err-check-clause-looks : goal.returns-in-Err-check-clause-looks
returns-in-Err-check-clause-looks g c = c.read_at.ensures.looks

pub overflow_cast-place : goal.overflow_cast-place
overflow_cast-place g c = omega (arith, c.requires.place, c.requires.few)

pub overflow_cast-place-2 : goal.overflow_cast-place-2
overflow_cast-place-2 g c = omega (arith, c.requires.place, c.requires.few)

pub add_new-requires-clause-even : goal.add_new-requires-clause-even
add_new-requires-clause-even g c =
    let t = taking g.D.Disk.face g.D.Disk.loans c.args.disks.now c.read_at.new.disks c.args.place (state_of c.args.gathered.now) (input_of c.in-Ok.input) c.requires.kept c.read_at.ensures.looks c.requires.behind c.in-Ok.ensures.read in
    let none = subst (λ (ps : List ℕ). (q : ℕ) → q < length ps → get_or ps q 0 ≢ c.in-Ok-check.prefix) c.as_slice.ensures.value c.in_default.ensures.none in
    subst (λ (t : Slots). (r : ℕ) (more : List Omega) → slot_at t r ≡ Some (Sum more) → length c.args.gathered.now.sums.items ≡ length more) (sym c.as_slice-in_default.ensures.value)
    (even_parts c.in-Ok-check.prefix (input_of c.in-Ok.input) t.earlier (state_of c.args.gathered.now) t.kept
    (taking_joins g.D.Disk.face c.read_at.new.disks c.args.place c.in-Ok-check.prefix (state_of c.args.gathered.now) (input_of c.in-Ok.input) t c.in-Ok-check.ensures.goes none))

pub add_new-requires-clause-within : goal.add_new-requires-clause-within
add_new-requires-clause-within g c =
    let t = taking g.D.Disk.face g.D.Disk.loans c.args.disks.now c.read_at.new.disks c.args.place (state_of c.args.gathered.now) (input_of c.in-Ok.input) c.requires.kept c.read_at.ensures.looks c.requires.behind c.in-Ok.ensures.read in
    let none = subst (λ (ps : List ℕ). (q : ℕ) → q < length ps → get_or ps q 0 ≢ c.in-Ok-check.prefix) c.as_slice.ensures.value c.in_default.ensures.none in
    subst (λ (t : Slots). (n : ℕ) → n ≤ length t → All (IsWithin 126) (sums_after c.args.gathered.now.sums.items (take n t))) (sym c.as_slice-in_default.ensures.value)
    (λ n le. within_parts c.in-Ok-check.prefix n (input_of c.in-Ok.input) t.earlier (state_of c.args.gathered.now) t.kept
    (taking_joins g.D.Disk.face c.read_at.new.disks c.args.place c.in-Ok-check.prefix (state_of c.args.gathered.now) (input_of c.in-Ok.input) t c.in-Ok-check.ensures.goes none) le)

pub returns-in_default-add_new-clause-looks : goal.returns-in_default-add_new-clause-looks
returns-in_default-add_new-clause-looks g c = c.read_at.ensures.looks

pub returns-in_default-clause-kept : goal.returns-in_default-clause-kept
returns-in_default-clause-kept g c =
    let t = taking g.D.Disk.face g.D.Disk.loans c.args.disks.now c.read_at.new.disks c.args.place (state_of c.args.gathered.now) (input_of c.in-Ok.input) c.requires.kept c.read_at.ensures.looks c.requires.behind c.in-Ok.ensures.read in
    let none = subst (λ (ps : List ℕ). (q : ℕ) → q < length ps → get_or ps q 0 ≢ c.in-Ok-check.prefix) c.as_slice.ensures.value c.in_default.ensures.none in
    take_new g.D.Disk.face c.read_at.new.disks c.args.place c.in-Ok-check.prefix (state_of c.args.gathered.now) (state_of c.add_new.new.gathered) (input_of c.in-Ok.input) t c.in-Ok-check.ensures.goes none
    (subst (λ (t : Slots). Adds (state_of c.args.gathered.now) c.in-Ok-check.prefix t (state_of c.add_new.new.gathered)) c.as_slice-in_default.ensures.value c.in-Ok-add_new.ensures)

pub returns-in_default-clause-looks : goal.returns-in_default-clause-looks
returns-in_default-clause-looks g c = c.read_at.ensures.looks

pub compare-requires-clause-place : goal.compare-requires-clause-place
compare-requires-clause-place g c =
    let t = taking g.D.Disk.face g.D.Disk.loans c.args.disks.now c.read_at.new.disks c.args.place (state_of c.args.gathered.now) (input_of c.in-Ok.input) c.requires.kept c.read_at.ensures.looks c.requires.behind c.in-Ok.ensures.read in
    let low = subst (λ (ps : List ℕ). c.in-Some.first < length ps) c.as_slice.ensures.value c.in-Some.ensures.inside in
    let b = kept_below g.D.Disk.face c.read_at.new.disks c.args.place c.in-Some.first (state_of c.args.gathered.now) (input_of c.in-Ok.input) t low in
    let l = length_all (IsLookedAt g.D.Disk.face g.D.Disk.loans) c.args.disks.now c.read_at.new.disks c.read_at.ensures.looks in
    omega (arith, c.requires.place)

pub compare-requires-clause-few : goal.compare-requires-clause-few
compare-requires-clause-few g c =
    let l = length_all (IsLookedAt g.D.Disk.face g.D.Disk.loans) c.args.disks.now c.read_at.new.disks c.read_at.ensures.looks in
    omega (arith, c.requires.few)

pub compare-requires-clause-goes : goal.compare-requires-clause-goes
compare-requires-clause-goes g c = c.in-Ok-check.ensures.goes

pub compare-requires-clause-count : goal.compare-requires-clause-count
compare-requires-clause-count g c = (known_at g.D.Disk.face (input_of c.in-Ok.input) _ c.in-Ok.ensures.read).count

pub returns-in-Err-compare-clause-fault : goal.returns-in-Err-compare-clause-fault
returns-in-Err-compare-clause-fault g c =
    let t = taking g.D.Disk.face g.D.Disk.loans c.args.disks.now c.read_at.new.disks c.args.place (state_of c.args.gathered.now) (input_of c.in-Ok.input) c.requires.kept c.read_at.ensures.looks c.requires.behind c.in-Ok.ensures.read in
    let u = taking_on g.D.Disk.face g.D.Disk.loans c.read_at.new.disks c.compare.new.disks c.args.place (state_of c.args.gathered.now) (input_of c.in-Ok.input) t c.compare.ensures.looks in
    let low = subst (λ (ps : List ℕ). c.in-Some.first < length ps) c.as_slice.ensures.value c.in-Some.ensures.inside in
    let is = subst (λ (ps : List ℕ). get_or ps c.in-Some.first 0 ≡ c.in-Ok-check.prefix) c.as_slice.ensures.value c.in-Some.ensures.is in
    let none = subst (λ (ps : List ℕ). (q : ℕ) → q < c.in-Some.first → get_or ps q 0 ≢ c.in-Ok-check.prefix) c.as_slice.ensures.value c.in-Some.ensures.first in
    let l = length_all (IsLookedAt g.D.Disk.face g.D.Disk.loans) c.args.disks.now c.read_at.new.disks c.read_at.ensures.looks in
    let m = length_all (IsLookedAt g.D.Disk.face g.D.Disk.loans) c.read_at.new.disks c.compare.new.disks c.compare.ensures.looks in
    repeat_fails g.D.Disk.face g.D.Disk.loans c.args.disks.now c.read_at.new.disks c.compare.new.disks c.args.place c.in-Some.first c.in-Ok-check.prefix (input_of c.in-Ok.input) u.earlier (state_of c.args.gathered.now)
    c.in-Err-compare.fault u.good u.kept u.family u.at c.in-Ok-check.ensures.goes
    (first_at g.D.Disk.face c.compare.new.disks c.args.place c.in-Some.first c.in-Ok-check.prefix (state_of c.args.gathered.now) (input_of c.in-Ok.input) u low is none)
    (kept_below g.D.Disk.face c.compare.new.disks c.args.place c.in-Some.first (state_of c.args.gathered.now) (input_of c.in-Ok.input) u low) (omega (arith, c.requires.place)) c.read_at.ensures.looks
    c.in-Err-compare.ensures.fault

pub returns-in-Err-compare-clause-looks : goal.returns-in-Err-compare-clause-looks
returns-in-Err-compare-clause-looks g c =
    all_on (IsLookedAt g.D.Disk.face g.D.Disk.loans) (looked_on g.D.Disk.face g.D.Disk.loans) c.args.disks.now c.read_at.new.disks c.compare.new.disks c.read_at.ensures.looks c.compare.ensures.looks

pub returns-in_default-list-clause-looks : goal.returns-in_default-list-clause-looks
returns-in_default-list-clause-looks g c =
    all_on (IsLookedAt g.D.Disk.face g.D.Disk.loans) (looked_on g.D.Disk.face g.D.Disk.loans) c.args.disks.now c.read_at.new.disks c.compare.new.disks c.read_at.ensures.looks c.compare.ensures.looks

pub returns-clause-kept : goal.returns-clause-kept
returns-clause-kept g c =
    let t = taking g.D.Disk.face g.D.Disk.loans c.args.disks.now c.read_at.new.disks c.args.place (state_of c.args.gathered.now) (input_of c.in-Ok.input) c.requires.kept c.read_at.ensures.looks c.requires.behind c.in-Ok.ensures.read in
    let u = taking_on g.D.Disk.face g.D.Disk.loans c.read_at.new.disks c.compare.new.disks c.args.place (state_of c.args.gathered.now) (input_of c.in-Ok.input) t c.compare.ensures.looks in
    let low = subst (λ (ps : List ℕ). c.in-Some.first < length ps) c.as_slice.ensures.value c.in-Some.ensures.inside in
    let is = subst (λ (ps : List ℕ). get_or ps c.in-Some.first 0 ≡ c.in-Ok-check.prefix) c.as_slice.ensures.value c.in-Some.ensures.is in
    let none = subst (λ (ps : List ℕ). (q : ℕ) → q < c.in-Some.first → get_or ps q 0 ≢ c.in-Ok-check.prefix) c.as_slice.ensures.value c.in-Some.ensures.first in
    let l = length_all (IsLookedAt g.D.Disk.face g.D.Disk.loans) c.args.disks.now c.read_at.new.disks c.read_at.ensures.looks in
    let m = length_all (IsLookedAt g.D.Disk.face g.D.Disk.loans) c.read_at.new.disks c.compare.new.disks c.compare.ensures.looks in
    let b = kept_below g.D.Disk.face c.compare.new.disks c.args.place c.in-Some.first (state_of c.args.gathered.now) (input_of c.in-Ok.input) u low in
    take_repeat g.D.Disk.face c.compare.new.disks c.args.place c.in-Some.first c.in-Ok-check.prefix (state_of c.args.gathered.now) (state_of c.list.new.gathered) (input_of c.in-Ok.input) u c.in-Ok-check.ensures.goes
    (omega (arith, c.requires.place))
    (first_at g.D.Disk.face c.compare.new.disks c.args.place c.in-Some.first c.in-Ok-check.prefix (state_of c.args.gathered.now) (input_of c.in-Ok.input) u low is none)
    c.in-Ok-compare.ensures.same c.in-Ok-list.ensures

pub returns-clause-looks : goal.returns-clause-looks
returns-clause-looks g c =
    all_on (IsLookedAt g.D.Disk.face g.D.Disk.loans) (looked_on g.D.Disk.face g.D.Disk.loans) c.args.disks.now c.read_at.new.disks c.compare.new.disks c.read_at.ensures.looks c.compare.ensures.looks
