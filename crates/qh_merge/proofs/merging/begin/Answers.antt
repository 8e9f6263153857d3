use Rattle.std.proofs.Common.{◌≡◌, ◌≤◌, ℕ, List, [], length, take, All, Some, refl, sym, subst}
use Rattle.qh_ring.specs.declared.number.Omega.{Omega}
use Rattle.qh_ring.specs.Numbers.{IsWithin}
use Rattle.qh_plan.specs.declared.verdict.Verdict.TheVariants.{Sum}
use Rattle.qh_slots.specs.Stands.{Slots, slot_at}
use Rattle.qh_merge.specs.declared.fault.MergeFault.{MergeFault}
use Rattle.qh_merge.specs.Union.{sums_after}
use Rattle.qh_merge.specs.Gathered.{Adds, state_of}
use Rattle.qh_merge.specs.Merging.{MergeMayFail}
use Rattle.qh_merge.specs.Parts.{input_of}
use Rattle.qh_merge.proofs.GatherLemmas.{even_parts, within_parts}
use Rattle.qh_merge.proofs.MergeLemmas.{begun, known_at, miss_fails, no_input, progress_new, read_fails}
use Rattle.qh_merge.proofs.merging.begin.Goals as goal

pub read_at-requires : goal.read_at-requires
read_at-requires g c = c.requires

pub returns-in-Err-clause-fault : goal.returns-in-Err-clause-fault
returns-in-Err-clause-fault g c =
    subst (λ (u : MergeFault). MergeMayFail g.D.Disk.face u c.args.disks.now c.read_at.new.disks) (sym c.fault_at.ensures)
    (read_fails g.D.Disk.face c.args.disks.now c.read_at.new.disks 0 c.in-Err.fault [] (no_input g.D.Disk.face c.read_at.new.disks) c.in-Err.ensures.fault)

pub returns-in-Err-clause-looks : goal.returns-in-Err-clause-looks
returns-in-Err-clause-looks g c = c.read_at.ensures.looks

pub check-requires-clause-count : goal.check-requires-clause-count
check-requires-clause-count g c = (known_at g.D.Disk.face (input_of c.in-Ok.input) _ c.in-Ok.ensures.read).count

pub check-requires-clause-few : goal.check-requires-clause-few
check-requires-clause-few g c = (known_at g.D.Disk.face (input_of c.in-Ok.input) _ c.in-Ok.ensures.read).planned.valid.few_ranges

pub returns-in-Err-check-clause-fault : goal.returns-in-Err-check-clause-fault
returns-in-Err-check-clause-fault g c =
    miss_fails g.D.Disk.face c.args.disks.now c.read_at.new.disks 0 c.in-Err-check.fault (input_of c.in-Ok.input) [] c.in-Ok.input.job (no_input g.D.Disk.face c.read_at.new.disks) refl
    c.in-Ok.ensures.read c.in-Err-check.ensures.fault

pub returns-in-Err-check-clause-looks : goal.returns-in-Err-check-clause-looks
returns-in-Err-check-clause-looks g c = c.read_at.ensures.looks

pub returns-in_default-clause-looks : goal.returns-in_default-clause-looks
returns-in_default-clause-looks g c = c.read_at.ensures.looks

pub returns-in_default-add_new-clause-looks : goal.returns-in_default-add_new-clause-looks
returns-in_default-add_new-clause-looks g c = c.read_at.ensures.looks

pub add_new-requires-clause-even : goal.add_new-requires-clause-even
add_new-requires-clause-even g c =
    let b = begun c.in-Ok-check.prefix (input_of c.in-Ok.input) (state_of c.in-Ok-start.gathered) c.in-Ok-start.ensures c.in-Ok-check.ensures.goes (known_at g.D.Disk.face (input_of c.in-Ok.input) _ c.in-Ok.ensures.read) in
    subst (λ (t : Slots). (r : ℕ) (more : List Omega) → slot_at t r ≡ Some (Sum more) → length c.in-Ok-start.gathered.sums.items ≡ length more) (sym c.as_slice.ensures.value)
    (even_parts c.in-Ok-check.prefix (input_of c.in-Ok.input) [] (state_of c.in-Ok-start.gathered) b.kept b.joins)

pub add_new-requires-clause-within : goal.add_new-requires-clause-within
add_new-requires-clause-within g c =
    let b = begun c.in-Ok-check.prefix (input_of c.in-Ok.input) (state_of c.in-Ok-start.gathered) c.in-Ok-start.ensures c.in-Ok-check.ensures.goes (known_at g.D.Disk.face (input_of c.in-Ok.input) _ c.in-Ok.ensures.read) in
    subst (λ (t : Slots). (n : ℕ) → n ≤ length t → All (IsWithin 126) (sums_after c.in-Ok-start.gathered.sums.items (take n t))) (sym c.as_slice.ensures.value)
    (λ n le. within_parts c.in-Ok-check.prefix n (input_of c.in-Ok.input) [] (state_of c.in-Ok-start.gathered) b.kept b.joins le)

pub returns-clause-kept : goal.returns-clause-kept
returns-clause-kept g c =
    let b = begun c.in-Ok-check.prefix (input_of c.in-Ok.input) (state_of c.in-Ok-start.gathered) c.in-Ok-start.ensures c.in-Ok-check.ensures.goes (known_at g.D.Disk.face (input_of c.in-Ok.input) _ c.in-Ok.ensures.read) in
    progress_new g.D.Disk.face c.read_at.new.disks 0 c.in-Ok-check.prefix (input_of c.in-Ok.input) [] (state_of c.in-Ok-start.gathered) (state_of c.add_new.new.gathered)
    (no_input g.D.Disk.face c.read_at.new.disks) b.kept b.family c.in-Ok.ensures.read b.goes refl
    (subst (λ (t : Slots). Adds (state_of c.in-Ok-start.gathered) c.in-Ok-check.prefix t (state_of c.add_new.new.gathered)) c.as_slice.ensures.value c.in-Ok-add_new.ensures)

pub returns-clause-looks : goal.returns-clause-looks
returns-clause-looks g c = c.read_at.ensures.looks
