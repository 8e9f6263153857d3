use Rattle.std.proofs.Common.{◌≢◌, ◌^◌, ◌<◌, ◌≤◌, ℕ, List, length, get_or, eqb-true, sym, subst, ◌∙◌, arith}
use Rattle.std.proofs.lemmas.Bool.{eqb-false}
use Rattle.std.proofs.lemmas.List.{nil_from_length}
use Rattle.qh_merge.specs.Inputs.{IsLookedAt}
use Rattle.qh_merge.specs.Gathered.{IsKept, state_of}
use Rattle.qh_merge.proofs.UnionEndLemmas.{few_prefixes, is_merged, lacks, sound}
use Rattle.qh_merge.proofs.ExactLemmas.{exact}
use Rattle.qh_merge.proofs.ListLemmas.{all_same, length_all, looked_same}
use Rattle.qh_merge.proofs.merging.merge.Goals as goal

pub returns-then-is_empty-clause-fault : goal.returns-then-is_empty-clause-fault
returns-then-is_empty-clause-fault g c = nil_from_length c.args.disks.now (eqb-true (length c.args.disks.now) 0 (sym c.is_empty.ensures ∙ c.if-is_empty.true))

pub returns-then-is_empty-clause-looks : goal.returns-then-is_empty-clause-looks
returns-then-is_empty-clause-looks g c = all_same (IsLookedAt g.D.Disk.face g.D.Disk.loans) (looked_same g.D.Disk.face g.D.Disk.loans) c.args.disks.now

pub take_all-requires-clause-some : goal.take_all-requires-clause-some
take_all-requires-clause-some g c =
    let ne : length c.args.disks.now ≢ 0 = eqb-false (length c.args.disks.now) 0 (sym c.is_empty.ensures ∙ c.if-is_empty.false) in
    omega arith

pub take_all-requires-clause-few : goal.take_all-requires-clause-few
take_all-requires-clause-few g c = c.requires

pub returns-in-Err-clause-fault : goal.returns-in-Err-clause-fault
returns-in-Err-clause-fault g c = c.in-Err.ensures.fault

pub returns-in-Err-clause-looks : goal.returns-in-Err-clause-looks
returns-in-Err-clause-looks g c = c.take_all.ensures.looks

pub first_missing-requires : goal.first_missing-requires
first_missing-requires g c =
    subst (λ (n : ℕ). n ≤ 2 ^ 32) (sym c.prefixes.ensures) (few_prefixes c.in-Ok.gathered.job c.in-Ok.ensures.kept.kept.valid)

pub returns-in-Some-clause-fault : goal.returns-in-Some-clause-fault
returns-in-Some-clause-fault g c =
    let ne : length c.args.disks.now ≢ 0 = eqb-false (length c.args.disks.now) 0 (sym c.is_empty.ensures ∙ c.if-is_empty.false) in
    let l = length_all (IsLookedAt g.D.Disk.face g.D.Disk.loans) c.args.disks.now c.take_all.new.disks c.take_all.ensures.looks in
    lacks g.D.Disk.face c.take_all.new.disks c.in-Some.prefix (state_of c.in-Ok.gathered) c.in-Ok.ensures.kept (omega arith)
    (subst (λ (n : ℕ). c.in-Some.prefix < n) c.prefixes.ensures c.in-Some.ensures.inside)
    (subst (λ (ps : List ℕ). (q : ℕ) → q < length ps → get_or ps q 0 ≢ c.in-Some.prefix) c.as_slice.ensures.value c.in-Some.ensures.missing)
    (subst (λ (ps : List ℕ). (v : ℕ) → v < c.in-Some.prefix → IsKept v ps) c.as_slice.ensures.value c.in-Some.ensures.least)

pub returns-in-Some-clause-looks : goal.returns-in-Some-clause-looks
returns-in-Some-clause-looks g c = c.take_all.ensures.looks

pub answer-requires : goal.answer-requires
answer-requires g c = sound c.in-Ok.ensures.kept.inputs (state_of c.in-Ok.gathered) c.in-Ok.ensures.kept.kept

pub returns-in-Ok-answer-clause-merged : goal.returns-in-Ok-answer-clause-merged
returns-in-Ok-answer-clause-merged g c =
    let ne : length c.args.disks.now ≢ 0 = eqb-false (length c.args.disks.now) 0 (sym c.is_empty.ensures ∙ c.if-is_empty.false) in
    let l = length_all (IsLookedAt g.D.Disk.face g.D.Disk.loans) c.args.disks.now c.take_all.new.disks c.take_all.ensures.looks in
    is_merged g.D.Disk.face c.take_all.new.disks (state_of c.in-Ok.gathered) c.in-Ok-answer.merged c.in-Ok.ensures.kept (omega arith)
    (λ v low. subst (IsKept v) c.as_slice.ensures.value (c.in_default.ensures.complete v (subst (λ (n : ℕ). v < n) (sym c.prefixes.ensures) low)))
    c.in-Ok-answer.ensures

pub returns-in-Ok-answer-clause-exact : goal.returns-in-Ok-answer-clause-exact
returns-in-Ok-answer-clause-exact g c = λ made.
    let ne : length c.args.disks.now ≢ 0 = eqb-false (length c.args.disks.now) 0 (sym c.is_empty.ensures ∙ c.if-is_empty.false) in
    let l = length_all (IsLookedAt g.D.Disk.face g.D.Disk.loans) c.args.disks.now c.take_all.new.disks c.take_all.ensures.looks in
    exact g.D.Disk.face c.take_all.new.disks c.in-Ok-answer.merged made
    (is_merged g.D.Disk.face c.take_all.new.disks (state_of c.in-Ok.gathered) c.in-Ok-answer.merged c.in-Ok.ensures.kept (omega arith)
    (λ v low. subst (IsKept v) c.as_slice.ensures.value (c.in_default.ensures.complete v (subst (λ (n : ℕ). v < n) (sym c.prefixes.ensures) low)))
    c.in-Ok-answer.ensures)

pub returns-in-Ok-answer-clause-looks : goal.returns-in-Ok-answer-clause-looks
returns-in-Ok-answer-clause-looks g c = c.take_all.ensures.looks

pub returns-clause-looks : goal.returns-clause-looks
returns-clause-looks g c = c.take_all.ensures.looks
