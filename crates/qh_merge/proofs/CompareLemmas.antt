-- An input that is read again.
use Rattle.std.proofs.Common.{◌≡◌, ◌≢◌, inl, inr, ℕ, ◌<◌, ◌≤◌, List, length, Option, Some, None, Result, Ok, Err, arith, refl, sym, ap, subst, ◌∙◌}
use Rattle.std.specs.Prelude.{IfErr, IsSome, OnOk, slice_get}
use Rattle.std.specs.Option.{IsSomeAnd}
use Rattle.std.proofs.lemmas.Bool.{false≢true}
use Rattle.std.proofs.lemmas.Option.{none-some}
use Rattle.qh_plan.specs.Jobs.{Job, ranges, roots}
use Rattle.qh_disk.specs.Disk.{Face}
use Rattle.qh_slots.specs.Stands.{slot_at}
use Rattle.qh_merge.specs.declared.fault.MergeFault.{MergeFault}
use Rattle.qh_merge.specs.declared.fault.MergeFault.TheVariants.{NoInput, DiskFault, Unread, WholeJob, OtherFamily, Unfinished, Unequal, Missing, Memory}
use Rattle.qh_merge.specs.declared.input.ReadFault.{ReadFault}
use Rattle.qh_merge.specs.declared.input.ReadFault.TheVariants as read
use Rattle.qh_merge.specs.Inputs.{Input, IsRead}
use Rattle.qh_merge.specs.Parts.{Goes, IsDifference, Misses, ReadMayFailAt, Repeated, RereadMayFail, Rereads, fault_at}
use Rattle.qh_merge.proofs.MergeLemmas.{IsKnown}
use Rattle.qh_merge.proofs.UnionLemmas.{is_under}

pub reread_fails : {D : Type 0} (face : D → Face) (j : Job) (n w : ℕ) (x : Input) (u : ReadFault) (old new : List D) → ReadMayFailAt face u n old new → RereadMayFail face j n w x (fault_at n u) old new
reread_fails face j n w x read.DiskFault old new why = (refl, why)
reread_fails face j n w x read.Unread old new why = (refl, inl why)
reread_fails face j n w x read.Memory old new why = tt

some_same : {T : Type 0} {a b : T} → ◌≡◌ {A = Option T} (Some a) (Some b) → a ≡ b
some_same e = cc

some_of : {T : Type 0} (o : Option T) → IsSome o → o ≡ None → ⊥
some_of None some e = false≢true some
some_of (Some t) some e = none-some t (sym e)

pub misses_not : (j : Job) (x : Input) (n w : ℕ) (u : MergeFault) → Misses j x n u → Goes j x w → ⊥
misses_not j x n w NoInput why goes = why
misses_not j x n w (DiskFault i) why goes = why
misses_not j x n w (Unread i) why goes = why
misses_not j x n w (WholeJob i) why goes = none-some w (sym why.1 ∙ goes.prefix)
misses_not j x n w (OtherFamily i) why goes = why.2 goes.family
misses_not j x n w (Unfinished i r) why goes = some_of (slot_at x.slots r) (goes.finished r why.3) why.4
misses_not j x n w (Unequal p r u v) why goes = why
misses_not j x n w (Missing p) why goes = why
misses_not j x n w Memory why goes = why

pub other_not : (j : Job) (x : Input) (v w : ℕ) → Goes j x v → v ≢ w → Goes j x w → ⊥
other_not j x v w a ne b = ne (some_same (sym a.prefix ∙ b.prefix))

pub changed_fails : {D : Type 0} (face : D → Face) (j : Job) (n w : ℕ) (x y : Input) (old new : List D) → IsSomeAnd (slice_get new n) (λ d. IsRead y (face d)) → (Goes j y w → ⊥)
    → RereadMayFail face j n w x (Unread n) old new
changed_fails face j n w x y old new at not = (refl, inr (record { input = y; read = at; other = not }))

-- ---- two inputs of one prefix value have as many slots
pub ranges_same : (j : Job) (x : Input) (w : ℕ) → Goes j x w → ranges x.job ≡ roots j
ranges_same j x w goes = ap ranges (sym (is_under j x.job (Some w) goes.family goes.prefix))

pub as_many : (j : Job) (x y : Input) (w : ℕ) → Goes j x w → Goes j y w → length x.slots ≡ ranges x.job → length y.slots ≡ ranges y.job → length x.slots ≡ length y.slots
as_many j x y w a b m n = m ∙ ranges_same j x w a ∙ sym (ranges_same j y w b) ∙ sym n

pub finished_slots : (j : Job) (x : Input) (w : ℕ) → Goes j x w → length x.slots ≡ ranges x.job → (r : ℕ) → r < length x.slots → IsSome (slot_at x.slots r)
finished_slots j x w goes count r low = goes.finished r (subst (λ (n : ℕ). r < n) count low)

pub few_slots : (x : Input) → IsKnown x → length x.slots ≤ 16384
few_slots x known = let f = known.planned.valid.few_ranges in let c = known.count in omega arith

-- ---- what they say
pub repeated_on : {D : Type 0} (face : D → Face) (ds : List D) (n : ℕ) (j : Job) (w : ℕ) (x y : Input) (T : Type 0) (r : Result T MergeFault) → Rereads face ds n j w y → OnOk r (y.slots ≡ x.slots) → OnOk r (Repeated face ds n j w x)
repeated_on face ds n j w x y T (Ok t) again same = record { input = y; rereads = again; same = same }
repeated_on face ds n j w x y T (Err u) again same = tt

difference_fails : {D : Type 0} (face : D → Face) (old new : List D) (n : ℕ) (j : Job) (w : ℕ) (x y : Input) (u : MergeFault) → Rereads face new n j w y → IsDifference w y.slots x.slots u → RereadMayFail face j n w x u old new
difference_fails face old new n j w x y NoInput again why = absurd why
difference_fails face old new n j w x y (DiskFault i) again why = absurd why
difference_fails face old new n j w x y (Unread i) again why = absurd why
difference_fails face old new n j w x y (WholeJob i) again why = absurd why
difference_fails face old new n j w x y (OtherFamily i) again why = absurd why
difference_fails face old new n j w x y (Unfinished i r) again why = absurd why
difference_fails face old new n j w x y (Unequal p r u v) again why = (y, again, why)
difference_fails face old new n j w x y (Missing p) again why = absurd why
difference_fails face old new n j w x y Memory again why = absurd why

pub difference_on : {D : Type 0} (face : D → Face) (old new : List D) (n : ℕ) (j : Job) (w : ℕ) (x y : Input) (T : Type 0) (r : Result T MergeFault) → Rereads face new n j w y
    → IfErr r (λ u. IsDifference w y.slots x.slots u) → IfErr r (λ u. RereadMayFail face j n w x u old new)
difference_on face old new n j w x y T (Ok t) again why = tt
difference_on face old new n j w x y T (Err u) again why = difference_fails face old new n j w x y u again why
