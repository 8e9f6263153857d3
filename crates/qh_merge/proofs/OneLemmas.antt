-- A disk that tells what it reads as holds one input, and the first input with a prefix value is at its place.
use Rattle.std.proofs.Common.{◌≡◌, ℕ, zero, suc, inl, inr, ◌<◌, ◌≤◌, List, [], ◌∷◌, length, take, drop, Option, Some, None, arith, refl, sym, ap, subst, ◌∙◌}
use Rattle.std.specs.Prelude.{IsSome, slice_get}
use Rattle.std.specs.Option.{IsSomeAnd}
use Rattle.std.proofs.lemmas.Bool.{cases_lt, false≢true}
use Rattle.qh_plan.specs.Jobs.{Job, IsJob}
use Rattle.qh_plan.proofs.OneTextLemmas.{one_job}
use Rattle.qh_disk.specs.Disk.{Face}
use Rattle.qh_slots.specs.Layout.{head}
use Rattle.qh_slots.specs.Stands.{Stands}
use Rattle.qh_slots.proofs.StandLemmas.{head_size, one_list}
use Rattle.qh_parts.specs.Naming.{Names}
use Rattle.qh_parts.proofs.HeadLemmas.{head_text, named_length}
use Rattle.qh_merge.specs.Inputs.{Input, IsRead}
use Rattle.qh_merge.specs.Merging.{AllTell, AreGood}

-- ---- one input
one_named : (j k : Job) (f : List ℕ) → Names j f → Names k f → j ≡ k
one_named j k f a b =
    let m = named_length j f a in
    let n = named_length k f b in
    let s = head_size j in
    let t = head_size k in
    let e : length (head j) ≡ length (head k) = omega arith in
    let heads : head j ≡ head k = sym a.begins ∙ ap (λ (n : ℕ). take n f) e ∙ b.begins in
    one_job j k a.planned.valid b.planned.valid (sym (head_text j) ∙ ap (drop 32) heads ∙ head_text k)

one_of : (f : List ℕ) (x y : Input) → IsJob x.job → Names x.job f → Names y.job f → Stands x.job x.slots f → Stands y.job y.slots f → x ≡ y
one_of f x y valid a b s t =
    let e = one_named x.job y.job f a b in
    let same = one_list (head x.job) x.job valid x.slots y.slots f s (subst (λ (j : Job). Stands j y.slots f) (sym e) t) in
    λ i. record { job = e i; slots = same i }

pub one_input : (x y : Input) (d : Face) → IsSome d.content → IsRead x d → IsRead y d → x ≡ y
one_input x y d told a b = by_content d.content refl told
  where
    by_content : (o : Option (List ℕ)) → d.content ≡ o → IsSome o → x ≡ y
    by_content None e some = absurd (false≢true some)
    by_content (Some f) e some = one_of f x y a.planned.valid (a.names f e) (b.names f e) (a.stands f e) (b.stands f e)

pub tells_at : {D : Type 0} (face : D → Face) (ds : List D) (k : ℕ) → AllTell face ds → k < length ds → IsSomeAnd (slice_get ds k) (λ d. IsSome (face d).content)
tells_at face [] k all low = absurd (omega arith)
tells_at face (d ∷ ds) zero all low = all.0
tells_at face (d ∷ ds) (suc k) all low = tells_at face ds k all.1 (omega arith)

pub both_at : {D : Type 0} (P Q R : D → Type 0) → ((d : D) → P d → Q d → R d) → (o : Option D) → IsSomeAnd o P → IsSomeAnd o Q → IsSomeAnd o R
both_at P Q R f None p q = absurd p
both_at P Q R f (Some d) p q = f d p q

fact_at : {D : Type 0} (X : Type 0) (o : Option D) → IsSomeAnd o (λ _. X) → X
fact_at X None p = absurd p
fact_at X (Some d) p = p

-- two inputs that a telling disk of the list holds are one
pub one_at : {D : Type 0} (face : D → Face) (ds : List D) (k : ℕ) (x y : Input) → AllTell face ds → k < length ds
    → IsSomeAnd (slice_get ds k) (λ d. IsRead x (face d)) → IsSomeAnd (slice_get ds k) (λ d. IsRead y (face d)) → x ≡ y
one_at face ds k x y all low a b =
    let both = both_at (λ d. IsRead x (face d)) (λ d. IsRead y (face d)) (λ d. IsSome (face d).content → x ≡ y) (λ d p q told. one_input x y (face d) told p q) (slice_get ds k) a b in
    fact_at (x ≡ y) (slice_get ds k) (both_at (λ d. IsSome (face d).content → x ≡ y) (λ d. IsSome (face d).content) (λ _. x ≡ y) (λ d f told. f told) (slice_get ds k) both (tells_at face ds k all low))

-- ---- the first inputs alone
pub first_inputs : {D : Type 0} (face : D → Face) (ds : List D) (n k : ℕ) (inputs : List Input) → AreGood face ds n inputs → k ≤ n → (earlier : List Input) × AreGood face ds k earlier
first_inputs face ds n k [] good le = ([], record { count = let c = good.count in omega arith; read = good.read; taken = good.taken; equal = good.equal })
first_inputs face ds n k (x ∷ inputs) good le = elim (cases_lt k n) [
  | inl l ↦ first_inputs face ds (length inputs) k inputs (record { count = refl; read = good.read.1; taken = good.taken.1; equal = λ told. (good.equal told).1 }) (let c = good.count in omega arith)
  | inr g ↦ (x ∷ inputs, record { count = let c = good.count in omega arith; read = good.read; taken = good.taken; equal = good.equal })
]
