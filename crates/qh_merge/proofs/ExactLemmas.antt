-- Journals that runs of their jobs made give the answer of the whole circuit.
use Rattle.std.proofs.Common.{◌≡◌, ℕ, zero, suc, List, [], ◌∷◌, length, Option, Some, None, refl, subst}
use Rattle.std.specs.Prelude.{slice_get}
use Rattle.std.specs.Option.{IsSomeAnd}
use Rattle.qh_plan.specs.Jobs.{Job, IsJob}
use Rattle.qh_disk.specs.Disk.{Face}
use Rattle.qh_slots.specs.Stands.{AreTrue, Made}
use Rattle.qh_parts.specs.Naming.{Names}
use Rattle.qh_merge.specs.declared.merging.Merged.{Merged}
use Rattle.qh_merge.specs.Inputs.{AreRead, Input, IsRead}
use Rattle.qh_merge.specs.Union.{family}
use Rattle.qh_merge.specs.Merging.{IsFamily, IsMerged}
use Rattle.qh_merge.specs.Laws.{AllMade, AreAllTrue, IsExact}
use Rattle.qh_merge.proofs.LawLemmas.{is_uncut, made_true}
use Rattle.qh_merge.proofs.MergeLemmas.{known_at}

-- ---- true slots
of_made : (x : Input) (d : Face) → IsSomeAnd d.content (λ f. (j : Job) → Names j f → Made j f) → IsRead x d → AreTrue x.job x.slots
of_made x d made read = by_content d.content refl made
  where
    by_content : (o : Option (List ℕ)) → d.content ≡ o → IsSomeAnd o (λ f. (j : Job) → Names j f → Made j f) → AreTrue x.job x.slots
    by_content None e made = absurd made
    by_content (Some f) e made = made_true x.job x.slots f read.planned.valid (made x.job (read.names f e)) (read.stands f e)

true_at : {D : Type 0} (face : D → Face) (ds : List D) (k : ℕ) (x : Input) → AllMade face ds → IsSomeAnd (slice_get ds k) (λ d. IsRead x (face d)) → AreTrue x.job x.slots
true_at face [] k x made read = absurd read
true_at face (d ∷ ds) zero x made read = of_made x (face d) made.0 read
true_at face (d ∷ ds) (suc k) x made read = true_at face ds k x made.1 read

all_true : {D : Type 0} (face : D → Face) (ds : List D) (inputs : List Input) → AllMade face ds → AreRead face ds inputs → AreAllTrue inputs
all_true face ds [] made read = tt
all_true face ds (x ∷ earlier) made read = (true_at face ds (length earlier) x made read.0, all_true face ds earlier made read.1)

-- ---- the family
valid_family : {D : Type 0} (face : D → Face) (ds : List D) (x : Input) (earlier : List Input) → AreRead face ds (x ∷ earlier) → IsJob (family x earlier)
valid_family face ds x [] read = (known_at face x (slice_get ds 0) read.0).planned.valid
valid_family face ds x (y ∷ earlier) read = valid_family face ds y earlier read.1

valid_job : {D : Type 0} (face : D → Face) (ds : List D) (j : Job) (inputs : List Input) → AreRead face ds inputs → IsFamily j inputs → IsJob j
valid_job face ds j [] read is = absurd is
valid_job face ds j (x ∷ earlier) read is = subst IsJob is (valid_family face ds x earlier read)

-- ---- the answer
pub exact : {D : Type 0} (face : D → Face) (ds : List D) (m : Merged) → AllMade face ds → IsMerged face ds m → IsExact face ds m
exact face ds m made is = record {
  job = is.job;
  inputs = is.inputs;
  read = is.all.read;
  family = is.family;
  uncut = is_uncut is.job is.inputs m (valid_job face ds is.job is.inputs is.all.read is.family) is.family is.all.taken is.complete (all_true face ds is.inputs made is.all.read) is.is;
}
