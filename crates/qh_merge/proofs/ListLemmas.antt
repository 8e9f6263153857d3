-- Disks in a list, some calls later.
use Rattle.std.proofs.Common.{◌≡◌, ◌<◌, ℕ, suc, zero, List, [], ◌∷◌, length, Option, Some, Result, Ok, Err, arith, refl, sym, ap, subst, ◌∙◌}
use Rattle.std.specs.Prelude.{IfErr, IfOk, IsSome, set, slice_get}
use Rattle.std.specs.Option.{IsSomeAnd}
use Rattle.std.specs.List.{AllZip}
use Rattle.qh_limits.specs.Counts.{Rose}
use Rattle.qh_disk.specs.Disk.{Face}
use Rattle.qh_disk.proofs.Looking.{looks_on, looks_reads, looks_same}
use Rattle.qh_slots.specs.Stands.{Stands}
use Rattle.qh_parts.specs.Naming.{IsFound, Names}
use Rattle.qh_merge.specs.Inputs.{AllLook, AreRead, Input, IsLookedAt, IsRead, IsUnread}
use Rattle.qh_merge.specs.Merging.{AllTell, AreGood}
use Rattle.qh_merge.specs.Parts.{ReadMayFail, ReadMayFailAt}
use Rattle.qh_merge.specs.declared.input.ReadFault.{ReadFault}
use Rattle.qh_merge.specs.declared.input.ReadFault.TheVariants.{DiskFault, Unread, Memory}

-- R holds of each element and itself
pub all_same : {D : Type 0} (R : D → D → Type 0) → ((d : D) → R d d) → (ds : List D) → AllZip R ds ds
all_same R same [] = tt
all_same R same (d ∷ ds) = (same d, all_same R same ds)

-- and of what follows
pub all_on : {D : Type 0} (R : D → D → Type 0) → ((d e f : D) → R d e → R e f → R d f) → (ds es fs : List D) → AllZip R ds es → AllZip R es fs → AllZip R ds fs
all_on R on [] [] [] a b = tt
all_on R on [] [] (f ∷ fs) a b = b
all_on R on [] (e ∷ es) fs a b = absurd a
all_on R on (d ∷ ds) [] fs a b = absurd a
all_on R on (d ∷ ds) (e ∷ es) [] a b = absurd b
all_on R on (d ∷ ds) (e ∷ es) (f ∷ fs) a b = (on d e f a.0 b.0, all_on R on ds es fs a.1 b.1)

-- a fact of the disk of a place, and what follows of the disk there after
pub all_get : {D : Type 0} (R : D → D → Type 0) (P Q : D → Type 0) → ((d e : D) → R d e → P d → Q e) → (old new : List D) → AllZip R old new → (k : ℕ)
    → IsSomeAnd (slice_get old k) P → IsSomeAnd (slice_get new k) Q
all_get R P Q f [] [] a k p = absurd p
all_get R P Q f [] (e ∷ es) a k p = absurd a
all_get R P Q f (d ∷ ds) [] a k p = absurd a
all_get R P Q f (d ∷ ds) (e ∷ es) a zero p = f d e a.0 p
all_get R P Q f (d ∷ ds) (e ∷ es) a (suc k) p = all_get R P Q f ds es a.1 k p

-- one disk alone is changed
pub all_set : {D : Type 0} (R : D → D → Type 0) → ((d : D) → R d d) → (ds : List D) (k : ℕ) (e : D) → IsSomeAnd (slice_get ds k) (λ d. R d e) → AllZip R ds (set ds k e)
all_set R same [] k e a = absurd a
all_set R same (d ∷ ds) zero e a = (a, all_same R same ds)
all_set R same (d ∷ ds) (suc k) e a = (same d, all_set R same ds k e a)

pub get_set : {D : Type 0} (P : D → Type 0) (ds : List D) (k : ℕ) (e : D) → k < length ds → P e → IsSomeAnd (slice_get (set ds k e) k) P
get_set P [] k e low p = absurd (omega arith)
get_set P (d ∷ ds) zero e low p = p
get_set P (d ∷ ds) (suc k) e low p = get_set P ds k e (omega arith) p

pub length_all : {D : Type 0} (R : D → D → Type 0) (old new : List D) → AllZip R old new → length new ≡ length old
length_all R [] [] a = refl
length_all R [] (e ∷ es) a = absurd a
length_all R (d ∷ ds) [] a = absurd a
length_all R (d ∷ ds) (e ∷ es) a = ap suc (length_all R ds es a.1)

-- ---- calls that look
pub looked_same : {D : Type 0} (face : D → Face) (loans : D → List ℕ) (d : D) → IsLookedAt face loans d d
looked_same face loans d = record { same = refl; looks = looks_same (face d) }

pub looked_on : {D : Type 0} (face : D → Face) (loans : D → List ℕ) (d e f : D) → IsLookedAt face loans d e → IsLookedAt face loans e f → IsLookedAt face loans d f
looked_on face loans d e f a b = record { same = b.same ∙ a.same; looks = looks_on (face d) (face e) (face f) a.looks b.looks }

read_on : {D : Type 0} (face : D → Face) (loans : D → List ℕ) (x : Input) (d e : D) → IsLookedAt face loans d e → IsRead x (face d) → IsRead x (face e)
read_on face loans x d e a is = record {
  planned = is.planned;
  count = is.count;
  fits = is.fits;
  safe = a.looks.safe is.safe;
  names = looks_reads (Names x.job) (face d) (face e) a.looks is.names;
  stands = looks_reads (Stands x.job x.slots) (face d) (face e) a.looks is.stands;
}

pub input_on : {D : Type 0} (face : D → Face) (loans : D → List ℕ) (old new : List D) (k : ℕ) (x : Input) → AllLook face loans old new → IsSomeAnd (slice_get old k) (λ d. IsRead x (face d))
    → IsSomeAnd (slice_get new k) (λ e. IsRead x (face e))
input_on face loans old new k x a read = all_get (IsLookedAt face loans) (λ d. IsRead x (face d)) (λ e. IsRead x (face e)) (read_on face loans x) old new a k read

pub are_read_on : {D : Type 0} (face : D → Face) (loans : D → List ℕ) (old new : List D) (inputs : List Input) → AllLook face loans old new → AreRead face old inputs → AreRead face new inputs
are_read_on face loans old new [] a read = tt
are_read_on face loans old new (x ∷ earlier) a read = (
  all_get (IsLookedAt face loans) (λ d. IsRead x (face d)) (λ e. IsRead x (face e)) (read_on face loans x) old new a (length earlier) read.0,
  are_read_on face loans old new earlier a read.1,
)

pub tell_back : {D : Type 0} (face : D → Face) (loans : D → List ℕ) (old new : List D) → AllLook face loans old new → AllTell face new → AllTell face old
tell_back face loans [] [] a told = tt
tell_back face loans [] (e ∷ es) a told = tt
tell_back face loans (d ∷ ds) [] a told = absurd a
tell_back face loans (d ∷ ds) (e ∷ es) a told = (subst (λ (o : Option (List ℕ)). IsSome o) a.0.looks.content told.0, tell_back face loans ds es a.1 told.1)

pub good_on : {D : Type 0} (face : D → Face) (loans : D → List ℕ) (old new : List D) (count : ℕ) (inputs : List Input) → AllLook face loans old new → AreGood face old count inputs → AreGood face new count inputs
good_on face loans old new count inputs a good = record {
  count = good.count;
  read = are_read_on face loans old new inputs a good.read;
  taken = good.taken;
  equal = λ told. good.equal (tell_back face loans old new a told);
}

-- ---- results, and the disk of a place
pub ok_at : {T E : Type 0} (r : Result T E) (P Q : T → Type 0) → ((t : T) → P t → Q t) → IfOk r P → IfOk r Q
ok_at (Ok t) P Q f p = f t p
ok_at (Err u) P Q f p = tt

pub err_at : {T E : Type 0} (r : Result T E) (P Q : E → Type 0) → ((u : E) → P u → Q u) → IfErr r P → IfErr r Q
err_at (Ok t) P Q f p = tt
err_at (Err u) P Q f p = f u p

pub at_some : {D : Type 0} (P : D → Type 0) (ds : List D) (k : ℕ) (d : D) → slice_get ds k ≡ Some d → P d → IsSomeAnd (slice_get ds k) P
at_some P ds k d e p = subst (λ o. IsSomeAnd o P) (sym e) p

pub fault_set : {D : Type 0} (face : D → Face) (u : ReadFault) (ds : List D) (k : ℕ) (d e : D) → k < length ds → slice_get ds k ≡ Some d → ReadMayFail u (face d) (face e)
    → ReadMayFailAt face u k ds (set ds k e)
fault_set face DiskFault ds k d e low is p =
    at_some (λ d. IsSomeAnd (slice_get (set ds k e) k) (λ e. Rose (face d).faults (face e).faults)) ds k d is (get_set (λ e. Rose (face d).faults (face e).faults) ds k e low p)
fault_set face Unread ds k d e low is p = get_set (λ e. IsFound IsUnread (face e)) ds k e low p
fault_set face Memory ds k d e low is p = tt
