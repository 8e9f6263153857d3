-- What the calls of a board do to its disk.
use Rattle.std.proofs.Common.{◌≡◌, ℕ, List, Option, Some, None, refl, sym}
use Rattle.qh_disk.specs.Disk.{Face}
use Rattle.qh_disk.specs.Moments.{Lasts}
use Rattle.qh_disk.proofs.Moments.{lasts_same, runs_same}
use Rattle.qh_plan.specs.Jobs.{Job}
use Rattle.qh_slots.specs.Stands.{Slots, Made}
use Rattle.qh_slots.specs.Moments.{GoesOn}
use Rattle.qh_parts.specs.Sparing.{Spares}
use Rattle.qh_journal.specs.Calls.{Went, Same}
use Rattle.qh_parts.proofs.PartLemmas.{spares_same}
use Rattle.qh_journal.proofs.KeptLemmas.{went_same}
use Rattle.qh_limits.specs.Counts.{Rose}
use Rattle.std.specs.Option.{ForSome, IsSomeAnd}
use Rattle.qh_board.specs.Board.{Serves}
use Rattle.qh_board.specs.Deliveries.{DiskRose}

module _ {D : Type 0} (face : D → Face) (loans : D → List ℕ) (j : Job) where
  -- no call
  pub serves_same : (old : Option D) → Went (Serves face loans j) old old
  serves_same old = went_same (Serves face loans j) old (λ d. record {
    same = record { same = refl; runs = runs_same (face d) };
    spares = spares_same j (face d);
    made = lasts_same (Made j) (face d);
    goes_on = λ s. lasts_same (GoesOn j s) (face d);
  })

  -- what a store does
  pub serves_stored : (old new : Option D) → Went (λ d e. Same face loans d e × Spares j (face d) (face e)) old new → Went (λ d e. Lasts (Made j) (face d) (face e)) old new
      → Went (λ d e. (s : Slots) → Lasts (GoesOn j s) (face d) (face e)) old new → Went (Serves face loans j) old new
  serves_stored None new went made goes_on = went
  serves_stored (Some d) None went made goes_on = went
  serves_stored (Some d) (Some e) went made goes_on = record { same = went.0; spares = went.1; made = made; goes_on = goes_on }

-- ---- a store that failed
pub rose_went : {D : Type 0} (face : D → Face) (old new : Option D) → (old ≡ None → ⊥) → Went (λ d e. Rose (face d).faults (face e).faults) old new → DiskRose face old new
rose_went face None new some went = absurd (some refl)
rose_went face (Some d) None some went = absurd went
rose_went face (Some d) (Some e) some went = went

pub some_went : {D : Type 0} (P : D → D → Type 0) (A : D → Type 0) (old new : Option D) → (old ≡ None → ⊥) → Went P old new → ForSome new A → IsSomeAnd new A
some_went P A None new some went holds = absurd (some refl)
some_went P A (Some d) None some went holds = absurd went
some_went P A (Some d) (Some e) some went holds = holds e refl
