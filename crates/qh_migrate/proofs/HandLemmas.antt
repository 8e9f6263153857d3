-- What is handed back of a disk after a look, or after a wipe, before it.
use Rattle.std.proofs.Common.{◌≡◌, Bool, true, false, List, ℕ, [], ◌∙◌}
use Rattle.qh_plan.specs.Jobs.{Job, IsJob}
use Rattle.qh_disk.specs.Disk.{Face, IsSafe, Reads}
use Rattle.qh_disk.specs.Moments.{EachImage}
use Rattle.qh_slots.specs.Stands.{Slots, Stands}
use Rattle.qh_parts.specs.Laying.{Wipes}
use Rattle.qh_journal.specs.Calls.{Attaches}
use Rattle.qh_migrate.specs.Opening.{HandsBack, Opens, keeping}
use Rattle.qh_migrate.proofs.SameLemmas.{attached_opened, keeps_same, looks_keeps, looks_opened}
use Rattle.qh_migrate.proofs.FreshLemmas.{wiped_keeps, wiped_opened}

module _ {D : Type 0} (face : D → Face) (loans : D → List ℕ) (taking : Bool) (j : Job) (old : Face) where
  pub attached_opens : IsJob j → (d : D) (table : Slots) (e : D) → Attaches face loans d e → IsSafe (face e) → Reads (face e) (Stands j table)
      → Opens face loans (keeping false taking) j old d table e
  attached_opens is d table e attaches safe reads = record {
    same = attaches.same;
    opened = attached_opened taking j is old (face d)
        (face e) table attaches.looks safe reads;
  }

  pub attached_back : IsJob j → (d e : D) → Attaches face loans d e → HandsBack face loans (keeping false taking) j old d e
  attached_back is d e attaches = record {
    same = attaches.same;
    keeps = looks_keeps taking j old (face d) (face e) (face e) attaches.looks
        (keeps_same taking j old (face e)) is;
  }

  pub looked_opens : (d m : D) → Attaches face loans d m → (table : Slots) (e : D) → Opens face loans (keeping false taking) j old m table e
      → Opens face loans (keeping false taking) j old d table e
  looked_opens d m attaches table e opens = record {
    same = opens.same ∙ attaches.same;
    opened = looks_opened taking j old (face d) (face m)
        (face e) attaches.looks table opens.opened;
  }

  pub looked_back : IsJob j → (d m : D) → Attaches face loans d m → (e : D) → HandsBack face loans (keeping false taking) j old m e → HandsBack face loans
      (keeping false taking) j old d e
  looked_back is d m attaches e back = record {
    same = back.same ∙ attaches.same;
    keeps = looks_keeps taking j old (face d) (face m)
        (face e) attaches.looks back.keeps is;
  }

  module _ (is : IsJob j) (d m : D) (same : loans m ≡ loans d) (wipes : Wipes (face d) (face m)) (empty : EachImage (face m) (λ f. f ≡ []))
      (reads : Reads (face m) (λ f. f ≡ [])) where
    pub wiped_opens : (table : Slots) (e : D) → Opens face loans (keeping false taking) j old m table e → Opens face loans (keeping true taking) j old d table e
    wiped_opens table e opens = record {
      same = opens.same ∙ same;
      opened = wiped_opened taking j is old (face d) (face m)
          (face e) wipes empty reads table opens.opened;
    }

    pub wiped_back : (e : D) → HandsBack face loans (keeping false taking) j old m e → HandsBack face loans (keeping true taking) j old d e
    wiped_back e back = record { same = back.same ∙ same; keeps = wiped_keeps taking j is old (face d) (face m) (face e) wipes empty reads back.keeps }
