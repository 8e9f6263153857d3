-- No entry changes which ranges were stored before the run began.
use Rattle.std.proofs.Common.{◌≡◌, ℕ, Bool, true, false, not, ◌&&◌, ◌||◌, List, [], ◌∷◌, ◌++◌, inl, inr, set, refl, sym, ap, ◌∙◌}
use Rattle.std.proofs.lemmas.Bool.{cases_eq, eq-eqb, ne_eqb, and_left, and_right}
use Rattle.std.proofs.lemmas.List.{get_or-set_other}
use Rattle.std.proofs.lemmas.List.Folds.{list_any-append}
use Rattle.std.proofs.Math.Bool.{or-false}
use Rattle.qh_lease.specs.declared.lease.Lease.{Lease}
use Rattle.qh_lease.specs.declared.lease.Lease.TheVariants.{Fresh, Acked}
use Rattle.qh_lease.specs.Lease.{lease_at, is_acked}
use Rattle.qh_core.proofs.KeptSlots.{set_cases}
use Rattle.qh_core.specs.declared.noted.Noted.{Noted}
use Rattle.qh_core.specs.declared.noted.Noted.TheVariants as entry
use Rattle.qh_core.specs.Noted.{acks_range, acked_in}
use Rattle.qh_core.specs.Replay.{CourseView, noted, is_begun}

acked_in-append : (history : List Noted) (note : Noted) (r : ℕ) → acked_in (history ++ note ∷ []) r ≡ (acked_in history r || acks_range r note)
acked_in-append history note r = list_any-append (acks_range r) history (note ∷ []) ∙ ap (λ b. acked_in history r || b) (or-false (acks_range r note))

or_true : (b : Bool) → (b || true) ≡ true
or_true true = refl
or_true false = refl

-- a range stays so where its lease stays open or acknowledged, and the entry does not acknowledge it
pub begun_stays : (old new : CourseView) (note : Noted) (r : ℕ) → new.history ≡ old.history ++ note ∷ []
    → is_acked (lease_at new.leases r) ≡ is_acked (lease_at old.leases r) → acks_range r note ≡ false
    → is_begun new r ≡ is_begun old r
begun_stays old new note r more same silent =
    let no_other : acked_in new.history r ≡ acked_in old.history r =
    ap (λ h. acked_in h r) more
    ∙ (acked_in-append old.history note r ∙ (ap (λ b. acked_in old.history r || b) silent ∙ or-false (acked_in old.history r))) in
    λ i. same i && not (no_other i)

-- where one lease changes from open to open, each lease stays open or acknowledged
open_stays : (leases : List Lease) (range : ℕ) (lease : Lease) (r : ℕ) → is_acked (lease_at leases range) ≡ false → is_acked lease ≡ false
    → is_acked (lease_at (set leases range lease) r) ≡ is_acked (lease_at leases r)
open_stays leases range lease r waiting open' =
    let P : Lease → Type 0 = λ x. is_acked x ≡ is_acked (lease_at leases r) in
    set_cases P leases range r lease Fresh (λ same. open' ∙ (sym waiting ∙ ap (λ q. is_acked (lease_at leases q)) (sym same))) refl

-- so it is with an entry that acknowledges nothing
pub begun_open : (c : CourseView) (range : ℕ) (lease : Lease) (note : Noted) → is_acked (lease_at c.leases range) ≡ false → is_acked lease ≡ false
    → ((r : ℕ) → acks_range r note ≡ false) → (r : ℕ) → is_begun (noted c range lease note) r ≡ is_begun c r
begun_open c range lease note waiting open' silent r =
    begun_stays c (noted c range lease note) note r refl (open_stays c.leases range lease r waiting open') (silent r)

-- a range that an entry acknowledges was not stored before
pub begun_acked : (c : CourseView) (range attempt r : ℕ) → is_acked (lease_at c.leases range) ≡ false
    → is_begun (noted c range Acked (entry.Acked range attempt)) r ≡ is_begun c r
begun_acked c range attempt r waiting =
    let note : Noted = entry.Acked range attempt in
    elim (cases_eq r range) [
      | inl same ↦
          let says : acked_in (c.history ++ note ∷ []) r ≡ true =
          acked_in-append c.history note r ∙ (ap (λ b. acked_in c.history r || b) (eq-eqb r range same) ∙ or_true (acked_in c.history r)) in
          and_right _ _ (ap not says) ∙ sym (and_left _ _ (ap (λ q. is_acked (lease_at c.leases q)) same ∙ waiting))
      | inr other ↦
          let stays : is_acked (lease_at (set c.leases range Acked) r) ≡ is_acked (lease_at c.leases r) =
          ap is_acked (get_or-set_other c.leases range r Acked Fresh other) in
          begun_stays c (noted c range Acked note) note r refl stays (ne_eqb r range other)
    ]
