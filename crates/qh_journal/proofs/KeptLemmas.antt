-- What a journal keeps, from what its calls do to its disk.
use Rattle.std.proofs.Common.{◌≡◌, ◌<◌, inl, inr, ℕ, true, false, List, length, set, Option, Some, None, refl, sym, ap, subst, ◌∙◌, arith}
use Rattle.std.specs.Option.{ForSome}
use Rattle.std.proofs.lemmas.Bool.{cases_eq, false≢true}
use Rattle.std.proofs.lemmas.List.{length-set, get_or-set_same, get_or-set_other}
use Rattle.qh_plan.specs.declared.verdict.Verdict.{Verdict}
use Rattle.qh_plan.specs.Jobs.{Job, ranges}
use Rattle.qh_plan.specs.Ranges.{Fits}
use Rattle.qh_disk.specs.Disk.{Face, IsSafe, Reads}
use Rattle.qh_disk.specs.Moments.{EachImage, Lasts}
use Rattle.qh_disk.proofs.Moments.{lasts_now, lasts_same, runs_same}
use Rattle.qh_slots.specs.Stands.{Slots, slot_at, AllFit, Stands, Made, Holds, Shut}
use Rattle.qh_slots.specs.Moments.{GoesOn}
use Rattle.qh_parts.specs.Sparing.{Spares}
use Rattle.qh_parts.specs.Groups.{AreShut, IsGroup, StandsPartly, filled, range_of, member_of}
use Rattle.qh_parts.specs.declared.member.Member.{Member}
use Rattle.qh_parts.proofs.PartLemmas.{spares_same}
use Rattle.qh_parts.proofs.GroupLemmas.{filled_fits, filled_from, filled_length, partly_none}
use Rattle.qh_journal.specs.Calls.{Went, Same, JournalView, IsJournal}

-- ---- options
none_some : {D : Type 0} (e : D) → None ≡ Some e → ⊥
none_some e x = cc

pub went_apply : {D : Type 0} (A : D → Type 0) (B : D → Type 0) (old new : Option D) → Went (λ d e. A d → B e) old new → ForSome old A → Went (λ d e. B e) old new
went_apply A B None new went some = went
went_apply A B (Some d) None went some = went
went_apply A B (Some d) (Some e) went some = went (some d refl)

pub went_some : {D : Type 0} (P : D → D → Type 0) (A B : D → Type 0) (old new : Option D) → Went P old new → ((d e : D) → P d e → A d → B e) → ForSome old A → ForSome new B
went_some P A B None new went keeps some e is = absurd (none_some e (sym went ∙ is))
went_some P A B (Some d) None went keeps some e is = absurd went
went_some P A B (Some d) (Some k) went keeps some e is = subst B (let s : k ≡ e = cc in s) (keeps d k went (some d refl))

pub went_none : {D : Type 0} (P : D → D → Type 0) (old new : Option D) → Went P old new → new ≡ None → old ≡ None
went_none P None new went is = refl
went_none P (Some d) None went is = absurd went
went_none P (Some d) (Some e) went is = absurd (none_some e (sym is))

-- no call
pub went_same : {D : Type 0} (P : D → D → Type 0) (old : Option D) → ((d : D) → P d d) → Went P old old
went_same P None all = refl
went_same P (Some d) all = all d

pub went_here : {D : Type 0} (A : D → Type 0) (old : Option D) → ForSome old A → Went (λ d e. A e) old old
went_here A None some = refl
went_here A (Some d) some = some d refl

pub disk_same : {D : Type 0} (face : D → Face) (loans : D → List ℕ) (j : Job) (old : Option D) → Went (λ d e. Same face loans d e × Spares j (face d) (face e)) old old
disk_same face loans j old = went_same (λ d e. Same face loans d e × Spares j (face d) (face e)) old (λ d. (record { same = refl; runs = runs_same (face d) }, spares_same j (face d)))

pub made_same : {D : Type 0} (face : D → Face) (j : Job) (old : Option D) → Went (λ d e. Lasts (Made j) (face d) (face e)) old old
made_same face j old = went_same (λ d e. Lasts (Made j) (face d) (face e)) old (λ d. lasts_same (Made j) (face d))

pub goes_same : {D : Type 0} (face : D → Face) (j : Job) (old : Option D) → Went (λ d e. (s : Slots) → Lasts (GoesOn j s) (face d) (face e)) old old
goes_same face j old = went_same (λ d e. (s : Slots) → Lasts (GoesOn j s) (face d) (face e)) old (λ d s. lasts_same (GoesOn j s) (face d))

pub partly_same : {D : Type 0} (face : D → Face) (j : Job) (t : Slots) (group : List Member) (old : Option D) → ForSome old (λ d. Reads (face d) (Stands j t)) → Went (λ d e. Reads (face e) (StandsPartly j t group)) old old
partly_same face j t group old some = went_here (λ e. Reads (face e) (StandsPartly j t group)) old (λ d is f told. partly_none j t group f (some d is f told))

-- ---- images of a safe disk
pub shut_from : (j : Job) (t : Slots) (r : ℕ) (d : Face) → IsSafe d → Reads d (Stands j t) → slot_at t r ≡ None → EachImage d (Shut j r)
shut_from j t r d safe reads shut c is = record { slots = t; stands = reads c (safe c is); shut = shut }

-- ---- what is kept
module _ {D : Type 0} (face : D → Face) (loans : D → List ℕ) where
  abbrev pub IsStable : Job → Slots → D → Type 0
  IsStable j t d = (r : ℕ) (v : Verdict) → slot_at t r ≡ Some v → EachImage (face d) (Holds j r v)

  stable_went : (j : Job) (t : Slots) (old new : Option D) → Went (λ d e. Same face loans d e × Spares j (face d) (face e)) old new → ForSome old (IsStable j t) → ForSome new (IsStable j t)
  stable_went j t old new went = went_some (λ d e. Same face loans d e × Spares j (face d) (face e)) (IsStable j t) (IsStable j t) old new went
      (λ d e p stable r v held. lasts_now (Holds j r v) (face d) (face e) p.1.runs (p.1.stable r v) (stable r v held))

  -- after a store that failed
  pub kept_failed : (k : JournalView D) (new : Option D) → IsJournal face k → Went (λ d e. Same face loans d e × Spares k.job (face d) (face e)) k.disk new → (k.disk ≡ None → ⊥)
      → IsJournal face (record { disk = new; job = k.job; table = k.table; failed = true })
  kept_failed k new is went some = record {
    count = is.count;
    fits = is.fits;
    stable = stable_went k.job k.table k.disk new went is.stable;
    safe = λ e. absurd (false≢true (sym e));
    reads = λ e. absurd (false≢true (sym e));
    unkept = λ e. absurd (some (went_none (λ d e. Same face loans d e × Spares k.job (face d) (face e)) k.disk new went e));
  }

  -- after one that did not
  module _ (k : JournalView D) (new : Option D) (r : ℕ) (v : Verdict) (is : IsJournal face k) (low : r < ranges k.job) (fits : Fits k.job r v)
      (went : Went (λ d e. Same face loans d e × Spares k.job (face d) (face e)) k.disk new) where
    in_table : r < length k.table
    in_table = subst (λ (n : ℕ). r < n) (sym is.count) low

    new_fits : AllFit k.job (set k.table r (Some v))
    new_fits = record {
      each = λ q w held. elim (cases_eq q r) [
        | inl same ↦
            let here : Some v ≡ Some w = sym (get_or-set_same k.table r (Some v) None in_table) ∙ ap (slot_at (set k.table r (Some v))) (sym same) ∙ held in
            subst (λ (n : ℕ). Fits k.job n w) (sym same) (subst (Fits k.job r) (let s : v ≡ w = cc in s) fits)
        | inr ne ↦ is.fits.each q w (sym (get_or-set_other k.table r q (Some v) None ne) ∙ held)
      ];
    }

    new_stable : ForSome new (λ e. EachImage (face e) (Holds k.job r v)) → ForSome new (IsStable k.job (set k.table r (Some v)))
    new_stable stored e here q w held = elim (cases_eq q r) [
      | inl same ↦
          let now : Some v ≡ Some w = sym (get_or-set_same k.table r (Some v) None in_table) ∙ ap (slot_at (set k.table r (Some v))) (sym same) ∙ held in
          subst (λ (n : ℕ). EachImage (face e) (Holds k.job n w)) (sym same) (subst (λ (x : Verdict). EachImage (face e) (Holds k.job r x)) (let s : v ≡ w = cc in s) (stored e here))
      | inr ne ↦ stable_went k.job k.table k.disk new went is.stable e here q w (sym (get_or-set_other k.table r q (Some v) None ne) ∙ held)
    ]

    pub kept_stored : ForSome new (λ e. EachImage (face e) (Holds k.job r v)) → ForSome new (λ e. IsSafe (face e)) → ForSome new (λ e. Reads (face e) (Stands k.job (set k.table r (Some v))))
        → IsJournal face (record { disk = new; job = k.job; table = set k.table r (Some v); failed = false })
    kept_stored stored safe reads = record {
      count = length-set k.table r (Some v) ∙ is.count;
      fits = new_fits;
      stable = new_stable stored;
      safe = λ e. safe;
      reads = λ e. reads;
      unkept = λ e. refl;
    }

  -- after a group that did not fail
  module _ (k : JournalView D) (new : Option D) (group : List Member) (is : IsJournal face k) (of : IsGroup k.job group)
      (went : Went (λ d e. Same face loans d e × Spares k.job (face d) (face e)) k.disk new) where
    group_stable : ForSome new (λ e. (i : ℕ) → i < length group → EachImage (face e) (Holds k.job (range_of group i) (member_of group i))) → ForSome new (IsStable k.job (filled k.table group))
    group_stable stored e here q w held = elim (filled_from k.table group q w held) [
      | inl before ↦ stable_went k.job k.table k.disk new went is.stable e here q w before
      | inr member ↦ subst (λ (n : ℕ). EachImage (face e) (Holds k.job n w)) member.is_range
          (subst (λ (x : Verdict). EachImage (face e) (Holds k.job (range_of group member.index) x)) member.is_verdict (stored e here member.index member.low))
    ]

    pub kept_group : ForSome new (λ e. (i : ℕ) → i < length group → EachImage (face e) (Holds k.job (range_of group i) (member_of group i))) → ForSome new (λ e. IsSafe (face e)) → ForSome new (λ e. Reads (face e) (Stands k.job (filled k.table group)))
        → IsJournal face (record { disk = new; job = k.job; table = filled k.table group; failed = false })
    kept_group stored safe reads = record {
      count = filled_length k.table group ∙ is.count;
      fits = filled_fits k.job k.table group is.fits of;
      stable = group_stable stored;
      safe = λ e. safe;
      reads = λ e. reads;
      unkept = λ e. refl;
    }
