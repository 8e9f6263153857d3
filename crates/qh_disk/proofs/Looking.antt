-- How calls that only look follow one another, and what lasts over them.
use Rattle.std.proofs.Common.{◌≡◌, ℕ, ◌+◌, ◌≤◌, List, Result, arith, inl, inr, refl, sym, ◌∙◌, subst}
use Rattle.qh_disk.specs.Disk.{Face, IsImage, Reads, Calls, Unchanged, Shrinks}
use Rattle.qh_disk.specs.Moments.{EachImage, EachImageSince, Runs, Lasts}
use Rattle.qh_disk.specs.Looks.{Narrows, Looks}
use Rattle.qh_disk.specs.declared.failed.Failed.{Failed}
use Rattle.qh_disk.proofs.Moments.{le_cases, runs_same, runs_call, runs_on}

-- Narrowing: no call, one call, one run after another.
pub narrows_same : (d : Face) → Narrows d d
narrows_same d = record { each = λ t s c low le most is. let same : s ≡ t = omega arith in subst (λ (n : ℕ). d.images_at n c) same is }

-- at most one moment more, whose images were images before
pub narrows_step : (old new : Face) → Runs old new → new.clock ≤ old.clock + 1 → ((c : List ℕ) → IsImage new c → IsImage old c) → Narrows old new
narrows_step old new runs soon less = record {
  each = λ t s c low le most is. elim (le_cases s t) [
    | inl at_most ↦ let same : s ≡ t = omega arith in subst (λ (n : ℕ). new.images_at n c) same is
    | inr after ↦
        let then : t ≡ old.clock = omega (arith, soon) in
        let now : s ≡ new.clock = omega (arith, soon) in
        subst (λ (n : ℕ). new.images_at n c) (sym then) (runs.kept old.clock c (omega arith) (less c (subst (λ (n : ℕ). new.images_at n c) now is)))
  ];
}

pub narrows_shrinks : {T : Type 0} (result : Result T Failed) (old new : Face) → Calls result old new → Shrinks old new → Narrows old new
narrows_shrinks result old new call less = narrows_step old new (runs_call result old new call) call.soon less.images

pub narrows_unchanged : {T : Type 0} (result : Result T Failed) (old new : Face) → Calls result old new → Unchanged old new → Narrows old new
narrows_unchanged result old new call same = narrows_step old new (runs_call result old new call) call.soon same.images

pub narrows_on : (old mid new : Face) → Narrows old mid → Runs mid new → Narrows mid new → Narrows old new
narrows_on old mid new a then b = record {
  each = λ t s c low le most is. elim (le_cases t mid.clock) [
    | inr after ↦ b.each t s c (omega arith) le most is
    | inl before ↦ elim (le_cases s mid.clock) [
      | inl early ↦ then.kept t c before (a.each t s c low le early (then.past s c early is))
      | inr late ↦ then.kept t c before (a.each t mid.clock c low before (omega arith) (then.past mid.clock c (omega arith) (b.each mid.clock s c (omega arith) (omega arith) most is)))
    ]
  ];
}

-- Whatever it is, it lasts over a run that narrows.
pub narrows_lasts : (P : List ℕ → Type 0) (old new : Face) → Narrows old new → Lasts P old new
narrows_lasts P old new n = record { each = λ t s low le most here c is. here c (n.each t s c low le most is) }

-- each image since such a run began was an image then
pub narrows_since : (old new : Face) → Runs old new → Narrows old new → EachImageSince old.clock new (IsImage old)
narrows_since old new runs n c is = runs.past old.clock c (omega arith) (n.each old.clock is.moment c (omega arith) is.after is.by_now is.image)

-- what each image had, each image since then has
pub narrows_each : (P : List ℕ → Type 0) (old new : Face) → Runs old new → Narrows old new → EachImage old P → EachImageSince old.clock new P
narrows_each P old new runs n before c is = before c (narrows_since old new runs n c is)

-- What no image of a run can have, lasts over it, where a run without images goes on without.
pub lasts_absurd : (P Q : List ℕ → Type 0) (old new : Face) → EachImageSince old.clock new Q → ((c : List ℕ) → Q c → P c → ⊥) → Lasts (λ _. ⊥) old new → Lasts P old new
lasts_absurd P Q old new all never none = record {
  each = λ t s low le most here c is. absurd (none.each t s low le most (λ d at. never d (all d (record { moment = t; after = low; by_now = omega arith; image = at })) (here d at)) c is);
}

-- Looks: none, one call that changes nothing, a sync, one run after another.
pub looks_same : (d : Face) → Looks d d
looks_same d = record { runs = runs_same d; narrows = narrows_same d; content = refl; safe = λ s. s }

pub looks_call : {T : Type 0} (result : Result T Failed) (old new : Face) → Calls result old new → Unchanged old new → Looks old new
looks_call result old new call same = record {
  runs = runs_call result old new call;
  narrows = narrows_unchanged result old new call same;
  content = same.content;
  safe = λ s c is. same.content ∙ s c (same.images c is);
}

pub looks_sync : {T : Type 0} (result : Result T Failed) (old new : Face) → Calls result old new → Shrinks old new → Looks old new
looks_sync result old new call less = record {
  runs = runs_call result old new call;
  narrows = narrows_shrinks result old new call less;
  content = less.content;
  safe = λ s c is. less.content ∙ s c (less.images c is);
}

pub looks_on : (old mid new : Face) → Looks old mid → Looks mid new → Looks old new
looks_on old mid new a b = record {
  runs = runs_on old mid new a.runs b.runs;
  narrows = narrows_on old mid new a.narrows b.runs b.narrows;
  content = b.content ∙ a.content;
  safe = λ s. b.safe (a.safe s);
}

-- What is read before a look is read after it, and the other way round.
pub looks_reads : (P : List ℕ → Type 0) (old new : Face) → Looks old new → Reads old P → Reads new P
looks_reads P old new looks reads f told = reads f (sym looks.content ∙ told)

pub looks_read : (P : List ℕ → Type 0) (old new : Face) → Looks old new → Reads new P → Reads old P
looks_read P old new looks reads f told = reads f (looks.content ∙ told)
