-- How what holds over one call, or one run of calls, is put together over many.
use Rattle.std.proofs.Common.{◌≡◌, ◌<◌, ◌⊎◌, ℕ, ◌+◌, ◌≤◌, List, Some, Result, arith, inl, inr, refl, sym, ◌∙◌, subst}
use Rattle.qh_disk.specs.Disk.{Face, IsImage, IsSafe, Reads, Calls, Unchanged, Shrinks, Turns}
use Rattle.qh_disk.specs.Moments.{EachImageAt, EachImage, IsImageSince, EachImageSince, IsStableAt, Runs, Lasts}
use Rattle.qh_disk.specs.declared.failed.Failed.{Failed}

pub le_cases : (s n : ℕ) → (s ≤ n) ⊎ (n < s)
le_cases s n = grind arith

-- Runs: no call, one call, one run after another.
pub runs_same : (d : Face) → Runs d d
runs_same d = record { later = omega arith; past = λ t c le is. is; kept = λ t c le is. is; told = refl; faults = omega arith }

pub runs_call : {T : Type 0} (result : Result T Failed) (old new : Face) → Calls result old new → Runs old new
runs_call result old new call = record { later = call.later; past = call.past; kept = call.kept; told = call.told; faults = call.faults }

pub runs_on : (old mid new : Face) → Runs old mid → Runs mid new → Runs old new
runs_on old mid new a b = record {
  later = omega (arith, a.later, b.later);
  past = λ t c le is. a.past t c le (b.past t c (omega (arith, le, a.later)) is);
  kept = λ t c le is. b.kept t c (omega (arith, le, a.later)) (a.kept t c le is);
  told = b.told ∙ a.told;
  faults = omega (arith, a.faults, b.faults);
}

-- What a call keeps of each image: all where it makes no new one, and else what its step keeps.
pub unchanged_keeps : (P : List ℕ → Type 0) (old new : Face) → Unchanged old new → EachImage old P → EachImage new P
unchanged_keeps P old new same each c is = each c (same.images c is)

pub shrinks_keeps : (P : List ℕ → Type 0) (old new : Face) → Shrinks old new → EachImage old P → EachImage new P
shrinks_keeps P old new less each c is = each c (less.images c is)

pub turns_keeps : (P : List ℕ → Type 0) (step : List ℕ → List ℕ → Type 0) (old new : Face) → Turns step old new → ((d c : List ℕ) → step d c → P d → P c) → EachImage old P → EachImage new P
turns_keeps P step old new turns keeps each c is = let from = turns.images c is in keeps from.0 c from.2 (each from.0 from.1)

-- What a call keeps of all that is read, whether it succeeds or fails.
pub unchanged_reads : (P : List ℕ → Type 0) (old new : Face) → Unchanged old new → Reads old P → Reads new P
unchanged_reads P old new same reads f told = reads f (sym same.content ∙ told)

pub shrinks_reads : (P : List ℕ → Type 0) (old new : Face) → Shrinks old new → Reads old P → Reads new P
shrinks_reads P old new less reads f told = reads f (sym less.content ∙ told)

pub turns_reads : (P Q : List ℕ → Type 0) (step : List ℕ → List ℕ → Type 0) (old new : Face) → Turns step old new → ((d c : List ℕ) → step d c → P d → Q c) → Reads old P → Reads new Q
turns_reads P Q step old new turns keeps reads c told = let from = turns.content c told in keeps from.0 c from.2 (reads from.0 from.1)

-- Two facts at once.
pub each_both : (P Q : List ℕ → Type 0) (d : Face) → EachImage d P → EachImage d Q → EachImage d (λ c. P c × Q c)
each_both P Q d first second c is = (first c is, second c is)

pub reads_both : (P Q : List ℕ → Type 0) (d : Face) → Reads d P → Reads d Q → Reads d (λ f. P f × Q f)
reads_both P Q d first second f told = (first f told, second f told)

-- where the only image is what it reads as, each image is what that is
pub safe_each : (P : List ℕ → Type 0) (d : Face) → IsSafe d → Reads d P → EachImage d P
safe_each P d safe reads c is = reads c (safe c is)

-- What each image has, the one has that a crash leaves.
pub crash_keeps : (P : List ℕ → Type 0) (old new : Face) (f : List ℕ) → IsImage old f → IsSafe new → new.content ≡ Some f → EachImage old P → EachImage new P
crash_keeps P old new f image safe told each c is = let same : f ≡ c = cc (told, safe c is) in subst P same (each f image)

-- Lasting: no call, one call, one run after another.
pub lasts_same : (P : List ℕ → Type 0) (d : Face) → Lasts P d d
lasts_same P d = record {
  each = λ t s low le most here c is. let same : s ≡ t = omega arith in here c (subst (λ (n : ℕ). d.images_at n c) same is);
}

-- at most one moment more, after which P is of each image if it was before
pub lasts_step : (P : List ℕ → Type 0) (old new : Face) → Runs old new → new.clock ≤ old.clock + 1 → (EachImage old P → EachImage new P) → Lasts P old new
lasts_step P old new runs soon keeps = record {
  each = λ t s low le most here c is. elim (le_cases s t) [
    | inl at_most ↦ let same : s ≡ t = omega arith in here c (subst (λ (n : ℕ). new.images_at n c) same is)
    | inr after ↦
        let then : t ≡ old.clock = omega (arith, soon) in
        let now : s ≡ new.clock = omega (arith, soon) in
        keeps (λ d was. here d (subst (λ (n : ℕ). new.images_at n d) (sym then) (runs.kept old.clock d (omega arith) was))) c (subst (λ (n : ℕ). new.images_at n c) now is)
  ];
}

pub lasts_call : {T : Type 0} (P : List ℕ → Type 0) (result : Result T Failed) (old new : Face) → Calls result old new → (EachImage old P → EachImage new P) → Lasts P old new
lasts_call P result old new call keeps = lasts_step P old new (runs_call result old new call) call.soon keeps

pub lasts_on : (P : List ℕ → Type 0) (old mid new : Face) → Lasts P old mid → Runs mid new → Lasts P mid new → Lasts P old new
lasts_on P old mid new a then b = record {
  each = λ t s low le most here c is. elim (le_cases t mid.clock) [
    | inr after ↦ b.each t s (omega arith) le most here c is
    | inl before ↦
        let in_mid : EachImageAt t mid P = λ d was. here d (then.kept t d before was) in
        elim (le_cases s mid.clock) [
          | inl early ↦ a.each t s low le early in_mid c (then.past s c early is)
          | inr late ↦
              let mid_holds : EachImageAt mid.clock new P = λ d was. a.each t mid.clock low before (omega arith) in_mid d (then.past mid.clock d (omega arith) was) in
              b.each mid.clock s (omega arith) (omega arith) most mid_holds c is
        ]
  ];
}

pub lasts_both : (P Q : List ℕ → Type 0) (old new : Face) → Lasts P old new → Lasts Q old new → Lasts (λ c. P c × Q c) old new
lasts_both P Q old new first second = record {
  each = λ t s low le most here c is. (first.each t s low le most (λ d at. (here d at).0) c is, second.each t s low le most (λ d at. (here d at).1) c is);
}

-- What is stable at one moment of a run is stable at each later one, with the same value.
pub stable_lasts : {V : Type 0} (Holds : V → List ℕ → Type 0) (old new : Face) → ((v : V) → Lasts (Holds v) old new) → (t s : ℕ) → old.clock ≤ t → t ≤ s → s ≤ new.clock
    → (here : IsStableAt Holds t new) → EachImageAt s new (Holds here.0)
stable_lasts Holds old new lasts t s low le most here = (lasts here.0).each t s low le most here.1

-- Images since a moment: those of one call are those before it and those after it.
pub since_step : (old new : Face) → Runs old new → new.clock ≤ old.clock + 1 → (c : List ℕ) → IsImageSince old.clock new c → IsImage old c ⊎ IsImage new c
since_step old new runs soon c is = elim (le_cases is.moment old.clock) [
  | inl early ↦
      let then : is.moment ≡ old.clock = omega (arith, is.after) in
      inl (runs.past old.clock c (omega arith) (subst (λ (n : ℕ). new.images_at n c) then is.image))
  | inr late ↦
      let now : is.moment ≡ new.clock = omega (arith, is.by_now, soon) in
      inr (subst (λ (n : ℕ). new.images_at n c) now is.image)
]

pub since_call : {T : Type 0} (result : Result T Failed) (old new : Face) → Calls result old new → (c : List ℕ) → IsImageSince old.clock new c → IsImage old c ⊎ IsImage new c
since_call result old new call = since_step old new (runs_call result old new call) call.soon

pub since_old : (old new : Face) → Runs old new → (c : List ℕ) → IsImage old c → IsImageSince old.clock new c
since_old old new runs c is = record { moment = old.clock; after = omega arith; by_now = runs.later; image = runs.kept old.clock c (omega arith) is }

pub since_new : (old new : Face) → Runs old new → (c : List ℕ) → IsImage new c → IsImageSince old.clock new c
since_new old new runs c is = record { moment = new.clock; after = runs.later; by_now = omega arith; image = is }

-- P of each image since a moment: no call, one call, one run after another.
pub each_since_same : (P : List ℕ → Type 0) (d : Face) → EachImage d P → EachImageSince d.clock d P
each_since_same P d each c is =
    let now : is.moment ≡ d.clock = omega (arith, is.after, is.by_now) in
    each c (subst (λ (n : ℕ). d.images_at n c) now is.image)

pub each_since_step : (P : List ℕ → Type 0) (old new : Face) → Runs old new → new.clock ≤ old.clock + 1 → EachImage old P → EachImage new P → EachImageSince old.clock new P
each_since_step P old new runs soon before now c is = elim (since_step old new runs soon c is) [
  | inl was ↦ before c was
  | inr is_now ↦ now c is_now
]

pub each_since_call : {T : Type 0} (P : List ℕ → Type 0) (result : Result T Failed) (old new : Face) → Calls result old new → EachImage old P → EachImage new P → EachImageSince old.clock new P
each_since_call P result old new call = each_since_step P old new (runs_call result old new call) call.soon

-- from any moment on, up to a run's start, and then over the run
pub each_since_on : (P : List ℕ → Type 0) (t : ℕ) (mid new : Face) → EachImageSince t mid P → Runs mid new → EachImageSince mid.clock new P → EachImageSince t new P
each_since_on P t mid new before runs then c is = elim (le_cases is.moment mid.clock) [
  | inl early ↦ before c (record { moment = is.moment; after = is.after; by_now = early; image = runs.past is.moment c early is.image })
  | inr late ↦ then c (record { moment = is.moment; after = omega arith; by_now = is.by_now; image = is.image })
]

-- what each image has when a run begins, and what lasts over the run, each image since then has
pub lasts_since : (P : List ℕ → Type 0) (old new : Face) → Runs old new → Lasts P old new → EachImage old P → EachImageSince old.clock new P
lasts_since P old new runs lasts before c is =
    let begin : EachImageAt old.clock new P = λ d was. before d (runs.past old.clock d (omega arith) was) in
    lasts.each old.clock is.moment (omega arith) is.after is.by_now begin c is.image

-- and each image at its end
pub lasts_now : (P : List ℕ → Type 0) (old new : Face) → Runs old new → Lasts P old new → EachImage old P → EachImage new P
lasts_now P old new runs lasts before c is = lasts_since P old new runs lasts before c (since_new old new runs c is)
