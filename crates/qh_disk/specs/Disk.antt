-- What calls do to a disk: to what it reads as, and to its images.
use Rattle.std.specs.Prelude.{◌<◌, ◌≡◌, ℕ, ◌+◌, ◌-◌, ◌≤◌, min, max, List, ◌++◌, length, take, drop, true, replicate, Option, Some, option_map, Result, IfErr, OnErr}
use Rattle.std.specs.Option.{is_some}
use Rattle.std.proofs.Common.{get_or}
use Rattle.qh_limits.specs.Counts.{Rose}
use Rattle.qh_disk.specs.declared.failed.Failed.{Failed}

-- f with these bytes at this offset
abbrev pub overwritten : ℕ → List ℕ → List ℕ → List ℕ
overwritten at bytes f = take at f ++ (bytes ++ drop (length bytes) (drop at f))

-- f cut to n bytes, or lengthened with zeros
abbrev pub resized : ℕ → List ℕ → List ℕ
resized n f = take n f ++ replicate (n - length f) 0

-- c is d with any bytes in the n places from at on
pub record Torn (at n : ℕ) (d c : List ℕ) : Type 0 where
  pub size : length c ≡ length d
  pub below : (i : ℕ) → i < at → get_or c i 0 ≡ get_or d i 0
  pub beyond : (i : ℕ) → at + n ≤ i → get_or c i 0 ≡ get_or d i 0

-- c is d at some length from its own to n, with zeros past its end
pub record Stretched (n : ℕ) (d c : List ℕ) : Type 0 where
  pub least : min n (length d) ≤ length c
  pub most : length c ≤ max n (length d)
  pub same : (i : ℕ) → i < length c → get_or c i 0 ≡ get_or d i 0

-- each of the new is one of the old after a step
abbrev pub Follows : (List ℕ → List ℕ → Type 0) → (List ℕ → Type 0) → (List ℕ → Type 0) → Type 0
Follows step old new = (c : List ℕ) → new c → (d : List ℕ) × old d × step d c

-- What is known of a disk: what it reads as, where it tells that; how many moments it has had; the
-- images at each moment; its count of faults.
pub record Face : Type 1 where
  pub content : Option (List ℕ)
  pub clock : ℕ
  pub images_at : ℕ → List ℕ → Type 0
  pub faults : ℕ

-- a crash now may leave c
abbrev pub IsImage : Face → List ℕ → Type 0
IsImage d c = d.images_at d.clock c

-- P of what it reads as, where that is told
abbrev pub Reads : Face → (List ℕ → Type 0) → Type 0
Reads d P = (f : List ℕ) → d.content ≡ Some f → P f

-- it reads as h of what it read as before
abbrev pub Becomes : (List ℕ → List ℕ) → Face → Face → Type 0
Becomes h old new = new.content ≡ option_map h old.content

-- it tells what it reads as, and a crash now may leave that
pub record IsHonest (d : Face) : Type 0 where
  pub told : is_some d.content ≡ true
  pub current : Reads d (IsImage d)

-- the only image is what it reads as
abbrev pub IsSafe : Face → Type 0
IsSafe d = (c : List ℕ) → IsImage d c → d.content ≡ Some c

-- One call: past moments stay, at most one is new, content is told where it was told, and a failure
-- has its cause.
pub record Calls {T : Type 0} (result : Result T Failed) (old new : Face) : Type 0 where
  pub later : old.clock ≤ new.clock
  pub soon : new.clock ≤ old.clock + 1
  pub past : (t : ℕ) (c : List ℕ) → t ≤ old.clock → new.images_at t c → old.images_at t c
  pub kept : (t : ℕ) (c : List ℕ) → t ≤ old.clock → old.images_at t c → new.images_at t c
  pub told : is_some new.content ≡ is_some old.content
  pub faults : old.faults ≤ new.faults
  pub rose : OnErr result (Rose old.faults new.faults)
  pub count : IfErr result (λ e. e.faults ≡ new.faults)

-- the same is read, and there are the same images
pub record Unchanged (old new : Face) : Type 0 where
  pub content : new.content ≡ old.content
  pub images : (c : List ℕ) → IsImage new c → IsImage old c
  pub kept : (c : List ℕ) → IsImage old c → IsImage new c

-- the same is read, and there are no new images
pub record Shrinks (old new : Face) : Type 0 where
  pub content : new.content ≡ old.content
  pub images : (c : List ℕ) → IsImage new c → IsImage old c

-- what it reads as, and each image, is one of before after this step
pub record Turns (step : List ℕ → List ℕ → Type 0) (old new : Face) : Type 0 where
  pub content : Follows step (λ f. old.content ≡ Some f) (λ f. new.content ≡ Some f)
  pub images : Follows step (IsImage old) (IsImage new)
