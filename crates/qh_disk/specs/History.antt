-- A disk in memory, by what was done to it.
use Rattle.std.specs.Prelude.{◌≡◌, ◌⊎◌, ℕ, ◌≤◌, List, [], ◌∷◌, ◌++◌, length, take, replicate, Option, Some, None, Result, OnErr, IsErr, refl}
use Rattle.std.proofs.Common.{get_or, arith, ap}
use Rattle.std.proofs.lemmas.List.{places, take_all}
use Rattle.qh_limits.specs.Counts.{raised}
use Rattle.qh_disk.specs.Disk.{Face, overwritten, resized, Torn, Stretched}
use Rattle.qh_disk.specs.Plan.{CallPlan, counted}
use Rattle.qh_disk.specs.declared.failed.Failed.{Failed}
use Rattle.qh_disk.specs.declared.pick.Pick.{Pick}
use Rattle.qh_disk.specs.declared.pick.Pick.TheVariants.{Old, New, Byte}

-- what was done: a write at an offset, a new length, a sync, a crash
pub data Event : Type 0 where
  wrote : ℕ → List ℕ → Event
  sized : ℕ → Event
  synced : Event
  crashed : Pick → Event

-- what it reads as, what the last sync or crash left, and what was done since, the newest first
pub record State : Type 0 where
  pub content : List ℕ
  pub safe : List ℕ
  pub pending : List Event

-- f with these bytes at this offset, as far as they lie inside
abbrev pub placed : ℕ → List ℕ → List ℕ → List ℕ
placed at bytes f = take (length f) (overwritten at bytes f)

-- these bytes, or as many times the one that is given
abbrev pub blanked : Option ℕ → List ℕ → List ℕ
blanked None bytes = bytes
blanked (Some b) bytes = replicate (length bytes) b

-- the changes made again on what was safe, where one byte is given with that byte in each range
-- that was written
abbrev pub remade : Option ℕ → List ℕ → List Event → List ℕ
remade blank safe [] = safe
remade blank safe (wrote at bytes ∷ earlier) = placed at (blanked blank bytes) (remade blank safe earlier)
remade blank safe (sized n ∷ earlier) = resized n (remade blank safe earlier)
remade blank safe (synced ∷ earlier) = remade blank safe earlier
remade blank safe (crashed p ∷ earlier) = remade blank safe earlier

-- the image that a crash leaves
abbrev pub picked : Pick → State → List ℕ
picked Old s = s.safe
picked New s = s.content
picked (Byte b) s = remade (Some b) s.safe s.pending

-- c is as long as f, and each byte of it is this one or that of f
pub record Blanked (b : ℕ) (f c : List ℕ) : Type 0 where
  pub size : length c ≡ length f
  pub each : (i : ℕ) → (get_or c i 0 ≡ b) ⊎ (get_or c i 0 ≡ get_or f i 0)

-- a crash leaves c: what the last sync left, what it read as, or that with one byte in places
abbrev pub IsPicked : Pick → State → List ℕ → Type 0
IsPicked Old s c = c ≡ s.safe
IsPicked New s c = c ≡ s.content
IsPicked (Byte b) s c = Blanked b s.content c

-- the same by what was safe and what was done since
abbrev pub left : Pick → List ℕ → List Event → List ℕ
left Old safe pending = safe
left New safe pending = remade None safe pending
left (Byte b) safe pending = remade (Some b) safe pending

-- a disk that reads as these bytes, all of them safe
abbrev pub start : List ℕ → State
start bytes = record { content = bytes; safe = bytes; pending = [] }

abbrev pub next : State → Event → State
next s (wrote at bytes) = record { content = placed at bytes s.content; safe = s.safe; pending = wrote at bytes ∷ s.pending }
next s (sized n) = record { content = resized n s.content; safe = s.safe; pending = sized n ∷ s.pending }
next s synced = start s.content
next s (crashed p) = start (picked p s)

abbrev pub after : State → List Event → State
after s [] = s
after s (e ∷ es) = after (next s e) es

-- c is d after a change that a crash cut short
abbrev pub Steps : Event → List ℕ → List ℕ → Type 0
Steps (wrote at bytes) d c = Torn at (length bytes) d c
Steps (sized n) d c = Stretched n d c
Steps synced d c = c ≡ d
Steps (crashed p) d c = c ≡ d

-- a crash may leave c of what was safe, after these changes
abbrev pub IsLeft : List ℕ → List Event → List ℕ → Type 0
IsLeft safe [] c = c ≡ safe
IsLeft safe (e ∷ earlier) c = (d : List ℕ) × IsLeft safe earlier d × Steps e d c

-- What a disk in memory has gone through: the bytes that it began with, what was done since, the
-- greatest length, which calls are to fail, how many calls found no memory for their record, and
-- the count of faults.
pub record History : Type 0 where
  pub first : List ℕ
  pub events : List Event
  pub room : ℕ
  pub plan : CallPlan
  pub shortages : ℕ
  pub faults : ℕ

-- after the first n events
abbrev pub state_at : History → ℕ → State
state_at h n = after (start h.first) (take n h.events)

abbrev pub state_of : History → State
state_of h = after (start h.first) h.events

-- what it reads as
abbrev pub content_of : History → List ℕ
content_of h = (state_of h).content

abbrev pub images_at : History → ℕ → List ℕ → Type 0
images_at h n c = IsLeft (state_at h n).safe (state_at h n).pending c

-- a moment is an event
abbrev pub face_of : History → Face
face_of h = record { content = Some (content_of h); clock = length h.events; images_at = images_at h; faults = h.faults }

-- a call that did this and succeeded
abbrev pub after_call : List Event → History → History
after_call es h = record h { events = h.events ++ es; plan = counted h.plan }

-- a call that failed: it counts, and nothing else is changed
pub record IsRefused (old new : History) : Type 0 where
  pub first : new.first ≡ old.first
  pub events : new.events ≡ old.events
  pub room : new.room ≡ old.room
  pub plan : new.plan ≡ counted old.plan
  pub faults : new.faults ≡ raised old.faults

-- A call fails where that is wanted, and the count of shortages then stays. Else it fails only where
-- its record found no memory, and that count then rises by one.
pub record FailsOnly {T : Type 0} (Wanted : Type 0) (result : Result T Failed) (old new : History) : Type 0 where
  pub wanted : Wanted → IsErr result
  pub stays : Wanted → new.shortages ≡ old.shortages
  pub only : OnErr result (Wanted ⊎ (new.shortages ≡ raised old.shortages))

-- a new length is not above the room
abbrev pub HasRoom : ℕ → Event → Type 0
HasRoom room (wrote at bytes) = Unit {0}
HasRoom room (sized n) = n ≤ room
HasRoom room synced = Unit {0}
HasRoom room (crashed p) = Unit {0}

-- What a change that is whole leaves is one of what it may leave.
pub placed_torn : (at : ℕ) (bytes f : List ℕ) → Torn at (length bytes) f (placed at bytes f)
placed_torn at bytes f = record {
  size = grind (arith, places);
  below = λ i h. grind (arith, places);
  beyond = λ i h. grind (arith, places);
}

pub resized_stretched : (n : ℕ) (f : List ℕ) → Stretched n f (resized n f)
resized_stretched n f = record {
  least = grind (arith, places);
  most = grind (arith, places);
  same = λ i h. grind (arith, places);
}

-- what it reads as is an image
abbrev pub ReadsAsImage : State → Type 0
ReadsAsImage s = IsLeft s.safe s.pending s.content

pub next_reads : (s : State) (e : Event) → ReadsAsImage s → ReadsAsImage (next s e)
next_reads s (wrote at bytes) is = (s.content, is, placed_torn at bytes s.content)
next_reads s (sized n) is = (s.content, is, resized_stretched n s.content)
next_reads s synced is = refl
next_reads s (crashed p) is = refl

pub after_reads : (s : State) (es : List Event) → ReadsAsImage s → ReadsAsImage (after s es)
after_reads s [] is = is
after_reads s (e ∷ es) is = after_reads (next s e) es (next_reads s e is)

pub now_is : (h : History) → state_at h (length h.events) ≡ state_of h
now_is h = ap (λ (es : List Event). after (start h.first) es) (take_all _ h.events (omega arith))

pub current_law : (h : History) (f : List ℕ) → f ≡ content_of h → images_at h (length h.events) f
current_law h f is = rw (is, now_is h) (after_reads (start h.first) h.events refl)

pub current_told : (h : History) (f : List ℕ) → Some (content_of h) ≡ Some f → images_at h (length h.events) f
current_told h f told = let is : f ≡ content_of h = cc in current_law h f is
