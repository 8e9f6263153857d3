-- A disk in memory after one event more.
use Rattle.std.proofs.Common.{◌≡◌, ℕ, ◌+◌, ◌≤◌, List, [], ◌∷◌, ◌++◌, length, take, drop, reverse, Some, refl, sym, ◌∙◌, ap, subst, arith, length-append}
use Rattle.std.proofs.lemmas.List.{places, take_all, take-append-le, drop-append-le, reverse-append}
use Rattle.qh_disk.specs.Disk.{IsImage, Follows, Torn, Stretched, Turns, Shrinks, IsSafe, overwritten, resized}
use Rattle.qh_disk.proofs.Replay.{picked_left}
use Rattle.qh_disk.specs.declared.pick.Pick.{Pick}
use Rattle.qh_disk.specs.History.{picked, after_reads, Event, wrote, sized, synced, crashed, State, History, start, next, after, state_at, state_of, content_of, images_at, IsLeft, placed, placed_torn, resized_stretched, now_is, current_law, face_of}

pub after_push : (s : State) (es : List Event) (e : Event) → after s (es ++ e ∷ []) ≡ next (after s es) e
after_push s [] e = refl
after_push s (x ∷ es) e = after_push (next s x) es e

-- the new history has this event more
pub record Pushed (old new : History) (e : Event) : Type 0 where
  pub first : new.first ≡ old.first
  pub events : new.events ≡ old.events ++ e ∷ []

module _ (old new : History) (e : Event) (more : Pushed old new e) where
  pub state_pushed : state_of new ≡ next (state_of old) e
  state_pushed = cc (more.first, more.events, after_push (start old.first) old.events e)

  pub clock_pushed : length new.events ≡ length old.events + 1
  clock_pushed = omega (arith, ap length more.events, length-append old.events (e ∷ []))

  pub state_past : (n : ℕ) → n ≤ length old.events → state_at new n ≡ state_at old n
  state_past n le = let same : take n (old.events ++ e ∷ []) ≡ take n old.events = take-append-le n old.events (e ∷ []) le in cc (more.first, more.events, same)

  pub state_now : state_at new (length new.events) ≡ next (state_at old (length old.events)) e
  state_now = now_is new ∙ state_pushed ∙ ap (λ (s : State). next s e) (sym (now_is old))

  pub images_pushed : (c : List ℕ) → images_at new (length new.events) c → let s = next (state_at old (length old.events)) e in IsLeft s.safe s.pending c
  images_pushed c is = subst (λ (s : State). IsLeft s.safe s.pending c) state_now is

pub placed_inside : (at : ℕ) (bytes f : List ℕ) → at + length bytes ≤ length f → placed at bytes f ≡ overwritten at bytes f
placed_inside at bytes f le = take_all (length f) (overwritten at bytes f) (grind (arith, places))

pub pending_pushed : (settled : ℕ) (es p : List Event) (e : Event) → settled ≤ length es → p ≡ reverse (drop settled es) → e ∷ p ≡ reverse (drop settled (es ++ e ∷ []))
pending_pushed settled es p e le is = rw (drop-append-le settled es (e ∷ []) le, reverse-append (drop settled es) (e ∷ []), is)

turns_of : (step : List ℕ → List ℕ → Type 0) (old new : History) → step (content_of old) (content_of new) → Follows step (images_at old (length old.events)) (images_at new (length new.events)) → Turns step (face_of old) (face_of new)
turns_of step old new by images = record {
  content = λ b is_b. let eb : content_of new ≡ b = cc in (content_of old, refl, rw (← eb) by);
  images = images;
}

module _ (old new : History) (at : ℕ) (bytes : List ℕ) (more : Pushed old new (wrote at bytes)) where
  wrote_content : content_of new ≡ placed at bytes (content_of old)
  wrote_content = ap (λ (s : State). s.content) (state_pushed old new (wrote at bytes) more)

  pub wrote_written : at + length bytes ≤ length (content_of old) → Some (content_of new) ≡ Some (overwritten at bytes (content_of old))
  wrote_written le = ap (λ (f : List ℕ). Some f) (wrote_content ∙ placed_inside at bytes (content_of old) le)

  wrote_images : Follows (Torn at (length bytes)) (images_at old (length old.events)) (images_at new (length new.events))
  wrote_images c is = images_pushed old new (wrote at bytes) more c is

  pub wrote_torn : Turns (Torn at (length bytes)) (face_of old) (face_of new)
  wrote_torn = turns_of (Torn at (length bytes)) old new (rw wrote_content (placed_torn at bytes (content_of old))) wrote_images

module _ (old new : History) (n : ℕ) (more : Pushed old new (sized n)) where
  sized_content : content_of new ≡ resized n (content_of old)
  sized_content = ap (λ (s : State). s.content) (state_pushed old new (sized n) more)

  pub sized_done : Some (content_of new) ≡ Some (resized n (content_of old))
  sized_done = ap (λ (f : List ℕ). Some f) sized_content

  sized_images : Follows (Stretched n) (images_at old (length old.events)) (images_at new (length new.events))
  sized_images c is = images_pushed old new (sized n) more c is

  pub sized_stretched : Turns (Stretched n) (face_of old) (face_of new)
  sized_stretched = turns_of (Stretched n) old new (rw sized_content (resized_stretched n (content_of old))) sized_images

module _ (old new : History) (more : Pushed old new synced) where
  synced_content : content_of new ≡ content_of old
  synced_content = ap (λ (s : State). s.content) (state_pushed old new synced more)

  synced_only : (c : List ℕ) → images_at new (length new.events) c → c ≡ content_of old
  synced_only c is = images_pushed old new synced more c is ∙ ap (λ (s : State). s.content) (now_is old)

  pub synced_shrinks : Shrinks (face_of old) (face_of new)
  synced_shrinks = record { content = ap (λ (f : List ℕ). Some f) synced_content; images = λ c is. current_law old c (synced_only c is) }

  pub synced_safe : IsSafe (face_of new)
  synced_safe c is = cc (synced_content, synced_only c is)

stays_stretched : (n : ℕ) (f : List ℕ) → Stretched n f f
stays_stretched n f = record { least = omega arith; most = omega arith; same = λ i h. refl }

-- a call that changes nothing
pub unchanged_sized : (old new : History) (n : ℕ) → new.first ≡ old.first → new.events ≡ old.events → Turns (Stretched n) (face_of old) (face_of new)
unchanged_sized old new n first events =
    let same : state_at new (length new.events) ≡ state_at old (length old.events) = cc in
    let same_now : state_of new ≡ state_of old = cc in
    turns_of (Stretched n) old new (subst (λ (s : State). Stretched n (content_of old) s.content) (sym same_now) (stays_stretched n (content_of old)))
    (λ c is. (c, subst (λ (s : State). IsLeft s.safe s.pending c) same is, stays_stretched n c))

pub settled_safe : (h : History) → (state_of h).pending ≡ [] → IsSafe (face_of h)
settled_safe h none f is =
    let now : IsLeft (state_of h).safe (state_of h).pending f = subst (λ (s : State). IsLeft s.safe s.pending f) (now_is h) is in
    let only : f ≡ (state_of h).safe = subst (λ (es : List Event). IsLeft (state_of h).safe es f) none now in
    let same : content_of h ≡ (state_of h).safe = subst (λ (es : List Event). IsLeft (state_of h).safe es (content_of h)) none (after_reads (start h.first) h.events refl) in
    cc

module _ (old new : History) (p : Pick) (more : Pushed old new (crashed p)) where
  pub crashed_content : content_of new ≡ picked p (state_of old)
  crashed_content = ap (λ (s : State). s.content) (state_pushed old new (crashed p) more)

  pub crashed_safe : IsSafe (face_of new)
  crashed_safe = settled_safe new (ap (λ (s : State). s.pending) (state_pushed old new (crashed p) more))

  pub crashed_image : IsImage (face_of old) (content_of new)
  crashed_image = rw crashed_content (subst (λ (s : State). IsLeft s.safe s.pending (picked p (state_of old))) (sym (now_is old)) (picked_left p (state_of old) (after_reads (start old.first) old.events refl)))
