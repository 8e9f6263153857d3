-- Changes that are made again on what was safe.
use Rattle.std.proofs.Common.{◌≡◌, ◌⊎◌, ℕ, ◌+◌, ◌-◌, ◌≤◌, ◌<◌, List, [], ◌∷◌, ◌++◌, length, get_or, take, map, reverse, replicate, Option, Some, None, inl, inr, refl, subst, sym, ◌∙◌, ap, arith}
use Rattle.std.proofs.lemmas.Bool.{cases_lt}
use Rattle.std.proofs.lemmas.List.{places, map-append, reverse-append, length-replicate, get_or_past}
use Rattle.std.proofs.lemmas.List.Elements.{All-push}
use Rattle.std.specs.List.{All}
use Rattle.qh_disk.specs.Disk.{Torn, resized}
use Rattle.qh_disk.specs.declared.pick.Pick.{Pick}
use Rattle.qh_disk.specs.declared.pick.Pick.TheVariants.{Old, New, Byte}
use Rattle.qh_disk.specs.declared.change.Change.{Change}
use Rattle.qh_disk.specs.Event.{event_of}
use Rattle.qh_disk.specs.History.{HasRoom, Event, wrote, sized, synced, crashed, blanked, remade, placed, Blanked, IsPicked, placed_torn, resized_stretched, Steps, IsLeft, State, ReadsAsImage, picked, left, start, next, after}

-- one change more
pub one_more : (blank : Option ℕ) (safe : List ℕ) (es : List Event) (e : Event) → remade blank (remade blank safe es) (e ∷ []) ≡ remade blank safe (e ∷ es)
one_more blank safe es (wrote at bytes) = refl
one_more blank safe es (sized n) = refl
one_more blank safe es synced = refl
one_more blank safe es (crashed p) = refl

pub reversed_more : (changes : List Change) (change : Change) → reverse (map event_of (changes ++ change ∷ [])) ≡ event_of change ∷ reverse (map event_of changes)
reversed_more changes change = ap (λ (es : List Event). reverse es) (map-append event_of changes (change ∷ [])) ∙ reverse-append (map event_of changes) (event_of change ∷ [])

pub room_push : (room : ℕ) (es : List Event) (e : Event) → All (HasRoom room) es → HasRoom room e → All (HasRoom room) (es ++ e ∷ [])
room_push room es e all one = All-push (HasRoom room) es e all one

-- a change may leave all as it was
stays : (e : Event) (f : List ℕ) → Steps e f f
stays (wrote at bytes) f = record { size = refl; below = λ i h. refl; beyond = λ i h. refl }
stays (sized n) f = record { least = omega arith; most = omega arith; same = λ i h. refl }
stays synced f = refl
stays (crashed p) f = refl

old_left : (safe : List ℕ) (es : List Event) → IsLeft safe es safe
old_left safe [] = refl
old_left safe (e ∷ es) = (safe, old_left safe es, stays e safe)

blanked_length : (blank : Option ℕ) (bytes : List ℕ) → length (blanked blank bytes) ≡ length bytes
blanked_length None bytes = refl
blanked_length (Some b) bytes = length-replicate (length bytes) b

-- the changes made again are one of what they may leave
remade_step : (blank : Option ℕ) (e : Event) (safe : List ℕ) (es : List Event) → Steps e (remade blank safe es) (remade blank safe (e ∷ es))
remade_step blank (wrote at bytes) safe es =
    let torn = placed_torn at (blanked blank bytes) (remade blank safe es) in
    subst (λ (n : ℕ). Torn at n (remade blank safe es) (placed at (blanked blank bytes) (remade blank safe es))) (blanked_length blank bytes) torn
remade_step blank (sized n) safe es = resized_stretched n (remade blank safe es)
remade_step blank synced safe es = refl
remade_step blank (crashed p) safe es = refl

remade_left : (blank : Option ℕ) (safe : List ℕ) (es : List Event) → IsLeft safe es (remade blank safe es)
remade_left blank safe [] = refl
remade_left blank safe (e ∷ es) = (remade blank safe es, remade_left blank safe es, remade_step blank e safe es)

pub picked_left : (p : Pick) (s : State) → ReadsAsImage s → IsLeft s.safe s.pending (picked p s)
picked_left Old s is = old_left s.safe s.pending
picked_left New s is = is
picked_left (Byte b) s is = remade_left (Some b) s.safe s.pending

-- where nothing is pending, a crash changes nothing
pub picked_settled : (p : Pick) (s : State) → ReadsAsImage s → s.pending ≡ [] → s.content ≡ picked p s
picked_settled p s is none = go p (subst (λ (es : List Event). IsLeft s.safe es s.content) none is)
  where
    go : (p : Pick) → s.content ≡ s.safe → s.content ≡ picked p s
    go Old same = same
    go New same = refl
    go (Byte b) same = same ∙ ap (λ (es : List Event). remade (Some b) s.safe es) (sym none)

-- what it reads as is what was safe with the changes made again
pub IsReplay : State → Type 0
IsReplay s = s.content ≡ remade None s.safe s.pending

next_replay : (s : State) (e : Event) → IsReplay s → IsReplay (next s e)
unfolding IsReplay
next_replay s (wrote at bytes) is = ap (λ (f : List ℕ). placed at bytes f) is
next_replay s (sized n) is = ap (λ (f : List ℕ). take n f ++ replicate (n - length f) 0) is
next_replay s synced is = refl
next_replay s (crashed p) is = refl

after_replay : (s : State) (es : List Event) → IsReplay s → IsReplay (after s es)
after_replay s [] is = is
after_replay s (e ∷ es) is = after_replay (next s e) es (next_replay s e is)

pub content_remade : (first : List ℕ) (es : List Event) → let s = after (start first) es in s.content ≡ remade None s.safe s.pending
unfolding IsReplay
content_remade first es = after_replay (start first) es refl

pub left_picked : (p : Pick) (s : State) (safe : List ℕ) (pending : List Event) → s.content ≡ remade None s.safe s.pending → safe ≡ s.safe → pending ≡ s.pending → left p safe pending ≡ picked p s
left_picked Old s safe pending content a b = a
left_picked New s safe pending content a b = cc
left_picked (Byte v) s safe pending content a b = cc

-- The changes made again with one byte give as many bytes, each of them that one or what a write
-- wrote.
kept : (b x y x' y' : ℕ) → x' ≡ x → y' ≡ y → (y ≡ b) ⊎ (y ≡ x) → (y' ≡ b) ⊎ (y' ≡ x')
kept b x y x' y' ex ey (inl is) = inl (ey ∙ is)
kept b x y x' y' ex ey (inr is) = inr (ey ∙ is ∙ sym ex)

filled_inside : (at n b : ℕ) (g : List ℕ) (i : ℕ) → at ≤ i → i < at + n → i < length g → get_or (placed at (replicate n b) g) i 0 ≡ b
filled_inside at n b g i from inside there = grind (arith, places)

blanked_placed : (b at : ℕ) (bytes f g : List ℕ) → Blanked b f g → Blanked b (placed at bytes f) (placed at (replicate (length bytes) b) g)
blanked_placed b at bytes f g same =
    let by_bytes : Torn at (length bytes) f (placed at bytes f) = placed_torn at bytes f in
    let by_byte : Torn at (length (replicate (length bytes) b)) g (placed at (replicate (length bytes) b) g) = placed_torn at (replicate (length bytes) b) g in
    let count : length (replicate (length bytes) b) ≡ length bytes = length-replicate (length bytes) b in
    record {
      size = by_byte.size ∙ same.size ∙ sym by_bytes.size;
      each = λ i. elim (cases_lt i at) [
        | inl before ↦ kept b (get_or f i 0) (get_or g i 0) _ _ (by_bytes.below i before) (by_byte.below i before) (same.each i)
        | inr from ↦ elim (cases_lt i (at + length bytes)) [
          | inr beyond ↦ kept b (get_or f i 0) (get_or g i 0) _ _ (by_bytes.beyond i beyond) (by_byte.beyond i (omega (arith, count))) (same.each i)
          | inl inside ↦ elim (cases_lt i (length g)) [
            | inl there ↦ inl (filled_inside at (length bytes) b g i from inside there)
            | inr past ↦ inr (get_or_past _ i 0 (omega (arith, by_byte.size)) ∙ sym (get_or_past _ i 0 (omega (arith, by_bytes.size, same.size))))
          ]
        ]
      ];
    }

resized_length : (n : ℕ) (f : List ℕ) → length (resized n f) ≡ n
resized_length n f = grind (arith, places)

resized_below : (n : ℕ) (f : List ℕ) (i : ℕ) → i < n → get_or (resized n f) i 0 ≡ get_or f i 0
resized_below n f i lt = grind (arith, places)

blanked_resized : (b n : ℕ) (f g : List ℕ) → Blanked b f g → Blanked b (resized n f) (resized n g)
blanked_resized b n f g same = record {
  size = resized_length n g ∙ sym (resized_length n f);
  each = λ i. elim (cases_lt i n) [
    | inl there ↦ kept b (get_or f i 0) (get_or g i 0) _ _ (resized_below n f i there) (resized_below n g i there) (same.each i)
    | inr past ↦ inr (get_or_past _ i 0 (omega (arith, resized_length n g)) ∙ sym (get_or_past _ i 0 (omega (arith, resized_length n f))))
  ];
}

remade_blanked : (b : ℕ) (safe : List ℕ) (es : List Event) → Blanked b (remade None safe es) (remade (Some b) safe es)
remade_blanked b safe [] = record { size = refl; each = λ i. inr refl }
remade_blanked b safe (wrote at bytes ∷ es) = blanked_placed b at bytes (remade None safe es) (remade (Some b) safe es) (remade_blanked b safe es)
remade_blanked b safe (sized n ∷ es) = blanked_resized b n (remade None safe es) (remade (Some b) safe es) (remade_blanked b safe es)
remade_blanked b safe (synced ∷ es) = remade_blanked b safe es
remade_blanked b safe (crashed p ∷ es) = remade_blanked b safe es

pub picked_is : (p : Pick) (s : State) → s.content ≡ remade None s.safe s.pending → IsPicked p s (picked p s)
picked_is Old s content = refl
picked_is New s content = refl
picked_is (Byte b) s content = subst (λ (f : List ℕ). Blanked b f (remade (Some b) s.safe s.pending)) (sym content) (remade_blanked b s.safe s.pending)
