-- The entries of a cache against the list of its checkpoints. There are at most two, so each lemma goes over the cases.
use Rattle.std.proofs.Common.{◌≡◌, ℕ, zero, suc, ◌≤◌, inl, inr, Bool, true, false, nat_eq, List, [], ◌∷◌, length, map, All, Option, Some, None, option_map, arith, refl, sym, ap, subst, ◌∙◌}
use Rattle.std.proofs.Math.Path.{ap₂}
use Rattle.std.specs.List.{IsDistinct}
use Rattle.std.specs.Map.{lookup}
use Rattle.std.proofs.lemmas.Bool.{cases_Bool, false≢true, eqb-true, eq-eqb, ne_eqb}
use Rattle.std.proofs.lemmas.List.Elements.{All-head, All-tail, All-cons}
use Rattle.lru.specs.LruCache.{LruCache, lru_cache, promoted, put_entries}
use Rattle.qh_plan.specs.Jobs.{Job}
use Rattle.qh_prefix.specs.Checkpoints.{Checkpoint}
use Rattle.qh_prefix.specs.Caches.{Cache, has_prefix, held, others_of, brought, with_new, IsCache, IsKept}

apart_once : (w x y : ℕ) → nat_eq w x ≡ true → nat_eq w y ≡ true → nat_eq x y ≡ false → ⊥
apart_once w x y s t d = false≢true (sym d ∙ eq-eqb x y (sym (eqb-true w x s) ∙ eqb-true w y t))

apart_back : (x y : ℕ) → nat_eq x y ≡ false → nat_eq y x ≡ false
apart_back x y d = ne_eqb y x (λ e. false≢true (sym d ∙ eq-eqb x y (sym e)))

none : {X : Type 0} (P : X → Type 0) → All P []
none P = λ i d l. absurd (omega arith)

module _ {X : Type 0} (P : X → Type 0) where
  one_of : (x : X) → P x → All P (x ∷ [])
  one_of x h = All-cons P x [] h (none P)

  two_of : (x y : X) → P x → P y → All P (x ∷ y ∷ [])
  two_of x y h k = All-cons P x (y ∷ []) h (one_of y k)

  first_holds : (x : X) (xs : List X) → All P (x ∷ xs) → P x
  first_holds x xs h = All-head P x xs h

  second_holds : (x y : X) (xs : List X) → All P (x ∷ y ∷ xs) → P y
  second_holds x y xs h = All-head P y xs (All-tail P x (y ∷ xs) h)

-- ---- the list of checkpoints
-- one that is held is of the prefix value, and has what all have
pub held_holds : (P : Checkpoint → Type 0) (w : ℕ) (points : List Checkpoint) (c : Checkpoint) → All P points → held w points ≡ Some c → P c × (c.prefix ≡ w)
held_holds P w [] c h e = absurd (nothing_held e)
  where
    nothing_held : ◌≡◌ {A = Option Checkpoint} None (Some c) → ⊥
    nothing_held e = cc
held_holds P w (x ∷ xs) c h e = elim (cases_Bool (has_prefix w x)) [
  | inl t ↦
      let same : x ≡ c = some_same x c (rw t at e) in
      (subst P same (All-head P x xs h), sym (eqb-true w c.prefix (ap (has_prefix w) (sym same) ∙ t)))
  | inr f ↦ held_holds P w xs c (All-tail P x xs h) (rw f at e)
]
  where
    some_same : (x c : Checkpoint) → ◌≡◌ {A = Option Checkpoint} (Some x) (Some c) → x ≡ c
    some_same x c e = cc

cache_of : Job → List Checkpoint → Cache
cache_of j points = record { job = j; points = points }

module _ (j : Job) (w : ℕ) (x y : Checkpoint) where
  as_it_was : has_prefix w x ≡ false → has_prefix w y ≡ false → brought w (x ∷ y ∷ []) ≡ x ∷ y ∷ []
  as_it_was e f = rw (e, f) refl

  first_stays : has_prefix w x ≡ true → has_prefix w y ≡ false → brought w (x ∷ y ∷ []) ≡ x ∷ y ∷ []
  first_stays e f = rw (e, f) refl

  second_comes : has_prefix w x ≡ false → has_prefix w y ≡ true → brought w (x ∷ y ∷ []) ≡ y ∷ x ∷ []
  second_comes e f = rw (e, f) refl

brought_one : (w : ℕ) (x : Checkpoint) → brought w (x ∷ []) ≡ x ∷ []
brought_one w x = elim (cases_Bool (has_prefix w x)) [ inl e ↦ rw e refl | inr e ↦ rw e refl ]

pub brought_cache : (j : Job) (w : ℕ) (points : List Checkpoint) → IsCache (record { job = j; points = points }) → IsCache (record { job = j; points = brought w points })
unfolding IsDistinct
brought_cache j w [] h = h
brought_cache j w (x ∷ []) h = subst (λ ps. IsCache (record { job = j; points = ps })) (sym (brought_one w x)) h
brought_cache j w (x ∷ y ∷ []) h = elim (cases_Bool (has_prefix w x)) [
  | inl e ↦ elim (cases_Bool (has_prefix w y)) [
    | inl f ↦ absurd (apart_once w x.prefix y.prefix e f h.apart.0.0)
    | inr f ↦ subst (λ ps. IsCache (record { job = j; points = ps })) (sym (first_stays j w x y e f)) h
  ]
  | inr e ↦ elim (cases_Bool (has_prefix w y)) [
    | inr f ↦ subst (λ ps. IsCache (record { job = j; points = ps })) (sym (as_it_was j w x y e f)) h
    | inl f ↦ subst (λ ps. IsCache (record { job = j; points = ps })) (sym (second_comes j w x y e f)) (record {
      few = omega arith;
      jobs = two_of (λ p. p.job ≡ j) y x (second_holds (λ p. p.job ≡ j) x y [] h.jobs) (first_holds (λ p. p.job ≡ j) x (y ∷ []) h.jobs);
      apart = ((apart_back x.prefix y.prefix h.apart.0.0, tt), (tt, tt));
    })
  ]
]
brought_cache j w (x ∷ y ∷ z ∷ points) h = let l = h.few in absurd (omega arith)

-- a new one alone, or with one of another prefix value
module _ (j : Job) (c : Checkpoint) (own : c.job ≡ j) where
  alone : IsCache (record { job = j; points = c ∷ [] })
  unfolding IsDistinct
  alone = record { few = omega arith; jobs = one_of (λ p. p.job ≡ j) c own; apart = (tt, tt) }

  beside : (x : Checkpoint) → x.job ≡ j → has_prefix c.prefix x ≡ false → IsCache (record { job = j; points = c ∷ x ∷ [] })
  unfolding IsDistinct
  beside x h f = record { few = omega arith; jobs = two_of (λ p. p.job ≡ j) c x own h; apart = ((f, tt), (tt, tt)) }

  new_alone : (x : Checkpoint) → has_prefix c.prefix x ≡ true → with_new c (x ∷ []) ≡ c ∷ []
  new_alone x e = rw e refl

  new_first : (x : Checkpoint) (xs : List Checkpoint) → has_prefix c.prefix x ≡ false → with_new c (x ∷ xs) ≡ c ∷ x ∷ []
  new_first x xs e = rw e refl

  new_passes : (x : Checkpoint) (xs : List Checkpoint) → has_prefix c.prefix x ≡ true → with_new c (x ∷ xs) ≡ with_new c xs
  new_passes x xs e = rw e refl

  pub with_new_cache : (points : List Checkpoint) → All (λ p. p.job ≡ j) points → IsCache (record { job = j; points = with_new c points })
  with_new_cache [] h = alone
  with_new_cache (x ∷ xs) h = elim (cases_Bool (has_prefix c.prefix x)) [
    | inl e ↦ subst (λ ps. IsCache (record { job = j; points = ps })) (sym (new_passes x xs e)) (with_new_cache xs (All-tail (λ p. p.job ≡ j) x xs h))
    | inr e ↦ subst (λ ps. IsCache (record { job = j; points = ps })) (sym (new_first x xs e)) (beside x (All-head (λ p. p.job ≡ j) x xs h) e)
  ]

-- ---- the entries
module _ {V : Type 0} (shown : V → Checkpoint) where
  abbrev pub view : List (ℕ × V) → List Checkpoint
  view es = map (λ e. shown e.1) es

  abbrev pub IsKeyed : ℕ × V → Type 0
  IsKeyed e = e.0 ≡ (shown e.1).prefix

  keyed_test : (w : ℕ) (e : ℕ × V) (b : Bool) → IsKeyed e → nat_eq w e.0 ≡ b → has_prefix w (shown e.1) ≡ b
  keyed_test w e b k h = ap (nat_eq w) (sym k) ∙ h

  pub looked : (w : ℕ) (es : List (ℕ × V)) → All IsKeyed es → option_map shown (lookup (nat_eq w) es) ≡ held w (view es)
  looked w [] h = refl
  looked w (e ∷ es) h = let k : IsKeyed e = All-head IsKeyed e es h in elim (cases_Bool (nat_eq w e.0)) [
    | inl t ↦ let p = keyed_test w e true k t in rw (t, p) refl
    | inr f ↦ let p = keyed_test w e false k f in rw (f, p) (looked w es (All-tail IsKeyed e es h))
  ]

  first_promoted : (w : ℕ) (a : ℕ × V) (es : List (ℕ × V)) → nat_eq w a.0 ≡ true → promoted (nat_eq w) (a ∷ es) ≡ a ∷ es
  first_promoted w a es t = rw t refl

  second_promoted : (w : ℕ) (a b : ℕ × V) → nat_eq w a.0 ≡ false → nat_eq w b.0 ≡ true → promoted (nat_eq w) (a ∷ b ∷ []) ≡ b ∷ a ∷ []
  second_promoted w a b e f = rw (e, f) refl

  one_kept : (w : ℕ) (a : ℕ × V) → nat_eq w a.0 ≡ false → promoted (nat_eq w) (a ∷ []) ≡ a ∷ []
  one_kept w a e = rw e refl

  none_promoted : (w : ℕ) (a b : ℕ × V) → nat_eq w a.0 ≡ false → nat_eq w b.0 ≡ false → promoted (nat_eq w) (a ∷ b ∷ []) ≡ a ∷ b ∷ []
  none_promoted w a b e f = rw (e, f) refl

  second_found : (w : ℕ) (a b : ℕ × V) → nat_eq w a.0 ≡ false → nat_eq w b.0 ≡ true → lookup (nat_eq w) (b ∷ a ∷ []) ≡ lookup (nat_eq w) (a ∷ b ∷ [])
  second_found w a b e f = rw (e, f) refl

  pub record IsPromoted (w : ℕ) (es : List (ℕ × V)) : Type 0 where
    pub are : view (promoted (nat_eq w) es) ≡ brought w (view es)
    pub keyed : All IsKeyed (promoted (nat_eq w) es)
    pub still : lookup (nat_eq w) (promoted (nat_eq w) es) ≡ lookup (nat_eq w) es

  pub promote_is : (j : Job) (w : ℕ) (es : List (ℕ × V)) → All IsKeyed es → IsCache (record { job = j; points = view es }) → IsPromoted w es
  unfolding IsDistinct
  promote_is j w [] h d = record { are = refl; keyed = h; still = refl }
  promote_is j w (a ∷ []) h d = elim (cases_Bool (nat_eq w a.0)) [
    | inl e ↦ record {
      are = ap view (first_promoted w a [] e) ∙ sym (brought_one w (shown a.1));
      keyed = subst (All IsKeyed) (sym (first_promoted w a [] e)) h;
      still = ap (lookup (nat_eq w)) (first_promoted w a [] e);
    }
    | inr e ↦ record {
      are = ap view (one_kept w a e) ∙ sym (brought_one w (shown a.1));
      keyed = subst (All IsKeyed) (sym (one_kept w a e)) h;
      still = ap (lookup (nat_eq w)) (one_kept w a e);
    }
  ]
  promote_is j w (a ∷ b ∷ []) h d =
      let k : IsKeyed a = first_holds IsKeyed a (b ∷ []) h in
      let l : IsKeyed b = second_holds IsKeyed a b [] h in
      elim (cases_Bool (nat_eq w a.0)) [
        | inl e ↦ elim (cases_Bool (nat_eq w b.0)) [
          | inl f ↦ absurd (apart_once w (shown a.1).prefix (shown b.1).prefix (keyed_test w a true k e) (keyed_test w b true l f) d.apart.0.0)
          | inr f ↦ record {
            are = ap view (first_promoted w a (b ∷ []) e) ∙ sym (first_stays j w (shown a.1) (shown b.1) (keyed_test w a true k e) (keyed_test w b false l f));
            keyed = subst (All IsKeyed) (sym (first_promoted w a (b ∷ []) e)) h;
            still = ap (lookup (nat_eq w)) (first_promoted w a (b ∷ []) e);
          }
        ]
        | inr e ↦ elim (cases_Bool (nat_eq w b.0)) [
          | inl f ↦ record {
            are = ap view (second_promoted w a b e f) ∙ sym (second_comes j w (shown a.1) (shown b.1) (keyed_test w a false k e) (keyed_test w b true l f));
            keyed = subst (All IsKeyed) (sym (second_promoted w a b e f)) (two_of IsKeyed b a l k);
            still = ap (lookup (nat_eq w)) (second_promoted w a b e f) ∙ second_found w a b e f;
          }
          | inr f ↦ record {
            are = ap view (none_promoted w a b e f) ∙ sym (as_it_was j w (shown a.1) (shown b.1) (keyed_test w a false k e) (keyed_test w b false l f));
            keyed = subst (All IsKeyed) (sym (none_promoted w a b e f)) h;
            still = ap (lookup (nat_eq w)) (none_promoted w a b e f);
          }
        ]
      ]
  promote_is j w (a ∷ b ∷ c ∷ es) h d = let l = d.few in absurd (omega arith)

  -- ---- one more
  module _ (j : Job) (k : ℕ) (v : V) (key : k ≡ (shown v).prefix) where
    put_in : List (ℕ × V) → List (ℕ × V)
    put_in es = put_entries nat_eq (lru_cache es 2) k v

    key_test : (e : ℕ × V) (b : Bool) → IsKeyed e → nat_eq k e.0 ≡ b → has_prefix (shown v).prefix (shown e.1) ≡ b
    key_test e b h t = ap₂ nat_eq (sym key) (sym h) ∙ t

    key_same : (e : ℕ × V) → nat_eq k e.0 ≡ true → e.0 ≡ (shown v).prefix
    key_same e t = sym (eqb-true k e.0 t) ∙ key

    pub record IsPut (es : List (ℕ × V)) : Type 0 where
      pub are : view (put_entries nat_eq (lru_cache es 2) k v) ≡ with_new (shown v) (view es)
      pub keyed : All IsKeyed (put_entries nat_eq (lru_cache es 2) k v)

    put_by : (es new : List (ℕ × V)) → put_entries nat_eq (lru_cache es 2) k v ≡ new → view new ≡ with_new (shown v) (view es) → All IsKeyed new → IsPut es
    put_by es new e f h = record { are = ap view e ∙ f; keyed = subst (All IsKeyed) (sym e) h }

    put_first : (a : ℕ × V) (es : List (ℕ × V)) → nat_eq k a.0 ≡ true → put_entries nat_eq (lru_cache (a ∷ es) 2) k v ≡ (a.0, v) ∷ es
    put_first a es t = rw t refl

    put_second : (a b : ℕ × V) → nat_eq k a.0 ≡ false → nat_eq k b.0 ≡ true → put_entries nat_eq (lru_cache (a ∷ b ∷ []) 2) k v ≡ (b.0, v) ∷ a ∷ []
    put_second a b e f = rw (e, f) refl

    put_beside : (a : ℕ × V) → nat_eq k a.0 ≡ false → put_entries nat_eq (lru_cache (a ∷ []) 2) k v ≡ (k, v) ∷ a ∷ []
    put_beside a e = rw e refl

    put_third : (a b : ℕ × V) → nat_eq k a.0 ≡ false → nat_eq k b.0 ≡ false → put_entries nat_eq (lru_cache (a ∷ b ∷ []) 2) k v ≡ (k, v) ∷ a ∷ []
    put_third a b e f = rw (e, f) refl

    with_none : (x : Checkpoint) → has_prefix (shown v).prefix x ≡ true → with_new (shown v) (x ∷ []) ≡ shown v ∷ []
    with_none x e = rw e refl

    with_first : (x : Checkpoint) (xs : List Checkpoint) → has_prefix (shown v).prefix x ≡ false → with_new (shown v) (x ∷ xs) ≡ shown v ∷ x ∷ []
    with_first x xs e = rw e refl

    with_second : (x y : Checkpoint) → has_prefix (shown v).prefix x ≡ true → has_prefix (shown v).prefix y ≡ false → with_new (shown v) (x ∷ y ∷ []) ≡ shown v ∷ y ∷ []
    with_second x y e f = rw (e, f) refl

    pub put_is : (es : List (ℕ × V)) → All IsKeyed es → IsCache (record { job = j; points = view es }) → IsPut es
    unfolding IsDistinct
    put_is [] h d = put_by [] ((k, v) ∷ []) refl refl (one_of IsKeyed (k, v) key)
    put_is (a ∷ []) h d =
        let ka : IsKeyed a = first_holds IsKeyed a [] h in
        elim (cases_Bool (nat_eq k a.0)) [
          | inl e ↦ put_by (a ∷ []) ((a.0, v) ∷ []) (put_first a [] e) (sym (with_none (shown a.1) (key_test a true ka e))) (one_of IsKeyed (a.0, v) (key_same a e))
          | inr e ↦ put_by (a ∷ []) ((k, v) ∷ a ∷ []) (put_beside a e) (sym (with_first (shown a.1) [] (key_test a false ka e))) (two_of IsKeyed (k, v) a key ka)
        ]
    put_is (a ∷ b ∷ []) h d =
        let ka : IsKeyed a = first_holds IsKeyed a (b ∷ []) h in
        let kb : IsKeyed b = second_holds IsKeyed a b [] h in
        elim (cases_Bool (nat_eq k a.0)) [
          | inl e ↦ elim (cases_Bool (nat_eq k b.0)) [
            | inl f ↦ absurd (apart_once (shown v).prefix (shown a.1).prefix (shown b.1).prefix (key_test a true ka e) (key_test b true kb f) d.apart.0.0)
            | inr f ↦ put_by (a ∷ b ∷ []) ((a.0, v) ∷ b ∷ []) (put_first a (b ∷ []) e)
                (sym (with_second (shown a.1) (shown b.1) (key_test a true ka e) (key_test b false kb f))) (two_of IsKeyed (a.0, v) b (key_same a e) kb)
          ]
          | inr e ↦ elim (cases_Bool (nat_eq k b.0)) [
            | inl f ↦ put_by (a ∷ b ∷ []) ((b.0, v) ∷ a ∷ []) (put_second a b e f)
                (sym (with_first (shown a.1) (shown b.1 ∷ []) (key_test a false ka e))) (two_of IsKeyed (b.0, v) a (key_same b f) ka)
            | inr f ↦ put_by (a ∷ b ∷ []) ((k, v) ∷ a ∷ []) (put_third a b e f)
                (sym (with_first (shown a.1) (shown b.1 ∷ []) (key_test a false ka e))) (two_of IsKeyed (k, v) a key ka)
          ]
        ]
    put_is (a ∷ b ∷ c ∷ es) h d = let l = d.few in absurd (omega arith)

  -- ---- what the code keeps
  pub kept_promoted : (j : Job) (w cap : ℕ) (es : List (ℕ × V)) → IsKept shown j cap es → IsKept shown j cap (promoted (nat_eq w) es)
  kept_promoted j w cap es h =
      let p = promote_is j w es h.keyed h.cache in
      record {
        cap_is = h.cap_is;
        keyed = p.keyed;
        cache = subst (λ ps. IsCache (record { job = j; points = ps })) (sym p.are) (brought_cache j w (view es) h.cache);
      }

  pub kept_put : (j : Job) (k : ℕ) (v : V) (es : List (ℕ × V)) → k ≡ (shown v).prefix → (shown v).job ≡ j → IsKept shown j 2 es
      → IsKept shown j 2 (put_entries nat_eq (lru_cache es 2) k v)
  kept_put j k v es key own h =
      let p = put_is j k v key es h.keyed h.cache in
      record {
        cap_is = refl;
        keyed = p.keyed;
        cache = subst (λ ps. IsCache (record { job = j; points = ps })) (sym p.are) (with_new_cache j (shown v) own (view es) h.cache.jobs);
      }
