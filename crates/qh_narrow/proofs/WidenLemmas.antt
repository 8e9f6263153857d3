-- The same numbers in wider lanes.
use Rattle.std.proofs.Common.{◌≡◌, ◌≢◌, ℕ, ◌+◌, ◌-◌, ◌*◌, ◌/◌, ◌%◌, ◌^◌, ◌<◌, ◌≤◌, inl, inr, ℤ, pos, List, length, get_or, set, replicate, length-set, arith, sym, ap, subst, ◌∙◌}
use Rattle.std.proofs.Math.Path.{ap₂}
use Rattle.std.proofs.Math.Pow.{pow_mono}
use Rattle.std.specs.List.{All}
use Rattle.std.proofs.lemmas.Nat.{pow_pos, pow-add, div-mul-add, mod-mul-add, mod_below, mul-le}
use Rattle.std.proofs.lemmas.Bool.{cases_eq, cases_lt}
use Rattle.std.proofs.lemmas.List.{length-replicate, get_or-replicate, get_or-set_same, get_or-set_other, get_or-map}
use Rattle.qh_ring.specs.Numbers.{IsBelow, nothing}
use Rattle.qh_ring.proofs.ListedLemmas.{listed_same}
use Rattle.qh_kernel.specs.Lanes.{at_lane, AreBelow}
use Rattle.qh_blocks.specs.declared.block.Block.{Block}
use Rattle.qh_blocks.specs.Blocks.{lane, IsBlock}
use Rattle.qh_blocks.specs.Numbers.{number_in_block, number_at}
use Rattle.qh_blocks.proofs.NumbersLemmas.{block_below, parts_of}
use Rattle.qh_narrow.specs.Columns.{first_numbers, AreBlocksOf}
use Rattle.qh_narrow.proofs.BlocksLemmas.{past_end, room_of}

-- ---- a vector
below_more : (m n : ℕ) (x : ℤ) → m ≤ n → IsBelow m x → IsBelow n x
below_more m n x l h = let p : 2 ^ m ≤ 2 ^ n = pow_mono l in omega arith

pub lane_room : (w m n r : ℕ) (v : List ℤ) (x : ℤ) → AreBelow w m v → m ≤ n → r < w → x ≡ at_lane v r → IsBelow n x
lane_room w m n r v x h l b e = subst (IsBelow n) (sym e) (below_more m n (at_lane v r) l (h.each r b))

-- the first r lanes of the wider vector are those of the other from one on
pub record IsWider (n room from : ℕ) (narrow wide : List ℤ) (r : ℕ) : Type 0 where
  pub done : (k : ℕ) → k < r → at_lane wide k ≡ at_lane narrow (from + k)
  pub below : AreBelow n room wide

pub wider_none : (n room from : ℕ) (narrow wide : List ℤ) → wide ≡ replicate n (pos 0) → IsWider n room from narrow wide 0
wider_none n room from narrow wide e = record {
  done = λ k l. absurd (omega arith);
  below = subst (AreBelow n room) (sym e) (record {
    len = length-replicate n (pos 0);
    each = λ r l. subst (IsBelow room) (sym (get_or-replicate n r (pos 0) (pos 0) l)) (pow_pos room);
  });
}

pub wider_more : (n room from : ℕ) (narrow wide new : List ℤ) (r : ℕ) (x : ℤ) → r < n → IsBelow room x → x ≡ at_lane narrow (from + r) → new ≡ set wide r x
    → IsWider n room from narrow wide r → IsWider n room from narrow new (r + 1)
wider_more n room from narrow wide new r x l b e s h =
    let lw : r < length wide = subst (λ t. r < t) (sym h.below.len) l in
    subst (λ u. IsWider n room from narrow u (r + 1)) (sym s) (record {
      done = λ k m. elim (cases_eq k r) [
        | inl f ↦ ap (at_lane (set wide r x)) f ∙ get_or-set_same wide r x (pos 0) lw ∙ e ∙ ap (λ t. at_lane narrow (from + t)) (sym f)
        | inr ne ↦ get_or-set_other wide r k x (pos 0) ne ∙ h.done k (before k r m ne)
      ];
      below = record {
        len = length-set wide r x ∙ h.below.len;
        each = λ k m. elim (cases_eq k r) [
          | inl f ↦ subst (IsBelow room) (sym (ap (at_lane (set wide r x)) f ∙ get_or-set_same wide r x (pos 0) lw)) b
          | inr ne ↦ subst (IsBelow room) (sym (get_or-set_other wide r k x (pos 0) ne)) (h.below.each k m)
        ];
      };
    })
  where
    before : (k i : ℕ) → k < i + 1 → k ≢ i → k < i
    before k i b ne = omega arith

-- a lane that is read is one of the narrower vector
pub lane_read : (from r wp np : ℕ) → from + 2 ^ wp ≤ 2 ^ np → r < 2 ^ wp → from + r < 2 ^ np
lane_read from r wp np f l = omega arith

pub lane_small : (from r wp np : ℕ) → np ≤ 4 → from + 2 ^ wp ≤ 2 ^ np → r < 2 ^ wp → from + r < 2 ^ 64
lane_small from r wp np few f l = let p : 2 ^ np ≤ 2 ^ 4 = pow_mono few in omega arith

-- each bound of the one is one of the other
pub wider_below : (w n room from bits : ℕ) (narrow wide : List ℤ) (r : ℕ) → n ≤ r → from + n ≤ w → IsWider n room from narrow wide r → AreBelow w bits narrow → AreBelow n bits wide
wider_below w n room from bits narrow wide r l f h b = record {
  len = h.below.len;
  each = λ k m. subst (IsBelow bits) (sym (h.done k (omega arith))) (b.each (from + k) (omega arith));
}

-- ---- a block
pub first_room : (k split wp np : ℕ) → np ≡ split + wp → k % 2 ^ split * 2 ^ wp + 2 ^ wp ≤ 2 ^ np
first_room k split wp np e =
    let m : k % 2 ^ split < 2 ^ split = mod_below k (2 ^ split) (pow_pos split) in
    let g : (k % 2 ^ split + 1) * 2 ^ wp ≤ 2 ^ split * 2 ^ wp = mul-le (k % 2 ^ split + 1) (2 ^ wp) (2 ^ split) (2 ^ wp) (omega arith) (omega arith) in
    let p : 2 ^ np ≡ 2 ^ split * 2 ^ wp = ap (λ t. 2 ^ t) e ∙ pow-add 2 split wp in
    omega arith

pub split_sum : (np wp : ℕ) → wp ≤ np → np ≡ np - wp + wp
split_sum np wp l = omega arith

pub split_few : (np wp : ℕ) → np ≤ 4 → np - wp ≤ 4
split_few np wp l = omega arith

-- number r of wider block k is one of the narrower block that has it
place : (k r split wp np : ℕ) → np ≡ split + wp → r < 2 ^ wp → k % 2 ^ split * 2 ^ wp + r < 2 ^ np
place k r split wp np e l = let h = first_room k split wp np e in omega arith

parted : (k r split wp np : ℕ) → np ≡ split + wp → k * 2 ^ wp + r ≡ k / 2 ^ split * 2 ^ np + (k % 2 ^ split * 2 ^ wp + r)
parted k r split wp np e =
    let f = parts_of k split in
    let p : 2 ^ np ≡ 2 ^ split * 2 ^ wp = ap (λ t. 2 ^ t) e ∙ pow-add 2 split wp in
    let g : k * 2 ^ wp ≡ (k % 2 ^ split + k / 2 ^ split * 2 ^ split) * 2 ^ wp = ap (λ t. t * 2 ^ wp) f in
    let a : k / 2 ^ split * 2 ^ np ≡ k / 2 ^ split * (2 ^ split * 2 ^ wp) = ap (λ t. k / 2 ^ split * t) p in
    spread (k * 2 ^ wp) (k % 2 ^ split) (k / 2 ^ split) (2 ^ split) (2 ^ wp) r (k / 2 ^ split * 2 ^ np) g a
  where
    spread : (x m d s w r y : ℕ) → x ≡ (m + d * s) * w → y ≡ d * (s * w) → x + r ≡ y + (m * w + r)
    spread x m d s w r y e f = omega arith

pub narrower_div : (k r split wp np : ℕ) → np ≡ split + wp → r < 2 ^ wp → (k * 2 ^ wp + r) / 2 ^ np ≡ k / 2 ^ split
narrower_div k r split wp np e l =
    ap (λ t. t / 2 ^ np) (parted k r split wp np e) ∙ div-mul-add (k / 2 ^ split) (2 ^ np) (k % 2 ^ split * 2 ^ wp + r) (place k r split wp np e l)

pub narrower_mod : (k r split wp np : ℕ) → np ≡ split + wp → r < 2 ^ wp → (k * 2 ^ wp + r) % 2 ^ np ≡ k % 2 ^ split * 2 ^ wp + r
narrower_mod k r split wp np e l =
    ap (λ t. t % 2 ^ np) (parted k r split wp np e) ∙ mod-mul-add (k / 2 ^ split) (2 ^ np) (k % 2 ^ split * 2 ^ wp + r) (place k r split wp np e l)

-- ---- a list of blocks
-- the first k wider blocks have the numbers of the narrower ones, and their bounds
pub record IsWidened {N W : Type 0} (nl : N → List ℤ) (wl : W → List ℤ) (np wp : ℕ) (narrow : List (Block N)) (wide : List (Block W)) (k : ℕ) : Type 0 where
  pub lanes : (j r : ℕ) → j < k → r < 2 ^ wp → number_in_block wl wide j r ≡ number_at nl np narrow (j * 2 ^ wp + r)
  pub bounded : (bits j : ℕ) (d : Block W) → All (IsBlock nl (2 ^ np) bits) narrow → j < k → IsBlock wl (2 ^ wp) bits (get_or wide j d)

pub widened_none : {N W : Type 0} (nl : N → List ℤ) (wl : W → List ℤ) (np wp : ℕ) (narrow : List (Block N)) (wide : List (Block W)) → IsWidened nl wl np wp narrow wide 0
widened_none nl wl np wp narrow wide = record { lanes = λ j r l. absurd (omega arith); bounded = λ bits j d h l. absurd (omega arith) }

pub widened_more : {N W : Type 0} (nl : N → List ℤ) (wl : W → List ℤ) (np wp split : ℕ) (narrow : List (Block N)) (wide : List (Block W)) (k : ℕ) (x : Block N) (new : Block W)
    → np ≡ split + wp → k < length wide → k / 2 ^ split < length narrow → x ≡ get_or narrow (k / 2 ^ split) x
    → ((r : ℕ) → r < 2 ^ wp → lane wl r new ≡ lane nl (k % 2 ^ split * 2 ^ wp + r) x) → ((bits : ℕ) → IsBlock nl (2 ^ np) bits x → IsBlock wl (2 ^ wp) bits new)
    → IsWidened nl wl np wp narrow wide k → IsWidened nl wl np wp narrow (set wide k new) (k + 1)
widened_more {N} {W} nl wl np wp split narrow wide k x new e lw ln ex el eb h = record {
  lanes = λ j r l m.
      let jl : j < length wide = omega arith in
      let js : j < length (set wide k new) = subst (λ t. j < t) (sym (length-set wide k new)) jl in
      elim (cases_eq j k) [
        | inl f ↦
            get_or-map (lane wl r) (set wide k new) j new nothing js
            ∙ ap (λ t. lane wl r (get_or (set wide k new) t new)) f ∙ ap (lane wl r) (get_or-set_same wide k new new lw) ∙ el r m
            ∙ ap (lane nl (k % 2 ^ split * 2 ^ wp + r)) ex
            ∙ sym (get_or-map (lane nl (k % 2 ^ split * 2 ^ wp + r)) narrow (k / 2 ^ split) x nothing ln)
            ∙ sym (ap₂ (λ s t. number_in_block nl narrow s t) (narrower_div k r split wp np e m) (narrower_mod k r split wp np e m))
            ∙ ap (λ t. number_at nl np narrow (t * 2 ^ wp + r)) (sym f)
        | inr ne ↦
            get_or-map (lane wl r) (set wide k new) j new nothing js
            ∙ ap (lane wl r) (get_or-set_other wide k j new new ne) ∙ sym (get_or-map (lane wl r) wide j new nothing jl) ∙ h.lanes j r (before j k l ne) m
      ];
  bounded = λ bits j d all l. elim (cases_eq j k) [
    | inl f ↦
        subst (IsBlock wl (2 ^ wp) bits) (sym (ap (λ t. get_or (set wide k new) t d) f ∙ get_or-set_same wide k new d lw))
        (eb bits (subst (IsBlock nl (2 ^ np) bits) (sym ex) (all (k / 2 ^ split) x ln)))
    | inr ne ↦ subst (IsBlock wl (2 ^ wp) bits) (sym (get_or-set_other wide k j new d ne)) (h.bounded bits j d all (before j k l ne))
  ];
}
  where
    before : (k i : ℕ) → k < i + 1 → k ≢ i → k < i
    before k i b ne = omega arith

-- each wider block lies within a narrower one
pub narrower_below : (k q split wp np : ℕ) → np ≡ split + wp → k < 2 ^ (q - wp) → k / 2 ^ split < 2 ^ (q - np)
narrower_below k q split wp np e l =
    let le : q - wp ≤ split + (q - np) = omega arith in
    let p : 2 ^ (q - wp) ≤ 2 ^ (split + (q - np)) = pow_mono le in
    let m : 2 ^ (split + (q - np)) ≡ 2 ^ split * 2 ^ (q - np) = pow-add 2 split (q - np) in
    block_below k split (2 ^ (q - np)) (omega arith)

pub item_below : {V : Type 0} (lanes : V → List ℤ) (w bits k : ℕ) (v : List (Block V)) (x : Block V) → All (IsBlock lanes w bits) v → k < length v → x ≡ get_or v k x → IsBlock lanes w bits x
item_below lanes w bits k v x h l e = subst (IsBlock lanes w bits) (sym e) (h k x l)

number_widened : {N W : Type 0} (nl : N → List ℤ) (wl : W → List ℤ) (np wp : ℕ) (narrow : List (Block N)) (wide : List (Block W)) (k i : ℕ) → IsWidened nl wl np wp narrow wide k
    → length wide ≤ k → i < 2 ^ wp * length wide → number_at wl wp wide i ≡ number_at nl np narrow i
number_widened nl wl np wp narrow wide k i h l b =
    let j : i / 2 ^ wp < length wide = block_below i wp (length wide) b in
    let e = parts_of i wp in
    let f : i / 2 ^ wp * 2 ^ wp + i % 2 ^ wp ≡ i = omega arith in
    h.lanes (i / 2 ^ wp) (i % 2 ^ wp) (omega arith) (mod_below i (2 ^ wp) (pow_pos wp)) ∙ ap (number_at nl np narrow) f

pub widened_blocks : {N W : Type 0} (nl : N → List ℤ) (wl : W → List ℤ) (np wp q : ℕ) (narrow : List (Block N)) (wide : List (Block W)) (k : ℕ) → AreBlocksOf nl np q narrow
    → length wide ≡ 2 ^ (q - wp) → length wide ≤ k → IsWidened nl wl np wp narrow wide k → AreBlocksOf wl wp q wide
widened_blocks nl wl np wp q narrow wide k o len l h = record {
  few = o.few;
  len = len;
  others = λ i g. elim (cases_lt i (2 ^ wp * length wide)) [
    | inl b ↦ number_widened nl wl np wp narrow wide k i h l b ∙ o.others i g
    | inr past ↦ past_end wl wp wide i past
  ];
}

pub widened_numbers : {N W : Type 0} (nl : N → List ℤ) (wl : W → List ℤ) (np wp q : ℕ) (narrow : List (Block N)) (wide : List (Block W)) (k : ℕ) → AreBlocksOf nl np q narrow
    → length wide ≡ 2 ^ (q - wp) → length wide ≤ k → IsWidened nl wl np wp narrow wide k → first_numbers wl wp q wide ≡ first_numbers nl np q narrow
widened_numbers nl wl np wp q narrow wide k o len l h =
    let all : 2 ^ q ≤ 2 ^ wp * length wide = room_of wl wp q wide (widened_blocks nl wl np wp q narrow wide k o len l h) in
    listed_same q (number_at wl wp wide) (number_at nl np narrow) (λ i b. number_widened nl wl np wp narrow wide k i h l (before i (2 ^ q) (2 ^ wp * length wide) b all))
  where
    before : (i m n : ℕ) → i < m → m ≤ n → i < n
    before i m n b l = omega arith

pub widened_bounded : {N W : Type 0} (nl : N → List ℤ) (wl : W → List ℤ) (np wp bits : ℕ) (narrow : List (Block N)) (wide : List (Block W)) (k : ℕ) → length wide ≤ k
    → IsWidened nl wl np wp narrow wide k → All (IsBlock nl (2 ^ np) bits) narrow → All (IsBlock wl (2 ^ wp) bits) wide
widened_bounded nl wl np wp bits narrow wide k l h all i d b = h.bounded bits i d all (omega arith)
