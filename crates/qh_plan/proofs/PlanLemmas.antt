-- What a plan makes of its parts.
use Rattle.std.proofs.Common.{◌≡◌, ◌==◌, ℕ, zero, suc, ◌+◌, ◌-◌, ◌*◌, ◌^◌, ◌<◌, ◌≤◌, inl, inr, Bool, true, false, if◌then◌else◌, List, [], length, take, drop, Option, Some, None, nat_lt, arith, refl, sym, ap, subst, ◌∙◌, All, Result, Ok, Err, IfOk, IfErr, OnOk}
use Rattle.std.specs.Option.{ForSome}
use Rattle.std.proofs.lemmas.List.{take_rest}
use Rattle.std.proofs.lemmas.List.Elements.{All-take, All-drop, All-weaker}
use Rattle.std.proofs.lemmas.Bool.{cases_lt, ltb-false, leb-false, eqb-false, lt-ltb, le-ltb, cond-true, cond-false}
use Rattle.std.proofs.lemmas.Nat.{mul-le}
use Rattle.qh_gates.specs.declared.gate.Gate.{Gate}
use Rattle.qh_gates.specs.Tables.{qubits_of}
use Rattle.qh_gates.specs.Circuits.{Circuit, IsCircuit, Fits}
use Rattle.qh_plan.specs.declared.fault.PlanFault.{PlanFault}
use Rattle.qh_plan.specs.declared.fault.PlanFault.TheVariants.{EmptyPart, PartTooWide, TooManyCrossing, TooManyPaths, PrefixRoot, PrefixValue, TooManyRanges, JournalTooLong}
use Rattle.qh_plan.specs.Paths.{path_count}
use Rattle.qh_plan.specs.Jobs.{Job, IsJob, in_one, job_radices, prefixes, ranges}
use Rattle.qh_plan.specs.Texts.{job_text, journal_length}
use Rattle.qh_plan.specs.Plans.{IsRadix, IsDraft, IsKept, Kept, range_count, width_fault, path_fault, path_bits, split_fault, is_past, size_fault, item_fault, first_fault, rising, job_of, AreBits}
use Rattle.qh_plan.proofs.DigitLemmas.{count_positive, front_le, back_le}
use Rattle.qh_plan.proofs.PathLemmas.{path_count_split}
use Rattle.qh_plan.proofs.CutLemmas.{radices_known, rising_length, rising_below, rising_increasing}
use Rattle.qh_plan.proofs.RunLemmas.{IsCounted, counted_by, ranges_are}

-- ---- slices of the numbers of terms

pub middle_is : (now rs : List ℕ) (p r : ℕ) → now ≡ rs → path_count (take r (take (length now - p) (drop p now))) ≡ path_count (take r (drop p rs))
middle_is now rs p r e = ap (λ x. path_count (take r x)) (take_rest now p) ∙ ap (λ x. path_count (take r (drop p x))) e

pub back_is : (now rs : List ℕ) (p r : ℕ) → now ≡ rs
    → path_count (take (length (take (length now - p) (drop p now)) - r) (drop r (take (length now - p) (drop p now)))) ≡ path_count (drop r (drop p rs))
back_is now rs p r e =
    ap path_count (take_rest (take (length now - p) (drop p now)) r) ∙ ap (λ x. path_count (drop r x)) (take_rest now p) ∙ ap (λ x. path_count (drop r (drop p x))) e

pub record AreFew (rs : List ℕ) (p r : ℕ) : Type 0 where
  pub front : path_count (take p rs) ≤ 2 ^ 32
  pub middle : path_count (take r (drop p rs)) ≤ 2 ^ 32
  pub back : path_count (drop r (drop p rs)) ≤ 2 ^ 32
  pub pairs : path_count (take p rs) * path_count (take r (drop p rs)) ≤ 2 ^ 32

pub are_few : (rs : List ℕ) (p r : ℕ) → All IsRadix rs → path_count rs ≤ 2 ^ 32 → AreFew rs p r
are_few rs p r known few =
    let rest = drop p rs in
    let known_rest : All IsRadix rest = All-drop IsRadix p rs known in
    let a = front_le p rs known in
    let b = back_le p rs known (count_positive (take p rs) (All-take IsRadix p rs known)) in
    let c = front_le r rest known_rest in
    let d = back_le r rest known_rest (count_positive (take r rest) (All-take IsRadix r rest known_rest)) in
    let m = mul-le (path_count (take p rs)) (path_count (take r rest)) (path_count (take p rs)) (path_count rest) (omega arith) c in
    record {
      front = omega arith;
      middle = omega arith;
      back = omega arith;
      pairs = omega (arith, path_count_split p rs);
    }

-- ---- the size of a run

pub too_many_ranges : (n bytes : ℕ) → 16384 < n → size_fault n bytes ≡ Some (TooManyRanges n)
too_many_ranges n bytes l = cond-true (nat_lt 16384 n) (Some (TooManyRanges n)) _ (lt-ltb 16384 n l)

pub too_long : (n bytes : ℕ) → n ≤ 16384 → 1073741824 < bytes → size_fault n bytes ≡ Some (JournalTooLong bytes)
too_long n bytes l m =
    cond-false (nat_lt 16384 n) (Some (TooManyRanges n)) _ (le-ltb 16384 n l)
    ∙ cond-true (nat_lt 1073741824 bytes) (Some (JournalTooLong bytes)) None (lt-ltb 1073741824 bytes m)

pub right_size : (n bytes : ℕ) → n ≤ 16384 → bytes ≤ 1073741824 → size_fault n bytes ≡ None
right_size n bytes l m =
    cond-false (nat_lt 16384 n) (Some (TooManyRanges n)) _ (le-ltb 16384 n l)
    ∙ cond-false (nat_lt 1073741824 bytes) (Some (JournalTooLong bytes)) None (le-ltb 1073741824 bytes m)

pub journal_is : (j : Job) → journal_length j ≡ 32 + length (job_text j) + ranges j * (10 + 64 * length j.bits)
unfolding journal_length
journal_is j = refl

-- what is counted for a draft
pub record Counts (j : Job) (rs : List ℕ) (k : Kept) (n bytes : ℕ) : Type 0 where
  pub draft : IsDraft j rs
  pub radices_are : k.radices ≡ rs
  pub prefixes_are : k.prefixes ≡ path_count (take j.p rs)
  pub roots_are : k.roots ≡ path_count (take j.r (drop j.p rs))
  pub per_range_is : k.per_range ≡ path_count (drop j.r (drop j.p rs))
  pub ranges_are : n ≡ range_count k.prefixes k.roots j.prefix
  pub text_is : k.text ≡ job_text j
  pub bytes_are : bytes ≡ 32 + length k.text + n * (10 + 64 * length j.bits)

pub count_is : (j : Job) (rs : List ℕ) (k : Kept) (n bytes : ℕ) → Counts j rs k n bytes → n ≡ ranges j
count_is j rs k n bytes h =
    h.ranges_are
    ∙ ap (λ x. range_count x k.roots j.prefix) (h.prefixes_are ∙ ap (λ x. path_count (take j.p x)) h.draft.radices_are)
    ∙ ap (λ x. range_count (prefixes j) x j.prefix) (h.roots_are ∙ ap (λ x. path_count (take j.r (drop j.p x))) h.draft.radices_are)
    ∙ ranges_are j

pub bytes_is : (j : Job) (rs : List ℕ) (k : Kept) (n bytes : ℕ) → Counts j rs k n bytes → bytes ≡ journal_length j
bytes_is j rs k n bytes h =
    h.bytes_are
    ∙ ap (λ t. 32 + length t + n * (10 + 64 * length j.bits)) h.text_is
    ∙ ap (λ x. 32 + length (job_text j) + x * (10 + 64 * length j.bits)) (count_is j rs k n bytes h)
    ∙ sym (journal_is j)

pub kept : (j : Job) (rs : List ℕ) (k : Kept) (n bytes : ℕ) → Counts j rs k n bytes → n ≤ 16384 → bytes ≤ 1073741824 → IsKept j k
kept j rs k n bytes h few short = record {
  planned = record {
    valid = record {
      valid = h.draft.valid;
      rising = h.draft.is_rising;
      in_circuit = h.draft.in_circuit;
      some_in_one = h.draft.some_in_one;
      some_in_two = h.draft.some_in_two;
      narrow_one = h.draft.narrow_one;
      narrow_two = h.draft.narrow_two;
      few_crossing = subst (λ x. length x ≤ 32) h.draft.radices_are h.draft.few_crossing;
      few_paths = subst (λ x. path_count x ≤ 2 ^ 32) h.draft.radices_are h.draft.few_paths;
      is_split = subst (λ x. j.p + j.r ≤ length x) h.draft.radices_are h.draft.is_split;
      has_prefix = λ w e. subst (λ x. w < path_count (take j.p x)) h.draft.radices_are (h.draft.has_prefix w e);
      few_ranges = subst (λ x. x ≤ 16384) (count_is j rs k n bytes h) few;
      some_bits = h.draft.bits_are.some;
      few_bits = h.draft.bits_are.few;
      bits_below = h.draft.bits_are.below;
    };
    short = subst (λ x. x ≤ 1073741824) (bytes_is j rs k n bytes h) short;
  };
  radices_are = h.radices_are ∙ h.draft.radices_are;
  known = subst (All IsRadix) (sym h.radices_are) h.draft.known;
  prefixes_are = h.prefixes_are ∙ ap (λ x. path_count (take j.p x)) h.draft.radices_are;
  roots_are = h.roots_are ∙ ap (λ x. path_count (take j.r (drop j.p x))) h.draft.radices_are;
  per_range_is = h.per_range_is ∙ ap (λ x. path_count (drop j.r (drop j.p x))) h.draft.radices_are;
  text_is = h.text_is;
}

-- ---- what holds where a test finds no fault

never_some : {A : Type 0} (a : A) → ◌≡◌ {A = Option A} (Some a) None → ⊥
never_some a e = (cc)

pub record IsWide (n m : ℕ) : Type 0 where
  pub some_in_one : 1 ≤ m
  pub apart : m ≡ n → ⊥
  pub narrow_one : m ≤ 20
  pub narrow_two : n ≤ m + 20

past : (b : Bool) (f : PlanFault) (rest : Option PlanFault) → (if b then Some f else rest) ≡ None → (b ≡ false) × (rest ≡ None)
past true f rest e = absurd (never_some f e)
past false f rest e = (refl, e)

pub widths_pass : (n m : ℕ) → width_fault n m ≡ None → IsWide n m
widths_pass n m e =
    let a = past (m == 0) EmptyPart _ e in
    let b = past (m == n) EmptyPart _ a.1 in
    let c = past (nat_lt 20 m) (PartTooWide m) _ b.1 in
    let d = past (nat_lt 20 (n - m)) (PartTooWide (n - m)) _ c.1 in
    let some = eqb-false m 0 a.0 in
    let one = ltb-false 20 m c.0 in
    let two = ltb-false 20 (n - m) d.0 in
    record {
      some_in_one = positive m some;
      apart = eqb-false m n b.0;
      narrow_one = one;
      narrow_two = omega arith;
    }
  where
    positive : (k : ℕ) → (k ≡ 0 → ⊥) → 1 ≤ k
    positive zero h = absurd (h refl)
    positive (suc k) h = omega arith

pub paths_pass : (rs : List ℕ) → path_fault rs ≡ None → (length rs ≤ 32) × (path_count rs ≤ 2 ^ 32)
paths_pass rs e =
    let a = past (nat_lt 32 (length rs)) (TooManyCrossing (length rs)) _ e in
    let b = past (nat_lt (2 ^ 32) (path_count rs)) (TooManyPaths (path_bits rs)) _ a.1 in
    (ltb-false 32 (length rs) a.0, ltb-false (2 ^ 32) (path_count rs) b.0)

pub split_passes : (rs : List ℕ) (p r : ℕ) (prefix : Option ℕ) → split_fault rs p r prefix ≡ None → (p + r ≤ length rs) × ForSome prefix (λ w. w < path_count (take p rs))
split_passes rs p r prefix e =
    let n = path_count (take p rs) in
    let a = past (nat_lt (length rs) (p + r)) (PrefixRoot (length rs)) _ e in
    let b = past (is_past n prefix) (PrefixValue n) _ a.1 in
    (ltb-false (length rs) (p + r) a.0, λ w f. leb-false n w (ap (is_past n) (sym f) ∙ b.0))

-- ---- the counts from what the calls answer

pub counts_from : (j : Job) (rs front middle back text : List ℕ) (P R N n t m bytes : ℕ) → IsDraft j rs → front ≡ rs → middle ≡ rs → back ≡ rs
    → P ≡ path_count (take j.p front)
    → R ≡ path_count (take j.r (take (length middle - j.p) (drop j.p middle)))
    → N ≡ path_count (take (length (take (length back - j.p) (drop j.p back)) - j.r) (drop j.r (take (length back - j.p) (drop j.p back))))
    → n ≡ range_count P R j.prefix → text ≡ job_text j → t ≡ length text → m ≡ length j.bits → bytes ≡ 32 + t + n * (10 + 64 * m)
    → Counts j rs (record { radices = rs; prefixes = P; roots = R; per_range = N; text = text }) n bytes
counts_from j rs front middle back text P R N n t m bytes draft ef em eb eP eR eN en et el ec ey = record {
  draft = draft;
  radices_are = refl;
  prefixes_are = eP ∙ ap (λ x. path_count (take j.p x)) ef;
  roots_are = eR ∙ middle_is middle rs j.p j.r em;
  per_range_is = eN ∙ back_is back rs j.p j.r eb;
  ranges_are = en;
  text_is = et;
  bytes_are = ey ∙ ap (λ x. 32 + x + n * (10 + 64 * m)) el ∙ ap (λ x. 32 + length text + n * (10 + 64 * x)) ec;
}

-- ---- the first refusal

module _ (c : Circuit) (items : List ℕ) (p r : ℕ) (w : Option ℕ) (bits : List ℕ) where
  abbrev asked : Job
  asked = job_of c items p r w bits

  pub refused_items : (f : PlanFault) → Some f ≡ item_fault c.qubits [] items → first_fault c items p r w bits ≡ Some f
  unfolding first_fault
  refused_items f e = rw (sym e) refl

  pub refused_width : (f : PlanFault) → None ≡ item_fault c.qubits [] items → Some f ≡ width_fault c.qubits (length asked.part)
      → first_fault c items p r w bits ≡ Some f
  unfolding first_fault
  refused_width f a e = rw (sym a, sym e) refl

  pub refused_paths : (f : PlanFault) → None ≡ item_fault c.qubits [] items → None ≡ width_fault c.qubits (length asked.part)
      → Some f ≡ path_fault (job_radices asked) → first_fault c items p r w bits ≡ Some f
  unfolding first_fault
  refused_paths f a b e = rw (sym a, sym b, sym e) refl

  pub refused_split : (f : PlanFault) → None ≡ item_fault c.qubits [] items → None ≡ width_fault c.qubits (length asked.part)
      → None ≡ path_fault (job_radices asked) → Some f ≡ split_fault (job_radices asked) p r w → first_fault c items p r w bits ≡ Some f
  unfolding first_fault
  refused_split f a b d e = rw (sym a, sym b, sym d, sym e) refl

  pub refused_size : (o : Option PlanFault) → None ≡ item_fault c.qubits [] items → None ≡ width_fault c.qubits (length asked.part)
      → None ≡ path_fault (job_radices asked) → None ≡ split_fault (job_radices asked) p r w → size_fault (ranges asked) (journal_length asked) ≡ o
      → first_fault c items p r w bits ≡ o
  unfolding first_fault
  refused_size o a b d e f = rw (sym a, sym b, sym d, sym e) f

-- ---- what a plan hands on

-- no gate on one qubit crosses
pub singles : (n : ℕ) (gs : List Gate) → All (Fits n) gs → All (λ (g : Gate). qubits_of g.kind ≡ 1 → g.q1 ≡ g.q0) gs
singles n gs h = All-weaker (Fits n) (λ g. qubits_of g.kind ≡ 1 → g.q1 ≡ g.q0) (λ g f. f.one) gs h

-- what a job's numbers of terms make of its counts
pub counted_job : (j : Job) → IsJob j → IsCounted j
counted_job j h = counted_by j (radices_known (in_one j) j.circuit.gates (singles j.circuit.qubits j.circuit.gates h.valid.fit)) h.few_paths

pub draft : (c : Circuit) (items : List ℕ) (p r : ℕ) (w : Option ℕ) (bits rs : List ℕ) → IsCircuit c → AreBits c.qubits bits
    → rs ≡ job_radices (job_of c items p r w bits) → All IsRadix rs
    → None ≡ width_fault c.qubits (length (rising c.qubits items)) → None ≡ path_fault rs → None ≡ split_fault rs p r w
    → IsDraft (job_of c items p r w bits) rs
draft c items p r w bits rs valid asked are known e1 e2 e3 =
    let m = length (rising c.qubits items) in
    let wide = widths_pass c.qubits m (sym e1) in
    let few = paths_pass rs (sym e2) in
    let split = split_passes rs p r w (sym e3) in
    record {
      valid = valid;
      is_rising = rising_increasing c.qubits items;
      in_circuit = rising_below c.qubits items;
      some_in_one = wide.some_in_one;
      some_in_two = below m c.qubits (rising_length c.qubits items) wide.apart;
      narrow_one = wide.narrow_one;
      narrow_two = wide.narrow_two;
      radices_are = are;
      known = known;
      few_crossing = few.0;
      few_paths = few.1;
      is_split = split.0;
      has_prefix = split.1;
      bits_are = asked;
    }
  where
    below : (a b : ℕ) → a ≤ b → (a ≡ b → ⊥) → a < b
    below a b l f = elim (cases_lt a b) [ inl h ↦ h | inr h ↦ absurd (f (omega arith)) ]

pub ok_both : {A E : Type 0} (x : Result A E) (P Q : A → Type 0) (R : Type 0) → ((a : A) → P a → Q a → R) → IfOk x P → IfOk x Q → OnOk x R
ok_both (Ok a) P Q R f h g = f a h g
ok_both (Err e) P Q R f h g = h

pub err_map : {A E : Type 0} (x : Result A E) (P Q : E → Type 0) → ((e : E) → P e → Q e) → IfErr x P → IfErr x Q
err_map (Ok a) P Q f h = h
err_map (Err e) P Q f h = f e h
