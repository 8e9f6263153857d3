-- One text is of one job.
use Rattle.std.proofs.Common.{◌≡◌, ◌≢◌, ◌==◌, ℕ, ◌^◌, ◌<◌, ◌≤◌, true, not, List, [], ◌∷◌, ◌++◌, length, drop, map, codes, decimal, All, Option, Some, None, Result, Ok, arith, refl, sym, ap, subst, ◌∙◌, append-nil}
use Rattle.std.specs.List.{flat_map, list_all}
use Rattle.std.specs.Option.{ForSome}
use Rattle.std.proofs.lemmas.Fmt.{decimal_is_IsNumeral}
use Rattle.std.proofs.lemmas.Nat.{mul-le}
use Rattle.std.proofs.Math.Nat.{mul-one}
use Rattle.std.proofs.lemmas.List.Elements.{All-nil, All-cons, All-append, All-weaker}
use Rattle.qh_text.specs.Decimal.{number_below}
use Rattle.qh_text.proofs.Digits.{computed}
use Rattle.qh_text.specs.Bitstrings.{bits_text}
use Rattle.qh_text.proofs.CutLemmas.{Without, each_without, cut_same}
use Rattle.qh_gates.specs.declared.gate.Gate.{Gate}
use Rattle.qh_gates.specs.Circuits.{Circuit}
use Rattle.qh_circuit.specs.Spelling.{circuit_text}
use Rattle.qh_circuit.specs.Texts.{circuit_of, FaultyLine}
use Rattle.qh_circuit.proofs.ReadBackLemmas.{read_back}
use Rattle.qh_plan.specs.Jobs.{Job, IsJob, prefixes, roots}
use Rattle.qh_plan.specs.Texts.{word, words, prefix_text, gates_text, job_text}
use Rattle.qh_plan.proofs.PlanLemmas.{counted_job}
use Rattle.qh_plan.proofs.RunLemmas.{none_number}
use Rattle.qh_plan.proofs.TextLemmas.{job_is}
use Rattle.qh_plan.proofs.SameLemmas.{words_without, words_same, bits_lists, bits_same}

-- ---- numbers

-- a printed number is read as itself
pub number_is : (n : ℕ) → n < 2 ^ 32 → number_below (2 ^ 32) (decimal n) ≡ Some n
number_is n l =
    let h = decimal_is_IsNumeral n (omega arith) in
    sym (computed (2 ^ 32) (decimal n) (Some n) ((h.0, omega (arith, h.1)), sym h.1))

-- ---- what a job's text is made of

pub record IsWritten (j : Job) : Type 0 where
  pub part : All (λ n. n < 2 ^ 32) j.part
  pub p : j.p < 2 ^ 32
  pub r : j.r < 2 ^ 32
  pub prefix : ForSome j.prefix (λ w. w < 2 ^ 32)
  pub count : length j.bits < 2 ^ 32
  pub gates : length j.circuit.gates < 2 ^ 32

pub written : (j : Job) → IsJob j → IsWritten j
written j v =
    let few = v.valid.few in
    let k = counted_job j v in
    record {
      part = All-weaker (λ q. q < j.circuit.qubits) (λ q. q < 2 ^ 32) (λ q l. omega arith) j.part v.in_circuit;
      p = let s = v.is_split in let c = v.few_crossing in omega arith;
      r = let s = v.is_split in let c = v.few_crossing in omega arith;
      prefix = λ w e. let l = v.has_prefix w e in let m = mul-le (prefixes j) 1 (prefixes j) (roots j) (omega arith) k.some_root in
          omega (arith, k.pairs_few, mul-one (prefixes j));
      count = let c = v.few_bits in omega arith;
      gates = let c = v.valid.short in omega arith;
    }

pub wider : (numbers : List ℕ) → All (λ n. n < 2 ^ 32) numbers → All (λ n. n < 2 ^ 64) numbers
wider numbers h = All-weaker (λ n. n < 2 ^ 32) (λ n. n < 2 ^ 64) (λ n l. omega arith) numbers h

pub one_number : (n : ℕ) → n < 2 ^ 32 → All (λ n. n < 2 ^ 32) (n ∷ [])
one_number n l = All-cons (λ n. n < 2 ^ 32) n [] l (All-nil (λ n. n < 2 ^ 32))

pub line_without : (name numbers : List ℕ) → Without 10 name → All (λ n. n < 2 ^ 32) numbers → Without 10 (words name numbers)
line_without name numbers h l = All-append (λ b. b ≢ 10) name (flat_map word numbers) h (words_without numbers (wider numbers l))

pub prefix_without : (o : Option ℕ) → ForSome o (λ w. w < 2 ^ 32) → Without 10 (prefix_text o)
prefix_without None h = each_without 10 (codes "prefix all") refl
prefix_without (Some w) h = line_without (codes "prefix") (w ∷ []) (each_without 10 (codes "prefix") refl) (one_number w (h w refl))

pub split_small : (j : Job) → IsWritten j → All (λ n. n < 2 ^ 32) (j.p ∷ j.r ∷ [])
split_small j w = All-cons (λ n. n < 2 ^ 32) j.p (j.r ∷ []) w.p (one_number j.r w.r)

-- the printed circuit is read back
pub circuit_back : (j : Job) → IsJob j → circuit_of 4294967295 (circuit_text j.circuit) ≡ Ok j.circuit
circuit_back j h =
    read_back 4294967295 j.circuit h.valid (omega arith) (All-weaker (λ (g : Gate). g.time < 2 ^ 32) (λ (g : Gate). g.time ≤ 4294967295) (λ g l. omega arith) j.circuit.gates h.valid.times)

-- ---- one text, one job

same_ok : (c d : Circuit) → ◌≡◌ {A = Result Circuit FaultyLine} (Ok c) (Ok d) → c ≡ d
same_ok c d e = cc

same_some : (w v : ℕ) → ◌≡◌ {A = Option ℕ} None (Some v) → ⊥
same_some w v e = (cc)

one_of : (x y : ℕ) (xs ys : List ℕ) → x ∷ xs ≡ y ∷ ys → (x ≡ y) × (xs ≡ ys)
one_of x y xs ys e = (cc, cc)

prefix_differs : (w : ℕ) → w < 2 ^ 32 → codes "prefix all" ≡ prefix_text (Some w) → ⊥
prefix_differs w l e =
    let tail : codes "all" ≡ decimal w ++ [] = ap (drop 7) e in
    none_number w (ap (number_below (2 ^ 32)) (tail ∙ append-nil (decimal w)) ∙ number_is w l)

pub prefix_same : (o u : Option ℕ) → ForSome o (λ w. w < 2 ^ 32) → ForSome u (λ w. w < 2 ^ 32) → prefix_text o ≡ prefix_text u → o ≡ u
prefix_same None None ho hu e = refl
prefix_same None (Some v) ho hu e = absurd (prefix_differs v (hu v refl) e)
prefix_same (Some w) None ho hu e = absurd (prefix_differs w (ho w refl) (sym e))
prefix_same (Some w) (Some v) ho hu e =
    ap Some (one_of w v [] [] (words_same (w ∷ []) (v ∷ []) (wider (w ∷ []) (one_number w (ho w refl))) (wider (v ∷ []) (one_number v (hu v refl))) (ap (drop 6) e))).0

same_job : (j k : Job) → j.circuit ≡ k.circuit → j.part ≡ k.part → j.p ≡ k.p → j.r ≡ k.r → j.prefix ≡ k.prefix → j.bits ≡ k.bits → j ≡ k
same_job j k a b c d e f = λ i. record { circuit = a i; part = b i; p = c i; r = d i; prefix = e i; bits = f i }

pub one_job : (j k : Job) → IsJob j → IsJob k → job_text j ≡ job_text k → j ≡ k
one_job j k hj hk e =
    let wj = written j hj in
    let wk = written k hk in
    let name = λ (t : List ℕ) (h : list_all (λ b. not (b == 10)) t ≡ true). each_without 10 t h in
    let all = sym (job_is j) ∙ e ∙ job_is k in
    let c0 = cut_same 10 (codes "job 1") (codes "job 1") _ _ (name (codes "job 1") refl) (name (codes "job 1") refl) all in
    let c1 = cut_same 10 (words (codes "part") j.part) (words (codes "part") k.part) _ _
    (line_without (codes "part") j.part (name (codes "part") refl) wj.part) (line_without (codes "part") k.part (name (codes "part") refl) wk.part) c0.1 in
    let c2 = cut_same 10 (words (codes "split") (j.p ∷ j.r ∷ [])) (words (codes "split") (k.p ∷ k.r ∷ [])) _ _
    (line_without (codes "split") (j.p ∷ j.r ∷ []) (name (codes "split") refl) (split_small j wj)) (line_without (codes "split") (k.p ∷ k.r ∷ []) (name (codes "split") refl) (split_small k wk)) c1.1 in
    let c3 = cut_same 10 (prefix_text j.prefix) (prefix_text k.prefix) _ _ (prefix_without j.prefix wj.prefix) (prefix_without k.prefix wk.prefix) c2.1 in
    let c4 = cut_same 10 (words (codes "bits") (length j.bits ∷ [])) (words (codes "bits") (length k.bits ∷ [])) _ _
    (line_without (codes "bits") (length j.bits ∷ []) (name (codes "bits") refl) (one_number (length j.bits) wj.count)) (line_without (codes "bits") (length k.bits ∷ []) (name (codes "bits") refl) (one_number (length k.bits) wk.count)) c3.1 in
    let part : j.part ≡ k.part = words_same j.part k.part (wider j.part wj.part) (wider k.part wk.part) (ap (drop 4) c1.0) in
    let split = words_same (j.p ∷ j.r ∷ []) (k.p ∷ k.r ∷ []) (wider (j.p ∷ j.r ∷ []) (split_small j wj)) (wider (k.p ∷ k.r ∷ []) (split_small k wk)) (ap (drop 5) c2.0) in
    let p = one_of j.p k.p (j.r ∷ []) (k.r ∷ []) split in
    let r = one_of j.r k.r [] [] p.1 in
    let prefix = prefix_same j.prefix k.prefix wj.prefix wk.prefix c3.0 in
    let count = (one_of (length j.bits) (length k.bits) [] []
    (words_same (length j.bits ∷ []) (length k.bits ∷ []) (wider (length j.bits ∷ []) (one_number (length j.bits) wj.count)) (wider (length k.bits ∷ []) (one_number (length k.bits) wk.count)) (ap (drop 4) c4.0))).0 in
    let lists = bits_lists j.circuit.qubits k.circuit.qubits j.bits k.bits (gates_text j.circuit) (gates_text k.circuit) count c4.1 in
    let c5 = cut_same 10 (words (codes "gates") (length j.circuit.gates ∷ [])) (words (codes "gates") (length k.circuit.gates ∷ [])) (circuit_text j.circuit) (circuit_text k.circuit)
    (line_without (codes "gates") (length j.circuit.gates ∷ []) (name (codes "gates") refl) (one_number (length j.circuit.gates) wj.gates))
    (line_without (codes "gates") (length k.circuit.gates ∷ []) (name (codes "gates") refl) (one_number (length k.circuit.gates) wk.gates)) lists.1 in
    let circuit : j.circuit ≡ k.circuit = same_ok j.circuit k.circuit (sym (circuit_back j hj) ∙ ap (circuit_of 4294967295) c5.1 ∙ circuit_back k hk) in
    let n = ap (λ (c : Circuit). c.qubits) circuit in
    let bits : j.bits ≡ k.bits = bits_same j.circuit.qubits j.bits k.bits hj.bits_below
    (subst (λ m. All (λ x. x < 2 ^ m) k.bits) (sym n) hk.bits_below)
    (lists.0 ∙ ap (λ m. map (bits_text m) k.bits) (sym n)) count in
    same_job j k circuit part p.0 r.0 prefix bits
