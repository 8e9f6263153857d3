-- A file stands for one job at most: its head has the job's text.
use Rattle.std.proofs.Common.{◌≡◌, ◌<◌, ℕ, ◌+◌, ◌*◌, ◌^◌, ◌≤◌, List, [], ◌∷◌, ◌++◌, length, take, drop, Option, Some, None, refl, sym, ap, ◌∙◌, arith, leb}
use Rattle.std.specs.Prelude.{codes, decimal, All, if◌then◌else◌, Bool, true, false, ◌==◌}
use Rattle.std.specs.List.{flat_map}
use Rattle.std.specs.Option.{ForSome}
use Rattle.std.proofs.Math.Nat.{mul-le-mul_right}
use Rattle.std.proofs.lemmas.Bool.{leb-true}
use Rattle.std.proofs.lemmas.Fmt.{length-decimal-le}
use Rattle.std.proofs.lemmas.List.{length-append}
use Rattle.std.proofs.lemmas.List.Elements.{All-nil, All-cons, All-head, All-tail, All-weaker}
use Rattle.byteorder.specs.Endian.{big_bytes}
use Rattle.qh_gates.specs.declared.gate.Gate.{Gate}
use Rattle.qh_gates.specs.declared.kind.Kind.{Kind}
use Rattle.qh_gates.specs.Tables.{name_text, qubits_of}
use Rattle.qh_gates.specs.Circuits.{Circuit, IsCircuit, Fits}
use Rattle.qh_gates.proofs.KindLemmas.{each_kind}
use Rattle.qh_circuit.specs.Spelling.{spaced_number, second_text, gate_text, gate_line, circuit_text}
use Rattle.qh_text.specs.Bitstrings.{bits_text}
use Rattle.qh_text.proofs.BitLemmas.{bits_length}
use Rattle.qh_plan.specs.Jobs.{Job, IsJob}
use Rattle.qh_plan.specs.Texts.{word, words, prefix_text, bits_line, gates_text, asked_text, job_text}
use Rattle.qh_plan.proofs.OneTextLemmas.{written, one_job}
use Rattle.qh_slots.specs.Layout.{head, part}
use Rattle.qh_slots.specs.Laws.{OneOwnerLaw}
use Rattle.qh_slots.proofs.ReadLemmas.{one_path}
use Rattle.qh_slots.proofs.StandLemmas.{head_size, part_taken}

-- ---- the text of a job has far fewer than 2^64 bytes
number_short : (n : ℕ) → n < 2 ^ 32 → length (decimal n) ≤ 10
number_short n low = length-decimal-le 10 n (omega arith) (omega arith) (omega arith)

-- pieces of at most m bytes
pieces_short : {X : Type 0} (f : X → List ℕ) (m : ℕ) (xs : List X) → All (λ x. length (f x) ≤ m) xs → length (flat_map f xs) ≤ length xs * m
pieces_short f m [] each = omega arith
pieces_short f m (x ∷ xs) each =
    let here = All-head (λ y. length (f y) ≤ m) x xs each in
    let rest = pieces_short f m xs (All-tail (λ y. length (f y) ≤ m) x xs each) in
    let both = length-append (f x) (flat_map f xs) in
    grind arith

-- at most `most` pieces
few_short : {X : Type 0} (f : X → List ℕ) (m most : ℕ) (xs : List X) → All (λ x. length (f x) ≤ m) xs → length xs ≤ most → length (flat_map f xs) ≤ most * m
few_short f m most xs each few = let all = pieces_short f m xs each in let more = mul-le-mul_right m few in omega arith

words_short : (name numbers : List ℕ) (most : ℕ) → All (λ n. n < 2 ^ 32) numbers → length numbers ≤ most → length (words name numbers) ≤ length name + most * 11
words_short name numbers most small few =
    let all = few_short word 11 most numbers (All-weaker (λ n. n < 2 ^ 32) (λ n. length (word n) ≤ 11)
    (λ n low. let d = number_short n low in omega arith) numbers small) few in
    let both = length-append name (flat_map word numbers) in
    omega arith

name_short : (kind : Kind) → length (name_text kind) ≤ 8
name_short kind = leb-true (length (name_text kind)) 8 (each_kind (λ k. leb (length (name_text k)) 8) refl kind)

second_short : (b : Bool) (n : ℕ) → n < 2 ^ 32 → length (if b then spaced_number n else []) ≤ 11
second_short true n low = let d = number_short n low in omega arith
second_short false n low = omega arith

line_short : (g : Gate) → g.time < 2 ^ 32 → g.q0 < 2 ^ 32 → g.q1 < 2 ^ 32 → length (gate_line g) ≤ 42
unfolding gate_text
line_short g time first second =
    let a = number_short g.time time in
    let b = name_short g.kind in
    let c = number_short g.q0 first in
    let d = second_short (qubits_of g.kind == 2) g.q1 second in
    let w = length-append (decimal g.time) (32 ∷ name_text g.kind) in
    let x = length-append (decimal g.time ++ (32 ∷ name_text g.kind)) (spaced_number g.q0) in
    let y = length-append (decimal g.time ++ (32 ∷ name_text g.kind) ++ spaced_number g.q0) (second_text g) in
    let whole : length (gate_text g) ≡ length (decimal g.time ++ (32 ∷ name_text g.kind) ++ spaced_number g.q0 ++ second_text g) = refl in
    let z = length-append (gate_text g) (10 ∷ []) in
    omega arith

lines_short : (n : ℕ) (gates : List Gate) → n ≤ 40 → All (Fits n) gates → All (λ g. g.time < 2 ^ 32) gates → All (λ g. length (gate_line g) ≤ 42) gates
lines_short n [] few fit times = All-nil (λ (g : Gate). length (gate_line g) ≤ 42)
lines_short n (g ∷ gates) few fit times =
    let here = All-head (Fits n) g gates fit in
    let first = here.first in
    let second = here.second in
    All-cons (λ (x : Gate). length (gate_line x) ≤ 42) g gates (line_short g (All-head (λ (x : Gate). x.time < 2 ^ 32) g gates times) (omega arith)
    (omega arith))
    (lines_short n gates few (All-tail (Fits n) g gates fit) (All-tail (λ (x : Gate). x.time < 2 ^ 32) g gates times))

circuit_short : (c : Circuit) → IsCircuit c → length (circuit_text c) ≤ 172043
unfolding circuit_text
circuit_short c is =
    let n = is.few in
    let q = number_short c.qubits (omega arith) in
    let lines = few_short gate_line 42 4096 c.gates (lines_short c.qubits c.gates is.few is.fit is.times) is.short in
    let both = length-append (decimal c.qubits) (10 ∷ flat_map gate_line c.gates) in
    omega arith

prefix_short : (o : Option ℕ) → ForSome o (λ w. w < 2 ^ 32) → length (prefix_text o) ≤ 17
prefix_short None low = omega arith
prefix_short (Some w) low = words_short (codes "prefix") (w ∷ []) 1 (All-cons (λ n. n < 2 ^ 32) w [] (low w refl) (All-nil (λ n. n < 2 ^ 32))) (omega arith)

asked_short : (c : Circuit) (bits : List ℕ) → IsCircuit c → length bits ≤ 4096 → length (asked_text c bits) ≤ 1000000
asked_short c bits is few =
    let n = is.few in
    let g = is.short in
    let one = λ (m : ℕ) (low : m < 2 ^ 32). All-cons (λ n. n < 2 ^ 32) m [] low (All-nil (λ n. n < 2 ^ 32)) in
    let count = words_short (codes "bits") (length bits ∷ []) 1 (one (length bits) (omega arith)) (omega arith) in
    let gates = words_short (codes "gates") (length c.gates ∷ []) 1 (one (length c.gates) (omega arith)) (omega arith) in
    let strings = few_short (bits_line c.qubits) 41 4096 bits (each bits n) few in
    let circuit = circuit_short c is in
    let x = length-append (words (codes "gates") (length c.gates ∷ [])) (10 ∷ circuit_text c) in
    let y = length-append (flat_map (bits_line c.qubits) bits) (gates_text c) in
    let z = length-append (words (codes "bits") (length bits ∷ [])) (10 ∷ (flat_map (bits_line c.qubits) bits ++ gates_text c)) in
    omega arith
  where
    each : (xs : List ℕ) → c.qubits ≤ 40 → All (λ x. length (bits_line c.qubits x) ≤ 41) xs
    each [] low = All-nil (λ x. length (bits_line c.qubits x) ≤ 41)
    each (x ∷ xs) low = All-cons (λ y. length (bits_line c.qubits y) ≤ 41) x xs (let l = bits_length c.qubits x in
        let a = length-append (bits_text c.qubits x) (10 ∷ []) in omega arith) (each xs low)

text_short : (j : Job) → IsJob j → length (job_text j) < 2 ^ 64
unfolding job_text
text_short j is =
    let w = written j is in
    let n = is.narrow_one in
    let part = words_short (codes "part") j.part 20 w.part n in
    let split = words_short (codes "split") (j.p ∷ j.r ∷ []) 2 (All-cons (λ n. n < 2 ^ 32) j.p (j.r ∷ []) w.p
    (All-cons (λ n. n < 2 ^ 32) j.r [] w.r (All-nil (λ n. n < 2 ^ 32)))) (omega arith) in
    let prefix = prefix_short j.prefix w.prefix in
    let asked = asked_short j.circuit j.bits is.valid is.few_bits in
    let x = length-append (prefix_text j.prefix) (10 ∷ asked_text j.circuit j.bits) in
    let y = length-append (words (codes "split") (j.p ∷ j.r ∷ [])) (10 ∷ (prefix_text j.prefix ++ 10 ∷ asked_text j.circuit j.bits)) in
    let z = length-append (words (codes "part") j.part) (10 ∷ (words (codes "split") (j.p ∷ j.r ∷ []) ++ 10 ∷
    (prefix_text j.prefix ++ 10 ∷ asked_text j.circuit j.bits))) in
    omega arith

-- ---- the parts of the head
head_count : (j : Job) → part 8 8 (head j) ≡ big_bytes 8 (length (job_text j))
unfolding head
head_count j = refl

head_text : (j : Job) → drop 32 (head j) ≡ job_text j
unfolding head
head_text j = refl

-- one text where the heads of both begin a file
one_text : (i j : Job) (f : List ℕ) → length (job_text i) < 2 ^ 64 → length (job_text j) < 2 ^ 64 → take (length (head i)) f ≡ head i
    → take (length (head j)) f ≡ head j → job_text i ≡ job_text j
one_text i j f si sj bi bj =
    let hi = head_size i in
    let hj = head_size j in
    let same : length (job_text i) ≡ length (job_text j) = one_path (length (job_text i)) (length (job_text j)) si sj
    (sym (head_count i) ∙ ap (part 8 8) (sym bi) ∙ part_taken 8 8 (length (head i)) f (omega arith)
    ∙ sym (part_taken 8 8 (length (head j)) f (omega arith)) ∙ ap (part 8 8) bj ∙ head_count j) in
    let long : length (head i) ≡ length (head j) = omega arith in
    sym (head_text i) ∙ ap (drop 32) (sym bi ∙ ap (λ (n : ℕ). take n f) long ∙ bj) ∙ head_text j

pub one_owner : OneOwnerLaw
one_owner i j is_i is_j s t f stands other = one_job i j is_i is_j (one_text i j f (text_short i is_i) (text_short j is_j) stands.begins other.begins)
