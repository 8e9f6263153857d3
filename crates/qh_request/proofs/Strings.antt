-- From basis indices to the strings that were asked.
use Rattle.std.proofs.Common.{◌≡◌, ◌==◌, ℕ, ◌+◌, ◌^◌, ◌<◌, nat_le, min, Bool, true, false, not, if◌then◌else◌, List, [], ◌∷◌, ◌++◌, length, map, All, Ok, Err, Result, decimal, refl, sym, ap, subst, ◌∙◌, append_assoc}
use Rattle.std.proofs.Math.Path.{ap₂}
use Rattle.std.specs.declared.option.Option.{Option}
use Rattle.std.specs.declared.option.Option.TheVariants.{Some, None}
use Rattle.std.specs.List.{cons_option}
use Rattle.std.specs.Option.{option_map}
use Rattle.std.specs.Fmt.{signed_decimal}
use Rattle.std.proofs.lemmas.List.Elements.{All-head, All-tail}
use Rattle.std.proofs.lemmas.Bool.{false≢true, eqb-true}
use Rattle.qh_text.specs.Lines.{content_of}
use Rattle.qh_text.specs.LineWords.{trimmed}
use Rattle.qh_bits.specs.Strings.{fault_of}
use Rattle.qh_bits.specs.Texts.{bits_of, answer, faults_in, strings_in, indices_in, strings_of}
use Rattle.qh_bits.specs.declared.faults.BitsFault.{BitsFault}
use Rattle.qh_bits.specs.declared.faults.BitsFault.TheVariants.{Line}
use Rattle.qh_bits.specs.declared.faults.BitsWhy.{BitsWhy}
use Rattle.qh_bits.specs.declared.faults.BitsWhy.TheVariants.{NoStrings}
use Rattle.qh_ring.specs.declared.number.Omega.{Omega}
use Rattle.qh_ring.specs.declared.canon.Canon.{Canon}
use Rattle.qh_gates.specs.Circuits.{Circuit, total_weight}
use Rattle.qh_gates.specs.Evolution.{uncut}
use Rattle.qh_plan.specs.Jobs.{Job, IsJob}
use Rattle.qh_plan.specs.declared.verdict.Verdict.TheVariants.{Sum}
use Rattle.qh_plan.specs.Values.{run_value}
use Rattle.qh_plan.specs.Asked.{asked}
use Rattle.qh_text.specs.Bitstrings.{index_of, bits_text, is_bitstring}
use Rattle.qh_text.specs.Words.{word_of}
use Rattle.qh_text.proofs.BitLemmas.{index_of_string, string_of_index}
use Rattle.qh_prob.specs.declared.prob.Prob.{Prob}
use Rattle.qh_prob.specs.Probability.{probability}
use Rattle.qh_prob.specs.Forms.{IsLeast, prob_line}
use Rattle.qh_prob.specs.Texts.{AreProbLines}
use Rattle.qh_prob.proofs.TextLemmas.{one_least}
use Rattle.qh_print.specs.Output.{IsText, value_line}
use Rattle.qh_print.proofs.ValueLemmas.{one_canon}
use Rattle.qh_words.specs.declared.options.Options.{Options}
use Rattle.qh_words.specs.declared.size.GenSize.{GenSize}
use Rattle.qh_request.specs.Seen.{Seen}
use Rattle.qh_request.specs.Inputs.{IsInput, asked_strings}
use Rattle.qh_request.specs.Lines.{AreLines, value_words, AreProbabilities, prob_words}
use Rattle.qh_disk.specs.Disk.{Face}
use Rattle.qh_request.specs.Jobs.{IsPlannedJob, job_strings}
use Rattle.qh_request.specs.Answer.{IsWholeAnswer, IsAnswerBy, IsCutAnswer, IsValuesText, IsJobText}
use Rattle.qh_request.specs.Indexed.{IsWholeText, IsIndexedBy, IsCutText, IsSumsText}
use Rattle.qh_request.proofs.Asked.{sums_are_asked, none_over, not_kept}
use Rattle.qh_request.proofs.FirstIndices.{first_bits}

-- ---- lines
six : (p q r s t u v : List ℕ) → p ++ q ++ r ++ s ++ t ++ u ++ v ≡ p ++ (q ++ r ++ s ++ t ++ u ++ v)
six p q r s t u v = simp append_assoc refl

four : (p q r s t : List ℕ) → p ++ q ++ r ++ s ++ t ≡ p ++ (q ++ r ++ s ++ t)
four p q r s t = simp append_assoc refl

line_words : (n x : ℕ) (v : Canon) → value_line n x v ≡ bits_text n x ++ value_words v
unfolding value_line value_words
line_words n x v =
    six (bits_text n x) (word_of (signed_decimal v.z.a)) (word_of (signed_decimal v.z.b)) (word_of (signed_decimal v.z.c)) (word_of (signed_decimal v.z.d)) (word_of (decimal v.k)) (10 ∷ [])

lines_named : (n k : ℕ) (xs : List ℕ) (zs : List Omega) (text : List ℕ) → IsText n k xs zs text → AreLines k (map (bits_text n) xs) zs text
lines_named n k [] zs text h = h
lines_named n k (x ∷ xs) [] text h = absurd h
lines_named n k (x ∷ xs) (z ∷ zs) text h =
    (h.0, h.1, h.2, lines_named n k xs zs h.1 h.3, h.4 ∙ ap (λ t. t ++ h.1) (line_words n x h.0))

prob_words_are : (n x : ℕ) (y : Prob) (k : ℕ) → prob_line n x y k ≡ bits_text n x ++ prob_words y k
unfolding prob_line prob_words
prob_words_are n x y k = four (bits_text n x) (word_of (signed_decimal y.p)) (word_of (signed_decimal y.q)) (word_of (decimal k)) (10 ∷ [])

prob_named : (c : Circuit) (xs text : List ℕ) → All (λ x. x < 2 ^ c.qubits) xs → AreProbLines c xs text → AreProbabilities c (map (bits_text c.qubits) xs) text
prob_named c [] text below h = h
prob_named c (x ∷ xs) text below h =
    let named : index_of (bits_text c.qubits x) ≡ x = index_of_string c.qubits x (All-head (λ x. x < 2 ^ c.qubits) x xs below) in (
      h.0,
      h.1,
      h.2,
      subst (λ i. IsLeast (probability (uncut c.gates i)) (total_weight c.gates) h.0 h.1) (sym named) h.3,
      prob_named c xs h.2 (All-tail (λ x. x < 2 ^ c.qubits) x xs below) h.4,
      h.5 ∙ ap (λ t. t ++ h.2) (prob_words_are c.qubits x h.0 h.1),
    )

pub one_probabilities : (c : Circuit) (ss : List (List ℕ)) (s t : List ℕ) → AreProbabilities c ss s → AreProbabilities c ss t → s ≡ t
one_probabilities c [] s t d e = d ∙ sym e
one_probabilities c (x ∷ ss) s t d e =
    let least = one_least _ d.0 e.0 _ d.1 e.1 d.3 e.3 in
    let rest = one_probabilities c ss d.2 e.2 d.4 e.4 in
    d.5 ∙ ap₂ (λ y k. x ++ prob_words y k ++ d.2) least.0 least.1 ∙ ap (λ r. x ++ prob_words e.0 e.1 ++ r) rest ∙ sym e.5

pub one_lines : (k : ℕ) (ss : List (List ℕ)) (values : List Omega) (s t : List ℕ) → AreLines k ss values s → AreLines k ss values t → s ≡ t
one_lines k [] values s t d e = d ∙ sym e
one_lines k (x ∷ ss) [] s t d e = absurd d
one_lines k (x ∷ ss) (z ∷ zs) s t d e =
    let v = one_canon z k d.0 e.0 d.2 e.2 in
    let rest = one_lines k ss zs d.1 e.1 d.3 e.3 in
    d.4 ∙ ap (λ w. x ++ value_words w ++ d.1) v ∙ ap (λ r. x ++ value_words e.0 ++ r) rest ∙ sym e.4

-- ---- indices
index_named : (n : ℕ) (xs : List ℕ) → All (λ x. x < 2 ^ n) xs → map index_of (map (bits_text n) xs) ≡ xs
index_named n [] h = refl
index_named n (x ∷ xs) h =
    ap₂ (λ (y : ℕ) ys. y ∷ ys) (index_of_string n x (All-head (λ x. x < 2 ^ n) x xs h)) (index_named n xs (All-tail (λ x. x < 2 ^ n) x xs h))

values_named : (n : ℕ) (f : ℕ → Omega) (xs : List ℕ) → All (λ x. x < 2 ^ n) xs → map f xs ≡ map (λ s. f (index_of s)) (map (bits_text n) xs)
values_named n f [] h = refl
values_named n f (x ∷ xs) h =
    ap₂ (λ (y : Omega) ys. y ∷ ys) (ap f (sym (index_of_string n x (All-head (λ x. x < 2 ^ n) x xs h)))) (values_named n f xs (All-tail (λ x. x < 2 ^ n) x xs h))

-- ---- strings of a text
answer_ok : (fs : List BitsFault) (indices xs : List ℕ) → answer fs indices ≡ Ok xs → (fs ≡ []) × (indices ≡ xs)
answer_ok (f ∷ fs) indices xs e = absurd (fault_ok f xs e)
  where
    fault_ok : (f : BitsFault) (xs : List ℕ) → ◌≡◌ {A = Result (List ℕ) BitsFault} (Err f) (Ok xs) → ⊥
    fault_ok f xs e = cc
answer_ok [] [] xs e = absurd (none_ok xs e)
  where
    none_ok : (xs : List ℕ) → ◌≡◌ {A = Result (List ℕ) BitsFault} (Err (Line 0 NoStrings)) (Ok xs) → ⊥
    none_ok xs e = cc
answer_ok [] (i ∷ indices) xs e = (refl, same (i ∷ indices) xs e)
  where
    same : (ys xs : List ℕ) → ◌≡◌ {A = Result (List ℕ) BitsFault} (Ok ys) (Ok xs) → ys ≡ xs
    same ys xs e = cc

-- a string without a fault is what its own index is spelled as
no_fault : (n before : ℕ) (s : List ℕ) → fault_of n before s ≡ None → s ≡ bits_text n (index_of s)
no_fault n before s e =
    let f = test_none (nat_le 4096 before) _ _ e in
    let g = test_none (not (is_bitstring s)) _ _ f.1 in
    let h = test_none (not (length s == n)) _ _ g.1 in
    let bits : is_bitstring s ≡ true = not_not (is_bitstring s) g.0 in
    let len : length s ≡ n = eqb-true (length s) n (not_not (length s == n) h.0) in
    sym (string_of_index s bits) ∙ ap (λ m. bits_text m (index_of s)) len
  where
    test_none : (b : Bool) (f : BitsWhy) (rest : Option BitsWhy) → (if b then Some f else rest) ≡ None → (b ≡ false) × (rest ≡ None)
    test_none true f rest e = absurd (some_none f e)
      where
        some_none : (f : BitsWhy) → ◌≡◌ {A = Option BitsWhy} (Some f) None → ⊥
        some_none f e = cc
    test_none false f rest e = (refl, e)

    not_not : (b : Bool) → not b ≡ false → b ≡ true
    not_not true e = refl
    not_not false e = absurd (false≢true (sym e))

spelled : (n before : ℕ) (lines : List (ℕ × List ℕ)) → faults_in n before lines ≡ [] → strings_in lines ≡ map (bits_text n) (indices_in lines)
spelled n before [] e = refl
spelled n before (line ∷ lines) e =
    let h = first_none (fault_of n before (trimmed line.1)) line.0 _ e in
    ap₂ (λ (s : List ℕ) ss. s ∷ ss) (no_fault n before (trimmed line.1) h.0) (spelled n (before + 1) lines h.1)
  where
    first_none : (o : Option BitsWhy) (k : ℕ) (rest : List BitsFault) → cons_option (option_map (Line k) o) rest ≡ [] → (o ≡ None) × (rest ≡ [])
    first_none None k rest e = (refl, e)
    first_none (Some why) k rest e = absurd (cons_nil (Line k why) rest e)
      where
        cons_nil : (f : BitsFault) (fs : List BitsFault) → f ∷ fs ≡ [] → ⊥
        cons_nil f fs e = cc

indices_are : (lines : List (ℕ × List ℕ)) → map index_of (strings_in lines) ≡ indices_in lines
indices_are [] = refl
indices_are (line ∷ lines) = ap (λ xs. index_of (trimmed line.1) ∷ xs) (indices_are lines)

read_strings : (n : ℕ) (text xs : List ℕ) → bits_of n text ≡ Ok xs → (strings_of text ≡ map (bits_text n) xs) × (map index_of (strings_of text) ≡ xs)
unfolding bits_of
read_strings n text xs e =
    let a = answer_ok (faults_in n 0 (content_of text)) (indices_in (content_of text)) xs e in
    (spelled n 0 (content_of text) a.0 ∙ ap (map (bits_text n)) a.1, indices_are (content_of text) ∙ a.1)

-- ---- the asked strings are the spellings of the indices, and name them
module _ (T : ℕ) (circuit bits : Seen) (c : Circuit) (xs : List ℕ) where
  pub asked_named : (g : Option GenSize) (h : IsInput g T circuit bits c xs) → asked_strings g T circuit bits c xs h ≡ map (bits_text c.qubits) xs
  asked_named None h = (read_strings c.qubits h.bits_bytes xs h.bits_file.read).0
  asked_named (Some size) h = refl

  pub asked_indices : (g : Option GenSize) (h : IsInput g T circuit bits c xs) → map index_of (asked_strings g T circuit bits c xs h) ≡ xs
  asked_indices None h = (read_strings c.qubits h.bits_bytes xs h.bits_file.read).1
  asked_indices (Some size) h =
      index_named c.qubits xs (subst (All (λ x. x < 2 ^ c.qubits)) (sym h.indices) (first_bits c.qubits (min (2 ^ c.qubits) 8) refl).below)

-- ---- each line of the text begins with its string
values_text : (g : Option GenSize) (j : Job) (sums : List Omega) (text : List ℕ) → IsSumsText g j sums text → IsValuesText g j (job_strings j) sums text
values_text g j sums text h = record {
  lines = h.lines;
  are_lines = lines_named j.circuit.qubits (total_weight j.circuit.gates) j.bits sums h.lines h.are_lines;
  text_is = h.text_is;
}

-- sums that are the value of the run
pub asked_text : (g : Option GenSize) (j : Job) (sums : List Omega) (text : List ℕ) → IsJob j → run_value j ≡ Sum sums → IsSumsText g j sums text → IsJobText g j (job_strings j) text
asked_text g j sums text is e h =
    let same : sums ≡ map (λ s. asked j (index_of s)) (job_strings j) = sums_are_asked j sums is e ∙ values_named j.circuit.qubits (asked j) j.bits is.bits_below in
    record { none = none_over j sums e; values = subst (λ zs. IsValuesText g j (job_strings j) zs text) same (values_text g j sums text h) }

cut_named : (o : Options) (disk after old : Face) (Granted : ℕ → Type 0) (part : List ℕ) (c : Circuit) (xs text : List ℕ) → All (λ x. x < 2 ^ c.qubits) xs
    → IsCutText o disk after old Granted part c xs text → IsCutAnswer o after part c (map (bits_text c.qubits) xs) text
cut_named o disk after old Granted part c xs text below h =
    let d : h.job.circuit ≡ c = ap (λ (j : Job). j.circuit) h.planned.job in
    let b : h.job.bits ≡ xs = ap (λ (j : Job). j.bits) h.planned.job in
    let ss : job_strings h.job ≡ map (bits_text c.qubits) xs = ap (λ (v : Circuit). map (bits_text v.qubits) h.job.bits) d ∙ ap (map (bits_text c.qubits)) b in
    record {
      job = h.job;
      planned = subst (λ ys. IsPlannedJob o part c ys h.job) (sym (index_named c.qubits xs below)) h.planned;
      slots = h.run.whole.slots;
      ended = h.run.whole.ended;
      full = h.run.whole.full;
      text_is = record {
        sums = h.sums;
        total_is = h.run.whole.total_is;
        values = subst (λ ss. IsValuesText o.generated h.job ss h.sums text) ss (values_text o.generated h.job h.sums text h.text_is);
      };
      unkept = λ none. subst (λ ss. IsJobText o.generated h.job ss text) ss
          (asked_text o.generated h.job h.sums text h.valid (sym (h.run.unkept (not_kept o none))) h.text_is);
    }

whole_named : (prob : Bool) (g : Option GenSize) (c : Circuit) (xs text : List ℕ) → All (λ x. x < 2 ^ c.qubits) xs → IsWholeText prob g c xs text
    → IsWholeAnswer prob g c (map (bits_text c.qubits) xs) text
whole_named true g c xs text below h =
    record { narrow = h.narrow; shallow = h.shallow; lines = h.lines; are_lines = prob_named c xs h.lines below h.are_lines; text_is = h.text_is }
whole_named false g c xs text below h = record {
  narrow = h.narrow;
  never = h.never;
  lines = h.lines;
  are_lines = subst (λ zs. AreLines (total_weight c.gates) (map (bits_text c.qubits) xs) zs h.lines) (values_named c.qubits (uncut c.gates) xs below)
      (lines_named c.qubits (total_weight c.gates) xs (map (uncut c.gates) xs) h.lines h.are_lines);
  text_is = h.text_is;
}

pub named_by : (part : Option (List ℕ)) (o : Options) (disk after old : Face) (Granted : ℕ → Type 0) (c : Circuit) (xs : List ℕ) (ss : List (List ℕ)) (text : List ℕ)
    → ss ≡ map (bits_text c.qubits) xs → All (λ x. x < 2 ^ c.qubits) xs
    → IsIndexedBy part o disk after old Granted c xs text → IsAnswerBy part o after c ss text
named_by part o disk after old Granted c xs ss text e below h = subst (λ ss. IsAnswerBy part o after c ss text) (sym e) (spelled part h)
  where
    spelled : (part : Option (List ℕ)) → IsIndexedBy part o disk after old Granted c xs text → IsAnswerBy part o after c (map (bits_text c.qubits) xs) text
    spelled None h = whole_named o.prob o.generated c xs text below h
    spelled (Some part) h = cut_named o disk after old Granted part c xs text below h
