-- What a refusal of the plan says of the words.
use Rattle.std.proofs.Common.{◌≡◌, ℕ, ◌+◌, ◌-◌, ◌^◌, ◌<◌, inl, inr, nat_lt, nat_le, ◌==◌, if◌then◌else◌, Bool, true, false, List, [], ◌∷◌, ◌++◌, length, take, IfSome, IsSome, refl, subst, arith}
use Rattle.std.specs.declared.option.Option.{Option}
use Rattle.std.specs.declared.option.Option.TheVariants.{Some, None}
use Rattle.std.specs.List.{list_any}
use Rattle.std.proofs.lemmas.Bool.{false≢true, ltb-true}
use Rattle.qh_gates.specs.Circuits.{Circuit}
use Rattle.qh_plan.specs.Jobs.{job_radices, ranges}
use Rattle.qh_plan.specs.Paths.{path_count}
use Rattle.qh_plan.specs.Plans.{first_fault, job_of, item_fault, width_fault, path_fault, split_fault, size_fault, or_else, is_past}
use Rattle.qh_plan.specs.Texts.{journal_length}
use Rattle.qh_plan.specs.declared.fault.PlanFault.{PlanFault}
use Rattle.qh_words.specs.declared.options.Options.{Options}
use Rattle.qh_request.specs.Refusals.{PartRefuses, PlanRefusesBy, IsOfSplit, IsOfPart, IsOfCut}
use Rattle.qh_request.specs.Chosen.{is_auto}

either : (P : PlanFault → Type 0) (a b : Option PlanFault) → IfSome a P → IfSome b P → IfSome (or_else a b) P
either P None b h k = k
either P (Some f) b h k = h

-- a test and then the rest
tested : (P : PlanFault → Type 0) (b : Bool) (f : PlanFault) (rest : Option PlanFault) → (b ≡ true → P f) → IfSome rest P → IfSome (if b then Some f else rest) P
tested P true f rest h k = h refl
tested P false f rest h k = k

module _ (p r : ℕ) (w : Option ℕ) where
  of_items : (n : ℕ) (earlier items : List ℕ) → IfSome (item_fault n earlier items) (IsOfSplit p r w)
  of_items n earlier [] = tt
  of_items n earlier (q ∷ items) =
      tested (IsOfSplit p r w) (nat_le n q) _ _ (λ e. tt)
      (tested (IsOfSplit p r w) (list_any (λ k. k == q) earlier) _ _ (λ e. tt) (of_items n (earlier ++ q ∷ []) items))

  of_widths : (n m : ℕ) → IfSome (width_fault n m) (IsOfSplit p r w)
  of_widths n m =
      tested (IsOfSplit p r w) (m == 0) _ _ (λ e. tt)
      (tested (IsOfSplit p r w) (m == n) _ _ (λ e. tt)
      (tested (IsOfSplit p r w) (nat_lt 20 m) _ _ (λ e. tt)
      (tested (IsOfSplit p r w) (nat_lt 20 (n - m)) _ _ (λ e. tt) tt)))

  of_paths : (radices : List ℕ) → IfSome (path_fault radices) (IsOfSplit p r w)
  of_paths radices =
      tested (IsOfSplit p r w) (nat_lt 32 (length radices)) _ _ (λ e. tt)
      (tested (IsOfSplit p r w) (nat_lt (2 ^ 32) (path_count radices)) _ _ (λ e. tt) tt)

  more : (n m : ℕ) → nat_lt n m ≡ true → 0 < m
  more n m e = omega (arith, ltb-true n m e)

  given : (n : ℕ) (w : Option ℕ) → is_past n w ≡ true → IsSome w
  given n None e = absurd (false≢true e)
  given n (Some w) e = refl

  of_split : (radices : List ℕ) → IfSome (split_fault radices p r w) (IsOfSplit p r w)
  of_split radices =
      tested (IsOfSplit p r w) (nat_lt (length radices) (p + r)) _ _ (more (length radices) (p + r))
      (tested (IsOfSplit p r w) (is_past (path_count (take p radices)) w) _ _ (given (path_count (take p radices)) w) tt)

  of_size : (n bytes : ℕ) → IfSome (size_fault n bytes) (IsOfSplit p r w)
  of_size n bytes =
      tested (IsOfSplit p r w) (nat_lt 16384 n) _ _ (λ e. tt)
      (tested (IsOfSplit p r w) (nat_lt 1073741824 bytes) _ _ (λ e. tt) tt)

  of_first : (c : Circuit) (items xs : List ℕ) → IfSome (first_fault c items p r w xs) (IsOfSplit p r w)
  unfolding first_fault
  of_first c items xs =
      let j = job_of c items p r w xs in
      either (IsOfSplit p r w) (item_fault c.qubits [] items) _ (of_items c.qubits [] items)
      (either (IsOfSplit p r w) (width_fault c.qubits (length j.part)) _ (of_widths c.qubits (length j.part))
      (either (IsOfSplit p r w) (path_fault (job_radices j)) _ (of_paths (job_radices j))
      (either (IsOfSplit p r w) (split_fault (job_radices j) p r w) _ (of_split (job_radices j)) (of_size (ranges j) (journal_length j)))))

there : (o : Option PlanFault) (f : PlanFault) (P : PlanFault → Type 0) → o ≡ Some f → IfSome o P → P f
there None f P e h = cc
there (Some g) f P e h = subst P (same g f e) h
  where
    same : (g f : PlanFault) → ◌≡◌ {A = Option PlanFault} (Some g) (Some f) → g ≡ f
    same g f e = cc

words_of_part : (auto : Bool) (part : List ℕ) (o : Options) (c : Circuit) (xs : List ℕ) (fault : PlanFault) → PartRefuses auto part o c xs fault → IsOfPart auto part o fault
words_of_part true part o c xs fault h = h
words_of_part false part o c xs fault (inl h) = inl h
words_of_part false part o c xs fault (inr h) = inr (h.0, h.1, there (first_fault c h.0 o.p o.r o.w xs) fault (IsOfSplit o.p o.r o.w) h.2 (of_first o.p o.r o.w c h.0 xs))

pub words_of_plan : (part : Option (List ℕ)) (o : Options) (c : Circuit) (xs : List ℕ) (fault : PlanFault) → PlanRefusesBy part o c xs fault → IsOfCut part o fault
words_of_plan None o c xs fault h = (c.qubits, h.0)
words_of_plan (Some part) o c xs fault h = words_of_part (is_auto part) part o c xs fault h
