-- What a sweep gathers, and what it leaves when it is recorded.
use Rattle.std.proofs.Common.{◌≡◌, ◌≢◌, ◌⊎◌, ℕ, ◌+◌, ◌<◌, ◌≤◌, inl, inr, Bool, true, false, not, List, [], ◌∷◌, ◌++◌, All, length, set, Option, Some, None, refl, arith, sym, ap, subst, ◌∙◌, get_or-set_same, get_or-set_other, length-append}
use Rattle.std.specs.Prelude.{if◌then◌else◌}
use Rattle.std.proofs.lemmas.Bool.{cases_eq, cases_lt}
use Rattle.std.proofs.lemmas.List.{length-set}
use Rattle.std.proofs.lemmas.List.Elements.{All-nil, All-push, All-head, All-tail}
use Rattle.qh_plan.specs.Jobs.{Job}
use Rattle.qh_disk.specs.Disk.{Face}
use Rattle.qh_journal.specs.Calls.{Went}
use Rattle.qh_lease.specs.declared.lease.Lease.{Lease}
use Rattle.qh_lease.specs.declared.lease.Lease.TheVariants.{Fresh, Acked}
use Rattle.qh_lease.specs.declared.totals.Totals.{Totals}
use Rattle.qh_lease.specs.Lease.{lease_at, is_acked, NonePasses, IsLowest}
use Rattle.qh_core.specs.Replay.{CourseView, is_open}
use Rattle.qh_range.specs.Results.{RangeResult}
use Rattle.qh_board.specs.Board.{BoardView, begun, Serves}
use Rattle.qh_board.specs.Deliveries.{acknowledged, Halts}
use Rattle.qh_board.specs.Groups.{kept, all_acknowledged, RecordsAll}
use Rattle.qh_run.specs.Carrying.{Carries}
use Rattle.qh_run.specs.Sweeping.{Gathers, IsGathered}

-- ---- what is gathered
gathers_push : (group : List RangeResult) (x : RangeResult) (q : ℕ) → Gathers group q → Gathers (group ++ x ∷ []) q
gathers_push [] x q is = absurd is
gathers_push (r ∷ group) x q (inl same) = inl same
gathers_push (r ∷ group) x q (inr is) = inr (gathers_push group x q is)

gathers_last : (group : List RangeResult) (x : RangeResult) → Gathers (group ++ x ∷ []) x.range
gathers_last [] x = inl refl
gathers_last (r ∷ group) x = inr (gathers_last group x)

pub gathered_none : (j : Job) (leases : List Lease) (from : ℕ) → IsGathered j leases from from []
gathered_none j leases from = record {
  job = All-nil (λ r. r.job ≡ j);
  below = All-nil (λ r. r.range < length leases);
  each = λ range low high. absurd (never range low high);
}
  where
    never : (range : ℕ) → from ≤ range → range < from → ⊥
    never range low high = omega arith

pub gathered_more : (j : Job) (leases : List Lease) (from next : ℕ) (group : List RangeResult) (x : RangeResult) → IsGathered j leases from next group → x.job ≡ j
    → IsLowest is_open next leases x.range → IsGathered j leases from (x.range + 1) (group ++ x ∷ [])
gathered_more j leases from next group x is job lowest = record {
  job = All-push (λ r. r.job ≡ j) group x is.job job;
  below = All-push (λ r. r.range < length leases) group x is.below lowest.within;
  each = λ range low high. elim (cases_lt range next) [
    | inl early ↦ elim (is.each range low early) [
      | inl acked ↦ inl acked
      | inr here ↦ inr (gathers_push group x range here)
    ]
    | inr late ↦ elim (cases_eq range x.range) [
      | inl same ↦ inr (subst (Gathers (group ++ x ∷ [])) (sym same) (gathers_last group x))
      | inr other ↦ inl (lowest.lowest range late (omega arith))
    ]
  ];
}

pub gathered_rest : (j : Job) (leases : List Lease) (from next end : ℕ) (group : List RangeResult) → IsGathered j leases from next group → NonePasses is_open next leases
    → end ≡ length leases → IsGathered j leases from end group
gathered_rest j leases from next end group is none all = record {
  job = is.job;
  below = is.below;
  each = λ range low high. elim (cases_lt range next) [
    | inl early ↦ is.each range low early
    | inr late ↦ inl (none range late (subst (λ n. range < n) all high))
  ];
}

-- one result more
pub length_push : (group : List RangeResult) (x : RangeResult) (n : ℕ) → length group ≡ n → length (group ++ x ∷ []) ≡ n + 1
length_push group x n e = length-append group (x ∷ []) ∙ ap (λ m. m + 1) e

pub forward_more : (from place next range result : ℕ) → from + place ≤ next → next ≤ range → result ≡ range → from + (place + 1) ≤ result + 1
forward_more from place next range result before above is = omega arith

-- ---- what is recorded
closed_by : (lease : Lease) → is_acked lease ≡ true → is_open lease ≡ false
closed_by lease acked = ap not acked

acked_set : (leases : List Lease) (r q : ℕ) → r < length leases → (is_open (lease_at leases q) ≡ false) ⊎ (r ≡ q) → is_open (lease_at (set leases r Acked) q) ≡ false
acked_set leases r q below (inr same) = ap is_open (ap (lease_at (set leases r Acked)) (sym same) ∙ get_or-set_same leases r Acked Fresh below)
acked_set leases r q below (inl acked) = elim (cases_eq q r) [
  | inl same ↦ ap is_open (ap (lease_at (set leases r Acked)) same ∙ get_or-set_same leases r Acked Fresh below)
  | inr other ↦ ap is_open (get_or-set_other leases r q Acked Fresh other) ∙ acked
]

-- the first result of a group is dropped where its range is acknowledged, and else recorded
acked_step : (r : RangeResult) (group : List RangeResult) (c : CourseView) (q : ℕ) → r.range < length c.leases → (is_open (lease_at c.leases q) ≡ false) ⊎ Gathers (r ∷ group) q
    → ((is_open (lease_at c.leases q) ≡ false) ⊎ Gathers group q → is_open (lease_at (all_acknowledged c (kept c.leases group)).leases q) ≡ false)
    → ((is_open (lease_at (set c.leases r.range Acked) q) ≡ false) ⊎ Gathers group q
    → is_open (lease_at (all_acknowledged (acknowledged c r.range r.attempt) (kept (set c.leases r.range Acked) group)).leases q) ≡ false)
    → (b : Bool) → is_acked (lease_at c.leases r.range) ≡ b
    → is_open (lease_at (all_acknowledged c (if b then kept c.leases group else r ∷ kept (set c.leases r.range Acked) group)).leases q) ≡ false
acked_step r group c q inside is skip put true at = skip (held is)
  where
    held : (is_open (lease_at c.leases q) ≡ false) ⊎ Gathers (r ∷ group) q → (is_open (lease_at c.leases q) ≡ false) ⊎ Gathers group q
    held (inl acked) = inl acked
    held (inr (inl same)) = inl (subst (λ n. is_open (lease_at c.leases n) ≡ false) same (closed_by (lease_at c.leases r.range) at))
    held (inr (inr here)) = inr here
acked_step r group c q inside is skip put false at = put (placed is)
  where
    placed : (is_open (lease_at c.leases q) ≡ false) ⊎ Gathers (r ∷ group) q → (is_open (lease_at (set c.leases r.range Acked) q) ≡ false) ⊎ Gathers group q
    placed (inl acked) = inl (acked_set c.leases r.range q inside (inl acked))
    placed (inr (inl same)) = inl (acked_set c.leases r.range q inside (inr same))
    placed (inr (inr here)) = inr here

pub acked_recorded : (group : List RangeResult) (c : CourseView) (q : ℕ) → All (λ r. r.range < length c.leases) group → (is_open (lease_at c.leases q) ≡ false) ⊎ Gathers group q
    → is_open (lease_at (all_acknowledged c (kept c.leases group)).leases q) ≡ false
acked_recorded [] c q below (inl acked) = acked
acked_recorded [] c q below (inr is) = absurd is
acked_recorded (r ∷ group) c q below is =
    let rest : All (λ r. r.range < length c.leases) group = All-tail (λ r. r.range < length c.leases) r group below in
    acked_step r group c q (All-head (λ r. r.range < length c.leases) r group below) is (acked_recorded group c q rest)
    (acked_recorded group (acknowledged c r.range r.attempt) q (subst (λ n. All (λ (x : RangeResult). x.range < n) group) (sym (length-set c.leases r.range Acked)) rest))
    (is_acked (lease_at c.leases r.range)) refl

pub length_recorded : (results : List RangeResult) (c : CourseView) → length (all_acknowledged c results).leases ≡ length c.leases
length_recorded [] c = refl
length_recorded (r ∷ results) c = length_recorded results (acknowledged c r.range r.attempt) ∙ length-set c.leases r.range Acked

pub fault_recorded : (results : List RangeResult) (c : CourseView) → (all_acknowledged c results).fault ≡ c.fault
fault_recorded [] c = refl
fault_recorded (r ∷ results) c = fault_recorded results (acknowledged c r.range r.attempt)

-- where all are acknowledged, none is recorded
kept_none : (leases : List Lease) (group : List RangeResult) → All (λ r. r.range < length leases) group → NonePasses is_open 0 leases → kept leases group ≡ []
kept_none leases [] below none = refl
kept_none leases (r ∷ group) below none =
    let inside : r.range < length leases = All-head (λ r. r.range < length leases) r group below in
    let acked : is_acked (lease_at leases r.range) ≡ true = by (is_acked (lease_at leases r.range)) (none r.range (omega arith) inside) in
    ap (λ (b : Bool). if b then kept leases group else r ∷ kept (set leases r.range Acked) group) acked
    ∙ kept_none leases group (All-tail (λ r. r.range < length leases) r group below) none
  where
    by : (is : Bool) → not is ≡ false → is ≡ true
    by true e = refl
    by false e = sym e

module _ {D T : Type 0} (face : D → Face) (loans : D → List ℕ) (old new : BoardView D T) (before after : Totals) (group : List RangeResult)
    (below : All (λ r. r.range < length old.course.leases) group) (some : kept old.course.leases group ≢ [])
    (went : Went (Serves face loans old.job) old.journal.disk new.journal.disk) (same : (range : ℕ) → begun new range ≡ begun old range) where
  pub group_carries : RecordsAll old new before after (kept old.course.leases group) → Carries face loans old new
  group_carries recorded =
      let is = recorded.board in record {
        job = ap (λ b. b.job) is;
        count = ap (λ b. length b.course.leases) is ∙ length_recorded (kept old.course.leases group) old.course;
        begun = same;
        disk = went;
        timer = ap (λ b. b.timer.ghost_name) is;
        still = λ none. absurd (some (kept_none old.course.leases group below none));
      }

  pub group_halts : Halts face old new before after → Carries face loans old new
  group_halts halts =
      let is = halts.board in record {
        job = ap (λ b. b.job) is;
        count = ap (λ b. length b.course.leases) is;
        begun = same;
        disk = went;
        timer = ap (λ b. b.timer.ghost_name) is;
        still = λ none. absurd (some (kept_none old.course.leases group below none));
      }

-- ---- the sweep goes on
pub swept_on : (j : Job) (old new : List Lease) (from next : ℕ) (group : List RangeResult) → IsGathered j old from next group
    → ((q : ℕ) → (is_open (lease_at old q) ≡ false) ⊎ Gathers group q → is_open (lease_at new q) ≡ false)
    → ((r : ℕ) → r < from → is_open (lease_at old r) ≡ false) → (r : ℕ) → r < next → is_open (lease_at new r) ≡ false
swept_on j old new from next group is recorded before r below = elim (cases_lt r from) [
  | inl early ↦ recorded r (inl (before r early))
  | inr late ↦ recorded r (is.each r late below)
]
