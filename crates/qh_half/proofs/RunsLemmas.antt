-- Runs of turns on the numbers of a half.
use Rattle.std.proofs.Common.{◌≡◌, ℕ, ◌+◌, ◌-◌, ◌/◌, ◌<◌, ◌≤◌, List, [], ◌∷◌, ◌++◌, length, take, drop, refl, sym, ap, subst, ◌∙◌, arith}
use Rattle.std.specs.Prelude.{Option, Some, None}
use Rattle.std.specs.List.{All}
use Rattle.std.proofs.Math.Seq.{take-add}
use Rattle.qh_ring.specs.declared.number.Omega.{Omega}
use Rattle.std.proofs.lemmas.List.{length-map, length-drop, take_all, take_rest}
use Rattle.qh_ring.specs.Numbers.{IsWithin, times_root}
use Rattle.qh_ring.specs.States.{applied_list}
use Rattle.qh_passes.specs.declared.turn.Turn.{Turn}
use Rattle.qh_passes.specs.Turns.{matrix_in, qubits_in, turned, after_turns, StayWithin}
use Rattle.qh_passes.proofs.StayLemmas.{stay_last}
use Rattle.qh_passes.proofs.RunLemmas.{length_after}
use Rattle.qh_narrow.specs.Factor.{with_factor}
use Rattle.qh_half.specs.declared.form.Form.{Form}
use Rattle.qh_half.specs.declared.places.Places.{Places}
use Rattle.qh_half.specs.Halves.{IsVector, AfterMatrix, AfterTurns}
use Rattle.qh_half.specs.Forms.{held, IsKept}
use Rattle.qh_half.proofs.RootLemmas.{moved_numbers, all_widened}

-- ---- one run after another
pub runs_append : (run more : List Turn) (a b c : Option (List Omega)) → AfterTurns run a b → AfterTurns more b c → AfterTurns (run ++ more) a c
runs_append [] more a b c h k = subst (λ t. AfterTurns more t c) h k
runs_append (turn ∷ run) more a b c h k = (h.0, h.1, runs_append run more h.0 b c h.2 k)

pub runs_split : (run more : List Turn) (a c : Option (List Omega)) → AfterTurns (run ++ more) a c → (b : Option (List Omega)) × AfterTurns run a b × AfterTurns more b c
runs_split [] more a c h = (a, refl, h)
runs_split (turn ∷ run) more a c h =
    let s = runs_split run more h.0 c h.2 in
    (s.0, (h.0, h.1, s.1), s.2)

pub runs_one : (turn : Turn) (a b : Option (List Omega)) → AfterMatrix (matrix_in turn) (qubits_in turn) a b → AfterTurns (turn ∷ []) a b
runs_one turn a b h = (b, h, refl)

-- ---- a run on numbers out of which roots were taken
pub runs_held : (s bits : ℕ) (run : List Turn) (v : List Omega) → bits + (s + 1) / 2 ≤ 126 → StayWithin bits run v
    → AfterTurns run (Some (with_factor s v)) (Some (with_factor s (after_turns run v)))
runs_held s bits [] v l h = refl
runs_held s bits (turn ∷ run) v l h = (
  Some (with_factor s (turned turn v)),
  (moved_numbers s (matrix_in turn) (qubits_in turn) v (turned turn v) refl, all_widened s bits 126 (turned turn v) l (stays_first bits run (turned turn v) h.1)),
  runs_held s bits run (turned turn v) l h.1,
)
  where
    stays_first : (bits : ℕ) (run : List Turn) (v : List Omega) → StayWithin bits run v → All (IsWithin bits) v
    stays_first bits [] v h = h
    stays_first bits (turn ∷ run) v h = h.0

pub runs_vector : (qubits s bits : ℕ) (run : List Turn) (v : List Omega) → bits + (s + 1) / 2 ≤ 126 → IsVector qubits (with_factor s v) → StayWithin bits run v
    → IsVector qubits (with_factor s (after_turns run v))
runs_vector qubits s bits run v l h stay = record {
  len = length-map (after_turns run v) (times_root s) ∙ length_after run v ∙ sym (length-map v (times_root s)) ∙ h.len;
  within = all_widened s bits 126 (after_turns run v) l (stay_last bits run v stay);
}

-- ---- how far a run has come
pub record IsPartWay (qubits : ℕ) (run : List Turn) (done : ℕ) (old : Option (List Omega)) (form : Form) (places : Places) : Type 0 where
  pub kept : IsKept qubits form places
  pub few : done ≤ length run
  pub after : AfterTurns (take done run) old (held form places)

pub way_none : (qubits : ℕ) (run : List Turn) (form : Form) (places : Places) → IsKept qubits form places → IsPartWay qubits run 0 (held form places) form places
way_none qubits run form places k = record { kept = k; few = omega arith; after = refl }

-- some more turns of the rest
pub way_more : (qubits : ℕ) (run : List Turn) (done taken : ℕ) (old : Option (List Omega)) (form form' : Form) (places places' : Places) → IsPartWay qubits run done old form places
    → taken ≤ length (take (length run - done) (drop done run)) → IsKept qubits form' places'
    → AfterTurns (take taken (take (length run - done) (drop done run))) (held form places) (held form' places') → IsPartWay qubits run (done + taken) old form' places'
way_more qubits run done taken old form form' places places' h few k a =
    let rest : take (length run - done) (drop done run) ≡ drop done run = take_rest run done in record {
      kept = k;
      few = let f = h.few in let n = ap length rest in let l = length-drop done run in omega arith;
      after = subst (λ ts. AfterTurns ts old (held form' places')) (sym (take-add done taken run))
          (runs_append (take done run) (take taken (drop done run)) old (held form places) (held form' places') h.after
          (subst (λ ts. AfterTurns (take taken ts) (held form places) (held form' places')) rest a));
    }

pub way_all : (qubits : ℕ) (run : List Turn) (done : ℕ) (old : Option (List Omega)) (form : Form) (places : Places) → length run ≤ done → IsPartWay qubits run done old form places
    → AfterTurns run old (held form places)
way_all qubits run done old form places l h = subst (λ ts. AfterTurns ts old (held form places)) (take_all done run l) h.after
