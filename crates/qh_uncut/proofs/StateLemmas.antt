-- The state that the evolution keeps, as a half keeps one.
use Rattle.std.proofs.Common.{◌≡◌, ℕ, ◌+◌, ◌<◌, ◌≤◌, ◌++◌, List, [], ◌∷◌, length, take, get_or, Option, Some, None, arith, refl, sym, ap, subst, ◌∙◌}
use Rattle.std.specs.Prelude.{IfSome, IsSome, IsNone}
use Rattle.std.proofs.lemmas.List.{take_more, take_all}
use Rattle.qh_ring.specs.declared.number.Omega.{Omega}
use Rattle.qh_ring.specs.Numbers.{nothing}
use Rattle.qh_ring.specs.Matrices.{number_in}
use Rattle.qh_ring.specs.States.{at_index, ground, listed}
use Rattle.qh_gates.specs.declared.gate.Gate.{Gate}
use Rattle.qh_gates.specs.Tables.{matrix_of}
use Rattle.qh_gates.specs.Circuits.{Circuit, IsCircuit, Fits}
use Rattle.qh_gates.specs.Evolution.{wires, IsUncutOver}
use Rattle.qh_half.specs.Halves.{Half, AfterMatrix}
use Rattle.qh_uncut.specs.Progress.{numbers_after, FitsUpTo}
use Rattle.qh_uncut.proofs.EvolutionLemmas.{IsRunning, running_none, gate_done, gate_over, fits_listed}
use Rattle.qh_uncut.proofs.BoundLemmas.{short_fits}

-- the first n gates are done in a state that is not over
pub record IsDone (c : Circuit) (n : ℕ) (h : Half) : Type 0 where
  pub qubits : h.qubits ≡ c.qubits
  pub some : IsSome h.numbers
  pub running : IfSome h.numbers (IsRunning c n)

pub done_none : (c : Circuit) (q : ℕ) (h : Half) → q ≡ c.qubits → h ≡ record { qubits = q; numbers = Some (listed q ground) } → IsDone c 0 h
done_none c q h e f = subst (IsDone c 0) (sym f) (record {
  qubits = e;
  some = refl;
  running = subst (λ n. IsRunning c 0 (listed n ground)) (sym e)
      (running_none c (listed c.qubits ground) refl (fits_listed c.qubits ground (short_fits c.qubits [] (omega arith))));
})

-- the gate at place n of a list that is the circuit's gates
module _ (c : Circuit) (gs : List Gate) (n : ℕ) (z : Gate) (e : gs ≡ c.gates) (valid : IsCircuit c) (l : n < length gs) where
  abbrev pub matrix : ℕ → ℕ → Omega
  matrix = number_in (matrix_of (get_or gs n z).kind)

  ran_more : (old new : Option (List Omega)) → IfSome old (IsRunning c n) → AfterMatrix matrix (wires (get_or gs n z)) old new → IfSome new (IsRunning c (n + 1))
  ran_more None new r a = subst (λ o. IfSome o (IsRunning c (n + 1))) (sym a) tt
  ran_more (Some v) None r a = tt
  ran_more (Some v) (Some w) r a = gate_done c gs n z v w e valid l r a.0 a.1

  pub done_more : (old new : Half) → IsDone c n old → new.qubits ≡ old.qubits → AfterMatrix matrix (wires (get_or gs n z)) old.numbers new.numbers → IsSome new.numbers → IsDone c (n + 1) new
  done_more old new d q a s = record { qubits = q ∙ d.qubits; some = s; running = ran_more old.numbers new.numbers d.running a }

  ran_over : (old new : Option (List Omega)) → IsSome old → IfSome old (IsRunning c n) → AfterMatrix matrix (wires (get_or gs n z)) old new → IsNone new → IsUncutOver c n
  ran_over None new s r a o = absurd (cc)
  ran_over (Some v) (Some w) s r a o = absurd (cc)
  ran_over (Some v) None s r a o = gate_over c gs n z v e valid l r a

  pub done_over : (old new : Half) → IsDone c n old → AfterMatrix matrix (wires (get_or gs n z)) old.numbers new.numbers → IsNone new.numbers → IsUncutOver c n
  done_over old new d a o = ran_over old.numbers new.numbers d.some d.running a o

  pub fits_gate : (q : ℕ) → q ≡ c.qubits → Fits q (get_or gs n z)
  fits_gate q f = subst (λ k. Fits k (get_or gs n z)) (sym f) (subst (λ (xs : List Gate). n < length xs → Fits c.qubits (get_or xs n z)) (sym e) (valid.fit n z) l)

-- its numbers
numbers_done : (c : Circuit) (n : ℕ) (o : Option (List Omega)) → IsSome o → IfSome o (IsRunning c n) → o ≡ Some (numbers_after c n)
numbers_done c n None s r = absurd (cc)
numbers_done c n (Some v) s r = ap Some r.now

pub done_numbers : (c : Circuit) (n : ℕ) (h : Half) → IsDone c n h → h.numbers ≡ Some (numbers_after c n)
done_numbers c n h d = numbers_done c n h.numbers d.some d.running

fits_done : (c : Circuit) (n : ℕ) (o : Option (List Omega)) → IsSome o → IfSome o (IsRunning c n) → FitsUpTo c n
fits_done c n None s r = absurd (cc)
fits_done c n (Some v) s r = r.fits

pub done_fits : (c : Circuit) (n : ℕ) (h : Half) → IsDone c n h → FitsUpTo c n
done_fits c n h d = fits_done c n h.numbers d.some d.running

-- its numbers, once they are written out
pub done_running : (c : Circuit) (n : ℕ) (h : Half) (v : List Omega) → IsDone c n h → h.numbers ≡ Some v → IsRunning c n v
done_running c n h v d e = subst (λ o. IfSome o (IsRunning c n)) e d.running

-- ---- numbers that are written out
-- the first k of the numbers are written
pub record IsWritten (from : Option (List Omega)) (k : ℕ) (to : List Omega) : Type 0 where
  pub front : IfSome from (λ v. to ≡ take k v)

pub written_none : (from : Option (List Omega)) → IsWritten from 0 []
written_none None = record { front = tt }
written_none (Some v) = record { front = refl }

pub written_more : (from : Option (List Omega)) (n k : ℕ) (to : List Omega) (z : Omega) → IfSome from (λ v. length v ≡ n) → k < n → IfSome from (λ v. z ≡ at_index v k)
    → IsWritten from k to → IsWritten from (k + 1) (to ++ z ∷ [])
written_more None n k to z len l is w = record { front = tt }
written_more (Some v) n k to z len l is w = record {
  front = ap (λ (xs : List Omega). xs ++ z ∷ []) w.front ∙ ap (λ y. take k v ++ y ∷ []) is ∙ sym (take_more v k nothing (rw len l));
}

pub written_all : (from : Option (List Omega)) (n k : ℕ) (to : List Omega) → IsSome from → IfSome from (λ v. length v ≡ n) → n ≤ k → IsWritten from k to → from ≡ Some to
written_all None n k to s len l w = absurd (cc)
written_all (Some v) n k to s len l w = ap Some (sym (w.front ∙ take_all k v (rw len l)))
