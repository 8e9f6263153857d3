use Rattle.std.proofs.Common.{◌≡◌, ◌≤◌, ◌+◌, ◌-◌, ◌++◌, ℕ, List, length, take, drop, sym, ap, ◌∙◌, arith, length-append, length-take, length-drop}
use Rattle.std.proofs.lemmas.List.{take_at, take-append-drop, drop-drop}
use Rattle.std.proofs.Math.ListN.{drop_of_length-le}
use Rattle.qh_io.specs.Memory.{Feed}
use Rattle.qh_io.proofs.mem_source.MemSourceSource.read.Goals as goal

-- a piece copied from the front of what is left, and what is then left
fronted : (b buf new : List ℕ) (at n m : ℕ) → m ≡ n → new ≡ take m (drop at b) → n ≤ length b - at → drop at b ≡ take n (new ++ drop n buf) ++ drop (at + n) b
fronted b buf new at n m s e l =
    let len : length new ≡ n = ap length e ∙ length-take m (drop at b) ∙ omega (arith, length-drop at b) in
    let front : take n (new ++ drop n buf) ≡ take n (drop at b) = take_at new (drop n buf) n len ∙ e ∙ ap (λ k. take k (drop at b)) s in
    let rest : drop (at + n) b ≡ drop n (drop at b) = sym (drop-drop n at b) in
    sym (ap (λ x. x ++ drop (at + n) b) front ∙ ap (λ y. take n (drop at b) ++ y) rest ∙ take-append-drop n (drop at b))

pub returns-clause-bytes : goal.returns-clause-bytes
returns-clause-bytes c =
    let s = c.self.inside in
    let n = c.min-count.result in
    let b = s.bytes.items in
    let copied : c.copy_from_slice.new.self ≡ take (s.at + n - s.at) (drop s.at b) =
    c.copy_from_slice.ensures.after ∙ ap (λ x. take (s.at + n - s.at) (drop s.at x)) c.deref-2.ensures.value in
    let left : c.args.self.now.left ≡ drop s.at b = ap (λ (f : Feed). f.left) (sym c.self.view_is) in (
      left ∙ fronted b c.args.buf.now c.copy_from_slice.new.self s.at n (s.at + n - s.at) (omega arith) copied (omega arith),
      λ z some. drop_of_length-le b (omega (arith, length-append c.copy_from_slice.new.self (drop n c.args.buf.now), length-drop n c.args.buf.now)),
    )
