use Rattle.std.proofs.Common.{◌≡◌, ◌+◌, ◌≤◌, ◌++◌, ℕ, List, length, ap, ◌∙◌, arith, rules}
use Rattle.qh_ring.specs.declared.number.Omega.{Omega}
use Rattle.std.proofs.lemmas.List.{length-append}
use Rattle.qh_disk.specs.Disk.{overwritten}
use Rattle.qh_slots.specs.Slots.{int_bytes, omega_bytes}
use Rattle.qh_slots.proofs.SlotLemmas.{int_size}
use Rattle.qh_slots.proofs.ByteLemmas.{overwritten_on}
use Rattle.qh_slots.proofs.numbers.write_number.Goals as goal

four : (z : Omega) (at : ℕ) (f g h i k : List ℕ) → at + 64 ≤ length f → g ≡ overwritten at (int_bytes z.a) f → h ≡ overwritten (at + 16) (int_bytes z.b) g
    → i ≡ overwritten (at + 32) (int_bytes z.c) h → k ≡ overwritten (at + 48) (int_bytes z.d) i → k ≡ overwritten at (omega_bytes z) f
four z at f g h i k room a b c d =
    let na = int_size z.a in let nb = int_size z.b in let nc = int_size z.c in let nd = int_size z.d in
    let ab = length-append (int_bytes z.a) (int_bytes z.b) in
    let abc = length-append (int_bytes z.a ++ int_bytes z.b) (int_bytes z.c) in
    let two : h ≡ overwritten at (int_bytes z.a ++ int_bytes z.b) f = b ∙ ap (overwritten (at + 16) (int_bytes z.b)) a ∙ overwritten_on (int_bytes z.a) (int_bytes z.b) f at (at + 16) (omega arith) (omega arith) in
    let three : i ≡ overwritten at ((int_bytes z.a ++ int_bytes z.b) ++ int_bytes z.c) f = c ∙ ap (overwritten (at + 32) (int_bytes z.c)) two ∙ overwritten_on (int_bytes z.a ++ int_bytes z.b) (int_bytes z.c) f at (at + 32) (omega arith) (omega arith) in
    d ∙ ap (overwritten (at + 48) (int_bytes z.d)) three ∙ overwritten_on ((int_bytes z.a ++ int_bytes z.b) ++ int_bytes z.c) (int_bytes z.d) f at (at + 48) (omega arith) (omega arith)

pub returns : goal.returns
returns c = four c.args.z.now c.args.at c.args.bytes.now c.write_int.new.bytes c.write_int-2.new.bytes c.write_int-3.new.bytes c.write_int-4.new.bytes c.requires
    (search rules) (search rules) (search rules) (search rules)
