use Rattle.std.proofs.Common.{◌≡◌, ℕ, ◌+◌, ◌++◌, ◌∷◌, [], ◌<◌, ◌^◌, length, get_or, drop, arith, sym, ap, subst, ◌∙◌, lit<}
use Rattle.std.specs.List.{flat_map}
use Rattle.std.proofs.lemmas.List.{take_more}
use Rattle.qh_text.specs.Bitstrings.{bits_text}
use Rattle.qh_plan.specs.Texts.{bits_line}
use Rattle.qh_text.proofs.BitLemmas.{bits_without, bits_length}
use Rattle.qh_job_text.proofs.ReadLemmas.{bits_next}
use Rattle.qh_plan.proofs.RunLemmas.{some_number, none_number}
use Rattle.qh_job_text.proofs.reading.read_bits.Goals as goal

pub returns-in_default : goal.returns-in_default
returns-in_default c = λ n bits back few small count e.
    let inv = c.loop-i.invariant n bits back few small count e in
    let i = c.loop-i.i in
    let l : i < length bits = let t = c.loop-i-test.true in omega (arith, t, count) in
    let x = get_or bits i 0 in
    let behind = flat_map (bits_line n) (drop (i + 1) bits) ++ back in
    let next = bits_next n bits back c.loop-i.rest.now i l inv.1 in
    absurd (c.in_default.ensures.only (bits_text n x) behind (bits_without 10 n x (lit< tt)) next)

pub returns-then-line : goal.returns-then-line
returns-then-line c = λ n bits back few small count e.
    let inv = c.loop-i.invariant n bits back few small count e in
    let i = c.loop-i.i in
    let l : i < length bits = let t = c.loop-i-test.true in omega (arith, t, count) in
    let x = get_or bits i 0 in
    let behind = flat_map (bits_line n) (drop (i + 1) bits) ++ back in
    let next = bits_next n bits back c.loop-i.rest.now i l inv.1 in
    let cut = c.in-Some.ensures.only (bits_text n x) behind (bits_without 10 n x (lit< tt)) next in
    let len : length c.in-Some.line.now ≡ n = ap length cut.0 ∙ bits_length n x in
    let t = c.if-line.true in absurd (omega (arith, t, len, few))

pub returns-in_default-index_of : goal.returns-in_default-index_of
returns-in_default-index_of c = λ n bits back few small count e.
    let inv = c.loop-i.invariant n bits back few small count e in
    let i = c.loop-i.i in
    let l : i < length bits = let t = c.loop-i-test.true in omega (arith, t, count) in
    let x = get_or bits i 0 in
    let behind = flat_map (bits_line n) (drop (i + 1) bits) ++ back in
    let next = bits_next n bits back c.loop-i.rest.now i l inv.1 in
    let cut = c.in-Some.ensures.only (bits_text n x) behind (bits_without 10 n x (lit< tt)) next in
    let len : length c.in-Some.line.now ≡ n = ap length cut.0 ∙ bits_length n x in
    let below : x < 2 ^ length c.in-Some.line.now = subst (λ m. x < 2 ^ m) (sym len) (small i 0 l) in
    let same : c.in-Some.line.now ≡ bits_text (length c.in-Some.line.now) x = cut.0 ∙ ap (λ m. bits_text m x) (sym len) in
    absurd (none_number x (c.in_default-index_of.ensures.only x below same))

pub loop-i-preserved : goal.loop-i-preserved
loop-i-preserved c = λ n bits back few small count e.
    let inv = c.loop-i.invariant n bits back few small count e in
    let i = c.loop-i.i in
    let l : i < length bits = let t = c.loop-i-test.true in omega (arith, t, count) in
    let x = get_or bits i 0 in
    let behind = flat_map (bits_line n) (drop (i + 1) bits) ++ back in
    let next = bits_next n bits back c.loop-i.rest.now i l inv.1 in
    let cut = c.in-Some.ensures.only (bits_text n x) behind (bits_without 10 n x (lit< tt)) next in
    let len : length c.in-Some.line.now ≡ n = ap length cut.0 ∙ bits_length n x in
    let below : x < 2 ^ length c.in-Some.line.now = subst (λ m. x < 2 ^ m) (sym len) (small i 0 l) in
    let same : c.in-Some.line.now ≡ bits_text (length c.in-Some.line.now) x = cut.0 ∙ ap (λ m. bits_text m x) (sym len) in
    let index : c.in-Some-index_of.index ≡ x = some_number c.in-Some-index_of.index x (c.in-Some-index_of.ensures.only x below same) in
    (c.in-Ok.ensures.items ∙ ap (λ (y : ℕ). c.loop-i.bits.items ++ y ∷ []) index ∙ ap (λ xs. xs ++ x ∷ []) inv.0 ∙ sym (take_more bits i 0 l), cut.1)
