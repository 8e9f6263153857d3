use Rattle.std.proofs.Common.{◌≡◌, ◌-◌, length, take, drop, All, arith, sym, subst, ◌∙◌}
use Rattle.std.proofs.lemmas.List.Elements.{All-take, All-drop}
use Rattle.qh_plan.specs.Jobs.{Job}
use Rattle.qh_plan.specs.Texts.{job_text}
use Rattle.std.proofs.Math.Path.{ap₂}
use Rattle.qh_plan.specs.Plans.{IsRadix, size_fault}
use Rattle.qh_plan.proofs.PlanLemmas.{middle_is, back_is, are_few, too_long, right_size, count_is, bytes_is, kept, counts_from}
use Rattle.qh_plan.proofs.job.Job.of_parts.Goals as goal

pub path_count-prefixes-requires-clause-few : goal.path_count-prefixes-requires-clause-few
path_count-prefixes-requires-clause-few c =
    let f = are_few c.args.radices.items c.args.split.0 c.args.split.1 c.requires.known c.requires.few_paths in
    rw c.deref.ensures.value f.front

pub path_count-roots-requires-clause-known : goal.path_count-roots-requires-clause-known
path_count-roots-requires-clause-known c =
    let known = subst (All IsRadix) (sym c.deref-2.ensures.value) c.requires.known in
    let p = c.args.split.0 in
    let now = c.deref-2.result.now in
    All-take IsRadix c.args.split.1 (take (length now - p) (drop p now)) (All-take IsRadix (length now - p) (drop p now) (All-drop IsRadix p now known))

pub path_count-roots-requires-clause-few : goal.path_count-roots-requires-clause-few
path_count-roots-requires-clause-few c =
    let f = are_few c.args.radices.items c.args.split.0 c.args.split.1 c.requires.known c.requires.few_paths in
    rw (middle_is c.deref-2.result.now c.args.radices.items c.args.split.0 c.args.split.1 c.deref-2.ensures.value) f.middle

pub path_count-per_range-requires-clause-known : goal.path_count-per_range-requires-clause-known
path_count-per_range-requires-clause-known c =
    let known = subst (All IsRadix) (sym c.deref-3.ensures.value) c.requires.known in
    let p = c.args.split.0 in
    let now = c.deref-3.result.now in
    let rest = take (length now - p) (drop p now) in
    All-take IsRadix (length rest - c.args.split.1) (drop c.args.split.1 rest)
    (All-drop IsRadix c.args.split.1 rest (All-take IsRadix (length now - p) (drop p now) (All-drop IsRadix p now known)))

pub path_count-per_range-requires-clause-few : goal.path_count-per_range-requires-clause-few
path_count-per_range-requires-clause-few c =
    let f = are_few c.args.radices.items c.args.split.0 c.args.split.1 c.requires.known c.requires.few_paths in
    rw (back_is c.deref-3.result.now c.args.radices.items c.args.split.0 c.args.split.1 c.deref-3.ensures.value) f.back

pub range_count-ranges-requires : goal.range_count-ranges-requires
range_count-ranges-requires c =
    let f = are_few c.args.radices.items c.args.split.0 c.args.split.1 c.requires.known c.requires.few_paths in
    rw (c.path_count-prefixes.ensures, c.deref.ensures.value, c.path_count-roots.ensures, middle_is c.deref-2.result.now c.args.radices.items c.args.split.0 c.args.split.1 c.deref-2.ensures.value)
    (omega (arith, f.pairs))

pub returns-then-bytes-gt-MAX_JOURNAL_BYTES-clause-refused : goal.returns-then-bytes-gt-MAX_JOURNAL_BYTES-clause-refused
returns-then-bytes-gt-MAX_JOURNAL_BYTES-clause-refused c =
    let j : Job = record { circuit = c.args.circuit; part = c.args.part.items; p = c.args.split.0; r = c.args.split.1; prefix = c.args.prefix; bits = c.args.bits.items } in
    let said : c.in-Ok.text.items ≡ job_text (record { circuit = c.args.circuit; part = c.deref-4.result.now; p = c.args.split.0; r = c.args.split.1; prefix = c.args.prefix; bits = c.deref-5.result.now }) = c.in-Ok.ensures in
    let text : c.in-Ok.text.items ≡ job_text j = said ∙ (λ i. job_text (record { circuit = c.args.circuit; part = c.deref-4.ensures.value i; p = c.args.split.0; r = c.args.split.1; prefix = c.args.prefix; bits = c.deref-5.ensures.value i })) in
    let long : c.len.result ≡ length c.in-Ok.text.items = omega (arith, c.len.ensures, c.in-Ok.text.ok.0) in
    let many : c.len-2.result ≡ length c.args.bits.items = omega (arith, c.len-2.ensures, c.args.bits.ok.0) in
    let k = counts_from j c.args.radices.items c.deref.result.now c.deref-2.result.now c.deref-3.result.now c.in-Ok.text.items _ _ _ _ _ _ _ c.requires
    c.deref.ensures.value c.deref-2.ensures.value c.deref-3.ensures.value c.path_count-prefixes.ensures c.path_count-roots.ensures c.path_count-per_range.ensures
    c.range_count-ranges.ensures text long many c.journal_length-bytes.ensures in
    λ _. ap₂ size_fault (sym (count_is _ _ _ _ _ k)) (sym (bytes_is _ _ _ _ _ k)) ∙ too_long _ _ (rw c.from.ensures at c.if-ranges-from.false) c.if-bytes-gt-MAX_JOURNAL_BYTES.true

pub invariant_of-result : goal.invariant_of-result
invariant_of-result c =
    let j : Job = record { circuit = c.args.circuit; part = c.args.part.items; p = c.args.split.0; r = c.args.split.1; prefix = c.args.prefix; bits = c.args.bits.items } in
    let said : c.in-Ok.text.items ≡ job_text (record { circuit = c.args.circuit; part = c.deref-4.result.now; p = c.args.split.0; r = c.args.split.1; prefix = c.args.prefix; bits = c.deref-5.result.now }) = c.in-Ok.ensures in
    let text : c.in-Ok.text.items ≡ job_text j = said ∙ (λ i. job_text (record { circuit = c.args.circuit; part = c.deref-4.ensures.value i; p = c.args.split.0; r = c.args.split.1; prefix = c.args.prefix; bits = c.deref-5.ensures.value i })) in
    let long : c.len.result ≡ length c.in-Ok.text.items = omega (arith, c.len.ensures, c.in-Ok.text.ok.0) in
    let many : c.len-2.result ≡ length c.args.bits.items = omega (arith, c.len-2.ensures, c.args.bits.ok.0) in
    let k = counts_from j c.args.radices.items c.deref.result.now c.deref-2.result.now c.deref-3.result.now c.in-Ok.text.items _ _ _ _ _ _ _ c.requires
    c.deref.ensures.value c.deref-2.ensures.value c.deref-3.ensures.value c.path_count-prefixes.ensures c.path_count-roots.ensures c.path_count-per_range.ensures
    c.range_count-ranges.ensures text long many c.journal_length-bytes.ensures in
    kept _ _ _ _ _ k (rw c.from.ensures at c.if-ranges-from.false) c.if-bytes-gt-MAX_JOURNAL_BYTES.false

pub returns-clause-planned : goal.returns-clause-planned
returns-clause-planned c =
    let j : Job = record { circuit = c.args.circuit; part = c.args.part.items; p = c.args.split.0; r = c.args.split.1; prefix = c.args.prefix; bits = c.args.bits.items } in
    let said : c.in-Ok.text.items ≡ job_text (record { circuit = c.args.circuit; part = c.deref-4.result.now; p = c.args.split.0; r = c.args.split.1; prefix = c.args.prefix; bits = c.deref-5.result.now }) = c.in-Ok.ensures in
    let text : c.in-Ok.text.items ≡ job_text j = said ∙ (λ i. job_text (record { circuit = c.args.circuit; part = c.deref-4.ensures.value i; p = c.args.split.0; r = c.args.split.1; prefix = c.args.prefix; bits = c.deref-5.ensures.value i })) in
    let long : c.len.result ≡ length c.in-Ok.text.items = omega (arith, c.len.ensures, c.in-Ok.text.ok.0) in
    let many : c.len-2.result ≡ length c.args.bits.items = omega (arith, c.len-2.ensures, c.args.bits.ok.0) in
    let k = counts_from j c.args.radices.items c.deref.result.now c.deref-2.result.now c.deref-3.result.now c.in-Ok.text.items _ _ _ _ _ _ _ c.requires
    c.deref.ensures.value c.deref-2.ensures.value c.deref-3.ensures.value c.path_count-prefixes.ensures c.path_count-roots.ensures c.path_count-per_range.ensures
    c.range_count-ranges.ensures text long many c.journal_length-bytes.ensures in
    (kept _ _ _ _ _ k (rw c.from.ensures at c.if-ranges-from.false) c.if-bytes-gt-MAX_JOURNAL_BYTES.false).planned

pub returns-clause-accepted : goal.returns-clause-accepted
returns-clause-accepted c =
    let j : Job = record { circuit = c.args.circuit; part = c.args.part.items; p = c.args.split.0; r = c.args.split.1; prefix = c.args.prefix; bits = c.args.bits.items } in
    let said : c.in-Ok.text.items ≡ job_text (record { circuit = c.args.circuit; part = c.deref-4.result.now; p = c.args.split.0; r = c.args.split.1; prefix = c.args.prefix; bits = c.deref-5.result.now }) = c.in-Ok.ensures in
    let text : c.in-Ok.text.items ≡ job_text j = said ∙ (λ i. job_text (record { circuit = c.args.circuit; part = c.deref-4.ensures.value i; p = c.args.split.0; r = c.args.split.1; prefix = c.args.prefix; bits = c.deref-5.ensures.value i })) in
    let long : c.len.result ≡ length c.in-Ok.text.items = omega (arith, c.len.ensures, c.in-Ok.text.ok.0) in
    let many : c.len-2.result ≡ length c.args.bits.items = omega (arith, c.len-2.ensures, c.args.bits.ok.0) in
    let k = counts_from j c.args.radices.items c.deref.result.now c.deref-2.result.now c.deref-3.result.now c.in-Ok.text.items _ _ _ _ _ _ _ c.requires
    c.deref.ensures.value c.deref-2.ensures.value c.deref-3.ensures.value c.path_count-prefixes.ensures c.path_count-roots.ensures c.path_count-per_range.ensures
    c.range_count-ranges.ensures text long many c.journal_length-bytes.ensures in
    ap₂ size_fault (sym (count_is _ _ _ _ _ k)) (sym (bytes_is _ _ _ _ _ k)) ∙ right_size _ _ (rw c.from.ensures at c.if-ranges-from.false) c.if-bytes-gt-MAX_JOURNAL_BYTES.false
