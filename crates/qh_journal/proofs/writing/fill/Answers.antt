use Rattle.std.proofs.Common.{◌≡◌, ◌+◌, ◌<◌, ℕ, List, length, take, drop, set, get_or, Some, refl, sym, ap, subst, ◌∙◌, arith, rules}
use Rattle.std.proofs.lemmas.List.{drop-drop, get_or-drop, get_or_default, take_all}
use Rattle.qh_slots.specs.Stands.{Slots}
use Rattle.qh_parts.specs.declared.member.Member.{Member}
use Rattle.qh_parts.specs.Groups.{filled, range_of, unused}
use Rattle.qh_parts.proofs.GroupLemmas.{filled_length, filled_more}
use Rattle.qh_journal.proofs.writing.fill.Goals as goal

-- the member that is taken out
taken : (all rest : List Member) (k : ℕ) (x : Member) → k < length all → rest ≡ drop k all → x ≡ get_or rest 0 x → x ≡ get_or all k unused
taken all rest k x low is here =
    here ∙ ap (λ (l : List Member). get_or l 0 x) is ∙ get_or-drop k all 0 x ∙ ap (λ (n : ℕ). get_or all n x) (let e : k + 0 ≡ k = omega arith in e) ∙ get_or_default all k x unused low

pub index_mut-requires : goal.index_mut-requires
index_mut-requires c =
    let low : c.loop-k.k < length c.args.group.items = let t = c.loop-k-test.true in let n = c.len-k-end.ensures.value in omega arith in
    let e = taken c.args.group.items c.loop-k.group.items c.loop-k.k c.remove-range.result low c.loop-k.invariant.rest c.remove-range.ensures.value in
    let inside = subst (λ (y : Member). y.range < length c.args.table.now.items) (sym e) (c.requires c.loop-k.k low) in
    let size = ap (λ (l : Slots). length l) c.loop-k.invariant.table ∙ filled_length c.args.table.now.items (take c.loop-k.k c.args.group.items) in
    let len = c.loop-k.table.ok.0 in
    omega arith

pub loop-k-preserved : goal.loop-k-preserved
loop-k-preserved c =
    let low : c.loop-k.k < length c.args.group.items = let t = c.loop-k-test.true in let n = c.len-k-end.ensures.value in omega arith in
    let e = taken c.args.group.items c.loop-k.group.items c.loop-k.k c.remove-range.result low c.loop-k.invariant.rest c.remove-range.ensures.value in
    record {
      rest = c.remove-range.ensures.items ∙ ap (λ (l : List Member). drop 1 l) c.loop-k.invariant.rest ∙ drop-drop 1 c.loop-k.k c.args.group.items;
      table = ap (λ (t : Slots). set t c.remove-range.result.range (Some c.remove-range.result.verdict)) c.loop-k.invariant.table
          ∙ sym (filled_more c.args.table.now.items c.args.group.items c.loop-k.k c.remove-range.result low e);
    }

pub returns : goal.returns
returns c = c.loop-k.invariant.table ∙ ap (λ (m : List Member). filled c.args.table.now.items m) (take_all c.loop-k.k c.args.group.items (let t = c.loop-k-test.false in let n = c.len-k-end.ensures.value in omega arith))
