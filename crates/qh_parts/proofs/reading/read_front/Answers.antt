use Rattle.std.proofs.Common.{◌≡◌, ℕ, min, List, ◌++◌, length, take, drop, ap, ◌∙◌, arith, rules}
use Rattle.std.proofs.lemmas.List.{places, ext_get_or, take_at}
use Rattle.qh_parts.proofs.reading.read_front.Goals as goal

front_is : (most n len : ℕ) (buf rest f : List ℕ) → len ≡ min most n → n ≡ length f → length buf ≡ len → buf ≡ take len (drop 0 f) → take len (buf ++ rest) ≡ take most f
front_is most n len buf rest f is size same read =
    take_at buf rest len same ∙ read ∙ ext_get_or 0 (take len f) (take most f) (grind (arith, places)) (λ i low. grind (arith, places))

pub returns-clause-front : goal.returns-clause-front
returns-clause-front g c f told =
    let r = c.in_ok-read_at.ensures.bytes f told in
    let size : c.args.count ≡ length f = c.requires f told in
    let len : c.in_ok-front.front.len ≡ min c.args.most c.args.count = search (rules, arith) in
    let kept : length c.read_at.new.buf ≡ c.in_ok-front.front.len = search (rules, arith) in
    let taken : length c.deref_mut.result.now ≡ c.in_ok-front.front.len = search (rules, arith) in
    front_is c.args.most c.args.count c.in_ok-front.front.len c.read_at.new.buf _ f len size kept (r ∙ ap (λ (n : ℕ). take n f) taken)
