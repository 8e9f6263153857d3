use Rattle.std.proofs.Common.{rules, ◌≡◌, ℕ, All, nat_eq, Some, None, option_map, option_copied, refl, sym, ap, subst, ◌∙◌}
use Rattle.std.specs.Option.{IsSome}
use Rattle.std.specs.Map.{lookup}
use Rattle.std.specs.Arc.{arc_value}
use Rattle.lru.specs.LruCache.{LruCache}
use Rattle.qh_prefix.specs.Caches.{Cache, held, brought, IsKept}
use Rattle.qh_prefix.proofs.CacheLemmas.{view, looked, promote_is, kept_promoted, held_holds}
use Rattle.qh_prefix.proofs.cache.PrefixCache.find.Goals as goal

pub invariant_of-self : goal.invariant_of-self
invariant_of-self c =
    let old = c.self.inside.points in
    let j = arc_value c.self.inside.job in
    let w = c.args.prefix in
    subst (λ (u : LruCache ℕ _). IsKept arc_value j u.cap u.entries) (sym c.promote.ensures.entries) (kept_promoted arc_value j w old.cap old.entries c.self.invariant)

pub returns-in_default-clause-value : goal.returns-in_default-clause-value
returns-in_default-clause-value c =
    let old = c.self.inside.points in
    let j = arc_value c.self.inside.job in
    let w = c.args.prefix in
    let p = promote_is arc_value j w old.entries c.self.invariant.keyed c.self.invariant.cache in
    let found : option_map arc_value (option_copied c.peek.result) ≡ held w c.args.self.now.points =
    ap (option_map arc_value) (c.peek.ensures ∙ ap (λ (u : LruCache ℕ _). lookup (nat_eq w) u.entries) c.promote.ensures.entries ∙ p.still)
    ∙ looked arc_value w old.entries c.self.invariant.keyed ∙ ap (λ (v : Cache). held w v.points) c.self.view_is in
    ap (λ o. option_map arc_value (option_copied o)) (sym c.in_default.is) ∙ found

pub returns-in_default-clause-order : goal.returns-in_default-clause-order
returns-in_default-clause-order c =
    let old = c.self.inside.points in
    let j = arc_value c.self.inside.job in
    let w = c.args.prefix in
    let p = promote_is arc_value j w old.entries c.self.invariant.keyed c.self.invariant.cache in
    ap (λ (u : LruCache ℕ _). record { job = j; points = view arc_value u.entries }) c.promote.ensures.entries
    ∙ ap (λ ps. record { job = j; points = ps }) p.are ∙ ap (λ (v : Cache). record { job = v.job; points = brought w v.points }) c.self.view_is

pub returns-in_default-clause-valid : goal.returns-in_default-clause-valid
returns-in_default-clause-valid c =
    let old = c.self.inside.points in
    let j = arc_value c.self.inside.job in
    let w = c.args.prefix in
    (subst (λ (u : LruCache ℕ _). IsKept arc_value j u.cap u.entries) (sym c.promote.ensures.entries) (kept_promoted arc_value j w old.cap old.entries c.self.invariant)).cache

pub invariant_of-self-in_err-shared : goal.invariant_of-self-in_err-shared
invariant_of-self-in_err-shared c =
    let old = c.self.inside.points in
    let j = arc_value c.self.inside.job in
    let w = c.args.prefix in
    subst (λ (u : LruCache ℕ _). IsKept arc_value j u.cap u.entries) (sym c.promote.ensures.entries) (kept_promoted arc_value j w old.cap old.entries c.self.invariant)

pub returns-in_err-shared-clause-order : goal.returns-in_err-shared-clause-order
returns-in_err-shared-clause-order c =
    let old = c.self.inside.points in
    let j = arc_value c.self.inside.job in
    let w = c.args.prefix in
    let p = promote_is arc_value j w old.entries c.self.invariant.keyed c.self.invariant.cache in
    ap (λ (u : LruCache ℕ _). record { job = j; points = view arc_value u.entries }) c.promote.ensures.entries
    ∙ ap (λ ps. record { job = j; points = ps }) p.are ∙ ap (λ (v : Cache). record { job = v.job; points = brought w v.points }) c.self.view_is

pub returns-in_err-shared-clause-memory : goal.returns-in_err-shared-clause-memory
returns-in_err-shared-clause-memory c =
    let old = c.self.inside.points in
    let j = arc_value c.self.inside.job in
    let w = c.args.prefix in
    let p = promote_is arc_value j w old.entries c.self.invariant.keyed c.self.invariant.cache in
    let found : option_map arc_value (option_copied c.peek.result) ≡ held w c.args.self.now.points =
    ap (option_map arc_value) (c.peek.ensures ∙ ap (λ (u : LruCache ℕ _). lookup (nat_eq w) u.entries) c.promote.ensures.entries ∙ p.still)
    ∙ looked arc_value w old.entries c.self.invariant.keyed ∙ ap (λ (v : Cache). held w v.points) c.self.view_is in
    let here : Some (arc_value c.in-Some.point.now) ≡ held w c.args.self.now.points = ap (λ o. option_map arc_value (option_copied o)) (sym c.in-Some.is) ∙ found in
    let some : IsSome (held w c.args.self.now.points) = subst IsSome here refl in
    search (rules, some)

pub returns-in_err-shared-clause-valid : goal.returns-in_err-shared-clause-valid
returns-in_err-shared-clause-valid c =
    let old = c.self.inside.points in
    let j = arc_value c.self.inside.job in
    let w = c.args.prefix in
    (subst (λ (u : LruCache ℕ _). IsKept arc_value j u.cap u.entries) (sym c.promote.ensures.entries) (kept_promoted arc_value j w old.cap old.entries c.self.invariant)).cache

pub invariant_of-self-2 : goal.invariant_of-self-2
invariant_of-self-2 c =
    let old = c.self.inside.points in
    let j = arc_value c.self.inside.job in
    let w = c.args.prefix in
    subst (λ (u : LruCache ℕ _). IsKept arc_value j u.cap u.entries) (sym c.promote.ensures.entries) (kept_promoted arc_value j w old.cap old.entries c.self.invariant)

pub returns-clause-value : goal.returns-clause-value
returns-clause-value c =
    let old = c.self.inside.points in
    let j = arc_value c.self.inside.job in
    let w = c.args.prefix in
    let p = promote_is arc_value j w old.entries c.self.invariant.keyed c.self.invariant.cache in
    let found : option_map arc_value (option_copied c.peek.result) ≡ held w c.args.self.now.points =
    ap (option_map arc_value) (c.peek.ensures ∙ ap (λ (u : LruCache ℕ _). lookup (nat_eq w) u.entries) c.promote.ensures.entries ∙ p.still)
    ∙ looked arc_value w old.entries c.self.invariant.keyed ∙ ap (λ (v : Cache). held w v.points) c.self.view_is in
    let here : Some (arc_value c.in-Some.point.now) ≡ held w c.args.self.now.points = ap (λ o. option_map arc_value (option_copied o)) (sym c.in-Some.is) ∙ found in
    let same : arc_value c.in_ok-shared.shared ≡ arc_value c.in-Some.point.now = search rules in
    ap Some same ∙ here

pub returns-clause-fits : goal.returns-clause-fits
returns-clause-fits c =
    let old = c.self.inside.points in
    let j = arc_value c.self.inside.job in
    let w = c.args.prefix in
    let p = promote_is arc_value j w old.entries c.self.invariant.keyed c.self.invariant.cache in
    let found : option_map arc_value (option_copied c.peek.result) ≡ held w c.args.self.now.points =
    ap (option_map arc_value) (c.peek.ensures ∙ ap (λ (u : LruCache ℕ _). lookup (nat_eq w) u.entries) c.promote.ensures.entries ∙ p.still)
    ∙ looked arc_value w old.entries c.self.invariant.keyed ∙ ap (λ (v : Cache). held w v.points) c.self.view_is in
    let here : Some (arc_value c.in-Some.point.now) ≡ held w c.args.self.now.points = ap (λ o. option_map arc_value (option_copied o)) (sym c.in-Some.is) ∙ found in
    let same : arc_value c.in_ok-shared.shared ≡ arc_value c.in-Some.point.now = search rules in
    let jobs : All (λ p. p.job ≡ c.args.self.now.job) c.args.self.now.points = subst (λ (v : Cache). All (λ p. p.job ≡ v.job) v.points) c.self.view_is c.self.invariant.cache.jobs in
    held_holds (λ p. p.job ≡ c.args.self.now.job) w c.args.self.now.points (arc_value c.in_ok-shared.shared) jobs (sym (ap Some same ∙ here))

pub returns-clause-order : goal.returns-clause-order
returns-clause-order c =
    let old = c.self.inside.points in
    let j = arc_value c.self.inside.job in
    let w = c.args.prefix in
    let p = promote_is arc_value j w old.entries c.self.invariant.keyed c.self.invariant.cache in
    ap (λ (u : LruCache ℕ _). record { job = j; points = view arc_value u.entries }) c.promote.ensures.entries
    ∙ ap (λ ps. record { job = j; points = ps }) p.are ∙ ap (λ (v : Cache). record { job = v.job; points = brought w v.points }) c.self.view_is

pub returns-clause-valid : goal.returns-clause-valid
returns-clause-valid c =
    let old = c.self.inside.points in
    let j = arc_value c.self.inside.job in
    let w = c.args.prefix in
    (subst (λ (u : LruCache ℕ _). IsKept arc_value j u.cap u.entries) (sym c.promote.ensures.entries) (kept_promoted arc_value j w old.cap old.entries c.self.invariant)).cache
