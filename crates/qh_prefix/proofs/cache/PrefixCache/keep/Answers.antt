use Rattle.std.proofs.Common.{◌≡◌, ℕ, nat_eq, sym, ap, subst, ◌∙◌}
use Rattle.std.specs.Arc.{arc_value}
use Rattle.lru.specs.LruCache.{LruCache, lru_cache, put_entries}
use Rattle.qh_prefix.specs.Checkpoints.{Checkpoint}
use Rattle.qh_prefix.specs.Caches.{Cache, with_new, IsKept}
use Rattle.qh_prefix.proofs.CacheLemmas.{view, put_is, kept_put}
use Rattle.qh_prefix.proofs.cache.PrefixCache.keep.Goals as goal

pub invariant_of-self-2 : goal.invariant_of-self-2
invariant_of-self-2 c =
    let old = c.self.inside.points in
    let j = arc_value c.self.inside.job in
    let k = c.prefix-prefix.result in
    let own : (arc_value c.args.point).job ≡ j =
    sym (ap (λ (p : Checkpoint). p.job) c.deref.ensures) ∙ sym c.job.ensures ∙ c.same.ensures.same.0 c.if-not-same.false ∙ c.deref-2.ensures in
    let key : k ≡ (arc_value c.args.point).prefix = c.prefix-prefix.ensures ∙ ap (λ (p : Checkpoint). p.prefix) c.deref-3.ensures in
    let two : IsKept arc_value j 2 old.entries = subst (λ n. IsKept arc_value j n old.entries) c.self.invariant.cap_is c.self.invariant in
    let now : c.put.new.self ≡ lru_cache (put_entries nat_eq (lru_cache old.entries 2) k c.args.point) 2 =
    c.in-Ok.ensures.entries ∙ ap (λ n. lru_cache (put_entries nat_eq (lru_cache old.entries n) k c.args.point) n) c.self.invariant.cap_is in
    subst (λ (u : LruCache ℕ _). IsKept arc_value j u.cap u.entries) (sym now) (kept_put arc_value j k c.args.point old.entries key own two)

pub returns-clause-kept : goal.returns-clause-kept
returns-clause-kept c =
    let old = c.self.inside.points in
    let j = arc_value c.self.inside.job in
    let k = c.prefix-prefix.result in
    let own : (arc_value c.args.point).job ≡ j =
    sym (ap (λ (p : Checkpoint). p.job) c.deref.ensures) ∙ sym c.job.ensures ∙ c.same.ensures.same.0 c.if-not-same.false ∙ c.deref-2.ensures in
    let key : k ≡ (arc_value c.args.point).prefix = c.prefix-prefix.ensures ∙ ap (λ (p : Checkpoint). p.prefix) c.deref-3.ensures in
    let now : c.put.new.self ≡ lru_cache (put_entries nat_eq (lru_cache old.entries 2) k c.args.point) 2 =
    c.in-Ok.ensures.entries ∙ ap (λ n. lru_cache (put_entries nat_eq (lru_cache old.entries n) k c.args.point) n) c.self.invariant.cap_is in
    λ done. ap (λ (u : LruCache ℕ _). record { job = j; points = view arc_value u.entries }) now
    ∙ ap (λ ps. record { job = j; points = ps }) (put_is arc_value j k c.args.point key old.entries c.self.invariant.keyed c.self.invariant.cache).are
    ∙ ap (λ (v : Cache). record { job = v.job; points = with_new (arc_value c.args.point) v.points }) c.self.view_is

pub returns-clause-valid : goal.returns-clause-valid
returns-clause-valid c =
    let old = c.self.inside.points in
    let j = arc_value c.self.inside.job in
    let k = c.prefix-prefix.result in
    let own : (arc_value c.args.point).job ≡ j =
    sym (ap (λ (p : Checkpoint). p.job) c.deref.ensures) ∙ sym c.job.ensures ∙ c.same.ensures.same.0 c.if-not-same.false ∙ c.deref-2.ensures in
    let key : k ≡ (arc_value c.args.point).prefix = c.prefix-prefix.ensures ∙ ap (λ (p : Checkpoint). p.prefix) c.deref-3.ensures in
    let two : IsKept arc_value j 2 old.entries = subst (λ n. IsKept arc_value j n old.entries) c.self.invariant.cap_is c.self.invariant in
    let now : c.put.new.self ≡ lru_cache (put_entries nat_eq (lru_cache old.entries 2) k c.args.point) 2 =
    c.in-Ok.ensures.entries ∙ ap (λ n. lru_cache (put_entries nat_eq (lru_cache old.entries n) k c.args.point) n) c.self.invariant.cap_is in
    (subst (λ (u : LruCache ℕ _). IsKept arc_value j u.cap u.entries) (sym now) (kept_put arc_value j k c.args.point old.entries key own two)).cache
