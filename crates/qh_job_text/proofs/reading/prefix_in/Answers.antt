use Rattle.std.proofs.Common.{◌≡◌, ℕ, ◌<◌, ◌^◌, [], codes, Option, Some, None, refl, ap}
use Rattle.std.specs.Option.{ForSome}
use Rattle.qh_plan.specs.Texts.{prefix_text}
use Rattle.qh_text.proofs.CutLemmas.{each_without}
use Rattle.qh_job_text.proofs.reading.prefix_in.Goals as goal

pub returns-in_default : goal.returns-in_default
returns-in_default c = by_prefix
  where
    by_prefix : (o : Option ℕ) → ForSome o (λ w. w < 2 ^ 32) → c.args.line.now ≡ prefix_text o → ◌≡◌ {A = Option ℕ} None o
    by_prefix None h e = refl
    by_prefix (Some w) h e = absurd (c.in_default.ensures.only (codes "prefix") w [] (each_without 32 (codes "prefix") refl) (h w refl) e)

pub returns : goal.returns
returns c = by_prefix
  where
    by_prefix : (o : Option ℕ) → ForSome o (λ w. w < 2 ^ 32) → c.args.line.now ≡ prefix_text o → ◌≡◌ {A = Option ℕ} (Some c.in-Some.value) o
    by_prefix None h e =
        let none = c.in-Some.ensures.word (codes "prefix") (codes "all") (each_without 32 (codes "prefix") refl) (each_without 32 (codes "all") refl) refl e in
        absurd (cc)
    by_prefix (Some w) h e = ap Some (c.in-Some.ensures.only (codes "prefix") w [] (each_without 32 (codes "prefix") refl) (h w refl) e).0
