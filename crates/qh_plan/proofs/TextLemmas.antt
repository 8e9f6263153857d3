-- Texts, one piece more at a time.
use Rattle.std.proofs.Common.{◌≡◌, ℕ, List, [], ◌∷◌, ◌++◌, codes, refl, sym, ap, ◌∙◌, append_assoc, append-nil}
use Rattle.std.specs.List.{flat_map}
use Rattle.qh_plan.specs.Jobs.{Job}
use Rattle.qh_plan.specs.Texts.{word, prefix_text, asked_text, job_text}

pub job_is : (j : Job) → job_text j ≡ codes "job 1" ++ 10 ∷ ((codes "part" ++ flat_map word j.part) ++ 10 ∷ ((codes "split" ++ (word j.p ++ (word j.r ++ [])))
    ++ 10 ∷ (prefix_text j.prefix ++ 10 ∷ asked_text j.circuit j.bits)))
unfolding job_text
job_is j = refl

pair_words : (x y z : List ℕ) → (x ++ (y ++ [])) ++ z ≡ x ++ (y ++ z)
pair_words x y z = ap (λ t. (x ++ t) ++ z) (append-nil y) ∙ append_assoc x y z

nested : (a b c d e f g h i : List ℕ) → (((((((a ++ b) ++ c) ++ d) ++ e) ++ f) ++ g) ++ h) ++ i ≡ a ++ (b ++ (c ++ (d ++ (e ++ (f ++ (g ++ (h ++ i)))))))
nested a b c d e f g h i = simp append_assoc

-- a job, piece by piece
pub job_whole : (j : Job) (t0 t1 t2 t3 t4 t5 t6 t7 t8 : List ℕ) → t0 ≡ codes "job 1\npart" → t1 ≡ t0 ++ flat_map word j.part → t2 ≡ t1 ++ codes "\nsplit" → t3 ≡ t2 ++ word j.p
    → t4 ≡ t3 ++ word j.r → t5 ≡ t4 ++ 10 ∷ [] → t6 ≡ t5 ++ prefix_text j.prefix → t7 ≡ t6 ++ 10 ∷ [] → t8 ≡ t7 ++ asked_text j.circuit j.bits
    → t8 ≡ job_text j
job_whole j t0 t1 t2 t3 t4 t5 t6 t7 t8 e0 e1 e2 e3 e4 e5 e6 e7 e8 =
    let part = flat_map word j.part in
    let end = 10 ∷ [] in
    let front = codes "job 1\npart" in
    let middle = codes "\nsplit" in
    let last = asked_text j.circuit j.bits in
    rw (job_is j, e8, e7, e6, e5, e4, e3, e2, e1, e0)
    (nested front part middle (word j.p) (word j.r) end (prefix_text j.prefix) end last
    ∙ ap (λ t. front ++ (part ++ (middle ++ t))) (sym (pair_words (word j.p) (word j.r) (10 ∷ (prefix_text j.prefix ++ 10 ∷ last)))))
