-- The rule on the word and on what the seats know.
use Rattle.std.specs.Prelude.{◌≡◌, ◌+◌, ◌-◌, ◌^◌, ◌<◌, ◌≤◌, ◌==◌, ℕ, List, [], ◌∷◌, ◌++◌, All, if◌then◌else◌, nat_lt}
use Rattle.std.specs.List.{sum_by}
use Rattle.qh_draw.specs.declared.rule.Rights.{Rights}

abbrev pub rights : ℕ → ℕ → List ℕ → Rights
rights e n xs = record { each = e; left = n; drawn = xs }

-- what is left where the rights of one new seat are cut off, those rights, two seats put together, and what a joined seat keeps
abbrev pub dealt : Rights → Rights
dealt v = rights v.each (v.left - v.each) v.drawn

abbrev pub one_share : Rights → Rights
one_share v = rights v.each v.each []

abbrev pub joined : Rights → Rights → Rights
joined v w = rights v.each (v.left + w.left) (v.drawn ++ w.drawn)

abbrev pub spent : Rights
spent = rights 0 0 []

-- how often x stands in the list
abbrev pub times : ℕ → List ℕ → ℕ
times x xs = sum_by (λ y. if y == x then 1 else 0) xs

-- 1 where x is below n, else 0
abbrev pub once_below : ℕ → ℕ → ℕ
once_below x n = if nat_lt x n then 1 else 0

-- the word n and the rights left add up to the total, and the numbers below n were drawn, each once, and no others
abbrev pub IsFairAt : ℕ → ℕ → List Rights → Type 0
IsFairAt total n views =
    (total < 2 ^ 63) × (sum_by (λ v. v.left) views + n ≡ total) × ((x : ℕ) → sum_by (λ v. times x v.drawn) views ≡ once_below x n)

abbrev pub IsFair : ℕ → List ℕ → List Rights → Type 0
IsFair total words views = (n : ℕ) × (words ≡ n ∷ []) × IsFairAt total n views

-- the step draw: the seat has one right less, and drew the number that the word was, which is above all that it drew before
abbrev pub Drew : Rights → ℕ → Rights → Type 0
Drew v n w = (w ≡ rights v.each (v.left - 1) (v.drawn ++ n ∷ [])) × All (λ x. x < n) v.drawn

-- the step look: the seat drew each of its numbers once, and they are below the word
abbrev pub Looked : Rights → ℕ → Rights → Type 0
Looked v n w = (w ≡ v) × All (λ x. x < n) v.drawn × ((x : ℕ) → times x v.drawn ≤ 1)
