-- What contracts see of a seat.
use Rattle.std.specs.Prelude.{ℕ, List, refl}
use Rattle.std.specs.Coded.{Coded, code_by, coded×, coded_ℕ, coded_list}
use Rattle.atomic_table.specs.Seated.{TableId, table_id_coded}

-- its draw, how many numbers a seat may draw at first, how many it may still draw, and those that it drew, in order
pub record Seat : Type 0 where
  pub of : TableId
  pub each : ℕ
  pub left : ℕ
  pub drawn : List ℕ

abbrev pub seat_of : TableId → ℕ → ℕ → List ℕ → Seat
seat_of t e n xs = record { of = t; each = e; left = n; drawn = xs }

abbrev pub seat_coded : Coded Seat
seat_coded =
    code_by (TableId × (ℕ × (ℕ × List ℕ))) (coded× table_id_coded (coded× coded_ℕ (coded× coded_ℕ (coded_list coded_ℕ))))
    (λ s. (s.of, (s.each, (s.left, s.drawn)))) (λ p. seat_of p.0 p.1.0 p.1.1.0 p.1.1.1) (λ _. refl)
