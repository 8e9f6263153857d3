-- What a term of the code's table holds.
use Rattle.qh_gates.specs.declared.term.Term.{Term}
use Rattle.qh_gates.specs.Terms.{Factors}

-- its factors, that on part 1 first
abbrev pub factors_of : Term → Factors
factors_of t = record { first = t.one.rows; second = t.two.rows }
