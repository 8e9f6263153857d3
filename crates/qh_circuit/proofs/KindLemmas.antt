-- The kind that a word names is the one with this name.
use Rattle.std.proofs.Common.{◌≡◌, ◌≢◌, ℕ, List, [], ◌∷◌, None, sym, ap, ◌∙◌}
use Rattle.qh_gates.specs.declared.kind.Kind.{Kind}
use Rattle.qh_gates.specs.Tables.{name_text}
use Rattle.qh_gates.specs.Names.{kind_named}
use Rattle.qh_gates.proofs.NameLemmas.{kind_named-name, kind_named-none}
use Rattle.qh_circuit.specs.GateLines.{word}
use Rattle.qh_circuit.specs.Reads.{BeginsWithKind}

pub no_word_names_none : (words : List (List ℕ)) → words ≡ [] → kind_named (word 0 words) ≡ None
unfolding kind_named
no_word_names_none words none = ap (λ ws. kind_named (word 0 ws)) none

pub no_kind : (words rest : List (List ℕ)) (text : List ℕ) → words ≡ text ∷ rest → ((kind : Kind) → text ≢ name_text kind) → kind_named (word 0 words) ≡ None
no_kind words rest text behind other = ap (λ ws. kind_named (word 0 ws)) behind ∙ kind_named-none text other

pub a_kind : (words rest : List (List ℕ)) (text : List ℕ) (kind : Kind) → words ≡ text ∷ rest → text ≡ name_text kind → BeginsWithKind words kind rest
a_kind words rest text kind behind is = record {
  named = ap (λ ws. kind_named (word 0 ws)) behind ∙ ap kind_named is ∙ kind_named-name kind;
  behind = behind ∙ ap (λ w. w ∷ rest) (sym (ap (word 0) behind));
}
