-- A bitstring: the basis index that it names, and the spelling of an index as one.
use Rattle.std.specs.Prelude.{ℕ, zero, suc, ◌+◌, ◌-◌, ◌*◌, ◌/◌, ◌%◌, Bool, ◌||◌, ◌==◌, List, [], ◌∷◌}
use Rattle.std.specs.List.{list_all}

-- the character `0` or `1`
abbrev pub is_bit : ℕ → Bool
is_bit character = character == 48 || character == 49

-- each character is `0` or `1`
abbrev pub is_bitstring : List ℕ → Bool
is_bitstring string = list_all is_bit string

-- the basis index that a string names, whose first character is bit 0
abbrev pub index_of : List ℕ → ℕ
index_of [] = 0
index_of (bit ∷ bits) = (bit - 48) + 2 * index_of bits

-- a basis index as a string: a character for each qubit, the first for qubit 0, which is bit 0
abbrev pub bits_text : ℕ → ℕ → List ℕ
bits_text zero x = []
bits_text (suc n) x = (48 + x % 2) ∷ bits_text n (x / 2)
