-- White space in a text.
use Rattle.std.specs.Prelude.{ℕ, Bool, ◌&&◌, ◌||◌, List, [], ◌∷◌, ◌==◌, nat_le, if◌then◌else◌}
use Rattle.std.specs.List.{list_all}

-- the byte is tab, newline, vertical tab, form feed, carriage return or space
abbrev pub is_space : ℕ → Bool
is_space b = (nat_le 9 b && nat_le b 13) || b == 32

-- the bytes are white space alone, or there are none
abbrev pub is_blank : List ℕ → Bool
is_blank bytes = list_all is_space bytes

-- the bytes without white space at their start
abbrev pub without_leading_space : List ℕ → List ℕ
without_leading_space [] = []
without_leading_space (b ∷ bs) = if is_space b then without_leading_space bs else b ∷ bs

-- the bytes without white space at their end
abbrev pub without_trailing_space : List ℕ → List ℕ
without_trailing_space [] = []
without_trailing_space (b ∷ bs) = if is_blank (b ∷ bs) then [] else b ∷ without_trailing_space bs

-- the bytes without white space at both ends
abbrev pub trimmed : List ℕ → List ℕ
trimmed bytes = without_leading_space (without_trailing_space bytes)
