-- The tokens of a text: the runs of bytes that are not white space.
use Rattle.std.specs.Prelude.{ℕ, Bool, List, length, filter, nat_lt}
use Rattle.std.specs.List.{slice_split}
use Rattle.ascii_text.specs.WhiteSpace.{is_space}

-- the text is not empty
abbrev pub has_bytes : List ℕ → Bool
has_bytes text = nat_lt 0 (length text)

-- the tokens of a text, in order
abbrev pub tokens_in : List ℕ → List (List ℕ)
tokens_in text = filter has_bytes (slice_split is_space text)
