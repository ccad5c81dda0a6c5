-- The lines of a text. A full line is a line with its newline.
use Rattle.std.specs.Prelude.{ℕ, suc, Bool, false, List, [], ◌∷◌, ◌++◌, ◌==◌, map, flat_map, if◌then◌else◌}

-- the byte that ends a line
abbrev pub newline : List ℕ
newline = 10 ∷ []

-- the full lines with one more byte at the start of the first one, or this byte alone if there are no full lines
abbrev pub before_first_line : ℕ → List (List ℕ) → List (List ℕ)
before_first_line b [] = (b ∷ []) ∷ []
before_first_line b (full_line ∷ full_lines) = (b ∷ full_line) ∷ full_lines

-- the full lines of a text: it is split after each newline; the last one has no newline if the text does not end in one
abbrev pub full_lines : List ℕ → List (List ℕ)
full_lines [] = []
full_lines (b ∷ bs) =
    if b == 10 then newline ∷ full_lines bs else before_first_line b (full_lines bs)

-- the length of the first full line
abbrev pub first_len : List ℕ → ℕ
first_len [] = 0
first_len (b ∷ bytes) = if b == 10 then 1 else suc (first_len bytes)

-- the bytes without their last byte, if this is the given byte; only one is dropped
abbrev pub without_last : ℕ → List ℕ → List ℕ
without_last b [] = []
without_last b (x ∷ []) = if x == b then [] else x ∷ []
without_last b (x ∷ y ∷ bytes) = x ∷ without_last b (y ∷ bytes)

-- the line of a full line: without its newline, and then without one carriage return
abbrev pub line_of : List ℕ → List ℕ
line_of full_line = without_last 13 (without_last 10 full_line)

-- the lines of a text
abbrev pub lines_of : List ℕ → List (List ℕ)
lines_of text = map line_of (full_lines text)

-- the text of the lines, each followed by a newline
abbrev pub text_of : List (List ℕ) → List ℕ
text_of lines = flat_map (λ line. line ++ newline) lines

-- whether a full line has its newline
abbrev pub ends_in_newline : List ℕ → Bool
ends_in_newline [] = false
ends_in_newline (b ∷ []) = b == 10
ends_in_newline (b ∷ c ∷ full_line) = ends_in_newline (c ∷ full_line)
