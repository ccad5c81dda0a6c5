-- Lines that are stored in one text, with the positions of their newlines.
use Rattle.std.specs.Prelude.{◌≡◌, ℕ, ◌+◌, ◌-◌, List, [], ◌∷◌, length, take, drop}
use Rattle.ascii_text.specs.Lines.{text_of}

-- the lines of a text from a position on, where the newlines are at these positions
abbrev pub lines_at : List ℕ → ℕ → List ℕ → List (List ℕ)
lines_at text start [] = []
lines_at text start (end ∷ ends) = take (end - start) (drop start text) ∷ lines_at text (end + 1) ends

-- the positions of the newlines of some lines, if the first line begins at this position
abbrev pub ends_of : ℕ → List (List ℕ) → List ℕ
ends_of start [] = []
ends_of start (line ∷ lines) = (start + length line) ∷ ends_of (start + length line + 1) lines

-- the text is these lines, each with a newline, and the newlines are at these positions
pub record LieIn (text ends : List ℕ) (lines : List (List ℕ)) : Type 0 where
  pub whole : text ≡ text_of lines
  pub positions : ends ≡ ends_of 0 lines

-- the newlines at these positions divide the whole text into lines
abbrev pub FillText : List ℕ → List ℕ → Type 0
FillText text ends = LieIn text ends (lines_at text 0 ends)
