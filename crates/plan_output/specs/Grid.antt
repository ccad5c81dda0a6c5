-- A grid of cells as lines of text.
use Rattle.std.specs.Prelude.{ℕ, ◌+◌, ◌-◌, max, List, [], ◌∷◌, ◌++◌, map, length, replicate, codes, flat_map, slice_index_or}
use Rattle.ascii_text.specs.Lines.{newline}
use Rattle.ascii_text.specs.WhiteSpace.{without_trailing_space}

-- the length of the longest text
abbrev pub longest : List (List ℕ) → ℕ
longest [] = 0
longest (text ∷ texts) = max (length text) (longest texts)

-- the cell of a row in a column, counted from 0; an empty one in a column that the row does not reach
abbrev pub cell : ℕ → List (List ℕ) → List ℕ
cell column row = slice_index_or row column []

-- the width of a column: that of its widest cell
abbrev pub width : List (List (List ℕ)) → ℕ → ℕ
width rows column = longest (map (cell column) rows)

-- a cell, padded with spaces to this width
abbrev pub flush_left : ℕ → List ℕ → List ℕ
flush_left width cell = cell ++ replicate (width - length cell) 32

-- the cells of a row from this column on, each padded to the width of its column and followed by two spaces
abbrev pub cells_text : (ℕ → ℕ) → ℕ → List (List ℕ) → List ℕ
cells_text width column [] = []
cells_text width column (first ∷ cells) = flush_left (width column) first ++ codes "  " ++ cells_text width (column + 1) cells

-- the line of a row, without white space at its end
abbrev pub line_of_row : (ℕ → ℕ) → List (List ℕ) → List ℕ
line_of_row width row = without_trailing_space (cells_text width 0 row) ++ newline

-- a grid as lines: each column is as wide as its widest cell
abbrev pub grid_text : List (List (List ℕ)) → List ℕ
grid_text rows = flat_map (line_of_row (width rows)) rows
