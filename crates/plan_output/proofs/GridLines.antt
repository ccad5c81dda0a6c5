-- The widths of the columns of a grid, and the lines of its rows, cell by cell.
use Rattle.std.proofs.lemmas.Grind.{common_steps}
use Rattle.std.proofs.Common.{◌≡◌, ℕ, ◌+◌, ◌-◌, ◌<◌, max, List, [], ◌∷◌, ◌++◌, length, take, get_or, replicate, map, arith}
use Rattle.std.specs.Prelude.{codes}
use Rattle.std.proofs.lemmas.List.{append_assoc, append-nil, take_more, map-append, length-take-le}
use Rattle.plan_output.specs.Grid.{longest, cell, width, flush_left, cells_text}

longest-push : (texts : List (List ℕ)) (text : List ℕ) → longest (texts ++ text ∷ []) ≡ max (longest texts) (length text)
longest-push [] text = omega arith
longest-push (first ∷ texts) text = omega (arith, longest-push texts text)

pub width-one_more : (rows : List (List (List ℕ))) (i column : ℕ) (row : List (List ℕ)) → i < length rows → row ≡ get_or rows i row
    → width (take (i + 1) rows) column ≡ max (width (take i rows) column) (length (cell column row))
width-one_more rows i column row within is = grind (arith, common_steps, take_more, take, map-append, longest-push, map)

-- a cell in its column, and two spaces after it
abbrev pub cell_text : ℕ → List ℕ → List ℕ
cell_text width cell = flush_left width cell ++ codes "  "

cells_text-push : (width : ℕ → ℕ) (column : ℕ) (cells : List (List ℕ)) (last : List ℕ)
    → cells_text width column (cells ++ last ∷ []) ≡ cells_text width column cells ++ cell_text (width (column + length cells)) last
cells_text-push width column [] last = grind (arith, append-nil)
cells_text-push width column (first ∷ cells) last = grind (arith, append_assoc, length, cells_text-push width (column + 1) cells last)

pub cells_text-one_more : (width : ℕ → ℕ) (cells : List (List ℕ)) (i : ℕ) → i < length cells
    → cells_text width 0 (take (i + 1) cells) ≡ cells_text width 0 (take i cells) ++ cell_text (width i) (cell i cells)
cells_text-one_more width cells i within = grind (arith, common_steps, take_more, cells_text-push, take, get_or, length, length-take-le)

pub cell_text-appended : (text cell : List ℕ) (width : ℕ) → text ++ cell ++ replicate (width - length cell) 32 ++ codes "  " ≡ text ++ cell_text width cell
cell_text-appended text cell width = simp append_assoc
