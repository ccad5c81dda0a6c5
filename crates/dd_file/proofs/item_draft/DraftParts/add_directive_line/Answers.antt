use Rattle.std.proofs.Common.{◌≡◌, ◌≤◌, ℕ, ◌++◌, ◌∷◌, [], List, length, refl, length-append, length-take-le, arith}
use Rattle.std.proofs.lemmas.List.{append-nil}
use Rattle.std.proofs.lemmas.Result.{IfOk-weaker}
use Rattle.ascii_text.specs.WhiteSpace.{trimmed}
use Rattle.dd_file.specs.Script.{joined}
use Rattle.dd_file.proofs.Reading.StateByState.{adds-last}
use Rattle.dd_file.proofs.item_draft.DraftParts.add_directive_line.Goals as goal

-- a directive line alone
joined-one : (lines : List (List ℕ)) (line : List ℕ) → length (lines ++ line ∷ []) ≤ 1 → joined (lines ++ line ∷ []) ≡ trimmed line
joined-one [] line one = refl
joined-one (first ∷ lines) line one = let len = length-append lines (line ∷ []) in absurd (omega (arith, one, len))

pub returns-then-self-eq1 : goal.returns-then-self-eq1
returns-then-self-eq1 c = grind (arith, length-take-le, joined-one, IfOk-weaker, adds-last, c.in_ok-keep_directive_line.ensures, c.self.view_is, c.self.invariant, c.if-self-eq1.true, c.trimmed.ensures, c.requires.fits, c.end_directive_lines.ensures)

pub returns : goal.returns
returns c = grind (arith, append-nil, IfOk-weaker, adds-last, c.in_ok-keep_directive_line.ensures, c.raw_lines.ensures, c.requires.fits.1, c.as_slice.ensures.value, c.in_ok-text.ensures, c.requires.fits, c.end_directive_lines-2.ensures)
