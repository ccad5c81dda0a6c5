-- Worked examples of scripts that are written again.
use Rattle.std.specs.Prelude.{◌≡◌, ℕ, List, [], ◌∷◌, ◌++◌, false, codes, refl}
use Rattle.ascii_text.specs.Lines.{newline, lines_of}
use Rattle.dd_file.specs.DirectiveText.{DirectiveText}
use Rattle.dd_file.specs.Rewritten.{output_text, newlines_at_end, without_double_end}
use Rattle.dd_file.specs.Laws.{IsComplete, Done, More, has_separator}
use Rattle.dd_file.specs.Items.{Comment, Directive}

-- of two newlines at the end one is dropped, and of three one too
pub two_newlines : without_double_end ((codes "# a" ++ newline) ++ newline) ≡ codes "# a" ++ newline
two_newlines = refl

pub three_newlines : without_double_end (((codes "# a" ++ newline) ++ newline) ++ newline) ≡ (codes "# a" ++ newline) ++ newline
three_newlines = refl

pub counted : newlines_at_end (((codes "a" ++ newline) ++ newline) ++ newline) ≡ 2
counted = refl

-- an output with a blank line is between double dashes
pub doubled : lines_of (output_text ((codes "a" ++ newline) ++ newline)) ≡ codes "----" ∷ codes "----" ∷ codes "a" ∷ [] ∷ codes "----" ∷ codes "----" ∷ [] ∷ []
doubled = refl

-- the directive `vote`
abbrev vote : List ℕ → DirectiveText
vote expected = record { line = 1; command = codes "vote"; arguments = []; input = []; expected = expected; raw_lines = codes "vote" ∷ [] }

-- a comment and a directive with its separator, at the end of a file without a newline
pub complete : IsComplete (codes "# a" ∷ codes "vote" ∷ codes "----" ∷ codes "x" ∷ [])
complete = More _ (Comment (codes "# a" ∷ [])) refl refl (More _ (Directive (vote (codes "x" ++ newline))) refl refl Done)

-- the directive alone has no separator
pub open_end : has_separator (Directive (vote [])) 0 1 ≡ false
open_end = refl
