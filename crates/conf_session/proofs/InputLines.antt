-- What the lines of an input denote when white space at their ends is let go: its tokens, and its text without white space
-- at both ends where one line at most is not blank.
use Rattle.std.proofs.Common.{◌≡◌, ℕ, Bool, true, false, cond, List, [], ◌∷◌, ◌++◌, map, refl, sym, ap, ◌∙◌, subst, rules, arith}
use Rattle.std.specs.Prelude.{◌==◌, flat_map, if◌then◌else◌}
use Rattle.std.specs.List.{list_all}
use Rattle.std.proofs.Math.Bool.{and-true, and-false}
use Rattle.std.proofs.lemmas.List.{append_assoc, append-nil}
use Rattle.std.proofs.lemmas.List.Folds.{list_all-append}
use Rattle.ascii_text.specs.Lines.{newline, full_lines, before_first_line, lines_of}
use Rattle.ascii_text.specs.WhiteSpace.{is_blank, without_leading_space, without_trailing_space, trimmed}
use Rattle.ascii_text.proofs.Offered.{blank-after, ends-before_blank, ends-before_other, is_blank-without_trailing_space, leads-blank, leads-after_blank, leads-after_other, leads-ends, tokens_in-at_space, tokens_in-ends}
use Rattle.ascii_text.specs.Tokens.{tokens_in}
use Rattle.dd_file.proofs.Offered.{lines-ends}
use Rattle.conf_session.specs.ReplyLines.{is_line_byte}

-- ---- the parts of a text: lines with their newlines, and a last one that may have none
data IsCut : List ℕ → List (List ℕ) → Type 0 where
  NoLine : IsCut [] []
  LastLine : (line : List ℕ) → IsCut line (line ∷ [])
  Line : (line rest : List ℕ) (more : List (List ℕ)) → IsCut rest more → IsCut ((line ++ newline) ++ rest) ((line ++ newline) ∷ more)

cut-byte : (c : Bool) (b : ℕ) (text : List ℕ) (ps : List (List ℕ)) → (b == 10) ≡ c → IsCut text ps → IsCut (b ∷ text) (cond c (newline ∷ ps) (before_first_line b ps))
cut-byte true b text ps e is = let newline_is : b ≡ 10 = search rules in subst (λ x. IsCut (x ∷ text) (newline ∷ ps)) (sym newline_is) (Line [] text ps is)
cut-byte false b text ps e NoLine = LastLine (b ∷ [])
cut-byte false b text ps e (LastLine line) = LastLine (b ∷ line)
cut-byte false b text ps e (Line line rest more is) = Line (b ∷ line) rest more is

full_lines-cut : (text : List ℕ) → IsCut text (full_lines text)
full_lines-cut [] = NoLine
full_lines-cut (b ∷ text) = cut-byte (b == 10) b text (full_lines text) refl (full_lines-cut text)

-- ---- tokens and lines, line by line
-- the tokens of a text are those of its lines
tokens_in-cut : (text : List ℕ) (ps : List (List ℕ)) → IsCut text ps → tokens_in text ≡ flat_map tokens_in (map without_trailing_space ps)
tokens_in-cut text ps NoLine = refl
tokens_in-cut text ps (LastLine line) = tokens_in-ends line ∙ sym (append-nil (tokens_in (without_trailing_space line)))
tokens_in-cut text ps (Line line rest more is) = grind (arith, append_assoc, tokens_in-at_space, tokens_in-ends, ends-before_blank, tokens_in-cut rest more is)

blank-cut : (text : List ℕ) (ps : List (List ℕ)) → IsCut text ps → is_blank text ≡ list_all is_blank (map without_trailing_space ps)
blank-cut text ps NoLine = refl
blank-cut text ps (LastLine line) = sym (and-true (is_blank (without_trailing_space line)) ∙ is_blank-without_trailing_space line)
blank-cut text ps (Line line rest more is) = grind (arith, list_all-append, is_blank-without_trailing_space, blank-cut rest more is)

-- whether one line at most is not blank, and the first such line
abbrev pub has_one : List (List ℕ) → Bool
has_one [] = true
has_one (line ∷ lines) = if is_blank line then has_one lines else list_all is_blank lines

abbrev pub first_line : List (List ℕ) → List ℕ
first_line [] = []
first_line (line ∷ lines) = if is_blank line then first_line lines else without_leading_space line

-- The text is this line; or there are more such lines, and the text has a newline.
abbrev pub IsOneLine : Bool → List ℕ → List ℕ → Type 0
IsOneLine true line text = text ≡ line
IsOneLine false line text = list_all is_line_byte text ≡ false

newline-within : (front back : List ℕ) → list_all is_line_byte (front ++ 10 ∷ back) ≡ false
newline-within front back = list_all-append is_line_byte front (10 ∷ back) ∙ and-false (list_all is_line_byte front)

-- a blank line before some text
trimmed-after : (front rest : List ℕ) → is_blank front ≡ true → trimmed (front ++ rest) ≡ trimmed rest
trimmed-after front rest h = leads-ends (front ++ rest) ∙ ap without_trailing_space (leads-after_blank front rest h) ∙ sym (leads-ends rest)

-- a line that is not blank before some more
two-lines : (line rest : List ℕ) → is_blank line ≡ false → is_blank rest ≡ false → list_all is_line_byte (trimmed ((line ++ newline) ++ rest)) ≡ false
two-lines line rest h k = grind (arith, ends-before_other, append_assoc, leads-after_other, newline-within)

trimmed-cut : (text : List ℕ) (ps : List (List ℕ)) → IsCut text ps →
    IsOneLine (has_one (map without_trailing_space ps)) (first_line (map without_trailing_space ps)) (trimmed text)
trimmed-cut text ps NoLine = refl
trimmed-cut text ps (LastLine line) = at (is_blank (without_trailing_space line)) refl where
  at : (c : Bool) → is_blank (without_trailing_space line) ≡ c → IsOneLine (cond c true true) (cond c [] (without_leading_space (without_trailing_space line))) (trimmed line)
  at true e = leads-blank (without_trailing_space line) e
  at false e = refl
trimmed-cut text ps (Line line rest more is) =
    at (is_blank (without_trailing_space (line ++ newline))) (list_all is_blank (map without_trailing_space more)) (sym (is_blank-without_trailing_space (line ++ newline))) (blank-cut rest more is) (trimmed-cut rest more is) where
      at : (c d : Bool) → is_blank (line ++ newline) ≡ c → is_blank rest ≡ d → IsOneLine (has_one (map without_trailing_space more)) (first_line (map without_trailing_space more)) (trimmed rest) →
          IsOneLine (cond c (has_one (map without_trailing_space more)) d) (cond c (first_line (map without_trailing_space more)) (without_leading_space (without_trailing_space (line ++ newline)))) (trimmed ((line ++ newline) ++ rest))
      at true d e f ih = subst (IsOneLine (has_one (map without_trailing_space more)) (first_line (map without_trailing_space more))) (sym (trimmed-after (line ++ newline) rest e)) ih
      at false true e f ih = ap without_leading_space (ends-before_blank (line ++ newline) rest f)
      at false false e f ih = two-lines line rest (sym (blank-after line newline refl) ∙ e) f

-- ---- the same by the lines of a text: a line is its part but for white space at the end
abbrev pub ends_of : List ℕ → List (List ℕ)
ends_of text = map without_trailing_space (lines_of text)

pub tokens_in-in_lines : (text : List ℕ) → tokens_in text ≡ flat_map tokens_in (ends_of text)
tokens_in-in_lines text = tokens_in-cut text (full_lines text) (full_lines-cut text) ∙ ap (flat_map tokens_in) (sym (lines-ends (full_lines text)))

pub trimmed-in_lines : (text : List ℕ) → IsOneLine (has_one (ends_of text)) (first_line (ends_of text)) (trimmed text)
trimmed-in_lines text = grind (arith, lines-ends, trimmed-cut, full_lines-cut)
