-- Texts that differ only in carriage returns before newlines.
use Rattle.std.proofs.Common.{◌≡◌, ℕ, Bool, true, false, cond, ◌&&◌, List, [], ◌∷◌, ◌++◌, map, refl, sym, ◌∙◌, ap, arith, rules}
use Rattle.std.specs.Prelude.{◌==◌}
use Rattle.ascii_text.specs.Lines.{newline, full_lines, before_first_line, line_of, lines_of, text_of, without_last}
use Rattle.ascii_text.specs.WhiteSpace.{is_space, is_blank, without_leading_space, without_trailing_space, trimmed}
use Rattle.dd_file.specs.Laws.{SameButEnds}
use Rattle.dd_file.proofs.TextLines.CarriageReturns.{without_return, without_returns}
use Rattle.ascii_text.proofs.Offered.{is_blank-without_trailing_space, without_trailing_space-without_last}

-- the second text has a carriage return more before some newlines
pub data SameText : List ℕ → List ℕ → Type 0 where
  Empty : SameText [] []
  Byte : (b : ℕ) (s t : List ℕ) → SameText s t → SameText (b ∷ s) (b ∷ t)
  Return : (s t : List ℕ) → SameText s t → SameText (10 ∷ s) (13 ∷ 10 ∷ t)

is_blank-same : (s t : List ℕ) → SameText s t → is_blank s ≡ is_blank t
is_blank-same s t Empty = refl
is_blank-same s t (Byte b s' t' same) = ap (λ c. is_space b && c) (is_blank-same s' t' same)
is_blank-same s t (Return s' t' same) = is_blank-same s' t' same

without_leading_space-same : (s t : List ℕ) → SameText s t → SameText (without_leading_space s) (without_leading_space t)
without_leading_space-same s t Empty = Empty
without_leading_space-same s t (Byte b s' t' same) = at (is_space b) (without_leading_space-same s' t' same) where
  at : (c : Bool) → SameText (without_leading_space s') (without_leading_space t') → SameText (cond c (without_leading_space s') (b ∷ s')) (cond c (without_leading_space t') (b ∷ t'))
  at true ih = ih
  at false ih = Byte b s' t' same
without_leading_space-same s t (Return s' t' same) = without_leading_space-same s' t' same

without_trailing_space-same : (s t : List ℕ) → SameText s t → SameText (without_trailing_space s) (without_trailing_space t)
without_trailing_space-same s t Empty = Empty
without_trailing_space-same s t (Byte b s' t' same) = rw (is_blank-same s' t' same) (at (is_space b) (is_blank t') (without_trailing_space-same s' t' same)) where
  at : (c d : Bool) → SameText (without_trailing_space s') (without_trailing_space t') → SameText (cond (c && d) [] (b ∷ without_trailing_space s')) (cond (c && d) [] (b ∷ without_trailing_space t'))
  at true true ih = Empty
  at true false ih = Byte b _ _ ih
  at false d ih = Byte b _ _ ih
without_trailing_space-same s t (Return s' t' same) = rw (is_blank-same s' t' same) (at (is_blank t') (without_trailing_space-same s' t' same)) where
  at : (d : Bool) → SameText (without_trailing_space s') (without_trailing_space t') → SameText (cond d [] (10 ∷ without_trailing_space s')) (cond d [] (13 ∷ cond d [] (10 ∷ without_trailing_space t')))
  at true ih = Empty
  at false ih = Return _ _ ih

trimmed-same : (s t : List ℕ) → SameText s t → SameText (trimmed s) (trimmed t)
trimmed-same s t same = without_leading_space-same _ _ (without_trailing_space-same s t same)

trimmed-twice : (bytes : List ℕ) → without_trailing_space (without_trailing_space bytes) ≡ without_trailing_space bytes
trimmed-twice [] = refl
trimmed-twice (b ∷ bytes) = grind (arith, is_blank-without_trailing_space bytes, trimmed-twice bytes)

-- the full lines of a text without the white space at their ends, from the first byte on
abbrev ends_of : List ℕ → List (List ℕ)
ends_of text = map without_trailing_space (full_lines text)

abbrev before_first_end : ℕ → List (List ℕ) → List (List ℕ)
before_first_end b [] = without_trailing_space (b ∷ []) ∷ []
before_first_end b (line ∷ lines) = without_trailing_space (b ∷ line) ∷ lines

ends_of-first : (b : ℕ) (bytes : List ℕ) → ends_of (b ∷ bytes) ≡ cond (b == 10) ([] ∷ ends_of bytes) (before_first_end b (ends_of bytes))
ends_of-first b bytes = at (b == 10) (full_lines bytes) where
  at : (c : Bool) (ps : List (List ℕ)) →
      map without_trailing_space (cond c (newline ∷ ps) (before_first_line b ps)) ≡ cond c ([] ∷ map without_trailing_space ps) (before_first_end b (map without_trailing_space ps))
  at true ps = refl
  at false [] = refl
  at false (p ∷ ps) = grind (arith, is_blank-without_trailing_space p, trimmed-twice p)

ends_of-same : (s t : List ℕ) → SameText s t → ends_of s ≡ ends_of t
ends_of-same s t Empty = refl
ends_of-same s t (Byte b s' t' same) = ends_of-first b s' ∙ ap (λ ls. cond (b == 10) ([] ∷ ls) (before_first_end b ls)) (ends_of-same s' t' same) ∙ sym (ends_of-first b t')
ends_of-same s t (Return s' t' same) = ap (λ ls. [] ∷ ls) (ends_of-same s' t' same)

pub lines-ends : (ps : List (List ℕ)) → map without_trailing_space (map line_of ps) ≡ map without_trailing_space ps
lines-ends [] = refl
lines-ends (p ∷ ps) = grind (arith, without_trailing_space-without_last 13 (without_last 10 p) refl, without_trailing_space-without_last 10 p refl, lines-ends ps)

line-same : (line s t : List ℕ) → SameText s t → SameText ((without_return line ++ newline) ++ s) ((line ++ newline) ++ t)
line-same [] s t same = Byte 10 s t same
line-same (x ∷ []) s t same = at (x == 13) refl where
  at : (c : Bool) → (x == 13) ≡ c → SameText ((cond c [] (x ∷ []) ++ newline) ++ s) (x ∷ 10 ∷ t)
  at true e = let is : x ≡ 13 = search rules in rw is (Return s t same)
  at false e = Byte x _ _ (Byte 10 s t same)
line-same (x ∷ y ∷ line) s t same = Byte x _ _ (line-same (y ∷ line) s t same)

text_of-same : (lines : List (List ℕ)) → SameText (text_of (without_returns lines)) (text_of lines)
text_of-same [] = Empty
text_of-same (line ∷ lines) = line-same line _ _ (text_of-same lines)

-- the input of a directive that is written and read again
pub input-again : (lines : List (List ℕ)) → SameButEnds (lines_of (trimmed (text_of (without_returns lines)))) (lines_of (trimmed (text_of lines)))
input-again lines = lines-ends _ ∙ ends_of-same _ _ (trimmed-same _ _ (text_of-same lines)) ∙ sym (lines-ends _)
