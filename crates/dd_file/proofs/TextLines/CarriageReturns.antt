-- A line without a carriage return at its end is the same line but for white space at its end.
use Rattle.std.proofs.Common.{◌≡◌, ℕ, Bool, ◌||◌, List, [], ◌∷◌, map, refl, ◌∙◌, ap, arith}
use Rattle.std.specs.List.{list_any}
use Rattle.ascii_text.specs.WhiteSpace.{without_leading_space, without_trailing_space, trimmed}
use Rattle.ascii_text.specs.Lines.{without_last}
use Rattle.dd_file.specs.Script.{is_last_line, is_separator, joined}
use Rattle.ascii_text.proofs.Offered.{without_trailing_space-without_last}

-- a line, and lines, without a carriage return at the end
abbrev pub without_return : List ℕ → List ℕ
without_return line = without_last 13 line

abbrev pub without_returns : List (List ℕ) → List (List ℕ)
without_returns lines = map without_return lines

pub trimmed-without_return : (line : List ℕ) → trimmed (without_return line) ≡ trimmed line
trimmed-without_return line = ap without_leading_space (without_trailing_space-without_last 13 line refl)

-- lines one by one
pub ends-without_returns : (lines : List (List ℕ)) → map without_trailing_space (without_returns lines) ≡ map without_trailing_space lines
ends-without_returns [] = refl
ends-without_returns (line ∷ lines) = grind (arith, without_trailing_space-without_last 13 line refl, ends-without_returns lines)

pub any-without_returns : (test : List ℕ → Bool) → ((line : List ℕ) → test (without_return line) ≡ test line) → (lines : List (List ℕ)) → list_any test (without_returns lines) ≡ list_any test lines
any-without_returns test same [] = refl
any-without_returns test same (line ∷ lines) = ap (λ b. b || list_any test (without_returns lines)) (same line) ∙ ap (λ b. test line || b) (any-without_returns test same lines)

pub is_separator-without_return : (line : List ℕ) → is_separator (without_return line) ≡ is_separator line
is_separator-without_return line = rw (trimmed-without_return line) refl

pub is_last_line-without_return : (line : List ℕ) → is_last_line (without_return line) ≡ is_last_line line
is_last_line-without_return line = rw (trimmed-without_return line) refl

pub joined-without_returns : (lines : List (List ℕ)) → joined (without_returns lines) ≡ joined lines
joined-without_returns [] = refl
joined-without_returns (line ∷ []) = trimmed-without_return line
joined-without_returns (line ∷ next ∷ lines) = grind (arith, trimmed-without_return line, joined-without_returns (next ∷ lines))
