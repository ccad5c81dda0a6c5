-- The first full line of a text, and those after it.
use Rattle.std.proofs.Common.{◌≡◌, ℕ, ◌+◌, ◌≤◌, ◌<◌, List, [], ◌∷◌, ◌++◌, length, take, drop, refl, eqb-true, arith}
use Rattle.std.specs.Prelude.{◌==◌, min}
use Rattle.std.specs.List.{position_or_len}
use Rattle.std.proofs.lemmas.List.{length-take}
use Rattle.ascii_text.specs.Lines.{first_len, full_lines, ends_in_newline}

-- it ends after the first newline, or with the text
pub first_len-position : (bytes : List ℕ) → first_len bytes ≡ min (position_or_len (λ b. b == 10) bytes + 1) (length bytes)
first_len-position [] = refl
first_len-position (b ∷ bytes) = grind (arith, first_len-position bytes)

pub first_len-bound : (bytes : List ℕ) → first_len bytes ≤ length bytes
first_len-bound bytes = omega (arith, first_len-position bytes)

pub first_len-some : (bytes : List ℕ) → 0 < length bytes → 0 < first_len bytes
first_len-some bytes some = omega (arith, first_len-position bytes)

-- the first full line, and the full lines of the rest
pub full_lines-first : (bytes : List ℕ) → 0 < length bytes → full_lines bytes ≡ take (first_len bytes) bytes ∷ full_lines (drop (first_len bytes) bytes)
full_lines-first [] h = absurd (omega (arith, h))
full_lines-first (b ∷ []) h = grind (arith, eqb-true b 10)
full_lines-first (b ∷ c ∷ bytes) h = grind (arith, eqb-true b 10, full_lines-first (c ∷ bytes) (omega arith))

-- bytes with one more at their end
pub ends_in_newline-append : (x : ℕ) (xs : List ℕ) → ends_in_newline (xs ++ x ∷ []) ≡ (x == 10)
ends_in_newline-append x [] = refl
ends_in_newline-append x (y ∷ []) = refl
ends_in_newline-append x (y ∷ z ∷ xs) = ends_in_newline-append x (z ∷ xs)

-- a first full line is one full line
pub first_len-take : (bytes : List ℕ) → first_len (take (first_len bytes) bytes) ≡ first_len bytes
first_len-take [] = refl
first_len-take (b ∷ bytes) = grind (arith, first_len-take bytes)

pub length-first : (bytes : List ℕ) → length (take (first_len bytes) bytes) ≡ first_len bytes
length-first bytes = let h = first_len-bound bytes in simp length-take (omega (arith, h))
