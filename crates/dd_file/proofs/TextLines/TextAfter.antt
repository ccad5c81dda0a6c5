-- A text that ends in a newline, and more after it.
use Rattle.std.proofs.Common.{◌≡◌, ℕ, ◌+◌, ◌-◌, ◌≤◌, Bool, true, false, cond, List, [], ◌∷◌, ◌++◌, length, take, map, refl, sym, ◌∙◌, ap, arith}
use Rattle.std.specs.Prelude.{◌==◌, filter}
use Rattle.std.specs.List.{list_all}
use Rattle.std.proofs.lemmas.List.{map-append}
use Rattle.std.proofs.lemmas.Simd.{map-map}
use Rattle.std.proofs.lemmas.List.Elements.{filter-append}
use Rattle.std.proofs.Math.Seq.{take-append-add}
use Rattle.ascii_text.specs.Lines.{newline, full_lines, before_first_line, line_of, lines_of, without_last, ends_in_newline}
use Rattle.ascii_text.proofs.Offered.{full_lines-first}
use Rattle.dd_file.specs.Position.{Position}
use Rattle.dd_file.specs.Buffered.{is_whole_text}
use Rattle.dd_file.specs.Grammar.{is_too_long, full_lines_within}

-- the full lines of a whole text, and then those after it
pub full_lines-append : (xs ys : List ℕ) → is_whole_text xs ≡ true → full_lines (xs ++ ys) ≡ full_lines xs ++ full_lines ys
full_lines-append [] ys h = refl
full_lines-append (b ∷ []) ys h = grind arith
full_lines-append (b ∷ c ∷ xs) ys h = grind (arith, full_lines-append (c ∷ xs) ys h, full_lines-first (c ∷ xs) (omega arith))

-- each full line of a whole text is whole
pub full_lines-whole : (xs : List ℕ) → is_whole_text xs ≡ true → list_all ends_in_newline (full_lines xs) ≡ true
full_lines-whole [] h = refl
full_lines-whole (b ∷ []) h = grind arith
full_lines-whole (b ∷ c ∷ xs) h = grind (arith, full_lines-whole (c ∷ xs) h, full_lines-first (c ∷ xs) (omega arith))

pub filter-all : {X : Type 0} (test : X → Bool) (xs : List X) → list_all test xs ≡ true → filter test xs ≡ xs
filter-all test [] h = refl
filter-all test (x ∷ xs) h = grind (arith, filter-all test xs)

-- The full lines that are looked at are those of a whole text within the limit, and some after them.
pub full_lines_within-whole : (limit : ℕ) (position : Position) (bs more : List ℕ) → is_whole_text bs ≡ true → position.bytes + length bs ≤ limit →
    (suffix : List (List ℕ)) × (full_lines_within limit position (bs ++ more) ≡ full_lines bs ++ suffix)
full_lines_within-whole limit position bs more whole fits = at (is_too_long limit position (bs ++ more)) where
  cut : take (limit - position.bytes) (bs ++ more) ≡ bs ++ take (limit - position.bytes - length bs) more
  cut = let sum : limit - position.bytes ≡ length bs + (limit - position.bytes - length bs) = omega (arith, fits) in
      ap (λ n. take n (bs ++ more)) sum ∙ take-append-add bs more (limit - position.bytes - length bs)

  rest : List (List ℕ)
  rest = full_lines (take (limit - position.bytes - length bs) more)

  at : (c : Bool) → (suffix : List (List ℕ)) × (cond c (filter ends_in_newline (full_lines (take (limit - position.bytes) (bs ++ more)))) (full_lines (bs ++ more)) ≡ full_lines bs ++ suffix)
  at true = (
    filter ends_in_newline rest,
    ap (λ t. filter ends_in_newline (full_lines t)) cut ∙ ap (filter ends_in_newline) (full_lines-append bs _ whole) ∙ filter-append ends_in_newline (full_lines bs) rest
        ∙ ap (λ t. t ++ filter ends_in_newline rest) (filter-all ends_in_newline (full_lines bs) (full_lines-whole bs whole)),
  )
  at false = (full_lines more, full_lines-append bs more whole)

-- the lines of a whole text, and then those after it
pub lines-append : (xs ys : List ℕ) → is_whole_text xs ≡ true → lines_of (xs ++ ys) ≡ lines_of xs ++ lines_of ys
lines-append xs ys whole = ap (map line_of) (full_lines-append xs ys whole) ∙ map-append line_of (full_lines xs) (full_lines ys)

-- the end of a text decides whether it is whole
pub whole-after : (xs : List ℕ) (y : ℕ) (ys : List ℕ) → is_whole_text (xs ++ y ∷ ys) ≡ is_whole_text (y ∷ ys)
whole-after [] y ys = refl
whole-after (b ∷ []) y ys = refl
whole-after (b ∷ c ∷ xs) y ys = whole-after (c ∷ xs) y ys

-- the full lines of a text without their newlines, from the first byte on
without_newlines : (b : ℕ) (bytes : List ℕ) →
    map (without_last 10) (full_lines (b ∷ bytes)) ≡ cond (b == 10) ([] ∷ map (without_last 10) (full_lines bytes)) (before_first_line b (map (without_last 10) (full_lines bytes)))
without_newlines b bytes = at (b == 10) refl (full_lines bytes) where
  at : (c : Bool) → (b == 10) ≡ c → (ps : List (List ℕ)) →
      map (without_last 10) (cond c (newline ∷ ps) (before_first_line b ps)) ≡ cond c ([] ∷ map (without_last 10) ps) (before_first_line b (map (without_last 10) ps))
  at c e ps = grind arith

-- a newline after a text that has none at its end makes no line
pub lines-newline : (text : List ℕ) → is_whole_text text ≡ false → lines_of (text ++ newline) ≡ lines_of text
lines-newline text open_end =
    sym (map-map (without_last 13) (without_last 10) (full_lines (text ++ newline))) ∙ ap (map (without_last 13)) (at text open_end) ∙ map-map (without_last 13) (without_last 10) (full_lines text) where
      at : (text : List ℕ) → is_whole_text text ≡ false → map (without_last 10) (full_lines (text ++ newline)) ≡ map (without_last 10) (full_lines text)
      at [] h = cc
      at (b ∷ []) h = rw (h, h) refl
      at (b ∷ c ∷ xs) h = without_newlines b (c ∷ xs ++ newline) ∙ ap (λ ls. cond (b == 10) ([] ∷ ls) (before_first_line b ls)) (at (c ∷ xs) h) ∙ sym (without_newlines b (c ∷ xs))
