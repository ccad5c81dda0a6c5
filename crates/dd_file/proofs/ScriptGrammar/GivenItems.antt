-- Each item of a script is given by the grammar for some lines.
use Rattle.std.proofs.Common.{◌≡◌, ℕ, zero, suc, Bool, true, false, not, cond, ◌+◌, ◌-◌, List, [], ◌∷◌, length, take, map, refl, ap, arith}
use Rattle.std.specs.Prelude.{◌==◌, Some, Result, Ok, Err, filter}
use Rattle.std.specs.List.{list_all}
use Rattle.ascii_text.specs.Lines.{newline, full_lines, before_first_line, without_last, line_of, ends_in_newline}
use Rattle.dd_file.specs.Script.{FirstItem, NoItem, Ended, Open, result_of, first_of, at_line}
use Rattle.dd_file.specs.Position.{Position, start, longest_input}
use Rattle.dd_file.specs.Grammar.{followed, first_items, with_count, from_first_item, next_item, script_of, is_too_long, full_lines_within}
use Rattle.dd_file.specs.Laws.{is_line, AreWellFormed}
use Rattle.dd_file.specs.Items.{Item}
use Rattle.dd_file.specs.declared.fault.SyntaxFault.{SyntaxFault}

-- what all elements are, those of a part are
pub all-filter : {X : Type 0} (test kept : X → Bool) (xs : List X) → list_all test xs ≡ true → list_all test (filter kept xs) ≡ true
all-filter test kept [] h = refl
all-filter test kept (x ∷ xs) h = grind (arith, all-filter test kept xs)

all-without_last : (test : ℕ → Bool) (b : ℕ) (xs : List ℕ) → list_all test xs ≡ true → list_all test (without_last b xs) ≡ true
all-without_last test b [] h = refl
all-without_last test b (x ∷ []) h = grind arith
all-without_last test b (x ∷ y ∷ xs) h = grind (arith, all-without_last test b (y ∷ xs))

-- a full line has no newline but at its end
abbrev is_full_line : List ℕ → Bool
is_full_line full_line = is_line (without_last 10 full_line)

full_lines-are : (bytes : List ℕ) → list_all is_full_line (full_lines bytes) ≡ true
full_lines-are [] = refl
full_lines-are (b ∷ bytes) = at (b == 10) refl (full_lines bytes) (full_lines-are bytes) where
  at : (c : Bool) → (b == 10) ≡ c → (ps : List (List ℕ)) → list_all is_full_line ps ≡ true → list_all is_full_line (cond c (newline ∷ ps) (before_first_line b ps)) ≡ true
  at c e ps h = grind arith

-- the lines of some full lines have no newline
lines-are : (ps : List (List ℕ)) → list_all is_full_line ps ≡ true → list_all is_line (map line_of ps) ≡ true
lines-are [] h = refl
lines-are (full_line ∷ ps) h = grind (arith, all-without_last (λ b. not (b == 10)) 13 (without_last 10 full_line), lines-are ps)

full_lines_within-are : (limit : ℕ) (position : Position) (bytes : List ℕ) → list_all is_line (map line_of (full_lines_within limit position bytes)) ≡ true
full_lines_within-are limit position bytes = at (is_too_long limit position bytes) where
  cut : List ℕ
  cut = take (limit - position.bytes) bytes

  at : (c : Bool) → list_all is_line (map line_of (cond c (filter ends_in_newline (full_lines cut)) (full_lines bytes))) ≡ true
  at true = lines-are (filter ends_in_newline (full_lines cut)) (all-filter is_full_line ends_in_newline (full_lines cut) (full_lines-are cut))
  at false = lines-are (full_lines bytes) (full_lines-are bytes)

-- at most this many items
first_items-given : (limit fuel : ℕ) (position : Position) (bytes : List ℕ) → AreWellFormed (first_items (next_item limit) fuel position bytes).items
first_items-given limit zero position bytes = tt
first_items-given limit (suc fuel) position bytes = at (is_too_long limit position bytes) (first_of lines) refl (first_items-given limit fuel) where
  lines : List (List ℕ)
  lines = map line_of (full_lines_within limit position bytes)

  found : (count : ℕ) (r : Result Item SyntaxFault) → result_of (first_of lines) ≡ Some r → ((p : Position) (bs : List ℕ) → AreWellFormed (first_items (next_item limit) fuel p bs).items) →
      AreWellFormed (followed (first_items (next_item limit) fuel) (with_count at_line count r position bytes)).items
  found count (Ok item) e ih = (record { number = position.lines + 1; lines = lines; are_lines = full_lines_within-are limit position bytes; first = item; is_first = e; is = refl }, ih _ _)
  found count (Err fault) e ih = tt

  at : (too_long : Bool) (f : FirstItem Item) → first_of lines ≡ f → ((p : Position) (bs : List ℕ) → AreWellFormed (first_items (next_item limit) fuel p bs).items) →
      AreWellFormed (followed (first_items (next_item limit) fuel) (from_first_item at_line too_long (length lines) f position bytes)).items
  at true NoItem e ih = tt
  at false NoItem e ih = tt
  at too_long (Ended r left) e ih = found (length lines - length left) r (ap result_of e) ih
  at true (Open r) e ih = tt
  at false (Open r) e ih = found (length lines) r (ap result_of e) ih

pub script_of-given : (input : List ℕ) → AreWellFormed (script_of input).items
script_of-given input = first_items-given longest_input (length input + 1) start input
