-- The items of a script, by its lines.
use Rattle.std.proofs.Common.{◌≡◌, ℕ, zero, suc, ◌+◌, ◌-◌, ◌≤◌, false, List, [], ◌∷◌, ◌++◌, length, take, drop, map, refl, sym, ◌∙◌, ap, length-append, length-drop, length-take-le, arith, rules}
use Rattle.std.specs.Prelude.{Option, Some, None, option_map, Result, Ok, Err}
use Rattle.std.specs.List.{concat}
use Rattle.std.proofs.lemmas.Bool.Decides.{nat_tests}
use Rattle.std.proofs.lemmas.List.{drop-drop, drop-map, length-map, drop_all}
use Rattle.ascii_text.specs.Lines.{first_len, full_lines, lines_of}
use Rattle.dd_file.specs.Script.{FirstItem, NoItem, Ended, Open, result_of, lines_left, first_of, at_line}
use Rattle.dd_file.specs.Position.{Position, longest_input}
use Rattle.dd_file.specs.Grammar.{Script, with_first, followed, first_items, next_item, script_of, is_too_long, from_first_item, with_count, fault_between}
use Rattle.dd_file.specs.Laws.{moved, moved_fault}
use Rattle.dd_file.specs.Items.{Item, Directive}
use Rattle.dd_file.specs.declared.fault.SyntaxFault.{SyntaxFault}
use Rattle.ascii_text.proofs.Offered.{full_lines-first, first_len-bound}
use Rattle.dd_file.proofs.ScriptGrammar.MoreLines.{first_of-left, left-drop, lines_left-shorter}

abbrev pub no_items : Script Item
no_items = record { items = []; fault = None }

-- the first item of lines that have `before` lines before them, if there is one, and the items of the lines after it
abbrev from_result : Option (Result Item SyntaxFault) → ℕ → ℕ → Script Item → Script Item
from_result None before count rest = no_items
from_result (Some (Ok item)) before count rest = with_first (at_line (before + 1) item) rest
from_result (Some (Err fault)) before count rest = record { items = []; fault = Some (fault_between (before + 1) (before + count) fault) }

-- how many lines the first item has
abbrev own_count : List (List ℕ) → ℕ
own_count lines = length lines - length (lines_left (first_of lines))

-- at most `fuel` items of some lines, which have `before` lines before them
abbrev pub items_at : ℕ → ℕ → List (List ℕ) → Script Item
items_at zero before lines = no_items
items_at (suc fuel) before lines = from_result (result_of (first_of lines)) before (own_count lines) (items_at fuel (before + own_count lines) (lines_left (first_of lines)))

-- all items of the lines
abbrev pub items_of : ℕ → List (List ℕ) → Script Item
items_of before lines = items_at (length lines) before lines

-- the items are the same at any fuel that is enough
items_at-enough : (k j before : ℕ) (lines : List (List ℕ)) → length lines ≤ k → length lines ≤ j → items_at k before lines ≡ items_at j before lines
items_at-enough k j before [] hk hj = none k ∙ sym (none j) where
  none : (k : ℕ) → items_at k before [] ≡ no_items
  none k = grind arith
items_at-enough zero j before (line ∷ lines) hk hj = absurd (omega (arith, hk))
items_at-enough (suc k) zero before (line ∷ lines) hk hj = absurd (omega (arith, hj))
items_at-enough (suc k) (suc j) before (line ∷ lines) hk hj =
    let fewer = lines_left-shorter line lines in
    ap (from_result (result_of (first_of (line ∷ lines))) before (own_count (line ∷ lines))) (items_at-enough k j _ (lines_left (first_of (line ∷ lines))) (omega (arith, fewer, hk)) (omega (arith, fewer, hj)))

-- the first item, and those of the lines after it
pub items_of-first : (before : ℕ) (lines : List (List ℕ)) (first : FirstItem Item) (item : Item) → first_of lines ≡ first → result_of first ≡ Some (Ok item) →
    items_of before lines ≡ with_first (at_line (before + 1) item) (items_of (before + (length lines - length (lines_left first))) (lines_left first))
items_of-first before [] first item is found = let none = ap result_of is ∙ found in cc
items_of-first before (line ∷ lines) first item is found =
    let fewer = rw is at (lines_left-shorter line lines) in
    let count = length (line ∷ lines) - length (lines_left first) in
    ap (λ (f : FirstItem Item). from_result (result_of f) before (length (line ∷ lines) - length (lines_left f)) (items_at (length lines) (before + (length (line ∷ lines) - length (lines_left f))) (lines_left f))) is
    ∙ ap (λ (r : Option (Result Item SyntaxFault)). from_result r before count (items_at (length lines) (before + count) (lines_left first))) found
    ∙ ap (with_first (at_line (before + 1) item)) (items_at-enough (length lines) (length (lines_left first)) (before + count) (lines_left first) (omega (arith, fewer)) (omega arith))

-- an item, an error and a script this many lines further down
abbrev pub moved_item : ℕ → Item → Item
moved_item lines (Directive directive) = Directive (moved lines directive)
moved_item lines item = item

abbrev pub moved_script : ℕ → Script Item → Script Item
moved_script k script = record { items = map (moved_item k) script.items; fault = option_map (moved_fault k) script.fault }

items_at-moved : (fuel k before : ℕ) (lines : List (List ℕ)) → items_at fuel (k + before) lines ≡ moved_script k (items_at fuel before lines)
items_at-moved zero k before lines = refl
items_at-moved (suc fuel) k before lines =
    let sum : k + before + own_count lines ≡ k + (before + own_count lines) = omega arith in
    ap (from_result (result_of (first_of lines)) (k + before) (own_count lines)) (ap (λ m. items_at fuel m (lines_left (first_of lines))) sum ∙ items_at-moved fuel k (before + own_count lines) (lines_left (first_of lines)))
    ∙ at (result_of (first_of lines)) (own_count lines) (items_at fuel (before + own_count lines) (lines_left (first_of lines))) where
      at : (result : Option (Result Item SyntaxFault)) (count : ℕ) (rest : Script Item) → from_result result (k + before) count (moved_script k rest) ≡ moved_script k (from_result result before count rest)
      at result count rest = grind arith

pub items_of-moved : (k : ℕ) (lines : List (List ℕ)) → items_of k lines ≡ moved_script k (items_of 0 lines)
items_of-moved k lines = let sum : k ≡ k + 0 = omega arith in ap (λ m. items_of m lines) sum ∙ items_at-moved (length lines) k 0 lines

-- the first full lines, and those after them
full_lines-drop : (count : ℕ) (bytes : List ℕ) → full_lines (drop (length (concat (take count (full_lines bytes)))) bytes) ≡ drop count (full_lines bytes)
full_lines-drop zero bytes = refl
full_lines-drop (suc count) [] = refl
full_lines-drop (suc count) (b ∷ bytes) =
    let whole = b ∷ bytes in
    let first = first_len whole in
    let cut = full_lines-first whole (omega arith) in
    let rest = drop first whole in
    let consumed = concat (take count (full_lines rest)) in
    let bound = first_len-bound whole in
    let len : length (take first whole ++ consumed) ≡ first + length consumed = rw (length-append (take first whole) consumed) (let prefix = length-take-le first whole bound in omega (arith, prefix)) in
    ap (λ (ps : List (List ℕ)). full_lines (drop (length (concat (take (suc count) ps))) whole)) cut
    ∙ ap (λ (k : ℕ). full_lines (drop k whole)) len ∙ ap full_lines (sym (drop-drop (length consumed) first whole)) ∙ full_lines-drop count rest ∙ sym (ap (drop (suc count)) cut)

-- the full lines of a text are the text
pub concat-full_lines : (bytes : List ℕ) → concat (full_lines bytes) ≡ bytes
concat-full_lines [] = refl
concat-full_lines (b ∷ bytes) = grind (arith, nat_tests, concat-full_lines bytes)

concat-take : (count : ℕ) (ps : List (List ℕ)) → length (concat (take count ps)) ≤ length (concat ps)
concat-take zero ps = omega arith
concat-take (suc count) [] = omega arith
concat-take (suc count) (p ∷ ps) = omega (arith, concat-take count ps, length-append p (concat (take count ps)), length-append p (concat ps))

pub full_lines-length : (bytes : List ℕ) → length (full_lines bytes) ≤ length bytes
full_lines-length [] = omega arith
full_lines-length (b ∷ bytes) = grind (arith, full_lines-length bytes)

-- within the limit the items are those of the lines
abbrev AreOfLines : ℕ → Type 0
AreOfLines fuel = (position : Position) (bytes : List ℕ) → position.bytes + length bytes ≤ longest_input → first_items (next_item longest_input) fuel position bytes ≡ items_at fuel position.lines (lines_of bytes)

first_items-lines : (fuel : ℕ) → AreOfLines fuel
first_items-lines zero position bytes fits = refl
first_items-lines (suc fuel) position bytes fits =
    let within : is_too_long longest_input position bytes ≡ false = search (rules, arith) in
    rw within (at (first_of (lines_of bytes)) refl (first_items-lines fuel)) where
      lines : List (List ℕ)
      lines = lines_of bytes

      result : (count : ℕ) (r : Result Item SyntaxFault) (left : List (List ℕ)) → drop count lines ≡ left → AreOfLines fuel →
          followed (first_items (next_item longest_input) fuel) (with_count at_line count r position bytes) ≡ from_result (Some r) position.lines count (items_at fuel (position.lines + count) left)
      result count (Ok item) left same ih = grind (arith, concat-take, concat-full_lines, length-drop, lines, full_lines-drop, drop-map)
      result count (Err fault) left same ih = refl

      at : (first : FirstItem Item) → first_of lines ≡ first → AreOfLines fuel → followed (first_items (next_item longest_input) fuel) (from_first_item at_line false (length lines) first position bytes)
          ≡ from_result (result_of first) position.lines (length lines - length (lines_left first)) (items_at fuel (position.lines + (length lines - length (lines_left first))) (lines_left first))
      at NoItem e ih = refl
      at (Ended r left) e ih = result (length lines - length left) r left (left-drop lines left _ (first_of-left lines left r e)) ih
      at (Open r) e ih = let all : length lines - 0 ≡ length lines = omega arith in rw all (result (length lines) r [] (drop_all (length lines) lines (omega arith)) ih)

pub script_of-lines : (input : List ℕ) → length input ≤ longest_input → script_of input ≡ items_of 0 (lines_of input)
script_of-lines input fits = grind (arith, full_lines-length, length-map, first_items-lines, items_at-enough)
