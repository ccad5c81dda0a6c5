-- What an input denotes: its items or its lines, one after the other, up to an error. An input beyond the limit denotes
-- those that end within it, and then the error that it is too long.
use Rattle.std.specs.Prelude.{ℕ, ◌+◌, ◌-◌, zero, suc, Bool, true, false, List, [], ◌∷◌, nat_lt, length, take, drop, map, filter, Option, Some, None, Result, Ok, Err, if◌then◌else◌}
use Rattle.std.specs.List.{concat}
use Rattle.dd_file.specs.Position.{Position, start, longest_input}
use Rattle.ascii_text.specs.Lines.{full_lines, line_of, ends_in_newline}
use Rattle.dd_file.specs.Script.{FirstItem, NoItem, Ended, Open, first_of, first_line_of, at_line}
use Rattle.dd_file.specs.Items.{Item}
use Rattle.dd_file.specs.declared.fault.SyntaxFault.{SyntaxFault}
use Rattle.dd_file.specs.declared.fault.SyntaxFault.TheVariants.{AfterDouble}
use Rattle.dd_file.specs.declared.fault.FileFault.{FileFault}
use Rattle.dd_file.specs.declared.fault.FileFault.TheVariants.{Syntax, InputTooLong}

-- What comes next in an input: nothing, since it is over; an item or line, the position after it and the bytes from
-- there on; or an error.
pub data Next (A : Type 0) : Type 0 where
  Over : Next A
  Parsed : A → Position → List ℕ → Next A
  Faulty : FileFault → Next A

-- the input with these bytes from this position on exceeds the limit
abbrev pub is_too_long : ℕ → Position → List ℕ → Bool
is_too_long limit position bytes = nat_lt limit (position.bytes + length bytes)

-- the full lines that are read: all of them, or, if the input is too long, those that end within the limit
abbrev pub full_lines_within : ℕ → Position → List ℕ → List (List ℕ)
full_lines_within limit position bytes =
    if is_too_long limit position bytes then filter ends_in_newline (full_lines (take (limit - position.bytes) bytes)) else full_lines bytes

-- what comes next is this result, made of the first count full lines
abbrev pub next_of_lines : {A : Type 0} → ℕ → A → Position → List ℕ → Next A
next_of_lines count result position bytes =
    let consumed = length (concat (take count (full_lines bytes))) in
    Parsed result (record { lines = position.lines + count; bytes = position.bytes + consumed }) (drop consumed bytes)

-- what comes next if no item is complete: the error that the input is too long, or nothing
abbrev pub at_end : {A : Type 0} → Bool → Position → Next A
at_end true position = Faulty (InputTooLong (position.lines + 1))
at_end false position = Over

-- the error of an item whose first and last line have these numbers; it names the last line, or else the first
abbrev pub fault_between : ℕ → ℕ → SyntaxFault → FileFault
fault_between first last AfterDouble = Syntax last AfterDouble
fault_between first last fault = Syntax first fault

-- what comes next, given an item of count lines, or its error; `numbered` gives an item that begins at a line
abbrev pub with_count : {A : Type 0} → (ℕ → A → A) → ℕ → Result A SyntaxFault → Position → List ℕ → Next A
with_count numbered count (Ok item) position bytes = next_of_lines count (numbered (position.lines + 1) item) position bytes
with_count numbered count (Err fault) position bytes = Faulty (fault_between (position.lines + 1) (position.lines + count) fault)

-- What comes next, given this many lines and their first item. If the input is too long, an item that is not ended is
-- an error.
abbrev pub from_first_item : {A : Type 0} → (ℕ → A → A) → Bool → ℕ → FirstItem A → Position → List ℕ → Next A
from_first_item numbered too_long count NoItem position bytes = at_end too_long position
from_first_item numbered too_long count (Ended result left) position bytes = with_count numbered (count - length left) result position bytes
from_first_item numbered true count (Open result) position bytes = at_end true position
from_first_item numbered false count (Open result) position bytes = with_count numbered count result position bytes

-- what comes next, in an input with these bytes from this position on, by the first item of its lines
abbrev pub next_of : {A : Type 0} → (List (List ℕ) → FirstItem A) → (ℕ → A → A) → ℕ → Position → List ℕ → Next A
next_of first numbered limit position bytes =
    let lines = map line_of (full_lines_within limit position bytes) in
    from_first_item numbered (is_too_long limit position bytes) (length lines) (first lines) position bytes

-- what item comes next, in an input with these bytes from this position on
abbrev pub next_item : ℕ → Position → List ℕ → Next Item
next_item = next_of first_of at_line

-- what line comes next, in an input with these bytes from this position on
abbrev pub next_line : ℕ → Position → List ℕ → Next (List ℕ)
next_line = next_of first_line_of (λ n line. line)

-- the items or lines of an input, in order, and the error that ends them, if there is one
pub record Script (A : Type 0) : Type 0 where
  pub items : List A
  pub fault : Option FileFault

-- a script with one more item before the others
abbrev pub with_first : {A : Type 0} → A → Script A → Script A
with_first item script = record { items = item ∷ script.items; fault = script.fault }

-- what comes next, and then the rest of the script from there on
abbrev pub followed : {A : Type 0} → (Position → List ℕ → Script A) → Next A → Script A
followed rest Over = record { items = []; fault = None }
followed rest (Parsed item position bytes) = with_first item (rest position bytes)
followed rest (Faulty fault) = record { items = []; fault = Some fault }

-- the first count items from a position on, or all if there are fewer
abbrev pub first_items : {A : Type 0} → (Position → List ℕ → Next A) → ℕ → Position → List ℕ → Script A
first_items next zero position bytes = record { items = []; fault = None }
first_items next (suc count) position bytes = followed (first_items next count) (next position bytes)

-- all items from a position on; there are no more of them than bytes, since each has at least one byte
abbrev pub script_from : {A : Type 0} → (Position → List ℕ → Next A) → Position → List ℕ → Script A
script_from next position bytes = first_items next (length bytes + 1) position bytes

-- the items from a position on
abbrev pub items_from : Position → List ℕ → Script Item
items_from = script_from (next_item longest_input)

-- the lines from a position on
abbrev pub lines_from : Position → List ℕ → Script (List ℕ)
lines_from = script_from (next_line longest_input)

-- the script that an input denotes: its items, and the error that ends them
abbrev pub script_of : List ℕ → Script Item
script_of = items_from start

-- the lines that an input denotes, and the error that ends them
abbrev pub listing_of : List ℕ → Script (List ℕ)
listing_of = lines_from start
