-- A rewritten script: the actual outputs replace the expected ones, as datadriven writes them.
use Rattle.std.specs.Prelude.{ℕ, Bool, true, false, not, ◌&&◌, ◌||◌, List, [], ◌∷◌, ◌++◌, ◌==◌, nat_eq, length, flat_map, if◌then◌else◌, codes}
use Rattle.std.specs.List.{list_all, list_any, ends_with}
use Rattle.ascii_text.specs.Lines.{newline, full_lines, lines_of, text_of, without_last}
use Rattle.ascii_text.specs.WhiteSpace.{is_blank}
use Rattle.dd_file.specs.Script.{is_dashes}
use Rattle.dd_file.specs.Items.{Item, Comment, Blank, Directive}

-- the raw lines of an item; those of a directive end before its separator
abbrev pub raw_lines_of : Item → List (List ℕ)
raw_lines_of (Comment lines) = lines
raw_lines_of (Blank lines) = lines
raw_lines_of (Directive directive) = directive.raw_lines

-- the item is a directive
abbrev pub is_directive : Item → Bool
is_directive (Comment lines) = false
is_directive (Blank lines) = false
is_directive (Directive directive) = true

-- the raw lines of an item as they are written
abbrev pub kept_text : Item → List ℕ
kept_text item = text_of (raw_lines_of item)

-- a line of four dashes
abbrev pub dashes : List ℕ
dashes = codes "----" ++ newline

-- whether a line of the text is blank, so that the text needs double separators
abbrev pub has_blank_line : List ℕ → Bool
has_blank_line text = list_any is_blank (lines_of text)

-- the text before an output: a single separator, or a double one
abbrev pub opening : Bool → List ℕ
opening true = dashes ++ dashes
opening false = dashes

-- the text after an output: the closing pair of a double separator, and an empty line
abbrev pub closing : Bool → List ℕ
closing true = (dashes ++ dashes) ++ newline
closing false = newline

-- an output with its separators; they are double if it has a blank line
abbrev pub output_text : List ℕ → List ℕ
output_text output = (opening (has_blank_line output) ++ output) ++ closing (has_blank_line output)

-- a line that an output may have: not four dashes, and no carriage return at its end
abbrev pub is_output_line : List ℕ → Bool
is_output_line line = not (is_dashes line || ends_with nat_eq line (13 ∷ []))

-- A text that can be written as an output and read back: whole lines, none of four dashes and none that ends in a
-- carriage return.
abbrev pub is_output : List ℕ → Bool
is_output text = (length text == 0 || ends_with nat_eq text newline) && list_all (λ full_line. is_output_line (without_last 10 full_line)) (full_lines text)

-- an item with its actual output, which only a directive has
abbrev pub entry_text : Item → List ℕ → List ℕ
entry_text item output = kept_text item ++ (if is_directive item then output_text output else [])

-- a text without its last newline if it ends in two (datadriven, which however keeps a text of just two newlines)
abbrev pub without_double_end : List ℕ → List ℕ
without_double_end text = if ends_with nat_eq text (newline ++ newline) then without_last 10 text else text

-- an item with its actual output, which is empty unless it is a directive
pub record Entry : Type 0 where
  pub item : Item
  pub output : List ℕ

-- an entry by its parts
abbrev pub entry : Item → List ℕ → Entry
entry item output = record { item = item; output = output }

-- the text of a rewritten script: its entries one after the other, without a second newline at the end
abbrev pub rewritten_text : List Entry → List ℕ
rewritten_text entries = without_double_end (flat_map (λ entry. entry_text entry.item entry.output) entries)

-- how many newlines a text ends in: 0, 1, or 2 for two or more
abbrev pub newlines_at_end : List ℕ → ℕ
newlines_at_end text = if ends_with nat_eq text (newline ++ newline) then 2 else (if ends_with nat_eq text newline then 1 else 0)

-- the newline that is pending after a text that ends in this many: it is written once more text follows
abbrev pub pending_newline : ℕ → List ℕ
pending_newline newlines = if newlines == 0 then [] else newline

-- What is left to write of a script whose text so far ends in this many newlines, the last of which is pending: at the
-- end that newline, if it is the only one.
abbrev pub rest_of_script : ℕ → List ℕ → List ℕ
rest_of_script newlines [] = if newlines == 1 then newline else []
rest_of_script newlines (byte ∷ rest) = without_double_end (pending_newline newlines ++ byte ∷ rest)
