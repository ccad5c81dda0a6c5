-- Laws of scripts that are rewritten or joined. The contracts of the module `laws` cite these statements.
use Rattle.std.specs.Prelude.{◌≡◌, ℕ, ◌+◌, ◌≤◌, Bool, true, false, not, ◌==◌, nat_lt, List, [], ◌∷◌, ◌++◌, length, map, flat_map, Some, option_map, None, Ok, ⊤, if◌then◌else◌}
use Rattle.std.specs.List.{list_all, list_any}
use Rattle.ascii_text.specs.Lines.{newline, lines_of}
use Rattle.ascii_text.specs.WhiteSpace.{is_blank, trimmed, without_trailing_space}
use Rattle.dd_file.specs.DirectiveText.{DirectiveText}
use Rattle.dd_file.specs.DirectiveLine.{CommandText, command_of, has_keys}
use Rattle.dd_file.specs.Script.{result_of, lines_left, first_of, at_line, directive, is_comment, is_continued, is_separator}
use Rattle.dd_file.specs.Position.{longest_input}
use Rattle.dd_file.specs.Grammar.{script_of}
use Rattle.dd_file.specs.Rewritten.{Entry, entry, rewritten_text, is_output, is_directive, raw_lines_of}
use Rattle.dd_file.specs.Items.{Item, Comment, Blank, Directive}
use Rattle.dd_file.specs.declared.fault.FileFault.{FileFault}
use Rattle.dd_file.specs.declared.fault.FileFault.TheVariants.{Syntax, InputTooLong}

-- bytes without a newline
abbrev pub is_line : List ℕ → Bool
is_line bytes = list_all (λ b. not (b == 10)) bytes

-- the lines are equal but for white space at their ends
abbrev pub SameButEnds : List (List ℕ) → List (List ℕ) → Type 0
SameButEnds lines others = map without_trailing_space lines ≡ map without_trailing_space others

-- A directive that was read back: at line n, with this expected output, and otherwise as it was but for white space at
-- the ends of lines.
pub record IsSameDirective (n : ℕ) (output : List ℕ) (directive again : DirectiveText) : Type 0 where
  pub line : again.line ≡ n
  pub command : again.command ≡ directive.command
  pub arguments : again.arguments ≡ directive.arguments
  pub input : SameButEnds (lines_of again.input) (lines_of directive.input)
  pub expected : again.expected ≡ output
  pub raw_lines : SameButEnds again.raw_lines directive.raw_lines

-- An item that was read back at line n, as it was but for white space at the ends of lines; a directive has this
-- expected output.
abbrev pub IsSameItem : ℕ → List ℕ → Item → Item → Type 0
IsSameItem n output (Comment lines) again = (others : List (List ℕ)) × (again ≡ Comment others) × SameButEnds others lines
IsSameItem n output (Blank lines) again = (others : List (List ℕ)) × (again ≡ Blank others) × SameButEnds others lines
IsSameItem n output (Directive directive) again = (other : DirectiveText) × (again ≡ Directive other) × IsSameDirective n output directive other

-- The entries are read back item by item, each with its actual output as the expected one. A blank of one empty line at
-- the end may be missing.
pub data AreReadAgain : List Entry → List Item → Type 0 where
  AreOver : AreReadAgain [] []
  LastIsRemoved : (output : List ℕ) → AreReadAgain (entry (Blank ([] ∷ [])) output ∷ []) []
  ReadAgain : (n : ℕ) (item again : Item) (output : List ℕ) (entries : List Entry) (items : List Item) →
      IsSameItem n output item again → AreReadAgain entries items → AreReadAgain (entry item output ∷ entries) (again ∷ items)

-- the last item is a blank of several lines
abbrev pub ends_in_long_blank : List Item → Bool
ends_in_long_blank [] = false
ends_in_long_blank (Comment lines ∷ []) = false
ends_in_long_blank (Blank lines ∷ []) = nat_lt 1 (length lines)
ends_in_long_blank (Directive directive ∷ []) = false
ends_in_long_blank (item ∷ next ∷ items) = ends_in_long_blank (next ∷ items)

-- an item of the grammar: the first item of some lines, at some line
pub record IsWellFormed (item : Item) : Type 0 where
  pub number : ℕ
  pub lines : List (List ℕ)
  pub are_lines : list_all is_line lines ≡ true
  pub first : Item
  pub is_first : result_of (first_of lines) ≡ Some (Ok first)
  pub is : item ≡ at_line number first

-- items, each of which is one of the grammar
abbrev pub AreWellFormed : List Item → Type 0
AreWellFormed [] = ⊤
AreWellFormed (item ∷ items) = IsWellFormed item × AreWellFormed items

-- the items of a script, up to its error if it has one, are items of the grammar
abbrev pub ItemsAreWellFormed : Type 0
ItemsAreWellFormed = (input : List ℕ) → AreWellFormed (script_of input).items

-- a directive with one directive line, lines of input and no expected output is an item of the grammar
abbrev pub DirectiveIsWellFormed : Type 0
DirectiveIsWellFormed =
    (n : ℕ) (line : List ℕ) (input : List (List ℕ)) (command : CommandText) →
    is_comment line ≡ false → is_blank line ≡ false → is_continued line ≡ false → command_of (trimmed line) ≡ Some command →
    list_any is_separator input ≡ false → list_all is_line (line ∷ input) ≡ true → IsWellFormed (directive n command (line ∷ []) input [])

-- Items of the grammar that are written with actual outputs are read back without an error. (If they end in a blank of
-- several lines, the newline that is dropped may leave a lone backslash on the last line.)
abbrev pub WrittenScript : Type 0
WrittenScript =
    (entries : List Entry) →
    let items = map (λ entry. entry.item) entries in
    AreWellFormed items → list_all (λ entry. is_output entry.output) entries ≡ true → ends_in_long_blank items ≡ false →
    length (rewritten_text entries) ≤ longest_input →
    let again = script_of (rewritten_text entries) in (again.fault ≡ None) × AreReadAgain entries again.items

-- the keys of the arguments of an item are keys of the grammar
abbrev pub item_has_keys : Item → Bool
item_has_keys (Comment lines) = true
item_has_keys (Blank lines) = true
item_has_keys (Directive directive) = has_keys directive.arguments

-- the arguments of each item of a script have keys of the grammar
abbrev pub ItemsHaveKeys : Type 0
ItemsHaveKeys = (input : List ℕ) → list_all item_has_keys (script_of input).items ≡ true

-- whether an item is a comment, a blank, or a directive with its separator: of `count` lines, `left` of which are left,
-- one is neither left nor a raw line
abbrev pub has_separator : Item → ℕ → ℕ → Bool
has_separator item left count = if is_directive item then nat_lt (length (raw_lines_of item) + left) count else true

-- Lines are complete: they are items without an error, and each directive has its separator. Without one, a text that is
-- appended would become input of the last directive.
pub data IsComplete : List (List ℕ) → Type 0 where
  Done : IsComplete []
  More : (lines : List (List ℕ)) (item : Item) → result_of (first_of lines) ≡ Some (Ok item) → has_separator item (length (lines_left (first_of lines))) (length lines) ≡ true →
      IsComplete (lines_left (first_of lines)) → IsComplete lines

-- a directive as it is with this many lines before it
abbrev pub moved : ℕ → DirectiveText → DirectiveText
moved lines directive = record directive { line = lines + directive.line }

-- an item as a list of directives: itself, or none
abbrev pub directive_in : Item → List DirectiveText
directive_in (Comment lines) = []
directive_in (Blank lines) = []
directive_in (Directive directive) = directive ∷ []

-- the directives of some items, in order
abbrev pub directives_of : List Item → List DirectiveText
directives_of items = flat_map directive_in items

-- an error as it is with this many lines before it
abbrev pub moved_fault : ℕ → FileFault → FileFault
moved_fault lines (Syntax line fault) = Syntax (lines + line) fault
moved_fault lines (InputTooLong line) = InputTooLong (lines + line)
moved_fault lines fault = fault

-- The directives of a complete script, two newlines and any text are those of the script and then those of the text,
-- and the error is that of the text.
abbrev pub JoinedItems : Type 0
JoinedItems =
    (script text : List ℕ) → IsComplete (lines_of script) → length ((script ++ newline ++ newline) ++ text) ≤ longest_input →
    let before = length (lines_of (script ++ newline ++ newline)) in
    let joined = script_of ((script ++ newline ++ newline) ++ text) in
    (directives_of joined.items ≡ directives_of (script_of script).items ++ map (moved before) (directives_of (script_of text).items))
    × (joined.fault ≡ option_map (moved_fault before) (script_of text).fault)
