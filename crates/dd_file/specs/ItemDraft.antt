-- An item of a script while its lines are read. A state means the item that the lines so far begin, given any lines
-- that follow (first_item_in).
use Rattle.std.specs.Prelude.{◌≡◌, ℕ, Bool, true, false, ◌&&◌, ◌||◌, List, [], ◌∷◌, ◌++◌, Option, Some, None, Result, Ok, Err, ⊤, if◌then◌else◌, codes}
use Rattle.std.specs.List.{list_any}
use Rattle.ascii_text.specs.WhiteSpace.{is_blank}
use Rattle.dd_file.specs.Cut.{cut}
use Rattle.dd_file.specs.DirectiveLine.{CommandText, no_command, command_of}
use Rattle.dd_file.specs.Script.{FirstItem, Ended, first_of, is_last_line, is_separator, is_dashes, cut_at_pair, after_pair, in_double, in_single, after_separator, body, at_directive}
use Rattle.dd_file.specs.Draft.{BegunItem}
use Rattle.dd_file.specs.DirectiveText.{DirectiveText, directive_text}
use Rattle.dd_file.specs.declared.draft_state.DraftState.{DraftState}
use Rattle.dd_file.specs.declared.draft_state.DraftState.TheVariants.{Begin, CommentLine, BlankLines, DirectiveLines, NoCommand, Input, Separator, Single, Double, Dashes, Pair, Complete, AfterPair}
use Rattle.dd_file.specs.Items.{Item, Comment, Blank, Directive}
use Rattle.dd_file.specs.declared.fault.SyntaxFault.{SyntaxFault}
use Rattle.dd_file.specs.declared.fault.SyntaxFault.TheVariants.{BadDirective, AfterDouble, UnclosedDouble}

-- the lines of an item so far, by the parts that they belong to, and the command of its directive lines once these are
-- complete
pub record DraftParts : Type 0 where
  pub directive_lines : List (List ℕ)
  pub input : List (List ℕ)
  pub command : CommandText
  pub expected : List (List ℕ)

-- no line
abbrev pub no_parts : DraftParts
no_parts = record { directive_lines = []; input = []; command = no_command; expected = [] }

-- an item so far
pub record DraftText : Type 0 where
  pub parts : DraftParts
  pub state : DraftState

-- the draft after the last directive line, by the command that the directive lines parse to
abbrev pub draft_of_command : DraftParts → Option CommandText → DraftText
draft_of_command parts None = record { parts = parts; state = NoCommand }
draft_of_command parts (Some command) = record { parts = record parts { command = command }; state = Input }

-- the draft after the last directive line, by the text of the directive lines; if that is white space only, the item is a
-- blank
abbrev pub draft_after_directive_lines : DraftParts → List ℕ → DraftText
draft_after_directive_lines parts text = if is_blank text then record { parts = parts; state = BlankLines } else draft_of_command parts (command_of text)

-- whether the item is complete: the next line begins another
abbrev pub is_done : DraftState → Bool
is_done CommentLine = true
is_done BlankLines = true
is_done NoCommand = true
is_done Complete = true
is_done AfterPair = true
is_done state = false

-- a line of four dashes
abbrev pub dashes_line : List ℕ
dashes_line = codes "----"

-- the directive at line n with these parts
abbrev pub directive_of : ℕ → DraftParts → DirectiveText
directive_of n parts = directive_text n parts.command parts.directive_lines parts.input parts.expected

-- the directive of the parts so far
abbrev pub drafted : DraftParts → Item
drafted parts = Directive (directive_of 1 parts)

-- the item of the lines so far if these lines follow, by state
abbrev pub first_item_in : DraftState → DraftParts → List (List ℕ) → FirstItem Item
first_item_in Begin parts more = first_of more
first_item_in CommentLine parts more = Ended (Ok (Comment parts.directive_lines)) more
first_item_in BlankLines parts more = Ended (Ok (Blank parts.directive_lines)) more
first_item_in DirectiveLines parts more = at_directive (cut is_last_line (parts.directive_lines ++ more))
first_item_in NoCommand parts more = Ended (Err BadDirective) more
first_item_in Input parts more = body parts.command parts.directive_lines (cut is_separator (parts.input ++ more))
first_item_in Separator parts more = after_separator parts.command parts.directive_lines parts.input more
first_item_in Single parts more = in_single parts.command parts.directive_lines parts.input (cut is_blank (parts.expected ++ more))
first_item_in Double parts more = in_double parts.command parts.directive_lines parts.input (cut_at_pair (parts.expected ++ more))
first_item_in Dashes parts more = in_double parts.command parts.directive_lines parts.input (cut_at_pair (parts.expected ++ dashes_line ∷ more))
first_item_in Pair parts more = after_pair (drafted parts) more
first_item_in Complete parts more = Ended (Ok (drafted parts)) more
first_item_in AfterPair parts more = Ended (Err AfterDouble) more

-- the item of the lines so far, or its error, if no line follows; none if there is no line
abbrev pub result_in : DraftState → DraftParts → Option (Result Item SyntaxFault)
result_in Begin parts = None
result_in CommentLine parts = Some (Ok (Comment (parts.directive_lines ++ parts.input)))
result_in BlankLines parts = Some (Ok (Blank (parts.directive_lines ++ parts.input)))
result_in DirectiveLines parts = Some (Err BadDirective)
result_in NoCommand parts = Some (Err BadDirective)
result_in Input parts = Some (Ok (drafted parts))
result_in Separator parts = Some (Ok (drafted parts))
result_in Single parts = Some (Ok (drafted parts))
result_in Double parts = Some (Err UnclosedDouble)
result_in Dashes parts = Some (Err UnclosedDouble)
result_in Pair parts = Some (Ok (drafted parts))
result_in Complete parts = Some (Ok (drafted parts))
result_in AfterPair parts = Some (Err AfterDouble)

-- whether there is a pair of dashes
abbrev pub has_pair : List (List ℕ) → Bool
has_pair [] = false
has_pair (line ∷ []) = false
has_pair (line ∷ next ∷ lines) = (is_dashes line && is_dashes next) || has_pair (next ∷ lines)

-- the parts so far fit a state: no line in them ends the part that it is in
abbrev pub FitsIn : DraftState → DraftParts → Type 0
FitsIn Begin parts = (parts.directive_lines ≡ []) × (parts.input ≡ []) × (parts.expected ≡ [])
FitsIn CommentLine parts = parts.input ≡ []
FitsIn BlankLines parts = parts.input ≡ []
FitsIn DirectiveLines parts = (list_any is_last_line parts.directive_lines ≡ false) × (parts.input ≡ []) × (parts.expected ≡ [])
FitsIn Input parts = (list_any is_separator parts.input ≡ false) × (parts.expected ≡ [])
FitsIn Separator parts = parts.expected ≡ []
FitsIn Single parts = list_any is_blank parts.expected ≡ false
FitsIn Double parts = has_pair (parts.expected ++ dashes_line ∷ []) ≡ false
FitsIn Dashes parts = has_pair (parts.expected ++ dashes_line ∷ []) ≡ false
FitsIn state parts = ⊤

-- One more line was added: with any lines that follow, the new state and parts give the item that the old ones give with
-- this line and then those.
pub record AddsIn (state : DraftState) (old : DraftParts) (next : DraftState) (new : DraftParts) (line : List ℕ) : Type 0 where
  pub fits : FitsIn next new
  pub first_item : (more : List (List ℕ)) → first_item_in next new more ≡ first_item_in state old (line ∷ more)

-- an item so far, by what it is with any lines that follow
abbrev pub begun_item : DraftText → BegunItem Item
begun_item draft = record { first_with = first_item_in draft.state draft.parts; result = result_in draft.state draft.parts; is_done = is_done draft.state }
