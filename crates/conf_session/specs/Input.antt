-- The input of a directive.
use Rattle.std.specs.Prelude.{ℕ, false, List, [], ◌∷◌, Option, Some, None, Result, Ok, Err, codes}
use Rattle.conf_change.specs.ChangeList.{BadToken, changes_in}
use Rattle.conf_change.specs.ConfState.{ConfStateLists}
use Rattle.conf_change.specs.ConfStateLine.{conf_state_in}
use Rattle.conf_change.specs.Text.{bad_token_text}
use Rattle.conf_change.specs.declared.change.Change.{Change}
use Rattle.conf_session.specs.ReplyTexts.{line}
use Rattle.conf_session.specs.declared.input.InputKind.{InputKind}
use Rattle.conf_session.specs.declared.input.InputKind.TheVariants.{Changes, NoChange, ConfStateLine, Nothing}

-- what an input is read as: changes, or a saved configuration; the other is empty
pub record Input : Type 0 where
  pub changes : List Change
  pub saved : ConfStateLists

-- no saved configuration
abbrev pub nothing_saved : ConfStateLists
nothing_saved = record {
  voters = [];
  voters_outgoing = [];
  learners = [];
  learners_next = [];
  auto_leave = false;
}

-- an input of changes
abbrev pub of_changes : List Change → Input
of_changes changes = record { changes = changes; saved = nothing_saved }

-- the error of a command that takes no input but has one
abbrev pub no_input_line : List ℕ
no_input_line = line (codes "this command takes no input")

-- an input that is a list of changes
abbrev pub changes_read : Result (List Change) BadToken → Result Input (List ℕ)
changes_read (Ok changes) = Ok (of_changes changes)
changes_read (Err bad) = Err (line (bad_token_text bad))

-- an input that is an empty list of changes
abbrev pub no_change_read : Result (List Change) BadToken → Result Input (List ℕ)
no_change_read (Ok []) = Ok (of_changes [])
no_change_read (Ok (change ∷ changes)) = Err (no_input_line)
no_change_read (Err bad) = Err (line (bad_token_text bad))

-- an input that is a ConfState line
abbrev pub conf_state_read : Option ConfStateLists → Result Input (List ℕ)
conf_state_read (Some saved) = Ok (record { changes = []; saved = saved })
conf_state_read None = Err (line (codes "bad conf state"))

-- an input that is empty
abbrev pub nothing_read : List ℕ → Result Input (List ℕ)
nothing_read [] = Ok (of_changes [])
nothing_read (byte ∷ text) = Err (no_input_line)

-- what an input of a kind denotes, or the line that reports an error
abbrev pub read_input : InputKind → List ℕ → Result Input (List ℕ)
read_input Changes text = changes_read (changes_in text)
read_input NoChange text = no_change_read (changes_in text)
read_input ConfStateLine text = conf_state_read (conf_state_in text)
read_input Nothing text = nothing_read text
