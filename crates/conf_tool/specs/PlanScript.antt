-- The script that takes the steps of a path.
use Rattle.std.specs.Prelude.{ℕ, List, [], ◌∷◌, ◌++◌, Option, Some, None, codes}
use Rattle.dd_file.specs.Rewritten.{rewritten_text}
use Rattle.dd_file.specs.Script.{directive}
use Rattle.dd_file.specs.DirectiveLine.{CommandText}
use Rattle.dd_file.specs.Items.{Item}
use Rattle.conf_change.specs.Configuration.{Configuration}
use Rattle.conf_change.specs.ConfState.{lists_of}
use Rattle.conf_change.specs.ConfStateLine.{conf_state_text}
use Rattle.conf_change.specs.declared.floor.Floor.TheVariants.{One}
use Rattle.conf_change.specs.declared.step.Step.{Step}
use Rattle.conf_session.specs.SessionState.{SessionState, new_session}
use Rattle.conf_tool.specs.Reports.{answered_entries}
use Rattle.conf_tool.specs.UndoScript.{comment, step_items}

-- a note as a comment, if there is one
abbrev pub note_items : Option (List ℕ) → List Item
note_items None = []
note_items (Some note) = comment note ∷ []

-- the command `restore`, which has no arguments
abbrev pub restore_command : CommandText
restore_command = record { name = codes "restore"; arguments = [] }

-- the directive that restores a configuration, with no expected output
unfoldable pub restore_directive : Configuration → Item
restore_directive c = directive 1 restore_command (codes "restore" ∷ []) (conf_state_text (lists_of c) ∷ []) []

-- The items of the script: the note, if there is one, the directive that restores the configuration with which the
-- steps begin, and the steps.
abbrev pub script_items : Option (List ℕ) → Configuration → List Step → List Item
script_items note now steps = note_items note ++ restore_directive now ∷ step_items steps

-- the session with which `plan` begins: that of a script that is run without options
unfoldable pub default_session : SessionState
default_session = new_session 100 One

-- the script with its actual output in a session
unfoldable pub script_text : SessionState → Option (List ℕ) → Configuration → List Step → List ℕ
script_text session note now steps = rewritten_text (answered_entries session (script_items note now steps))
