-- The script that undoes changes: the steps of a plan as directives, or a comment with the reason why there are none;
-- and what a session does that runs it.
use Rattle.std.specs.Prelude.{◌≡◌, ℕ, ⊤, List, [], ◌∷◌, ◌++◌, map, Result, Ok, Err, codes}
use Rattle.std.specs.List.{join_with_byte}
use Rattle.dd_file.specs.DirectiveText.{DirectiveText}
use Rattle.dd_file.specs.DirectiveLine.{CommandText, with_key}
use Rattle.dd_file.specs.Script.{directive}
use Rattle.dd_file.specs.Items.{Item, Comment}
use Rattle.conf_change.specs.Changer.{ChangerState, Accepts}
use Rattle.conf_change.specs.ConfStateLine.{truth_text}
use Rattle.conf_change.specs.Step.{changes_of}
use Rattle.conf_change.specs.declared.change.Change.{Change}
use Rattle.conf_change.specs.declared.step.Step.{Step}
use Rattle.conf_change.specs.declared.step.Step.TheVariants.{Simple, EnterJoint, LeaveJoint}
use Rattle.conf_plan.specs.PlanText.{command_tokens, change_text}
use Rattle.conf_session.specs.Commands.{answer, answered}
use Rattle.conf_session.specs.Reply.{stepped}
use Rattle.conf_session.specs.SessionState.{SessionState}
use Rattle.conf_session.specs.Undo.{undo_fault_text}
use Rattle.conf_session.specs.declared.undo_fault.UndoFault.{UndoFault}

-- the command of a step, with its arguments
abbrev pub step_command : Step → CommandText
step_command (Simple changes) = record { name = codes "simple"; arguments = [] }
step_command (EnterJoint auto_leave changes) = record { name = codes "enter-joint"; arguments = with_key (codes "autoleave") (truth_text auto_leave ∷ []) ∷ [] }
step_command LeaveJoint = record { name = codes "leave-joint"; arguments = [] }

-- the directive line of a step
abbrev pub step_line : Step → List ℕ
step_line step = join_with_byte 32 (command_tokens step)

-- the input of a step: its changes on one line, if there are any
abbrev pub change_lines : List Change → List (List ℕ)
change_lines [] = []
change_lines (change ∷ changes) = join_with_byte 32 (map change_text (change ∷ changes)) ∷ []

-- a step as a directive, which expects no output yet
abbrev pub step_directive : Step → Item
step_directive step = directive 1 (step_command step) (step_line step ∷ []) (change_lines (changes_of step)) []

-- a comment of this text
abbrev pub comment : List ℕ → Item
comment text = Comment ((codes "# " ++ text) ∷ [])

-- the items of the script: a directive for each step, or a comment that there is nothing to do
abbrev pub step_items : List Step → List Item
step_items [] = comment (codes "nothing to do") ∷ []
step_items (step ∷ steps) = map step_directive (step ∷ steps)

-- the directives of the steps, or a comment: why there is no plan
abbrev pub undo_items : Result (List Step) UndoFault → List Item
undo_items (Ok steps) = step_items steps
undo_items (Err fault) = comment (undo_fault_text fault) ∷ []

-- ---- its effect
-- a session that runs a directive takes the step, and prints the members afterwards, as after any accepted change
abbrev pub TakesStep : SessionState → DirectiveText → Step → Type 0
TakesStep session directive step = (next : ChangerState) × Accepts session.changer step next × (answer session directive ≡ answered session (stepped next))

-- a session that runs directives takes the steps in order, one for each directive
abbrev pub TakesSteps : SessionState → List DirectiveText → List Step → Type 0
TakesSteps session [] [] = ⊤
TakesSteps session [] (step ∷ steps) = ⊥
TakesSteps session (directive ∷ directives) [] = ⊥
TakesSteps session (directive ∷ directives) (step ∷ steps) = TakesStep session directive step × TakesSteps (answer session directive).session directives steps
