-- The text of a path: how it is printed, and which texts are parsed as which paths, and as which plans.
use Rattle.std.specs.Prelude.{◌≡◌, ℕ, ◌+◌, ◌<◌, ◌≤◌, Bool, ◌⊎◌, List, [], ◌∷◌, ◌++◌, length, take, map, flat_map, codes, decimal, if◌then◌else◌}
use Rattle.std.specs.List.{AllZip, join_with_byte}
use Rattle.ascii_text.specs.Lines.{full_lines}
use Rattle.ascii_text.specs.Tokens.{has_bytes, tokens_in}
use Rattle.conf_change.specs.ChangeList.{letter_of, ParsesTo}
use Rattle.conf_change.specs.ConfStateLine.{truth_text}
use Rattle.conf_change.specs.declared.change.Change.{Change}
use Rattle.conf_change.specs.declared.step.Step.{Step}
use Rattle.conf_change.specs.declared.step.Step.TheVariants.{Simple, EnterJoint, LeaveJoint}
use Rattle.conf_change.specs.Step.{changes_of}
use Rattle.conf_plan.specs.declared.text.PlanTextFault.{PlanTextFault}
use Rattle.conf_plan.specs.declared.text.PlanTextFault.TheVariants.{BadLine, TooManySteps, NoMemory}

-- the flag of entering a joint configuration: autoleave=true or autoleave=false
abbrev pub flag_token : Bool → List ℕ
flag_token auto_leave = codes "autoleave=" ++ truth_text auto_leave

-- the tokens before the changes on a step's line: the command and its flag
abbrev pub command_tokens : Step → List (List ℕ)
command_tokens (Simple _) = codes "simple" ∷ []
command_tokens (EnterJoint auto_leave _) = codes "enter-joint" ∷ flag_token auto_leave ∷ []
command_tokens LeaveJoint = codes "leave-joint" ∷ []

-- ---- printing
-- a change: its letter, and its id without leading zeros
abbrev pub change_text : Change → List ℕ
change_text change = letter_of change.kind ∷ decimal change.id

-- a change after a space
abbrev pub spaced_change : Change → List ℕ
spaced_change change = 32 ∷ change_text change

-- a step's line: its tokens with one space between them, as in simple l4 l5
abbrev pub line_text : Step → List ℕ
line_text step = join_with_byte 32 (command_tokens step ++ map change_text (changes_of step))

-- a step's line, and the newline that ends it
abbrev pub line_and_newline : Step → List ℕ
line_and_newline step = line_text step ++ codes "\n"

-- a line for each step, or `nothing to do`
abbrev pub plan_text : List Step → List ℕ
plan_text [] = codes "nothing to do\n"
plan_text (step ∷ steps) = flat_map line_and_newline (step ∷ steps)

-- ---- parsing
-- The lines of a text, each with its newline if it has one. The empty text is one blank line.
abbrev pub plan_lines : List ℕ → List (List ℕ)
plan_lines text = if has_bytes text then full_lines text else [] ∷ []

-- the tokens of the line are the step's command and then its changes, with any white space around them
pub record IsLineOf (line : List ℕ) (step : Step) : Type 0 where
  pub tokens : List (List ℕ)
  pub line_tokens : tokens_in line ≡ command_tokens step ++ tokens
  pub parsed : AllZip ParsesTo tokens (changes_of step)

-- the text is the one line `nothing to do`
pub record IsNothingToDo (text : List ℕ) : Type 0 where
  pub line : List ℕ
  pub alone : plan_lines text ≡ line ∷ []
  pub line_tokens : tokens_in line ≡ codes "nothing" ∷ codes "to" ∷ codes "do" ∷ []

-- the lines of the text are those of the steps in order, or it is `nothing to do` and there is no step
abbrev pub ParsesToPath : List ℕ → List Step → Type 0
ParsesToPath text steps = ((steps ≡ []) × IsNothingToDo text) ⊎ AllZip IsLineOf (plan_lines text) steps

-- the line with this number, counted from 1, is the first of the lines that is not parsed as a step
pub record IsFirstBadLine (lines : List (List ℕ)) (number : ℕ) : Type 0 where
  pub before : List (List ℕ)
  pub line : List ℕ
  pub after : List (List ℕ)
  pub steps : List Step
  pub position : lines ≡ before ++ line ∷ after
  pub counted : number ≡ length before + 1
  pub parsed : AllZip IsLineOf before steps
  pub bad : (step : Step) → ¬ (IsLineOf line step)

-- the text is not parsed as a path, for this reason; running out of memory is not a reason of the text
abbrev pub HasPathFault : List ℕ → PlanTextFault → Type 0
HasPathFault text (BadLine number) = (¬ (IsNothingToDo text)) × IsFirstBadLine (plan_lines text) number
HasPathFault text TooManySteps = ⊥
HasPathFault text NoMemory = ⊥

-- ---- paths of at most four steps
-- the text is parsed as the plan of these steps: as a path of at most four steps
pub record ParsesToPlan (text : List ℕ) (steps : List Step) : Type 0 where
  pub at_most_four : length steps ≤ 4
  pub path : ParsesToPath text steps

-- the first four lines are those of steps, and they are followed by a fifth line, whatever it is
pub record IsTooLong (text : List ℕ) : Type 0 where
  pub steps : List Step
  pub parsed : AllZip IsLineOf (take 4 (plan_lines text)) steps
  pub fifth : 4 < length (plan_lines text)

-- the text is not parsed as a plan, for this reason; a bad line is one of the first four
abbrev pub HasPlanFault : List ℕ → PlanTextFault → Type 0
HasPlanFault text (BadLine number) = (number ≤ 4) × HasPathFault text (BadLine number)
HasPlanFault text TooManySteps = IsTooLong text
HasPlanFault text NoMemory = ⊥
