-- The parsers of paths and of plans, as functions.
use Rattle.std.specs.Prelude.{ℕ, ◌+◌, Bool, true, false, List, [], ◌∷◌, length, nat_le, codes, Option, Some, None, option_map, option_and_then, Result, Ok, Err, bytes_eq, if◌then◌else◌}
use Rattle.std.specs.Cmp.Lexicographic.{pointwise}
use Rattle.std.specs.Result.{result_ok}
use Rattle.ascii_text.specs.Tokens.{tokens_in}
use Rattle.conf_change.specs.ChangeList.{changes_in_tokens}
use Rattle.conf_change.specs.declared.change.Change.{Change}
use Rattle.conf_change.specs.declared.step.Step.{Step}
use Rattle.conf_change.specs.declared.step.Step.TheVariants.{Simple, EnterJoint, LeaveJoint}
use Rattle.conf_plan.specs.PlanText.{flag_token, plan_lines}
use Rattle.conf_plan.specs.declared.text.PlanTextFault.{PlanTextFault}
use Rattle.conf_plan.specs.declared.text.PlanTextFault.TheVariants.{BadLine, TooManySteps, NoMemory}

-- the changes of tokens, if each token is parsed as a change
abbrev pub list_in : List (List ℕ) → Option (List Change)
list_in tokens = result_ok (changes_in_tokens tokens)

-- the flag that a token is parsed as
abbrev pub flag_of_token : List ℕ → Option Bool
flag_of_token token = if bytes_eq token (flag_token true) then Some true else (if bytes_eq token (flag_token false) then Some false else None)

-- the step of the tokens after enter-joint: a flag, then changes
abbrev pub enter_in : List (List ℕ) → Option Step
enter_in [] = None
enter_in (flag ∷ tokens) = option_and_then (λ auto_leave. option_map (EnterJoint auto_leave) (list_in tokens)) (flag_of_token flag)

-- the step of the tokens after leave-joint, which takes no arguments
abbrev pub leave_in : List (List ℕ) → Option Step
leave_in [] = Some LeaveJoint
leave_in (_ ∷ _) = None

-- the step that the tokens of a line are parsed as
abbrev pub step_in : List (List ℕ) → Option Step
step_in [] = None
step_in (command ∷ tokens) =
    if bytes_eq command (codes "simple") then option_map Simple (list_in tokens)
    else (if bytes_eq command (codes "enter-joint") then enter_in tokens
    else (if bytes_eq command (codes "leave-joint") then leave_in tokens else None))

-- the step of a line, before those of the lines after it; or the first error, its line counted from this one
abbrev pub and_steps : Option Step → Result (List Step) PlanTextFault → Result (List Step) PlanTextFault
and_steps None others = Err (BadLine 1)
and_steps (Some step) (Ok steps) = Ok (step ∷ steps)
and_steps (Some step) (Err (BadLine number)) = Err (BadLine (number + 1))
and_steps (Some step) (Err TooManySteps) = Err TooManySteps
and_steps (Some step) (Err NoMemory) = Err NoMemory

-- the steps of lines
abbrev pub steps_in : List (List ℕ) → Result (List Step) PlanTextFault
steps_in [] = Ok []
steps_in (line ∷ lines) = and_steps (step_in (tokens_in line)) (steps_in lines)

-- the tokens are those of `nothing to do`
abbrev pub is_nothing : List (List ℕ) → Bool
is_nothing tokens = pointwise bytes_eq tokens (codes "nothing" ∷ codes "to" ∷ codes "do" ∷ [])

-- the lines are the one line `nothing to do`
abbrev pub is_nothing_to_do : List (List ℕ) → Bool
is_nothing_to_do (line ∷ []) = is_nothing (tokens_in line)
is_nothing_to_do _ = false

-- the path that a text is parsed as, or why it is not parsed
abbrev pub path_in : List ℕ → Result (List Step) PlanTextFault
path_in text = if is_nothing_to_do (plan_lines text) then Ok [] else steps_in (plan_lines text)

-- the plan of a path that was read, if its lines are at most four; a fifth line is one too many, whatever it is
abbrev pub at_most_four : Result (List Step) PlanTextFault → Result (List Step) PlanTextFault
at_most_four (Ok steps) = if nat_le (length steps) 4 then Ok steps else Err TooManySteps
at_most_four (Err (BadLine number)) = if nat_le number 4 then Err (BadLine number) else Err TooManySteps
at_most_four (Err TooManySteps) = Err TooManySteps
at_most_four (Err NoMemory) = Err NoMemory

-- the plan that a text is parsed as, or why it is not parsed
abbrev pub plan_in : List ℕ → Result (List Step) PlanTextFault
plan_in text = at_most_four (path_in text)
