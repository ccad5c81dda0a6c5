-- The configuration of a line after the steps of a path.
use Rattle.std.specs.Prelude.{ℕ, ◌+◌, List, [], ◌∷◌, Option, Some, None, Result, Ok, Err}
use Rattle.conf_change.specs.Configuration.{Configuration}
use Rattle.conf_change.specs.ConfState.{ConfStateLists, lists_of, restored}
use Rattle.conf_change.specs.ConfStateLine.{conf_state_in, conf_state_text}
use Rattle.conf_change.specs.Outcome.{Outcome, outcome}
use Rattle.conf_change.specs.declared.refused.Refused.{Refused}
use Rattle.conf_change.specs.declared.refused.Refused.TheVariants as refused
use Rattle.conf_change.specs.declared.restore.RestoreFault.{RestoreFault}
use Rattle.conf_change.specs.declared.restore.RestoreFault.TheVariants as unrestored
use Rattle.conf_change.specs.declared.step.Step.{Step}
use Rattle.conf_plan.specs.PlanCode.{path_in}
use Rattle.conf_plan.specs.declared.text.PlanTextFault.{PlanTextFault}
use Rattle.conf_plan.specs.declared.text.PlanTextFault.TheVariants as fault
use Rattle.confscript_c.specs.Answer.{status_answer, no_memory}
use Rattle.confscript_c.specs.InputLines.{read_as}
use Rattle.confscript_c.specs.Written.{OutResult}
use Rattle.confscript_c.specs.declared.answer.Answer.{Answer}
use Rattle.confscript_c.specs.declared.status.Status.TheVariants.{NotAConfiguration, BadLine, AlreadyJoint, ZeroVoterJoint, NotJoint, SimpleInJoint, RemovedAllVoters, MoreThanOneVoter}

-- the configuration that was restored from line 1, or the answer if none was
abbrev pub restored_one : Option Configuration → Result Configuration Answer
restored_one None = Err (status_answer NotAConfiguration 1)
restored_one (Some c) = Ok c

-- the configuration that is restored from a line, given what was read from it, or the answer if none is
abbrev pub restored_of : Result ConfStateLists Answer → Result Configuration Answer
restored_of (Err why) = Err why
restored_of (Ok saved) = restored_one (restored saved)

-- the answer for a configuration that is not restored from line 1
abbrev pub restore_answer : RestoreFault → Answer
restore_answer unrestored.NotAConfiguration = status_answer NotAConfiguration 1
restore_answer unrestored.NoMemory = no_memory

-- the answer for a text that is not a path; a path may have any number of steps, so the fifth line is never refused for
-- being one
abbrev pub text_fault_answer : PlanTextFault → Answer
text_fault_answer (fault.BadLine number) = status_answer BadLine number
text_fault_answer fault.TooManySteps = status_answer BadLine 5
text_fault_answer fault.NoMemory = no_memory

-- the answer for a refused step with this number
abbrev pub refusal_answer : Refused → ℕ → Answer
refusal_answer refused.AlreadyJoint number = status_answer AlreadyJoint number
refusal_answer refused.ZeroVoterJoint number = status_answer ZeroVoterJoint number
refusal_answer refused.NotJoint number = status_answer NotJoint number
refusal_answer refused.SimpleInJoint number = status_answer SimpleInJoint number
refusal_answer refused.RemovedAllVoters number = status_answer RemovedAllVoters number
refusal_answer refused.MoreThanOneVoter number = status_answer MoreThanOneVoter number
refusal_answer refused.NoMemory number = no_memory

-- the result, given the outcome of one step: the answer if it is refused, else the result of the rest
abbrev pub then_result : ℕ → Outcome → (Configuration → OutResult) → OutResult
then_result number (Err why) rest = Err (refusal_answer why number)
then_result number (Ok next) rest = rest next

-- the line of the configuration after all steps, the first of which has this number; or the answer for the first step
-- that is refused
abbrev pub steps_result : ℕ → Configuration → List Step → OutResult
steps_result number c [] = Ok (conf_state_text (lists_of c))
steps_result number c (step ∷ steps) =
    then_result number (outcome c step) (λ next. steps_result (number + 1) next steps)

-- the result of applying steps to a configuration; an error of the configuration comes before one of the path
abbrev pub applied : Result Configuration Answer → Result (List Step) PlanTextFault → OutResult
applied (Err why) steps = Err why
applied (Ok c) (Err fault) = Err (text_fault_answer fault)
applied (Ok c) (Ok steps) = steps_result 1 c steps

-- the result of `confscript_apply` for the texts of a line and of a path
abbrev pub apply_result : List ℕ → List ℕ → OutResult
apply_result state path = applied (restored_of (read_as 1 (conf_state_in state))) (path_in path)
