-- One step of a configuration in numbers.
use Rattle.std.specs.Prelude.{◌≡◌, ℕ, ◌+◌, ◌==◌, List, [], ◌∷◌, Option, Some, None, Result, Ok, Err, if◌then◌else◌}
use Rattle.conf_change.specs.Configuration.{Configuration}
use Rattle.conf_change.specs.Outcome.{Outcome, outcome}
use Rattle.conf_change.specs.Transition.{step_kind_of, step_of}
use Rattle.conf_change.specs.declared.change.Change.{Change}
use Rattle.conf_change.specs.declared.change.Kind.{Kind}
use Rattle.conf_change.specs.declared.change.Kind.TheVariants.{Voter, Learner, Remove, Update}
use Rattle.conf_change.specs.declared.step.Step.{Step}
use Rattle.conf_change.specs.declared.step.StepKind.{StepKind}
use Rattle.conf_change.specs.declared.step.StepKind.TheVariants as step_kind
use Rattle.conf_change.specs.declared.transition.Transition.TheVariants.{Auto, Implicit, Explicit}
use Rattle.conf_plan.specs.OnTheWay.{catching_up}
use Rattle.confscript_c.specs.Answer.{status_answer}
use Rattle.confscript_c.specs.Applied.{refusal_answer}
use Rattle.confscript_c.specs.Numbers.{configuration_of, numbers_of}
use Rattle.confscript_c.specs.Written.{OutResult}
use Rattle.confscript_c.specs.declared.answer.Answer.{Answer}
use Rattle.confscript_c.specs.declared.stepping.NumberedChange.{NumberedChange}
use Rattle.confscript_c.specs.declared.status.Status.TheVariants.{BadStep, BadChange}

-- ---- changes
-- the kind of a change with this number, which is that of raftpb.ConfChangeType
abbrev pub kind_of_number : ℕ → Option Kind
kind_of_number number =
    if number == 0 then Some Voter
    else (if number == 1 then Some Remove
    else (if number == 2 then Some Update
    else (if number == 3 then Some Learner else None)))

-- a change before the others, or the answer if it or one of them has an unknown kind
abbrev pub change_before : ℕ → ℕ → Option Kind → Result (List Change) Answer → Result (List Change) Answer
change_before position id None rest = Err (status_answer BadChange position)
change_before position id (Some kind) (Err why) = Err why
change_before position id (Some kind) (Ok changes) = Ok (record { kind = kind; id = id } ∷ changes)

-- the changes, the first of which has this position; or the answer for the first that has an unknown kind
abbrev pub changes_from : ℕ → List NumberedChange → Result (List Change) Answer
changes_from position [] = Ok []
changes_from position (change ∷ changes) =
    change_before position change.id (kind_of_number change.kind) (changes_from (position + 1) changes)

-- ---- the step
-- how the changes are made, by the number of an enum confscript_step_kind
abbrev pub step_kind_at : ℕ → List Change → Result StepKind Answer
step_kind_at number changes =
    if number == 0 then Ok (step_kind_of Auto changes)
    else (if number == 1 then Ok (step_kind_of Implicit changes)
    else (if number == 2 then Ok (step_kind_of Explicit changes)
    else (if number == 3 then Ok step_kind.Simple
    else (if number == 4 then Ok step_kind.Leave else Err (status_answer BadStep 0)))))

-- the array of the configuration after a step with this outcome, with the members that did not keep their progress
abbrev pub array_after : Configuration → Step → Outcome → OutResult
array_after c step (Ok after) = Ok (numbers_of after (catching_up c step after))
array_after c step (Err why) = Err (refusal_answer why 0)

-- the result of a step of this kind
abbrev pub stepped : Configuration → List Change → Result StepKind Answer → OutResult
stepped c changes (Err why) = Err why
stepped c changes (Ok kind) = array_after c (step_of kind changes) (outcome c (step_of kind changes))

-- the result, given the configuration and the changes; an error of the configuration comes first, and then one of the
-- changes
abbrev pub step_result_of : ℕ → Result Configuration Answer → Result (List Change) Answer → OutResult
step_result_of number (Err why) changes = Err why
step_result_of number (Ok c) (Err why) = Err why
step_result_of number (Ok c) (Ok changes) = stepped c changes (step_kind_at number changes)

-- the result of `confscript_step`
abbrev pub step_result : List ℕ → ℕ → List NumberedChange → OutResult
step_result numbers number changes = step_result_of number (configuration_of numbers) (changes_from 1 changes)

-- The second array has the configuration to which the step of these changes leads from that of the first.
pub record StepsTo (numbers : List ℕ) (number : ℕ) (changes : List NumberedChange) (out : List ℕ) : Type 0 where
  pub before : Configuration
  pub made : List Change
  pub kind : StepKind
  pub after : Configuration
  pub begins : configuration_of numbers ≡ Ok before
  pub changes_read : changes_from 1 changes ≡ Ok made
  pub kind_read : step_kind_at number made ≡ Ok kind
  pub taken : outcome before (step_of kind made) ≡ Ok after
  pub ends : configuration_of out ≡ Ok after
