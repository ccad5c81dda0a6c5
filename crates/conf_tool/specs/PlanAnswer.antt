-- The output of the mode `plan` for a pair: the path between two configurations, or why there is none.
use Rattle.std.specs.Prelude.{ℕ, List, ◌++◌, Option, Some, None, Result, Ok, Err, codes, if◌then◌else◌}
use Rattle.quorum_sets.specs.Ids.{Ids}
use Rattle.conf_change.specs.Configuration.{Configuration, has_voter}
use Rattle.conf_change.specs.declared.step.Step.{Step}
use Rattle.conf_plan.specs.PathBy.{has_path, ids_down, path_by}
use Rattle.ascii_text.specs.Lines.{newline}
use Rattle.plan_output.specs.Json.{value_line, no_plan_json}
use Rattle.plan_output.specs.Output as output
use Rattle.plan_output.specs.Stages.{stalls}
use Rattle.plan_output.specs.Steps.{stall_note}
use Rattle.plan_output.specs.declared.output.Output.TheVariants.{Steps, Table, Json}
use Rattle.conf_session.specs.SessionState.{SessionState}
use Rattle.conf_tool.specs.PlanScript.{script_items, script_text}
use Rattle.conf_tool.specs.Reports.{session_after_all}
use Rattle.conf_tool.specs.Pairs.{Pair}
use Rattle.conf_tool.specs.declared.plan_options.PlanOptions.{PlanOptions}
use Rattle.conf_tool.specs.declared.plan_options.PlanOutput.{PlanOutput}
use Rattle.conf_tool.specs.declared.plan_options.PlanOutput.TheVariants.{Script, Text}
use Rattle.conf_tool.specs.declared.status.Status.{Status}
use Rattle.conf_tool.specs.declared.status.Status.TheVariants.{Clean, Different}

-- ---- a path
-- The text of a path in this form, for the pair with this number and with these ids down. A script has the actual
-- output of this session.
abbrev pub text_as : PlanOutput → SessionState → ℕ → Option Ids → Configuration → List Step → List ℕ
text_as Script session number down now steps = script_text session (stall_note down now steps) now steps
text_as (Text form) session number down now steps = output.text_as form number down now steps

-- the text of a path in the form that the options name
abbrev pub path_text : PlanOptions → SessionState → ℕ → Configuration → List Step → List ℕ
path_text options session number now steps = text_as options.output session number options.down now steps

-- the session after that text: it runs the script, if the output is one
abbrev pub session_as : PlanOutput → SessionState → Option Ids → Configuration → List Step → SessionState
session_as Script session down now steps = session_after_all session (script_items (stall_note down now steps) now steps)
session_as (Text form) session down now steps = session

-- the status of a path: different if ids are down and the path stalls then
abbrev pub path_status : Option Ids → Configuration → List Step → Status
path_status None now steps = Clean
path_status (Some down) now steps = if stalls now steps down then Different else Clean

-- ---- no path
-- a comment with the reason why there is no plan
abbrev pub no_plan_comment : List ℕ → List ℕ
no_plan_comment why = codes "# no plan: " ++ why ++ newline

-- the reply to the pair with this number if it has no plan: the reason, in the form of the output
abbrev pub no_plan_text : PlanOutput → ℕ → List ℕ → List ℕ
no_plan_text Script number why = no_plan_comment why
no_plan_text (Text Steps) number why = no_plan_comment why
no_plan_text (Text Table) number why = no_plan_comment why
no_plan_text (Text Json) number why = value_line (no_plan_json number why)

-- ---- a pair
-- the path of a pair by its strategy, made while the ids of the options are down, or why there is none
abbrev pub path_between : PlanOptions → Pair → Result (List Step) (List ℕ)
path_between options pair =
    if has_voter pair.current then (if has_voter pair.target then (if has_path pair.strategy pair.current pair.target then Ok (path_by pair.strategy (ids_down options.down) pair.current pair.target)
    else Err (codes "the target is joint")) else Err (codes "the target has no voter"))
    else Err (codes "the current configuration has no voter")

-- the reply to a pair for this path, or for this reason why there is none
abbrev pub reply_text : PlanOptions → SessionState → ℕ → Configuration → Result (List Step) (List ℕ) → List ℕ
reply_text options session number now (Ok steps) = path_text options session number now steps
reply_text options session number now (Err why) = no_plan_text options.output number why

-- the reply to the pair with this number, in this session: the text of its path, or why there is none
abbrev pub plan_text_between : PlanOptions → SessionState → ℕ → Pair → List ℕ
plan_text_between options session number pair = reply_text options session number pair.current (path_between options pair)

-- the session after that reply; no path leaves it as it is
abbrev pub session_with : PlanOptions → SessionState → Configuration → Result (List Step) (List ℕ) → SessionState
session_with options session now (Ok steps) = session_as options.output session options.down now steps
session_with options session now (Err why) = session

-- the session after the reply to a pair
abbrev pub session_between : PlanOptions → SessionState → Pair → SessionState
session_between options session pair = session_with options session pair.current (path_between options pair)

-- the status of a pair with this path: different if there is none, or if it stalls
abbrev pub status_with : PlanOptions → Configuration → Result (List Step) (List ℕ) → Status
status_with options now (Ok steps) = path_status options.down now steps
status_with options now (Err why) = Different

-- the status of a pair
abbrev pub plan_status : PlanOptions → Pair → Status
plan_status options pair = status_with options pair.current (path_between options pair)
