-- The call that says what to do next (own).
use Rattle.std.specs.Prelude.{ℕ, List, Result, Ok, Err, if◌then◌else◌}
use Rattle.conf_change.specs.Configuration.{Configuration}
use Rattle.conf_driver.specs.Next.{next_of}
use Rattle.conf_driver.specs.View.{ViewState, lacks_conf_index, lacks_leader_progress}
use Rattle.conf_driver.specs.declared.answer.NextFault.{NextFault}
use Rattle.conf_driver.specs.declared.answer.NextFault.TheVariants as fault
use Rattle.conf_plan.specs.PathBy.{ids_down}
use Rattle.conf_plan.specs.declared.strategy.Strategy.{Strategy}
use Rattle.conf_plan.specs.declared.strategy.Strategy.TheVariants.{Shortest, LearnersFirst, OneAtATime}
use Rattle.confscript_c.specs.Actions.{action_numbers}
use Rattle.confscript_c.specs.Answer.{status_answer, no_memory}
use Rattle.confscript_c.specs.Numbers.{valid_configuration_of}
use Rattle.confscript_c.specs.Paths.{path_result}
use Rattle.confscript_c.specs.Request.{request_in}
use Rattle.confscript_c.specs.Views.{view_in}
use Rattle.confscript_c.specs.Written.{OutResult}
use Rattle.confscript_c.specs.declared.answer.Answer.{Answer}
use Rattle.confscript_c.specs.declared.request.Request.{Request}
use Rattle.confscript_c.specs.declared.status.Status.TheVariants.{NoVoter, JointTarget, StrategyMayStall, AutoLeaveTarget, NoConfIndex, NoLeaderProgress}

-- the answer where there is no action
abbrev pub no_action_answer : NextFault → Answer
no_action_answer fault.Shortest = status_answer StrategyMayStall 0
no_action_answer fault.AutoLeaveTarget = status_answer AutoLeaveTarget 0
no_action_answer fault.NoConfIndex = status_answer NoConfIndex 0
no_action_answer fault.NoLeaderProgress = status_answer NoLeaderProgress 0
no_action_answer fault.NoVoterNow = status_answer NoVoter 1
no_action_answer fault.NoVoterTarget = status_answer NoVoter 2
no_action_answer fault.JointTarget = status_answer JointTarget 0
no_action_answer fault.NoMemory = no_memory

-- the result, unless the strategy is the shortest plan
abbrev pub unless_shortest : Strategy → OutResult → OutResult
unless_shortest Shortest result = Err (status_answer StrategyMayStall 0)
unless_shortest LearnersFirst result = result
unless_shortest OneAtATime result = result

-- the result, unless the target is left by raft or the view of a leader is not complete
abbrev pub if_complete : Configuration → ViewState → OutResult → OutResult
if_complete target view result =
    if target.auto_leave then Err (status_answer AutoLeaveTarget 0)
    else (if lacks_conf_index view then Err (status_answer NoConfIndex 0)
    else (if lacks_leader_progress view then Err (status_answer NoLeaderProgress 0) else result))

-- the result for a request, a target and a view
abbrev pub action_result : Request → Configuration → ViewState → OutResult
action_result request target view =
    unless_shortest request.strategy (if_complete target view (path_result request view.conf_state target
    (λ _. action_numbers (ids_down request.down) view.conf_state (next_of request.strategy target (ids_down request.down) view))))

-- the result if there is a view
abbrev pub viewed : Request → Configuration → Result ViewState Answer → OutResult
viewed request target (Err why) = Err why
viewed request target (Ok view) = action_result request target view

-- the result for a request, two configurations and an array; an error of the request comes first, then one of the
-- current configuration, one of the target, and one of the view
abbrev pub next_for : Result Request Answer → Result Configuration Answer → Result Configuration Answer → List ℕ → OutResult
next_for (Err why) now target view = Err why
next_for (Ok request) (Err why) target view = Err why
next_for (Ok request) (Ok now) (Err why) view = Err why
next_for (Ok request) (Ok now) (Ok target) view = viewed request target (view_in now view)

-- the result of `confscript_next` for two arrays of configurations, the code of a strategy, a list of ids that are down
-- and the array of a view
abbrev pub next_result : List ℕ → List ℕ → ℕ → List ℕ → List ℕ → OutResult
next_result configuration target strategy down view =
    next_for (request_in strategy down) (valid_configuration_of configuration) (valid_configuration_of target) view
