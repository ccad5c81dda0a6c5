-- What to do next on the way to a target.
use Rattle.std.specs.Prelude.{◌≡◌, ◌≢◌, false, ◌++◌, List, [], ◌∷◌, unwrap_or}
use Rattle.quorum_sets.specs.Ids.{Ids}
use Rattle.conf_change.specs.Configuration.{Configuration}
use Rattle.conf_change.specs.declared.step.Step.{Step}
use Rattle.conf_plan.specs.OneChangeEach.{one_change_each}
use Rattle.conf_plan.specs.PathBy.{path_by}
use Rattle.conf_plan.specs.declared.strategy.NoPath.{NoPath}
use Rattle.conf_plan.specs.declared.strategy.NoPath.TheVariants as why
use Rattle.conf_plan.specs.declared.strategy.Strategy.{Strategy}
use Rattle.conf_plan.specs.declared.strategy.Strategy.TheVariants.{Shortest}
use Rattle.plan_output.specs.Stages.{stalls}
use Rattle.conf_driver.specs.Rows.{first_of, rows_of_view, rows_of_path, rows_of_step}
use Rattle.conf_driver.specs.Situation.{Situation, situation_of}
use Rattle.conf_driver.specs.View.{ViewState, lacks_conf_index, lacks_leader_progress}
use Rattle.conf_driver.specs.declared.action.Action.{Action}
use Rattle.conf_driver.specs.declared.action.Action.TheVariants.{Propose, Done}
use Rattle.conf_driver.specs.declared.answer.NextFault.{NextFault}
use Rattle.conf_driver.specs.declared.answer.NextFault.TheVariants as fault

-- 19. the first step is proposed; without one, an earlier row applies
abbrev pub propose_first : List Step → Action
propose_first [] = Done
propose_first (step ∷ steps) = Propose step

-- the first row that applies
abbrev pub answer_in : Situation → List Step → Action
answer_in s steps = unwrap_or (first_of (rows_of_view s ++ rows_of_path s ++ rows_of_step s)) (propose_first steps)

-- the situation on a path, in which each change of a simple step is a step of its own, which raft takes as one proposal
abbrev pub situation_on : Configuration → Ids → ViewState → List Step → Situation
situation_on target down view path = situation_of target down view (one_change_each path) (stalls view.conf_state path down)

-- what to do on a path
abbrev pub answer_on : Configuration → Ids → ViewState → List Step → Action
answer_on target down view path = answer_in (situation_on target down view path) (one_change_each path)

-- the situation on the path by a strategy, which is made anew, for these ids that are down
abbrev pub situation : Strategy → Configuration → Ids → ViewState → Situation
situation strategy target down view = situation_on target down view (path_by strategy down view.conf_state target)

-- what to do next on that path
abbrev pub next_of : Strategy → Configuration → Ids → ViewState → Action
next_of strategy target down view = answer_on target down view (path_by strategy down view.conf_state target)

-- What is asked is complete: the strategy is not the shortest one, raft does not leave the target by itself, and of a
-- leader the index that makes the configuration known is filled in, and as long as it is a member, its progress.
abbrev pub IsWellPosed : Strategy → Configuration → ViewState → Type 0
IsWellPosed strategy target view =
    (strategy ≢ Shortest) × (target.auto_leave ≡ false) × (lacks_conf_index view ≡ false) × (lacks_leader_progress view ≡ false)

-- why there is no answer, where there is no path
abbrev pub no_path : NoPath → NextFault
no_path why.NoVoterNow = fault.NoVoterNow
no_path why.NoVoterTarget = fault.NoVoterTarget
no_path why.JointTarget = fault.JointTarget
no_path why.NoMemory = fault.NoMemory
