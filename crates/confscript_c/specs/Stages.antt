-- A plan in numbers: what is proposed for each of its stages, and where it leads (own).
use Rattle.std.specs.Prelude.{◌≡◌, ℕ, ◌-◌, ◌^◌, Bool, false, List, [], ◌∷◌, ◌++◌, length, map, flat_map, Option, Some, None, Result, Ok, Err, ⊤}
use Rattle.quorum_sets.specs.Ids.{Ids, no_ids}
use Rattle.conf_change.specs.Configuration.{Configuration}
use Rattle.conf_change.specs.declared.change.Change.{Change}
use Rattle.conf_change.specs.declared.change.Kind.{Kind}
use Rattle.conf_change.specs.declared.change.Kind.TheVariants.{Voter, Remove, Update, Learner}
use Rattle.conf_change.specs.declared.step.Step.{Step}
use Rattle.conf_change.specs.declared.step.Step.TheVariants.{Simple, EnterJoint, LeaveJoint}
use Rattle.conf_change.specs.declared.transition.Transition.{Transition}
use Rattle.conf_change.specs.declared.transition.Transition.TheVariants.{Auto, Implicit, Explicit}
use Rattle.conf_plan.specs.OneChangeEach.{one_change_each}
use Rattle.conf_plan.specs.PathBy.{ids_down, KeepsPromises}
use Rattle.plan_output.specs.Json.{json_text}
use Rattle.plan_output.specs.Stages.{AreOnTheWay, StageState, first_stage, stage_after, stage_may_be_down, while_catching_up, may_be_down_besides, stages, stalls}
use Rattle.raft_json.specs.Proposal.{proposed_changes, transition_of}
use Rattle.confscript_c.specs.Numbers.{flag_number, numbers_of, valid_configuration_of}
use Rattle.confscript_c.specs.Paths.{members_path_result}
use Rattle.confscript_c.specs.Request.{down_in, request_in}
use Rattle.confscript_c.specs.Stepped.{step_result}
use Rattle.confscript_c.specs.Written.{OutResult}
use Rattle.confscript_c.specs.declared.answer.Answer.{Answer}
use Rattle.confscript_c.specs.declared.request.Request.{Request}
use Rattle.confscript_c.specs.declared.stepping.NumberedChange.{NumberedChange}

-- ---- a stage
-- the number of a transition, which is that of raftpb.ConfChangeTransition
abbrev pub transition_number : Transition → ℕ
transition_number Auto = 0
transition_number Implicit = 1
transition_number Explicit = 2

-- the number of a kind of change, which is that of raftpb.ConfChangeType
abbrev pub kind_number : Kind → ℕ
kind_number Voter = 0
kind_number Remove = 1
kind_number Update = 2
kind_number Learner = 3

-- how many ids may be down, or the greatest number of 64 bits if the voters that count are not a quorum
abbrev pub count_number : Option ℕ → ℕ
count_number None = 2 ^ 64 - 1
count_number (Some count) = count

-- the numbers of a change
abbrev pub change_numbers : Change → List ℕ
change_numbers change = kind_number change.kind ∷ change.id ∷ []

-- how many changes there are, and each of them
abbrev pub changes_numbers : List Change → List ℕ
changes_numbers changes = length changes ∷ flat_map change_numbers changes

-- the stage after a step: what is proposed for the step, how many ids may be down after it, and the configuration
-- there, with the members that are catching up
abbrev pub stage_numbers : Ids → StageState → Step → StageState → List ℕ
stage_numbers down before step after =
    transition_number (transition_of step) ∷ count_number (stage_may_be_down after)
    ∷ count_number (while_catching_up after) ∷ count_number (may_be_down_besides after down)
    ∷ changes_numbers (proposed_changes before.config step) ++ numbers_of after.config after.catching_up

-- ---- all stages
-- the stages after these steps, which lead from this stage, one after another
abbrev pub stages_numbers : Ids → StageState → List Step → List ℕ
stages_numbers down before [] = []
stages_numbers down before (step ∷ steps) =
    stage_numbers down before step (stage_after before.config step)
    ++ stages_numbers down (stage_after before.config step) steps

-- whether the path stalls, how many stages follow, and the stages
abbrev pub counted_stages : Bool → Ids → Configuration → List Step → List ℕ
counted_stages stalls down now steps = flag_number stalls ∷ length steps ∷ stages_numbers down (first_stage now) steps

-- The array of a path, in which a simple step of several changes is as many stages of one change each. If no ids are
-- given that are down, it does not stall.
abbrev pub stages_array : Option Ids → Configuration → List Step → List ℕ
stages_array None now steps = counted_stages false no_ids now (one_change_each steps)
stages_array (Some down) now steps = counted_stages (stalls now steps down) down now (one_change_each steps)

-- ---- the call
-- the result for a request and two configurations; an error of the request comes first, then one of the current
-- configuration, then one of the target
abbrev pub stages_for : Result Request Answer → Result Configuration Answer → Result Configuration Answer → OutResult
stages_for (Err why) now target = Err why
stages_for (Ok request) (Err why) target = Err why
stages_for (Ok request) (Ok now) (Err why) = Err why
stages_for (Ok request) (Ok now) (Ok target) =
    members_path_result request now target (stages_array request.down now)

-- the result of `confscript_stages` for two arrays, the code of a strategy and a list of ids that are down
abbrev pub stages_result : List ℕ → List ℕ → ℕ → List ℕ → OutResult
stages_result configuration target strategy down =
    stages_for (request_in strategy down) (valid_configuration_of configuration) (valid_configuration_of target)

-- The array is that of steps that lead from one configuration to the other and keep what the strategy promises. Its
-- stages are on the way to the other, which is the configuration of the last one.
pub record IsStagesArray (request : Request) (now target : Configuration) (array : List ℕ) : Type 0 where
  pub steps : List Step
  pub written : array ≡ stages_array request.down now steps
  pub promises : KeepsPromises request.strategy (ids_down request.down) now steps target
  pub on_the_way : AreOnTheWay (stages now (one_change_each steps)) (one_change_each steps) target

-- The array of a call with these arguments is that of steps from the configuration of the first array to the target.
pub record StagesLead (configuration target : List ℕ) (strategy : ℕ) (down array : List ℕ) : Type 0 where
  pub request : Request
  pub before : Configuration
  pub after : Configuration
  pub asked : request_in strategy down ≡ Ok request
  pub begins : valid_configuration_of configuration ≡ Ok before
  pub ends : valid_configuration_of target ≡ Ok after
  pub leads : IsStagesArray request before after array

-- ---- the stages beside the JSON lines
-- The results of `confscript_plan` with JSON lines and of `confscript_stages` for this configuration and these ids
-- down: the lines and the array of the same steps, or the same refusal.
abbrev pub AreOfOnePath : List ℕ → Configuration → OutResult → OutResult → Type 0
AreOfOnePath given now (Ok text) array =
    (down : Option Ids) × (steps : List Step) × (down_in given ≡ Ok down) × (text ≡ json_text 1 now steps down)
    × (array ≡ Ok (stages_array down now steps))
AreOfOnePath given now (Err why) array = array ≡ Err why

-- ---- the stages by `confscript_step`
-- a change, as `confscript_step` takes it
abbrev pub numbered : Change → NumberedChange
numbered change = record { kind = kind_number change.kind; id = change.id }

-- a step for which one proposal is made: a simple one of one change, or entering or leaving a joint configuration
abbrev pub IsOneProposal : Step → Type 0
IsOneProposal (Simple changes) = length changes ≡ 1
IsOneProposal (EnterJoint auto_leave changes) = ⊤
IsOneProposal LeaveJoint = ⊤

-- Given the array of a stage and what is proposed for the step, `confscript_step` writes the array of the stage after
-- it.
abbrev pub IsStepped : StageState → Step → StageState → Type 0
IsStepped before step after =
    step_result (numbers_of before.config before.catching_up) (transition_number (transition_of step))
    (map numbered (proposed_changes before.config step))
    ≡ Ok (numbers_of after.config after.catching_up)

-- Each stage of these steps, the first of which leads from this stage, is that call on the array of the stage before it.
abbrev pub AreStepped : StageState → List Step → Type 0
AreStepped before [] = ⊤
AreStepped before (step ∷ steps) =
    IsStepped before step (stage_after before.config step) × AreStepped (stage_after before.config step) steps
