-- The answer to a line, as a line of JSON.
use Rattle.std.specs.Prelude.{ℕ, Bool, true, false, List, [], ◌∷◌, codes, Option, Some, None, option_and_then, unwrap_or, Result, Ok, Err, slice_get, if◌then◌else◌}
use Rattle.quorum_sets.specs.Ids.{Ids, ascending, is_empty}
use Rattle.conf_change.specs.Configuration.{Configuration, has_voter}
use Rattle.conf_change.specs.declared.step.Step.{Step}
use Rattle.conf_driver.specs.Next.{next_of}
use Rattle.conf_driver.specs.View.{ViewState, lacks_conf_index, lacks_leader_progress}
use Rattle.conf_driver.specs.declared.action.Action.{Action}
use Rattle.conf_driver.specs.declared.action.Action.TheVariants.{Start, Stop, Transfer, Propose, Wait, Stuck, Done}
use Rattle.conf_driver.specs.declared.action.StuckReason.{StuckReason}
use Rattle.conf_driver.specs.declared.action.StuckReason.TheVariants.{QuorumLost, Stalls, Reused}
use Rattle.conf_driver.specs.declared.action.WaitReason.{WaitReason}
use Rattle.conf_driver.specs.declared.action.WaitReason.TheVariants.{NoLeader, Pending, Heard, Unheard, Behind, Leaving}
use Rattle.conf_driver.specs.declared.answer.NextFault.{NextFault}
use Rattle.conf_driver.specs.declared.answer.NextFault.TheVariants as refused
use Rattle.conf_plan.specs.PathBy.{has_path, path_by}
use Rattle.conf_plan.specs.declared.strategy.Strategy.{Strategy}
use Rattle.conf_plan.specs.declared.strategy.Strategy.TheVariants.{Shortest, LearnersFirst, OneAtATime}
use Rattle.serde_json.specs.Data.{Data, string, object, Members, no_members, member, put}
use Rattle.serde_json.specs.Find.{as_object}
use Rattle.raft_json.specs.IdsJson.{ids_json}
use Rattle.plan_output.specs.Json.{path_json}
use Rattle.driver_json.specs.Question.{asked_in}
use Rattle.driver_json.specs.Texts.{fault_text}
use Rattle.driver_json.specs.Values.{given}
use Rattle.driver_json.specs.declared.line_fault.LineFault.{LineFault}
use Rattle.driver_json.specs.declared.line_fault.LineFault.TheVariants.{NoAnswer}
use Rattle.driver_json.specs.declared.question.Question.{Question}

-- ---- actions
abbrev pub wait_name : WaitReason → List ℕ
wait_name NoLeader = codes "no-leader"
wait_name Pending = codes "pending"
wait_name Heard = codes "heard"
wait_name Unheard = codes "unheard"
wait_name Behind = codes "behind"
wait_name Leaving = codes "leaving"

abbrev pub stuck_name : StuckReason → List ℕ
stuck_name QuorumLost = codes "quorum-lost"
stuck_name Stalls = codes "stalls"
stuck_name Reused = codes "reused"

-- the keys of an action that names ids, and others after them
abbrev pub ids_members : List ℕ → List ℕ → Members → Members
ids_members name ids others = member (codes "action") (string name) (member (codes "ids") (ids_json ids) others)

abbrev pub reason : List ℕ → Members
reason why = member (codes "why") (string why) no_members

-- the ids that are down as `plan` has them, which has no empty list of them
abbrev pub ids_given : Ids → Option Ids
ids_given down = if is_empty down then None else Some down

-- the path
abbrev pub path_for : Question → List Step
path_for q = path_by q.strategy q.down q.view.conf_state q.target

-- the keys of the first line that `plan --output json` prints for a path
abbrev pub first_line_of : Question → List Step → Members
first_line_of q path = unwrap_or (option_and_then as_object (slice_get (path_json 1 q.view.conf_state path (ids_given q.down)) 0)) no_members

-- the object of a proposal: those keys, and the action
abbrev pub proposal_json : Question → Data
proposal_json q = object (put (codes "action") (string (codes "propose")) (first_line_of q (path_for q)))

-- the object of an action
abbrev pub action_json : Question → Action → Data
action_json q (Start ids) = object (ids_members (codes "start") (ascending ids) no_members)
action_json q (Stop ids) = object (ids_members (codes "stop") (ascending ids) no_members)
action_json q (Transfer id) = object (ids_members (codes "transfer") (id ∷ []) no_members)
action_json q (Propose step) = proposal_json q
action_json q (Wait why ids) = object (ids_members (codes "wait") (ascending ids) (reason (wait_name why)))
action_json q (Stuck why ids) = object (ids_members (codes "stuck") (ascending ids) (reason (stuck_name why)))
action_json q Done = object (member (codes "action") (string (codes "done")) no_members)

-- ---- answers
-- why there is no path, by whether each configuration has a voter, and whether the strategy has one
abbrev pub no_path : Bool → Bool → Bool → Option NextFault
no_path false target path = Some refused.NoVoterNow
no_path true false path = Some refused.NoVoterTarget
no_path true true false = Some refused.JointTarget
no_path true true true = None

-- why there is no answer by a strategy that is not the shortest one
abbrev pub no_answer_by : Strategy → Configuration → ViewState → Option NextFault
no_answer_by strategy target view =
    if target.auto_leave then Some refused.AutoLeaveTarget
    else (if lacks_conf_index view then Some refused.NoConfIndex
    else (if lacks_leader_progress view then Some refused.NoLeaderProgress
    else no_path (has_voter view.conf_state) (has_voter target) (has_path strategy view.conf_state target)))

-- why there is no answer
abbrev pub no_answer : Strategy → Configuration → ViewState → Option NextFault
no_answer Shortest target view = Some refused.Shortest
no_answer LearnersFirst target view = no_answer_by LearnersFirst target view
no_answer OneAtATime target view = no_answer_by OneAtATime target view

-- the action, unless there is none for this reason
abbrev pub unless_refused : Option NextFault → Action → Result Action LineFault
unless_refused None action = Ok action
unless_refused (Some why) action = Err (NoAnswer why)

-- what to do next
abbrev pub action_for : Question → Result Action LineFault
action_for q = unless_refused (no_answer q.strategy q.target q.view) (next_of q.strategy q.target q.down q.view)

-- the object that answers a question, or why there is no answer
abbrev pub answer_of : Question → Result Data LineFault
answer_of q = given (action_for q) (λ action. Ok (action_json q action))

-- the object that answers a line, or why it is refused
abbrev pub answer_to : List ℕ → Result Data LineFault
answer_to line = given (asked_in line) answer_of

-- the object that says why a line is refused
abbrev pub error_json : LineFault → Data
error_json fault = object (member (codes "error") (string (fault_text fault)) no_members)

-- the object of an answer
abbrev pub answer_json : Result Data LineFault → Data
answer_json (Ok d) = d
answer_json (Err fault) = error_json fault
