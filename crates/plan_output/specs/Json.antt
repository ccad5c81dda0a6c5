-- The JSON lines of a path: one object for each change that is proposed to etcd.
use Rattle.std.specs.Prelude.{ℕ, ◌+◌, Bool, List, [], ◌∷◌, ◌++◌, length, codes, flat_map, Option, Some, None, option_map}
use Rattle.quorum_sets.specs.Ids.{Ids, ascending}
use Rattle.conf_change.specs.Configuration.{Configuration}
use Rattle.conf_change.specs.ConfState.{lists_of}
use Rattle.conf_change.specs.declared.step.Step.{Step}
use Rattle.conf_plan.specs.OneChangeEach.{one_change_each}
use Rattle.serde_json.specs.Data.{Data, null, boolean, number, unsigned, string, object, Members, no_members, member}
use Rattle.serde_json.specs.Written.{compact_text}
use Rattle.raft_json.specs.IdsJson.{ids_json}
use Rattle.raft_json.specs.ConfStateJson.{conf_state_json}
use Rattle.raft_json.specs.ConfChangeJson.{conf_change_json}
use Rattle.raft_json.specs.Proposal.{proposed_changes, transition_of}
use Rattle.plan_output.specs.Stages.{StageState, first_stage, stage_after, stage_may_be_down, while_catching_up, may_be_down_besides, stalls}

-- a number, or null if there is none
abbrev pub count_json : Option ℕ → Data
count_json None = null
count_json (Some count) = number (unsigned count)

-- the other keys, and before them the ids that are down, if ids are given
abbrev pub with_down : Option Ids → Members → Members
with_down None others = others
with_down (Some down) others = member (codes "down") (ids_json (ascending down)) others

-- the other keys, and before them how many may be down besides these ids, if ids are given that are down
abbrev pub with_besides : Option Ids → StageState → Members → Members
with_besides None stage others = others
with_besides (Some down) stage others = member (codes "may_be_down_besides") (count_json (may_be_down_besides stage down)) others

-- the other keys, and before them whether the path stalls, if ids are given that are down
abbrev pub with_stalls : Option Bool → Members → Members
with_stalls None others = others
with_stalls (Some stalls) others = member (codes "stalls") (boolean stalls) others

-- The keys of an object from `conf_change` on: what is proposed for the step, where it leads, the ids that are down, how
-- many may be down there, and which step of how many it is.
abbrev pub step_keys : Option Ids → Option Bool → ℕ → ℕ → ℕ → StageState → Step → StageState → Members
step_keys down stalls plan count number_of before step after =
    member (codes "conf_change") (conf_change_json (transition_of step) (proposed_changes before.config step))
    (member (codes "conf_state") (conf_state_json (lists_of after.config))
    (with_down down
    (member (codes "may_be_down") (count_json (stage_may_be_down after))
    (with_besides down after
    (member (codes "plan") (number (unsigned plan))
    (with_stalls stalls
    (member (codes "step") (number (unsigned number_of))
    (member (codes "steps") (number (unsigned count))
    (member (codes "until_then") (count_json (while_catching_up after)) no_members)))))))))

-- the object of a step, which leads from the stage before it to the one after
abbrev pub step_json : Option Ids → Option Bool → ℕ → ℕ → ℕ → StageState → Step → StageState → Data
step_json down stalls plan count number_of before step after =
    object (member (codes "catch_up") (ids_json (ascending after.catching_up))
    (step_keys down stalls plan count number_of before step after))

-- the objects of steps, the first of which has this number and leads from this stage
abbrev pub steps_json : Option Ids → Option Bool → ℕ → ℕ → ℕ → StageState → List Step → List Data
steps_json down stalls plan count number_of before [] = []
steps_json down stalls plan count number_of before (step ∷ steps) =
    step_json down stalls plan count number_of before step (stage_after before.config step)
    ∷ steps_json down stalls plan count (number_of + 1) (stage_after before.config step) steps

-- the object of a path without a step
abbrev pub no_steps_json : Option Ids → Option Bool → ℕ → Data
no_steps_json down stalls plan =
    object (with_down down
    (member (codes "plan") (number (unsigned plan))
    (with_stalls stalls
    (member (codes "steps") (number (unsigned 0)) no_members))))

-- the objects of these steps, or the one object if there is none
abbrev pub each_json : Option Ids → Option Bool → ℕ → Configuration → List Step → List Data
each_json down stalls plan now [] = no_steps_json down stalls plan ∷ []
each_json down stalls plan now (step ∷ steps) = steps_json down stalls plan (length (step ∷ steps)) 1 (first_stage now) (step ∷ steps)

-- the objects of a path, in which a simple step of several changes is as many steps of one change each
abbrev pub path_json : ℕ → Configuration → List Step → Option Ids → List Data
path_json plan now steps down = each_json down (option_map (stalls now steps) down) plan now (one_change_each steps)

-- the object of two configurations without a plan, with the reason
abbrev pub no_plan_json : ℕ → List ℕ → Data
no_plan_json plan why = object (member (codes "no_plan") (string why) (member (codes "plan") (number (unsigned plan)) no_members))

-- a value, written without spaces, and a newline
abbrev pub value_line : Data → List ℕ
value_line d = compact_text d ++ 10 ∷ []

-- the lines of a path
abbrev pub json_text : ℕ → Configuration → List Step → Option Ids → List ℕ
json_text plan now steps down = flat_map value_line (path_json plan now steps down)
