-- The keys of the answer to propose a step.
use Rattle.std.proofs.Common.{◌≡◌, List, ◌∷◌, ap}
use Rattle.std.specs.Prelude.{Some, codes, option_and_then, option_map, slice_get, unwrap_or}
use Rattle.conf_change.specs.ConfState.{lists_of}
use Rattle.conf_change.specs.declared.step.Step.{Step}
use Rattle.conf_plan.specs.OneChangeEach.{one_change_each}
use Rattle.plan_output.specs.Json.{each_json}
use Rattle.plan_output.specs.Stages.{configuration_after_step, stalls}
use Rattle.raft_json.specs.ConfChangeJson.{conf_change_json}
use Rattle.raft_json.specs.ConfStateJson.{conf_state_json}
use Rattle.raft_json.specs.Proposal.{proposed_changes, transition_of}
use Rattle.serde_json.specs.Data.{Data, object, no_members, put, string}
use Rattle.serde_json.specs.Find.{as_object, get}
use Rattle.driver_json.specs.Answer.{ids_given, path_for, proposal_json}
use Rattle.driver_json.specs.declared.question.Question.{Question}

-- the answer to propose the first of these steps
abbrev first_of : Question → List Step → Data
first_of q each =
    object (put (codes "action") (string (codes "propose"))
    (unwrap_or (option_and_then as_object (slice_get (each_json (ids_given q.down) (option_map (stalls q.view.conf_state (path_for q)) (ids_given q.down)) 1 q.view.conf_state each) 0)) no_members))

pub conf_change-proposal_json : (q : Question) (step : Step) (rest : List Step) → one_change_each (path_for q) ≡ step ∷ rest
    → get (codes "conf_change") (proposal_json q) ≡ Some (conf_change_json (transition_of step) (proposed_changes q.view.conf_state step))
conf_change-proposal_json q step rest is = ap (λ each. get (codes "conf_change") (first_of q each)) is

pub conf_state-proposal_json : (q : Question) (step : Step) (rest : List Step) → one_change_each (path_for q) ≡ step ∷ rest
    → get (codes "conf_state") (proposal_json q) ≡ Some (conf_state_json (lists_of (configuration_after_step q.view.conf_state step)))
conf_state-proposal_json q step rest is = ap (λ each. get (codes "conf_state") (first_of q each)) is
