-- JSON lines that etcd's raft carries out one after another, each as it is read back.
use Rattle.std.specs.Prelude.{◌≡◌, ◌⊎◌, List, [], ◌∷◌, codes, Ok, Option, Some, None, option_and_then}
use Rattle.conf_change.specs.Configuration.{Configuration}
use Rattle.conf_change.specs.ConfState.{restored}
use Rattle.conf_change.specs.Outcome.{outcome}
use Rattle.conf_change.specs.Transition.{step_for}
use Rattle.conf_change.specs.declared.change.Change.{Change}
use Rattle.conf_change.specs.declared.transition.Transition.{Transition}
use Rattle.serde_json.specs.Data.{Data}
use Rattle.serde_json.specs.Find.{get}
use Rattle.raft_json.specs.ConfChangeRead.{conf_change_of_json}
use Rattle.raft_json.specs.ConfStateJson.{conf_state_of_json}
use Rattle.raft_json.specs.Proposal.{after_auto_leave, carried_out}

-- what a line proposes
abbrev pub proposal_in : Data → Option (Transition × List Change)
proposal_in line = option_and_then conf_change_of_json (get (codes "conf_change") line)

-- the configuration that a line names
abbrev pub configuration_in : Data → Option Configuration
configuration_in line = option_and_then restored (option_and_then conf_state_of_json (get (codes "conf_state") line))

-- Etcd's raft carries out what the line proposes. The step that it takes leads to the configuration that the line
-- names, and it ends there, or with auto-leave in the one that leaving that gives.
pub record LineLeads (before : Configuration) (line : Data) (named ended : Configuration) : Type 0 where
  pub proposal : Transition × List Change
  pub proposes : proposal_in line ≡ Some proposal
  pub names : configuration_in line ≡ Some named
  pub takes : outcome before (step_for proposal.0 proposal.1) ≡ Ok named
  pub leaves : after_auto_leave (Ok named) ≡ Ok ended
  pub ends : carried_out before proposal ≡ Some ended

-- the line proposes nothing and names no configuration, as that of a path without a step
pub record IsNoStep (line : Data) : Type 0 where
  pub nothing : get (codes "conf_change") line ≡ None
  pub nowhere : get (codes "conf_state") line ≡ None

-- Etcd's raft carries out the lines one after another from the first configuration. The second one was named last, and
-- the third one is named last of all. Each line leads to what it names, or is no step.
abbrev pub LinesLead : Configuration → Configuration → List Data → Configuration → Type 0
LinesLead before named [] target = named ≡ target
LinesLead before named (line ∷ lines) target =
    (IsNoStep line × LinesLead before named lines target)
    ⊎ ((next : Configuration) × (ended : Configuration) × LineLeads before line next ended × LinesLead ended next lines target)
