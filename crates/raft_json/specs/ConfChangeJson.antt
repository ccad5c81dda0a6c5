-- The JSON of a change of the configuration, in the form of raftpb.ConfChangeV2.
use Rattle.std.specs.Prelude.{ℕ, List, codes, map}
use Rattle.conf_change.specs.declared.change.Change.{Change}
use Rattle.conf_change.specs.declared.change.Kind.{Kind}
use Rattle.conf_change.specs.declared.change.Kind.TheVariants.{Voter, Learner, Remove, Update}
use Rattle.conf_change.specs.declared.transition.Transition.{Transition}
use Rattle.conf_change.specs.declared.transition.Transition.TheVariants.{Auto, Implicit, Explicit}
use Rattle.serde_json.specs.Data.{Data, number, unsigned, string, array, object, no_members, member}
use Rattle.serde_json.specs.View.{items_of}

-- the name of a kind in Go: raftpb.ConfChangeType
abbrev pub kind_name : Kind → List ℕ
kind_name Voter = codes "ConfChangeAddNode"
kind_name Learner = codes "ConfChangeAddLearnerNode"
kind_name Remove = codes "ConfChangeRemoveNode"
kind_name Update = codes "ConfChangeUpdateNode"

-- the name of a transition in Go: raftpb.ConfChangeTransition
abbrev pub transition_name : Transition → List ℕ
transition_name Auto = codes "ConfChangeTransitionAuto"
transition_name Implicit = codes "ConfChangeTransitionJointImplicit"
transition_name Explicit = codes "ConfChangeTransitionJointExplicit"

-- one change, as raftpb.ConfChangeSingle: {"node_id":4,"type":"ConfChangeAddNode"}
abbrev pub change_json : Change → Data
change_json change = object (member (codes "node_id") (number (unsigned change.id)) (member (codes "type") (string (kind_name change.kind)) no_members))

-- a list of changes, in its order
abbrev pub changes_json : List Change → Data
changes_json changes = array (items_of (map change_json changes))

-- a list of changes with its transition, as raftpb.ConfChangeV2
abbrev pub conf_change_json : Transition → List Change → Data
conf_change_json transition changes =
    object (member (codes "changes") (changes_json changes) (member (codes "transition") (string (transition_name transition)) no_members))
