-- A raftpb.ConfChangeV2 in JSON, read. The names are Go's once more, on their own: the JSON of a change reads back only
-- if both have the same ones.
use Rattle.std.specs.Prelude.{ℕ, List, [], ◌∷◌, codes, Option, Some, None, option_map, option_and_then, if◌then◌else◌}
use Rattle.std.specs.Str.{bytes_eq}
use Rattle.conf_change.specs.declared.change.Change.{Change}
use Rattle.conf_change.specs.declared.change.Kind.{Kind}
use Rattle.conf_change.specs.declared.change.Kind.TheVariants.{Voter, Learner, Remove, Update}
use Rattle.conf_change.specs.declared.transition.Transition.{Transition}
use Rattle.conf_change.specs.declared.transition.Transition.TheVariants.{Auto, Implicit, Explicit}
use Rattle.serde_json.specs.Data.{Data, Items, no_items, item}
use Rattle.serde_json.specs.Find.{as_array, as_str, get}
use Rattle.raft_json.specs.IdsJson.{id_from}

-- the kind that a name denotes, in the order of raftpb.ConfChangeType
abbrev pub kind_named : List ℕ → Option Kind
kind_named name =
    if bytes_eq name (codes "ConfChangeAddNode") then Some Voter
    else (if bytes_eq name (codes "ConfChangeRemoveNode") then Some Remove
    else (if bytes_eq name (codes "ConfChangeUpdateNode") then Some Update
    else (if bytes_eq name (codes "ConfChangeAddLearnerNode") then Some Learner
    else None)))

-- the transition that a name denotes, in the order of raftpb.ConfChangeTransition
abbrev pub transition_named : List ℕ → Option Transition
transition_named name =
    if bytes_eq name (codes "ConfChangeTransitionAuto") then Some Auto
    else (if bytes_eq name (codes "ConfChangeTransitionJointImplicit") then Some Implicit
    else (if bytes_eq name (codes "ConfChangeTransitionJointExplicit") then Some Explicit
    else None))

-- the change that a value denotes, with both keys of raftpb.ConfChangeSingle
abbrev pub change_of_json : Data → Option Change
change_of_json d =
    option_and_then (λ kind. option_map (λ id. record { kind = kind; id = id }) (option_and_then id_from (get (codes "node_id") d)))
    (option_and_then kind_named (option_and_then as_str (get (codes "type") d)))

-- the changes that the items denote, in their order, if each item denotes one
abbrev pub changes_from : Items → Option (List Change)
changes_from no_items = Some []
changes_from (item d ds) = option_and_then (λ change. option_map (λ changes. change ∷ changes) (changes_from ds)) (change_of_json d)

-- the transition and the changes that a value denotes, with both keys of raftpb.ConfChangeV2
abbrev pub conf_change_of_json : Data → Option (Transition × List Change)
conf_change_of_json d =
    option_and_then (λ transition. option_map (λ changes. (transition, changes)) (option_and_then changes_from (option_and_then as_array (get (codes "changes") d))))
    (option_and_then transition_named (option_and_then as_str (get (codes "transition") d)))
