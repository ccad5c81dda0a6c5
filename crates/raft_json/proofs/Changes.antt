-- The JSON of a change of the configuration, read.
use Rattle.std.proofs.Common.{◌≡◌, List, [], ◌∷◌, map, Some, option_map, refl, ap, arith}
use Rattle.conf_change.specs.declared.change.Change.{Change}
use Rattle.conf_change.specs.declared.change.Kind.{Kind}
use Rattle.conf_change.specs.declared.transition.Transition.{Transition}
use Rattle.serde_json.specs.View.{items_of}
use Rattle.raft_json.specs.ConfChangeJson.{change_json, conf_change_json, kind_name, transition_name}
use Rattle.raft_json.specs.ConfChangeRead.{kind_named, transition_named, changes_from, conf_change_of_json}

kind_named-kind_name : (kind : Kind) → kind_named (kind_name kind) ≡ Some kind
kind_named-kind_name kind = grind arith

transition_named-transition_name : (transition : Transition) → transition_named (transition_name transition) ≡ Some transition
transition_named-transition_name transition = grind arith

changes_from-changes_json : (changes : List Change) → changes_from (items_of (map change_json changes)) ≡ Some changes
changes_from-changes_json [] = refl
changes_from-changes_json (change ∷ changes) = rw (kind_named-kind_name change.kind) (ap (option_map (λ more. change ∷ more)) (changes_from-changes_json changes))

pub conf_change_of_json-conf_change_json : (transition : Transition) (changes : List Change)
    → conf_change_of_json (conf_change_json transition changes) ≡ Some (transition, changes)
conf_change_of_json-conf_change_json transition changes = grind (arith, transition_named-transition_name, changes_from-changes_json)
