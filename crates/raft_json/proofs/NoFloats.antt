-- The JSON of raftpb messages has no float, so its text is known byte for byte.
use Rattle.std.proofs.Common.{◌≡◌, ℕ, List, [], ◌∷◌, false, refl, arith}
use Rattle.conf_change.specs.ConfState.{ConfStateLists}
use Rattle.conf_change.specs.declared.change.Change.{Change}
use Rattle.conf_change.specs.declared.transition.Transition.{Transition}
use Rattle.serde_json.specs.Written.{has_float}
use Rattle.raft_json.specs.IdsJson.{ids_json}
use Rattle.raft_json.specs.ConfStateJson.{conf_state_json}
use Rattle.raft_json.specs.ConfChangeJson.{changes_json, conf_change_json}

pub has_float-ids_json : (ids : List ℕ) → has_float (ids_json ids) ≡ false
has_float-ids_json [] = refl
has_float-ids_json (id ∷ ids) = has_float-ids_json ids

pub has_float-conf_state_json : (saved : ConfStateLists) → has_float (conf_state_json saved) ≡ false
has_float-conf_state_json saved = grind (arith, has_float-ids_json)

has_float-changes_json : (changes : List Change) → has_float (changes_json changes) ≡ false
has_float-changes_json [] = refl
has_float-changes_json (change ∷ changes) = has_float-changes_json changes

pub has_float-conf_change_json : (transition : Transition) (changes : List Change) → has_float (conf_change_json transition changes) ≡ false
has_float-conf_change_json transition changes = rw (has_float-changes_json changes) refl
