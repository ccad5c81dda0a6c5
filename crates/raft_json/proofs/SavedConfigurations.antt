-- The JSON of a saved configuration, read.
use Rattle.std.proofs.Common.{◌≡◌, ℕ, List, [], ◌∷◌, map, Some, option_map, refl, ap}
use Rattle.conf_change.specs.ConfState.{ConfStateLists}
use Rattle.serde_json.specs.Data.{number, unsigned}
use Rattle.serde_json.specs.View.{items_of}
use Rattle.raft_json.specs.IdsJson.{ids_from}
use Rattle.raft_json.specs.ConfStateJson.{conf_state_json, conf_state_of_json, is_conf_state_key}

ids_from-ids_json : (ids : List ℕ) → ids_from (items_of (map (λ id. number (unsigned id)) ids)) ≡ Some ids
ids_from-ids_json [] = refl
ids_from-ids_json (id ∷ ids) = ap (option_map (λ more. id ∷ more)) (ids_from-ids_json ids)

pub conf_state_of_json-conf_state_json : (saved : ConfStateLists) → conf_state_of_json (conf_state_json saved) ≡ Some saved
unfolding is_conf_state_key
conf_state_of_json-conf_state_json saved =
    rw (ids_from-ids_json saved.voters, ids_from-ids_json saved.voters_outgoing, ids_from-ids_json saved.learners, ids_from-ids_json saved.learners_next) refl
