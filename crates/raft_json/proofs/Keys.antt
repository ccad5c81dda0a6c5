-- The keys of an object.
use Rattle.std.proofs.Common.{◌≡◌, List, [], ◌∷◌, String, Global, string_bytes, refl, ap, ◌&&◌}
use Rattle.std.specs.List.{list_all}
use Rattle.std.specs.Map.{keys_of}
use Rattle.serde_json.specs.View.{members_view}
use Rattle.serde_json.specs.declared.value.Value.{Value}
use Rattle.raft_json.specs.ConfStateJson.{is_conf_state_key, has_only_keys}

-- each key by itself
pub list_all-keys : (entries : List (String Global × Value)) → list_all (λ key. is_conf_state_key (string_bytes key)) (keys_of entries) ≡ has_only_keys (members_view entries)
list_all-keys [] = refl
list_all-keys (entry ∷ entries) = ap (λ b. is_conf_state_key (string_bytes entry.0) && b) (list_all-keys entries)
