use Rattle.std.proofs.Common.{rules, tests, ◌∙◌, string_bytes}
use Rattle.std.proofs.lemmas.Iterator.Consumers.{YieldsList-from_rest}
use Rattle.std.proofs.lemmas.Iterator.Search.{all_from_yields_List}
use Rattle.std.specs.Map.{keys_of}
use Rattle.raft_json.specs.ConfStateJson.{is_conf_state_key}
use Rattle.raft_json.proofs.Keys.{list_all-keys}
use Rattle.raft_json.proofs.conf_state_json.has_only_keys.Goals as goal

pub returns : goal.returns
returns c =
    all_from_yields_List (λ key. is_conf_state_key (string_bytes key)) _ _ c.all.result c.all.ensures.ran
    (YieldsList-from_rest (keys_of c.args.members.now.entries) c.keys.ensures.rest) (λ x b q k. search (rules, tests))
    ∙ list_all-keys c.args.members.now.entries
