-- The JSON of a saved configuration in either form: a raftpb.ConfState, or the members of a cluster as etcdctl prints
-- them.
use Rattle.std.specs.Prelude.{ℕ, List, codes, Option, Some, None, option_and_then}
use Rattle.conf_change.specs.ConfState.{ConfStateLists}
use Rattle.serde_json.specs.Data.{Data}
use Rattle.serde_json.specs.Find.{get}
use Rattle.raft_json.specs.ConfStateJson.{conf_state_of_json}
use Rattle.raft_json.specs.JsonText.{json_in}
use Rattle.raft_json.specs.MemberListJson.{conf_state_of_member_list}

-- the saved configuration that a value denotes, by the value at its key members, if it has this key
abbrev pub by_members : Option Data → Data → Option ConfStateLists
by_members None d = conf_state_of_json d
by_members (Some members) d = conf_state_of_member_list members

-- the saved configuration that a value denotes
abbrev pub saved_of_json : Data → Option ConfStateLists
saved_of_json d = by_members (get (codes "members") d) d

-- the saved configuration of a text that is JSON
abbrev pub saved_in_json : List ℕ → Option ConfStateLists
saved_in_json text = option_and_then saved_of_json (json_in text)
