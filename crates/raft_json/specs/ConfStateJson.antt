-- The JSON of a saved configuration: an object whose keys are those of raftpb.ConfState.
use Rattle.std.specs.Prelude.{ℕ, Bool, true, false, ◌&&◌, ◌||◌, List, codes, Option, Some, None, option_map, option_and_then, if◌then◌else◌}
use Rattle.std.specs.Str.{bytes_eq}
use Rattle.conf_change.specs.ConfState.{ConfStateLists}
use Rattle.serde_json.specs.Data.{Data, null, boolean, object, Members, no_members, member}
use Rattle.serde_json.specs.Find.{as_object, get}
use Rattle.raft_json.specs.IdsJson.{ids_json, ids_in}

-- the key is one that raftpb.ConfState has
unfoldable pub is_conf_state_key : List ℕ → Bool
is_conf_state_key key =
    bytes_eq key (codes "voters") || bytes_eq key (codes "voters_outgoing") || bytes_eq key (codes "learners")
    || bytes_eq key (codes "learners_next") || bytes_eq key (codes "auto_leave")

-- each key is one that raftpb.ConfState has
abbrev pub has_only_keys : Members → Bool
has_only_keys no_members = true
has_only_keys (member key d ms) = is_conf_state_key key && has_only_keys ms

-- the boolean at a key: false if the key is missing or null
abbrev pub boolean_in : Option Data → Option Bool
boolean_in None = Some false
boolean_in (Some null) = Some false
boolean_in (Some (boolean b)) = Some b
boolean_in (Some _) = None

-- the four lists and the boolean, each read at its key, if all of them are valid
abbrev pub lists_in : Data → Option ConfStateLists
lists_in d =
    option_and_then (λ voters.
    option_and_then (λ voters_outgoing.
    option_and_then (λ learners.
    option_and_then (λ learners_next.
    option_map (λ auto_leave. record {
      voters = voters;
      voters_outgoing = voters_outgoing;
      learners = learners;
      learners_next = learners_next;
      auto_leave = auto_leave;
    }) (boolean_in (get (codes "auto_leave") d)))
    (ids_in (get (codes "learners_next") d)))
    (ids_in (get (codes "learners") d)))
    (ids_in (get (codes "voters_outgoing") d)))
    (ids_in (get (codes "voters") d))

-- the saved configuration that a value denotes, if any
abbrev pub conf_state_of_json : Data → Option ConfStateLists
conf_state_of_json d = option_and_then (λ ms. if has_only_keys ms then lists_in d else None) (as_object d)

-- the value of a saved configuration, with every key
abbrev pub conf_state_json : ConfStateLists → Data
conf_state_json saved =
    object (member (codes "auto_leave") (boolean saved.auto_leave)
    (member (codes "learners") (ids_json saved.learners)
    (member (codes "learners_next") (ids_json saved.learners_next)
    (member (codes "voters") (ids_json saved.voters)
    (member (codes "voters_outgoing") (ids_json saved.voters_outgoing) no_members)))))
