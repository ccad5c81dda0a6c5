-- The members of a cluster in JSON, as `etcdctl member list -w json` prints them (etcd's `MemberListResponse`): an
-- object with the key members, whose items have an ID and, if they are learners, isLearner.
use Rattle.std.specs.Prelude.{ℕ, false, not, List, [], ◌∷◌, map, filter, codes, Option, Some, option_map, option_and_then}
use Rattle.conf_change.specs.ConfState.{ConfStateLists}
use Rattle.serde_json.specs.Data.{Data, Items, no_items, item}
use Rattle.serde_json.specs.Find.{as_array, get}
use Rattle.raft_json.specs.ConfStateJson.{boolean_in}
use Rattle.raft_json.specs.IdsJson.{id_from}
use Rattle.raft_json.specs.declared.member_list_json.Member.{Member}

-- the member that a value denotes; its other keys are ignored
abbrev pub member_of_json : Data → Option Member
member_of_json d =
    option_and_then (λ id. option_map (λ is_learner. record { id = id; is_learner = is_learner }) (boolean_in (get (codes "isLearner") d)))
    (option_and_then id_from (get (codes "ID") d))

-- the members that the items denote, in their order, if each item denotes one
abbrev pub members_from : Items → Option (List Member)
members_from no_items = Some []
members_from (item d ds) = option_and_then (λ member. option_map (λ members. member ∷ members) (members_from ds)) (member_of_json d)

-- the ids of the members that vote, and of those that learn, in their order
abbrev pub voters_among : List Member → List ℕ
voters_among members = map (λ member. member.id) (filter (λ member. not member.is_learner) members)

abbrev pub learners_among : List Member → List ℕ
learners_among members = map (λ member. member.id) (filter (λ member. member.is_learner) members)

-- the saved configuration with these members, which is not joint
abbrev pub conf_state_of_members : List Member → ConfStateLists
conf_state_of_members members =
    record { voters = voters_among members; voters_outgoing = []; learners = learners_among members; learners_next = []; auto_leave = false }

-- the saved configuration that the value at the key members denotes
abbrev pub conf_state_of_member_list : Data → Option ConfStateLists
conf_state_of_member_list d = option_map conf_state_of_members (option_and_then members_from (as_array d))
