-- Small cases, worked out by hand.
use Rattle.std.proofs.Common.{◌≡◌, ℕ, true, false, List, [], ◌∷◌, refl}
use Rattle.std.specs.Prelude.{codes, Some, None}
use Rattle.quorum_sets.specs.Ids.{ids_of}
use Rattle.quorum_sets.proofs.Offered.{written_out}
use Rattle.conf_change.specs.Configuration.{Configuration}
use Rattle.conf_change.specs.declared.change.Change.{Change}
use Rattle.conf_change.specs.declared.change.Kind.{Kind}
use Rattle.conf_change.specs.declared.change.Kind.TheVariants.{Voter, Learner, Remove}
use Rattle.conf_change.specs.declared.transition.Transition.TheVariants.{Auto, Implicit, Explicit}
use Rattle.serde_json.specs.Data.{Data, Items, boolean, number, unsigned, string, array, object, item, member, no_items, no_members}
use Rattle.raft_json.specs.ConfChangeRead.{conf_change_of_json}
use Rattle.raft_json.specs.Proposal.{carried_out}
use Rattle.raft_json.specs.SavedJson.{saved_of_json}

abbrev change : Kind → ℕ → Change
change kind id = record { kind = kind; id = id }

abbrev config : List ℕ → List ℕ → List ℕ → Configuration
config incoming outgoing learners = record { incoming = ids_of incoming; outgoing = ids_of outgoing; learners = ids_of learners; learners_next = ids_of []; auto_leave = false }

-- ---- what is read
-- {"changes":[{"node_id":4,"type":"ConfChangeRemoveNode"}],"transition":TRANSITION}
abbrev removing_4 : List ℕ → Data
removing_4 transition =
    object (member (codes "changes") (array (item (object (member (codes "node_id") (number (unsigned 4)) (member (codes "type") (string (codes "ConfChangeRemoveNode")) no_members))) no_items))
    (member (codes "transition") (string transition) no_members))

read_explicit : conf_change_of_json (removing_4 (codes "ConfChangeTransitionJointExplicit")) ≡ Some (Explicit, change Remove 4 ∷ [])
read_explicit = refl

read_implicit : conf_change_of_json (removing_4 (codes "ConfChangeTransitionJointImplicit")) ≡ Some (Implicit, change Remove 4 ∷ [])
read_implicit = refl

-- a name that Go does not have, and a proposal without its transition
read_none : (conf_change_of_json (removing_4 (codes "JointExplicit")) ≡ None) × (conf_change_of_json (object (member (codes "changes") (array no_items) no_members)) ≡ None)
read_none = (refl, refl)

-- {"ID":ID,"name":"a","isLearner":true}, and one that votes
abbrev learner : ℕ → Data
learner id = object (member (codes "ID") (number (unsigned id)) (member (codes "name") (string (codes "a")) (member (codes "isLearner") (boolean true) no_members)))

abbrev voter : ℕ → Data
voter id = object (member (codes "ID") (number (unsigned id)) (member (codes "peerURLs") (array no_items) no_members))

-- {"header":{},"members":[..]}
abbrev member_list : Items → Data
member_list items = object (member (codes "header") (object no_members) (member (codes "members") (array items) no_members))

reads_members : saved_of_json (member_list (item (voter 10276657743932975437) (item (learner 2) (item (voter 3) no_items))))
    ≡ Some (record { voters = 10276657743932975437 ∷ 3 ∷ []; voters_outgoing = []; learners = 2 ∷ []; learners_next = []; auto_leave = false })
reads_members = refl

-- a member without an ID, and members beside the keys of a ConfState, whose ids are then passed over
refuses_members : saved_of_json (member_list (item (object no_members) no_items)) ≡ None
refuses_members = refl

members_decide : saved_of_json (object (member (codes "members") (array no_items) (member (codes "voters") (array (item (number (unsigned 1)) no_items)) no_members)))
    ≡ Some (record { voters = []; voters_outgoing = []; learners = []; learners_next = []; auto_leave = false })
members_decide = refl

-- ---- what etcd's raft does
-- it leaves only a joint configuration, and changes only one that is not joint
dropped : (carried_out (config (1 ∷ 2 ∷ []) [] []) (Explicit, []) ≡ None) × (carried_out (config (1 ∷ 2 ∷ []) (1 ∷ []) []) (Auto, change Voter 3 ∷ []) ≡ None)
dropped = (simp written_out refl, simp written_out refl)

left : carried_out (config (1 ∷ 2 ∷ []) (1 ∷ []) []) (Auto, []) ≡ Some (config (1 ∷ 2 ∷ []) [] [])
left = simp written_out refl

-- several changes with the transition Auto, and one with Implicit, go through a joint configuration that is left
several : carried_out (config (1 ∷ []) [] []) (Auto, change Learner 4 ∷ change Learner 5 ∷ []) ≡ Some (config (1 ∷ []) [] (4 ∷ 5 ∷ []))
several = simp written_out refl

through : carried_out (config (1 ∷ []) [] []) (Implicit, change Learner 4 ∷ []) ≡ Some (config (1 ∷ []) [] (4 ∷ []))
through = simp written_out refl
