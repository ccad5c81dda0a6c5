-- Small cases, worked out by hand.
use Rattle.std.proofs.Common.{◌≡◌, ℕ, false, List, [], ◌∷◌, refl}
use Rattle.std.specs.Prelude.{codes, Some, None}
use Rattle.quorum_sets.specs.Ids.{ids_of}
use Rattle.quorum_sets.proofs.Offered.{written_out}
use Rattle.conf_change.specs.declared.change.Kind.TheVariants.{Learner}
use Rattle.conf_change.specs.declared.transition.Transition.TheVariants.{Auto}
use Rattle.serde_json.specs.Data.{Data, boolean, number, unsigned, string, array, object, item, member, no_items, no_members}
use Rattle.raft_json.specs.ConfStateJson.{is_conf_state_key}
use Rattle.plan_output.specs.CarriedOut.{IsNoStep, configuration_in, proposal_in}
use Rattle.plan_output.specs.Stages.{StageState, may_be_down_besides}

-- ---- what a line says
-- {"conf_change":{"changes":[{"node_id":4,"type":"ConfChangeAddLearnerNode"}],"transition":"ConfChangeTransitionAuto"},
-- "conf_state":{"auto_leave":false,"learners":[4],"learners_next":[],"voters":[1],"voters_outgoing":[]}}
abbrev line : Data
line =
    object (member (codes "conf_change")
    (object (member (codes "changes") (array (item (object (member (codes "node_id") (number (unsigned 4)) (member (codes "type") (string (codes "ConfChangeAddLearnerNode")) no_members))) no_items))
    (member (codes "transition") (string (codes "ConfChangeTransitionAuto")) no_members)))
    (member (codes "conf_state")
    (object (member (codes "auto_leave") (boolean false) (member (codes "learners") (array (item (number (unsigned 4)) no_items)) (member (codes "learners_next") (array no_items)
    (member (codes "voters") (array (item (number (unsigned 1)) no_items)) (member (codes "voters_outgoing") (array no_items) no_members)))))) no_members))

proposes : proposal_in line ≡ Some (Auto, record { kind = Learner; id = 4 } ∷ [])
proposes = refl

names : configuration_in line ≡ Some (record { incoming = ids_of (1 ∷ []); outgoing = ids_of []; learners = ids_of (4 ∷ []); learners_next = ids_of []; auto_leave = false })
unfolding is_conf_state_key
names = simp written_out refl

no_step : IsNoStep (object (member (codes "plan") (number (unsigned 1)) (member (codes "steps") (number (unsigned 0)) no_members)))
no_step = record { nothing = refl; nowhere = refl }

-- ---- how many may be down besides others
abbrev stage : List ℕ → List ℕ → StageState
stage voters catching = record { config = record { incoming = ids_of voters; outgoing = ids_of []; learners = ids_of []; learners_next = ids_of []; auto_leave = false }; catching_up = ids_of catching }

-- 4 and 5 of five are down: no other one may be; besides 4 alone, one may be, unless another has to catch up
of_five : (may_be_down_besides (stage (1 ∷ 2 ∷ 3 ∷ 4 ∷ 5 ∷ []) []) (ids_of (4 ∷ 5 ∷ [])) ≡ Some 0) × (may_be_down_besides (stage (1 ∷ 2 ∷ 3 ∷ 4 ∷ 5 ∷ []) []) (ids_of (4 ∷ [])) ≡ Some 1)
    × (may_be_down_besides (stage (1 ∷ 2 ∷ 3 ∷ 4 ∷ 5 ∷ []) (5 ∷ [])) (ids_of (4 ∷ [])) ≡ Some 0)
of_five = (simp written_out refl, simp written_out refl, simp written_out refl)

of_three : may_be_down_besides (stage (1 ∷ 2 ∷ 3 ∷ []) []) (ids_of (1 ∷ 2 ∷ [])) ≡ None
of_three = simp written_out refl
