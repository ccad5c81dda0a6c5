-- Small cases, worked out by hand, of what is left before the target is reached.
use Rattle.std.proofs.Common.{◌≡◌, true, false, [], ◌∷◌, refl}
use Rattle.quorum_sets.specs.Ids.{has, ids_of, no_ids}
use Rattle.quorum_sets.proofs.Offered.{written_out}
use Rattle.conf_change.specs.declared.step.Step.TheVariants.{LeaveJoint}
use Rattle.conf_driver.specs.Nearer.{lack, leader_off, needed, servers_off}
use Rattle.conf_driver.proofs.WorkedExamples.{all_run, joint, learn, member, members, on_the_way, target, three, view}

-- ---- how far leadership is off
-- there is no leader
off_4 : leader_off (on_the_way [] (view three 0 0 (members 9 true) all_run []) (learn ∷ [])) ≡ 4
off_4 = refl

-- 9 leads, which does not vote
off_3 : leader_off (on_the_way [] (view three 9 0 (members 9 true) all_run []) (learn ∷ [])) ≡ 3
off_3 = simp written_out refl

-- a change is pending, and 3 leads, which is an outgoing voter alone
off_2 : leader_off (on_the_way [] (view (joint false) 3 8 (members 9 true) all_run []) (LeaveJoint ∷ [])) ≡ 2
off_2 = simp written_out refl

-- a change is pending, and the target drops 3
off_1_pending : leader_off (on_the_way [] (view three 3 8 (members 9 true) all_run []) (learn ∷ [])) ≡ 1
off_1_pending = simp written_out refl

-- 3 does not vote after the step
off_1 : leader_off (on_the_way [] (view (joint false) 3 0 (members 9 true) all_run []) (LeaveJoint ∷ [])) ≡ 1
off_1 = simp written_out refl

off_0 : leader_off (on_the_way [] (view (joint false) 1 0 (members 9 true) all_run []) (LeaveJoint ∷ [])) ≡ 0
off_0 = simp written_out refl

-- ---- for whom a wait may be
-- 9 leads: for an incoming voter
needed_to_lead : needed (on_the_way [] (view (joint false) 9 0 (members 9 true) all_run []) (LeaveJoint ∷ [])) ≡ ids_of (1 ∷ 2 ∷ 4 ∷ [])
needed_to_lead = simp written_out refl

-- 3 is silent, and no step needs it
needed_silent : needed (on_the_way [] (view (joint false) 1 0 (member 1 9 true ∷ member 2 9 true ∷ member 4 9 true ∷ []) all_run []) (LeaveJoint ∷ [])) ≡ ids_of (1 ∷ 2 ∷ 4 ∷ [])
needed_silent = simp written_out refl

-- 2 is silent too, so that who is up is no quorum, and 3 is needed
needed_quorum : has (needed (on_the_way [] (view (joint false) 1 0 (member 1 9 true ∷ member 4 9 true ∷ []) all_run []) (LeaveJoint ∷ []))) 3 ≡ true
needed_quorum = simp written_out refl

-- a change is pending: for nobody
needed_pending : needed (on_the_way [] (view three 1 8 (members 9 true) all_run []) (learn ∷ [])) ≡ no_ids
needed_pending = simp written_out refl

-- who is not heard from counts twice: 4 is silent, 2 is behind
lack_3 : lack (on_the_way [] (view (joint false) 1 0 (member 1 9 true ∷ member 2 8 true ∷ member 3 9 true ∷ []) all_run []) (LeaveJoint ∷ [])) ≡ 3
lack_3 = simp written_out refl

-- ---- servers
-- 3 is to be stopped, and 4 to be started
off_servers : servers_off target (view three 1 0 (members 9 true) (1 ∷ 2 ∷ 3 ∷ []) []) ≡ 2
off_servers = simp written_out refl
