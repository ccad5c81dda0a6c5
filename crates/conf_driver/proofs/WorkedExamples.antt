-- Small cases, worked out by hand: each row of the table, and what it looks at.
use Rattle.std.proofs.Common.{◌≡◌, ℕ, Bool, true, false, List, [], ◌∷◌, refl}
use Rattle.std.specs.Prelude.{Some, None}
use Rattle.quorum_sets.specs.Ids.{ids_of}
use Rattle.quorum_sets.proofs.Offered.{written_out}
use Rattle.conf_change.specs.Configuration.{Configuration}
use Rattle.conf_change.specs.declared.change.Kind.TheVariants.{Learner, Remove, Voter}
use Rattle.conf_change.specs.declared.step.Step.{Step}
use Rattle.conf_change.specs.declared.step.Step.TheVariants.{EnterJoint, LeaveJoint, Simple}
use Rattle.conf_driver.specs.Next.{propose_first}
use Rattle.conf_driver.specs.Rows.{at_target, down_is_heard, id_is_reused, is_leaving, is_pending, leader_is_dropped, leader_leaves, new_voter_lags, no_leader, no_quorum_is_up, nonvoter_leads, not_started, not_stopped, path_stalls, quorum_lost, successor_lags, voter_is_behind, voter_is_silent}
use Rattle.conf_driver.specs.Situation.{Situation, situation_of}
use Rattle.conf_driver.specs.View.{ViewState, up_and_caught_up}
use Rattle.conf_driver.specs.declared.action.Action.TheVariants.{Done, Propose, Start, Stop, Stuck, Transfer, Wait}
use Rattle.conf_driver.specs.declared.action.StuckReason.TheVariants.{QuorumLost, Reused, Stalls}
use Rattle.conf_driver.specs.declared.action.WaitReason.TheVariants.{Behind, Heard, Leaving, NoLeader, Pending, Unheard}
use Rattle.conf_driver.specs.declared.view.MemberView.{MemberView}

-- ---- from (1 2 3) to (1 2 4)
abbrev config : List ℕ → List ℕ → List ℕ → Bool → Configuration
config incoming outgoing learners auto_leave =
    record { incoming = ids_of incoming; outgoing = ids_of outgoing; learners = ids_of learners; learners_next = ids_of []; auto_leave = auto_leave }

abbrev pub three : Configuration
three = config (1 ∷ 2 ∷ 3 ∷ []) [] [] false

abbrev learning : Configuration
learning = config (1 ∷ 2 ∷ 3 ∷ []) [] (4 ∷ []) false

abbrev pub joint : Bool → Configuration
joint auto_leave = config (1 ∷ 2 ∷ 4 ∷ []) (1 ∷ 2 ∷ 3 ∷ []) [] auto_leave

abbrev pub target : Configuration
target = config (1 ∷ 2 ∷ 4 ∷ []) [] [] false

abbrev pub learn : Step
learn = Simple (record { kind = Learner; id = 4 } ∷ [])

abbrev enter : Step
enter = EnterJoint false (record { kind = Remove; id = 3 } ∷ record { kind = Voter; id = 4 } ∷ [])

-- a member that has the log up to an index, and is heard from or not
abbrev pub member : ℕ → ℕ → Bool → MemberView
member id matched active = record { id = id; matched = matched; recent_active = active }

-- 1, 2 and 3 are heard from with all of the log, and 4 with this index
abbrev pub members : ℕ → Bool → List MemberView
members matched active = member 1 9 true ∷ member 2 9 true ∷ member 3 9 true ∷ member 4 matched active ∷ []

-- a view in which the configuration is known with index 5, and 9 is committed
abbrev pub view : Configuration → ℕ → ℕ → List MemberView → List ℕ → List ℕ → ViewState
view now lead pending progress running retired =
    record { conf_state = now; conf_index = 5; lead = lead; commit = 9; pending_conf_index = pending; progress = progress; running = ids_of running; retired = ids_of retired; max_lag = 0 }

abbrev pub on_the_way : List ℕ → ViewState → List Step → Situation
on_the_way down seen steps = situation_of target (ids_of down) seen steps false

abbrev pub all_run : List ℕ
all_run = 1 ∷ 2 ∷ 3 ∷ 4 ∷ []

-- who is up and has caught up: 3 is down, and 4 lacks an entry
up_row : up_and_caught_up (ids_of (3 ∷ [])) (view learning 1 0 (members 8 true) all_run []) ≡ ids_of (1 ∷ 2 ∷ [])
up_row = simp written_out refl

-- ---- the rows
row_1 : quorum_lost (on_the_way (2 ∷ 3 ∷ []) (view three 1 0 (members 9 true) all_run []) (learn ∷ [])) ≡ Some (Stuck QuorumLost (ids_of (2 ∷ 3 ∷ [])))
row_1 = simp written_out refl

row_2 : down_is_heard (on_the_way (3 ∷ []) (view three 1 0 (members 9 true) all_run []) (learn ∷ [])) ≡ Some (Wait Heard (ids_of (3 ∷ [])))
row_2 = simp written_out refl

row_3 : no_leader (on_the_way [] (view three 0 0 (member 1 9 true ∷ member 2 9 true ∷ []) all_run []) (learn ∷ [])) ≡ Some (Wait NoLeader (ids_of (3 ∷ [])))
row_3 = simp written_out refl

-- 3 was removed, and leads
row_4 : nonvoter_leads (on_the_way [] (view target 3 0 (members 9 true) all_run []) []) ≡ Some (Transfer 1)
row_4 = simp written_out refl

row_4_waits : nonvoter_leads (on_the_way [] (view target 3 0 (member 1 8 true ∷ member 2 8 true ∷ member 4 8 true ∷ []) all_run []) []) ≡ Some (Wait Behind (ids_of (1 ∷ 2 ∷ 4 ∷ [])))
row_4_waits = simp written_out refl

row_5 : leader_is_dropped (on_the_way [] (view (joint false) 3 8 (members 9 true) all_run []) (LeaveJoint ∷ [])) ≡ Some (Transfer 1)
row_5 = simp written_out refl

-- the target drops 3
row_5_stays : leader_is_dropped (on_the_way [] (view three 3 8 (members 9 true) all_run []) (learn ∷ [])) ≡ Some (Transfer 1)
row_5_stays = simp written_out refl

row_6 : is_pending (on_the_way [] (view three 1 9 (member 1 9 true ∷ member 2 8 true ∷ member 3 9 true ∷ []) all_run []) (learn ∷ [])) ≡ Some (Wait Pending (ids_of (2 ∷ [])))
row_6 = simp written_out refl

row_7 : path_stalls (situation_of target (ids_of (4 ∷ [])) (view three 1 0 (members 9 true) all_run []) (learn ∷ []) true) ≡ Some (Stuck Stalls (ids_of (4 ∷ [])))
row_7 = simp written_out refl

-- 4 is a learner already, and is not started again
row_8 : id_is_reused (on_the_way [] (view learning 1 0 (members 9 true) (1 ∷ 2 ∷ 3 ∷ []) (4 ∷ 5 ∷ [])) (enter ∷ LeaveJoint ∷ [])) ≡ Some (Stuck Reused (ids_of (4 ∷ [])))
row_8 = simp written_out refl

row_9 : not_started (on_the_way [] (view learning 1 0 (members 9 true) (1 ∷ 2 ∷ 3 ∷ []) []) []) ≡ Some (Start (ids_of (4 ∷ [])))
row_9 = simp written_out refl

row_10 : not_stopped (on_the_way [] (view target 1 0 (members 5 true) all_run []) []) ≡ Some (Stop (ids_of (3 ∷ [])))
row_10 = simp written_out refl

-- 4 does not know that 3 is not a member any more
row_10_waits : not_stopped (on_the_way [] (view target 1 0 (members 4 true) all_run []) []) ≡ None
row_10_waits = simp written_out refl

-- a minority is heard from
row_10_silent : not_stopped (on_the_way [] (view target 1 0 (member 1 9 true ∷ member 2 9 false ∷ member 4 9 false ∷ []) all_run []) []) ≡ None
row_10_silent = simp written_out refl

row_11 : is_leaving (on_the_way [] (view (joint true) 1 0 (members 8 true) all_run []) (LeaveJoint ∷ [])) ≡ Some (Wait Leaving (ids_of (4 ∷ [])))
row_11 = simp written_out refl

row_12 : leader_leaves (on_the_way [] (view (joint false) 3 0 (members 9 true) all_run []) (LeaveJoint ∷ [])) ≡ Some (Transfer 1)
row_12 = simp written_out refl

row_13 : successor_lags (on_the_way [] (view (joint false) 3 0 (member 3 9 true ∷ []) all_run []) (LeaveJoint ∷ [])) ≡ Some (Wait Unheard (ids_of (1 ∷ 2 ∷ 4 ∷ [])))
row_13 = simp written_out refl

row_14 : at_target (on_the_way [] (view target 1 0 (members 9 true) (1 ∷ 2 ∷ 4 ∷ []) []) []) ≡ Some Done
row_14 = simp written_out refl

row_14_waits : at_target (on_the_way [] (view target 1 0 (members 8 true) (1 ∷ 2 ∷ 4 ∷ []) []) []) ≡ Some (Wait Behind (ids_of (4 ∷ [])))
row_14_waits = simp written_out refl

row_15 : new_voter_lags (record (on_the_way [] (view learning 1 0 (members 9 false) all_run []) (enter ∷ LeaveJoint ∷ [])) { voters_after = ids_of (1 ∷ 2 ∷ 3 ∷ 4 ∷ []) }) ≡ Some (Wait Unheard (ids_of (4 ∷ [])))
row_15 = simp written_out refl

row_16 : voter_is_behind (on_the_way [] (view (joint false) 1 0 (members 8 true) all_run []) []) ≡ Some (Wait Behind (ids_of (4 ∷ [])))
row_16 = simp written_out refl

row_17 : no_quorum_is_up (on_the_way [] (view three 1 0 (member 1 9 true ∷ member 2 8 true ∷ []) all_run []) (learn ∷ [])) ≡ Some (Wait Unheard (ids_of (3 ∷ [])))
row_17 = simp written_out refl

row_18 : voter_is_silent (on_the_way [] (view (joint false) 1 0 (members 9 false) all_run []) []) ≡ Some (Wait Unheard (ids_of (4 ∷ [])))
row_18 = simp written_out refl

row_19 : propose_first (enter ∷ LeaveJoint ∷ []) ≡ Propose enter
row_19 = refl
