-- The table of `next`: the first row that applies is the answer. Each definition is a row, in order.
use Rattle.std.specs.Prelude.{Bool, not, ◌&&◌, ◌||◌, List, [], ◌∷◌, nat_eq, Option, Some, None, option_map, unwrap_or, if◌then◌else◌}
use Rattle.quorum_sets.specs.Ids.{Ids, has, is_empty, no_ids}
use Rattle.quorum_sets.specs.Voters.{is_quorum}
use Rattle.conf_change.specs.Configuration.{voters_of, member_ids, is_joint}
use Rattle.conf_driver.specs.IdSets.{◌∪◌, ◌∩◌, ◌∖◌, just, or_else, least_of, or_second}
use Rattle.conf_driver.specs.Situation.{Situation, tolerance, is_less}
use Rattle.conf_driver.specs.View.{voter_ids}
use Rattle.conf_driver.specs.declared.action.Action.{Action}
use Rattle.conf_driver.specs.declared.action.Action.TheVariants.{Start, Stop, Transfer, Wait, Stuck, Done}
use Rattle.conf_driver.specs.declared.action.StuckReason.TheVariants.{QuorumLost, Stalls, Reused}
use Rattle.conf_driver.specs.declared.action.WaitReason.TheVariants.{NoLeader, Pending, Heard, Unheard, Behind, Leaving}

-- the answer, if the condition holds
abbrev pub when : Bool → Action → Option Action
when holds action = if holds then Some action else None

-- the answer that names these ids, if there are any
abbrev pub if_any : Ids → (Ids → Action) → Option Action
if_any ids answer = if is_empty ids then None else Some (answer ids)

-- to wait for these ids: for those that are not heard from, or if all are, until they have caught up
abbrev pub wait_for : Situation → Ids → Action
wait_for s ids = if is_empty (ids ∖ s.heard) then Wait Behind ids else Wait Unheard (ids ∖ s.heard)

-- to make one of these ids the leader, if there are any: the least that stays an incoming voter, or else the least
abbrev pub transfer_to_one : Situation → Ids → Option Action
transfer_to_one s ids = option_map Transfer (or_second (least_of (ids ∩ s.target.incoming)) (least_of ids))

-- ---- whether the view is a base for anything
-- 1. the voters that are not down are no quorum
abbrev pub quorum_lost : Situation → Option Action
quorum_lost s = when (not (is_quorum (voters_of s.before) (s.voters ∖ s.down))) (Stuck QuorumLost (s.voters ∩ s.down))

-- 2. a member that is named as down is heard from, or who is named as down leads
abbrev pub down_is_heard : Situation → Option Action
down_is_heard s = if_any (s.down ∩ (s.heard ∩ s.members ∪ just s.lead)) (Wait Heard)

-- 3. there is no leader
abbrev pub no_leader : Situation → Option Action
no_leader s = when (nat_eq s.lead 0) (Wait NoLeader (or_else (s.voters ∖ s.down ∖ s.heard) (s.voters ∖ s.down)))

-- 4. the leader does not vote: an incoming voter that is up and has caught up is to lead, or one has to come
abbrev pub nonvoter_leads : Situation → Option Action
nonvoter_leads s =
    if has s.voters s.lead then None
    else Some (unwrap_or (transfer_to_one s (s.before.incoming ∩ s.up)) (wait_for s (s.before.incoming ∖ s.down)))

-- who is to lead while a change is pending: in a joint configuration an incoming voter, and if the target drops the
-- leader, an incoming voter that stays
abbrev pub successors : Situation → Ids
successors s =
    if is_joint s.before && not (has s.before.incoming s.lead) then s.before.incoming ∩ s.up
    else if has (voter_ids s.target) s.lead then no_ids else s.before.incoming ∩ voter_ids s.target ∩ s.up

-- 5. a change is pending, and the leader is soon to lose its vote, while one that keeps it could lead
abbrev pub leader_is_dropped : Situation → Option Action
leader_is_dropped s = if s.is_pending then transfer_to_one s (successors s) else None

-- 6. a change is pending
abbrev pub is_pending : Situation → Option Action
is_pending s = when s.is_pending (Wait Pending (or_else s.lack_pending (just s.lead)))

-- ---- whether the path can be taken
-- 7. the path stalls with the ids that are down
abbrev pub path_stalls : Situation → Option Action
path_stalls s = when s.stalls (Stuck Stalls (s.down ∩ (s.voters ∪ voter_ids s.target)))

-- 8. the target has an id that does not vote now and was stopped for good
abbrev pub id_is_reused : Situation → Option Action
id_is_reused s = if_any ((member_ids s.target ∖ s.voters) ∩ s.retired) (Stuck Reused)

-- ---- servers
-- 9. members of the target, which are members now or after the step and not voters now, do not run
abbrev pub not_started : Situation → Option Action
not_started s = if_any ((member_ids s.after ∪ s.members) ∩ member_ids s.target ∖ s.voters ∖ s.down ∖ s.running) Start

-- whether it is safe to stop servers: each member that is not down knows the configuration, and the voters that are heard
-- from are a quorum
abbrev pub may_stop : Situation → Bool
may_stop s = is_empty s.lack_configuration && is_quorum (voters_of s.before) (s.voters ∩ s.heard ∖ s.down)

-- 10. a server that is not a member, now or of the target, runs, and may be stopped
abbrev pub not_stopped : Situation → Option Action
not_stopped s = if may_stop s then if_any (s.running ∖ s.members ∖ member_ids s.target) Stop else None

-- ---- leadership
-- 11. raft is to leave a joint configuration by itself
abbrev pub is_leaving : Situation → Option Action
is_leaving s = when (s.has_step && s.before.auto_leave) (Wait Leaving (or_else (s.voters ∖ s.down ∖ s.up) (just s.lead)))

-- 12. the leader does not vote after the step, and a voter that does is up and has caught up
abbrev pub leader_leaves : Situation → Option Action
leader_leaves s = if has s.voters_after s.lead then None else transfer_to_one s (s.voters ∩ s.voters_after ∩ s.up)

-- 13. the leader does not vote after the step, and a voter that does is not down
abbrev pub successor_lags : Situation → Option Action
successor_lags s = if has s.voters_after s.lead then None else if_any (s.voters ∩ s.voters_after ∖ s.down) (wait_for s)

-- ---- who has to have caught up
-- the members that have to have caught up at the target: the incoming voters and the learners, and while a server is yet
-- to be stopped, the outgoing voters too
abbrev pub needed_at_target : Situation → Ids
needed_at_target s = if is_empty (s.running ∖ s.members) then s.before.incoming ∪ s.before.learners else s.members

-- to wait for these ids, or that all is done if there are none
abbrev pub done_or_wait : Situation → Ids → Action
done_or_wait s ids = if is_empty ids then Done else wait_for s ids

-- 14. the target is reached
abbrev pub at_target : Situation → Option Action
at_target s = when (not s.has_step) (done_or_wait s (needed_at_target s ∖ s.down ∖ s.up))

-- 15. a member that is to vote after the step, and does not yet, is not up or has not caught up
abbrev pub new_voter_lags : Situation → Option Action
new_voter_lags s = if_any (s.voters_after ∩ s.members ∖ s.voters ∖ s.down ∖ s.up) (wait_for s)

-- 16. a voter after the step is heard from, and has not caught up
abbrev pub voter_is_behind : Situation → Option Action
voter_is_behind s = if_any (s.voters_after ∩ s.members ∩ s.heard ∖ s.down ∖ s.up) (Wait Behind)

-- 17. who is up and has caught up is no quorum
abbrev pub no_quorum_is_up : Situation → Option Action
no_quorum_is_up s = when (not (is_quorum (voters_of s.before) s.up)) (wait_for s (s.voters ∖ s.down ∖ s.up))

-- 18. a voter after the step is not heard from, and the step is a joint one or makes things worse
abbrev pub voter_is_silent : Situation → Option Action
voter_is_silent s =
    if is_joint s.after || is_less (tolerance s.after s.up) (tolerance s.before s.up)
    then if_any (s.voters_after ∖ s.down ∖ s.heard) (Wait Unheard) else None

-- ---- the table
-- the rows but for the last one: propose the first step
abbrev pub rows_of_view : Situation → List (Option Action)
rows_of_view s = quorum_lost s ∷ down_is_heard s ∷ no_leader s ∷ nonvoter_leads s ∷ leader_is_dropped s ∷ is_pending s ∷ []

abbrev pub rows_of_path : Situation → List (Option Action)
rows_of_path s = path_stalls s ∷ id_is_reused s ∷ not_started s ∷ not_stopped s ∷ is_leaving s ∷ []

abbrev pub rows_of_step : Situation → List (Option Action)
rows_of_step s =
    leader_leaves s ∷ successor_lags s ∷ at_target s ∷ new_voter_lags s ∷ voter_is_behind s ∷ no_quorum_is_up s ∷ voter_is_silent s ∷ []

-- the first answer, if there is one
abbrev pub first_of : List (Option Action) → Option Action
first_of [] = None
first_of (Some answer ∷ rows) = Some answer
first_of (None ∷ rows) = first_of rows
