-- How much is left to be done before a target is reached, as one number.
use Rattle.std.specs.Prelude.{ℕ, ◌+◌, ◌*◌, Bool, not, ◌&&◌, length, nat_eq, if◌then◌else◌}
use Rattle.quorum_sets.specs.Ids.{Ids, has, is_empty, no_ids, size}
use Rattle.quorum_sets.specs.Voters.{is_quorum}
use Rattle.conf_change.specs.Configuration.{Configuration, is_joint, member_ids, voters_of}
use Rattle.conf_plan.specs.OneChangeEach.{one_change_each}
use Rattle.conf_plan.specs.PathBy.{path_by}
use Rattle.conf_plan.specs.declared.strategy.Strategy.{Strategy}
use Rattle.conf_driver.specs.IdSets.{◌∪◌, ◌∩◌, ◌∖◌}
use Rattle.conf_driver.specs.Moment.{Moment}
use Rattle.conf_driver.specs.Next.{situation}
use Rattle.conf_driver.specs.Rows.{needed_at_target}
use Rattle.conf_driver.specs.View.{ViewState, voter_ids}
use Rattle.conf_driver.specs.Situation.{Situation}

-- whether the leader votes, but not after the step, while another voter that is not down does
abbrev pub leadership_moves : Situation → Bool
leadership_moves s = not (has s.voters_after s.lead) && not (is_empty (s.voters ∩ s.voters_after ∖ s.down))

-- the members for whom a wait may be: those that may lead, if leadership has to move; those that the target needs, once
-- it is reached; else the voters after the step, and if who is up is no quorum, the voters
abbrev pub needed : Situation → Ids
needed s =
    if not (has s.voters s.lead) then s.before.incoming
    else (if s.is_pending then no_ids
    else (if leadership_moves s then s.voters ∩ s.voters_after
    else (if not s.has_step then needed_at_target s
    else s.voters_after ∪ (if is_quorum (voters_of s.before) s.up then no_ids else s.voters))))

-- how much these members lack: one for each that is not down and has not caught up, and one more if it is not heard
-- from
abbrev pub lack : Situation → ℕ
lack s = size (needed s ∖ s.down ∖ s.up) + size (needed s ∖ s.down ∖ s.heard)

-- How far leadership is off. There is no leader: 4. It does not vote: 3. While a change is pending: it is no incoming
-- voter of a joint configuration, 2; it is no voter of the target, 1. Otherwise: it does not vote after the step, 1.
abbrev pub leader_off : Situation → ℕ
leader_off s =
    if nat_eq s.lead 0 then 4
    else (if not (has s.voters s.lead) then 3
    else (if s.is_pending && is_joint s.before && not (has s.before.incoming s.lead) then 2
    else (if has (if s.is_pending then voter_ids s.target else s.voters_after) s.lead then 0 else 1)))

-- the servers to be started and to be stopped
abbrev pub servers_off : Configuration → ViewState → ℕ
servers_off target view = size (view.running ∖ member_ids target) + size (member_ids target ∖ view.running)

-- the steps of the path from the configuration that the pending change leads to
abbrev pub steps_left : Strategy → Configuration → Ids → Moment → ℕ
steps_left strategy target down now = length (one_change_each (path_by strategy down now.becomes target))

-- the members now, after the pending change, and at the target
abbrev pub all_members : Configuration → Moment → Ids
all_members target now = member_ids now.view.conf_state ∪ member_ids now.becomes ∪ member_ids target

-- how much is left apart from what members lack
abbrev pub work_left : Strategy → Configuration → Ids → Moment → ℕ
work_left strategy target down now =
    let s = situation strategy target down now.view in
    servers_off target now.view + 8 * steps_left strategy target down now + 4 * (if s.is_pending then 1 else 0) + leader_off s

-- How much is left: what members lack counts least, since any other answer may lose all that they had.
abbrev pub left : Strategy → Configuration → Ids → Moment → ℕ
left strategy target down now =
    (2 * size (all_members target now) + 1) * work_left strategy target down now + lack (situation strategy target down now.view)
