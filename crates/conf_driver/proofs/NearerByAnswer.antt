-- Each answer that is carried out makes the number smaller that is left.
use Rattle.std.proofs.Common.{◌≡◌, ◌≢◌, ℕ, ◌+◌, ◌*◌, ◌≤◌, ◌<◌, length, sym, ap, ◌∙◌, arith, inl, inr}
use Rattle.quorum_sets.specs.Ids.{Ids, size}
use Rattle.conf_change.specs.Configuration.{Configuration, member_ids}
use Rattle.conf_change.specs.declared.step.Step.{Step}
use Rattle.conf_change.specs.declared.step.Step.TheVariants.{LeaveJoint}
use Rattle.conf_change.proofs.Offered.{has-all_members}
use Rattle.conf_plan.specs.declared.strategy.Strategy.{Strategy}
use Rattle.conf_driver.specs.CarriedOut.{CarriedOut, HasArrived, IsReached, IsSamePlace, IsTaken}
use Rattle.conf_driver.specs.IdSets.{◌∖◌}
use Rattle.conf_driver.specs.Moment.{IsMoment, Moment}
use Rattle.conf_driver.specs.Nearer.{all_members, lack, leader_off, left, servers_off, steps_left, work_left}
use Rattle.conf_driver.specs.Next.{situation}
use Rattle.conf_driver.specs.View.{heard_from, up_and_caught_up}
use Rattle.conf_driver.specs.declared.action.Action.{Action}
use Rattle.conf_driver.specs.declared.action.Action.TheVariants.{Start, Stop, Transfer, Propose, Wait, Stuck, Done}
use Rattle.conf_driver.specs.declared.action.WaitReason.TheVariants.{NoLeader, Pending, Heard, Unheard, Behind, Leaving}
use Rattle.conf_driver.proofs.Answered.{IsFirst, Says}
use Rattle.conf_driver.proofs.Counted.{quorum-of_more}
use Rattle.conf_driver.proofs.Falling.{fewer-once_started, fewer-once_stopped}
use Rattle.conf_driver.proofs.LeaderOff.{off-of_a_leader, off-of_none}
use Rattle.conf_driver.proofs.Moments.{AreKept, IsNearer-from_first, IsOfMembers-from_view, all-reached, all-same, all-under_way, changes-few, changes-none, changes-one, changes-same, changes_pending, ends-within_all, lack-bound, lack-same, leader-same, moment-reached, moment-same, moment-under_way, steps-same, then-within_all}
use Rattle.conf_driver.proofs.Needed.{HasGrown, lack-less_once_heard, lack-less_once_up, needed-are_members}
use Rattle.conf_driver.proofs.Proposed.{zero-from_test}
use Rattle.conf_driver.proofs.Sizes.{id-of_some}
use Rattle.conf_driver.proofs.TwoParts.{falls-first, falls-second}
use Rattle.conf_driver.proofs.Ways.{steps_to}

-- ---- the next moment is one
moment-taken : AreKept → (strategy : Strategy) (target : Configuration) (down : Ids) (now next : Moment) (step : Step) → IsMoment strategy target now
    → IsFirst (situation strategy target down now.view) (steps_to strategy target down now.view.conf_state) step → IsTaken step now next → IsMoment strategy target next
moment-taken kept strategy target down now next step moment first taken =
    let nearer = IsNearer-from_first kept strategy target down now.view taken.0 step first.rest moment.can first.is taken.1 in
    elim taken.2 [
      | inl reached ↦ moment-reached strategy target taken.0 now next moment nearer.valid nearer.path reached
      | inr under_way ↦ moment-under_way strategy target taken.0 now next moment nearer.valid nearer.path under_way
    ]

pub moment-by_answer : AreKept → (strategy : Strategy) (target : Configuration) (down : Ids) (now next : Moment) (answer : Action) → IsMoment strategy target now → CarriedOut down now answer next
    → Says (situation strategy target down now.view) (steps_to strategy target down now.view.conf_state) answer → IsMoment strategy target next
moment-by_answer kept strategy target down now next (Start ids) moment carried says = moment-same strategy target now next moment carried.leads.0
moment-by_answer kept strategy target down now next (Stop ids) moment carried says = moment-same strategy target now next moment carried.leads.0
moment-by_answer kept strategy target down now next (Transfer id) moment carried says = grind (arith, moment-same, moment-reached)
moment-by_answer kept strategy target down now next (Propose step) moment carried says = moment-taken kept strategy target down now next step moment says.1 carried.leads
moment-by_answer kept strategy target down now next (Wait NoLeader ids) moment carried says = moment-same strategy target now next moment carried.leads
moment-by_answer kept strategy target down now next (Wait Pending ids) moment carried says = moment-reached strategy target now.becomes now next moment moment.valid moment.path carried.leads
moment-by_answer kept strategy target down now next (Wait Heard ids) moment carried says = absurd carried.leads
moment-by_answer kept strategy target down now next (Wait Unheard ids) moment carried says = moment-same strategy target now next moment carried.leads.0
moment-by_answer kept strategy target down now next (Wait Behind ids) moment carried says = moment-same strategy target now next moment carried.leads.0
moment-by_answer kept strategy target down now next (Wait Leaving ids) moment carried says = moment-taken kept strategy target down now next LeaveJoint moment says.1 carried.leads
moment-by_answer kept strategy target down now next (Stuck why ids) moment carried says = absurd carried.leads
moment-by_answer kept strategy target down now next Done moment carried says = absurd carried.leads

-- ---- the parts of the number
fall-servers : (r s q l r' s' q' l' : ℕ) → r' < r → s' ≡ s → q' ≡ q → l' ≡ l → r' + 8 * s' + 4 * q' + l' < r + 8 * s + 4 * q + l
fall-servers r s q l r' s' q' l' fewer steps changes leader = omega (arith, fewer, steps, changes, leader)

fall-leader : (r s q l r' s' q' l' : ℕ) → r' ≡ r → s' ≡ s → q' ≡ q → l' < l → r' + 8 * s' + 4 * q' + l' < r + 8 * s + 4 * q + l
fall-leader r s q l r' s' q' l' servers steps changes less = omega (arith, servers, steps, changes, less)

fall-change : (r s q l r' s' q' l' : ℕ) → r' ≡ r → s' ≡ s → q' ≡ 0 → q ≡ 1 → l' ≤ 3 → r' + 8 * s' + 4 * q' + l' < r + 8 * s + 4 * q + l
fall-change r s q l r' s' q' l' servers steps none one few = omega (arith, servers, steps, none, one, few)

fall-step : (r s q l r' s' q' l' : ℕ) → r' ≡ r → s' < s → q' ≤ 1 → l' ≤ 3 → r' + 8 * s' + 4 * q' + l' < r + 8 * s + 4 * q + l
fall-step r s q l r' s' q' l' servers fewer changes few = omega (arith, servers, fewer, changes, few)

stay-all : (r s q l r' s' q' l' : ℕ) → r' ≡ r → s' ≡ s → q' ≡ q → l' ≡ l → r' + 8 * s' + 4 * q' + l' ≤ r + 8 * s + 4 * q + l
stay-all r s q l r' s' q' l' servers steps changes leader = omega (arith, servers, steps, changes, leader)

servers-same : (target : Configuration) (now next : Moment) → next.view.running ≡ now.view.running → servers_off target next.view ≡ servers_off target now.view
servers-same target now next same = ap (λ r. size (r ∖ member_ids target) + size (member_ids target ∖ r)) same

leader-stays : (strategy : Strategy) (target : Configuration) (down : Ids) (now next : Moment) → IsSamePlace now next → next.view.lead ≡ now.view.lead
    → leader_off (situation strategy target down next.view) ≡ leader_off (situation strategy target down now.view)
leader-stays strategy target down now next same lead = grind (arith, leader-same)

-- ---- less work is left
by_work : AreKept → (strategy : Strategy) (target : Configuration) (down : Ids) (now next : Moment) → IsMoment strategy target next → size (all_members target next) ≤ size (all_members target now)
    → work_left strategy target down next < work_left strategy target down now → left strategy target down next < left strategy target down now
by_work kept strategy target down now next moment few less =
    falls-first (size (all_members target now)) (size (all_members target next)) (work_left strategy target down now) (work_left strategy target down next) (lack (situation strategy target down now.view)) (lack (situation strategy target down next.view))
    few (lack-bound kept strategy target down next moment.can) less

-- servers are started or stopped
by_servers : AreKept → (strategy : Strategy) (target : Configuration) (down : Ids) (now next : Moment) → IsMoment strategy target next → IsSamePlace now next → next.view.lead ≡ now.view.lead
    → servers_off target next.view < servers_off target now.view → left strategy target down next < left strategy target down now
by_servers kept strategy target down now next moment same lead fewer = grind (arith, by_work, all-same, fall-servers, changes_pending, steps-same, changes-same, leader-stays)

-- leadership has moved, or there is a leader
by_leader : AreKept → (strategy : Strategy) (target : Configuration) (down : Ids) (now next : Moment) → IsMoment strategy target next → IsSamePlace now next → next.view.running ≡ now.view.running
    → leader_off (situation strategy target down next.view) < leader_off (situation strategy target down now.view) → left strategy target down next < left strategy target down now
by_leader kept strategy target down now next moment same running less = grind (arith, by_work, all-same, fall-leader, changes_pending, servers-same, steps-same, changes-same)

-- the change that was pending has led to its configuration
by_change : AreKept → (strategy : Strategy) (target : Configuration) (down : Ids) (now next : Moment) → IsMoment strategy target next → IsReached now.becomes next → next.view.running ≡ now.view.running → next.view.lead ≢ 0
    → changes_pending now.view ≡ 1 → left strategy target down next < left strategy target down now
by_change kept strategy target down now next moment reached running lead one =
    by_work kept strategy target down now next moment (all-reached target now.becomes now next (then-within_all target now) reached)
    (fall-change (servers_off target now.view) (steps_left strategy target down now) (changes_pending now.view) (leader_off (situation strategy target down now.view))
    (servers_off target next.view) (steps_left strategy target down next) (changes_pending next.view) (leader_off (situation strategy target down next.view))
    (servers-same target now next running) (steps-same strategy target down now next reached.becomes) (changes-none next.view reached.not_pending) one (off-of_a_leader (situation strategy target down next.view) lead))

-- a step has been made, or the change to the configuration after it is pending
by_step : AreKept → (strategy : Strategy) (target : Configuration) (down : Ids) (now next : Moment) (step : Step) → IsMoment strategy target now → IsMoment strategy target next
    → IsFirst (situation strategy target down now.view) (steps_to strategy target down now.view.conf_state) step → IsTaken step now next → next.view.running ≡ now.view.running → next.view.lead ≢ 0
    → left strategy target down next < left strategy target down now
by_step kept strategy target down now next step moment moment_next first taken running lead =
    let after = taken.0 in
    let nearer = IsNearer-from_first kept strategy target down now.view after step first.rest moment.can first.is taken.1 in
    let within = ends-within_all target after now nearer.members in
    let own : now.becomes ≡ now.view.conf_state = moment.not_pending (zero-from_test now.view.pending_conf_index first.not_pending) in
    let before : steps_left strategy target down now ≡ length (steps_to strategy target down now.view.conf_state) = ap (λ c. length (steps_to strategy target down c)) own in
    let to : next.becomes ≡ after = elim taken.2 [
      | inl reached ↦ reached.becomes
      | inr under_way ↦ under_way.becomes
    ] in
    let later : steps_left strategy target down next ≡ length (steps_to strategy target down after) = ap (λ c. length (steps_to strategy target down c)) to in
    let few : size (all_members target next) ≤ size (all_members target now) = elim taken.2 [
      | inl reached ↦ all-reached target after now next within reached
      | inr under_way ↦ all-under_way target after now next within under_way
    ] in
    let fewer = nearer.fewer in
    by_work kept strategy target down now next moment_next few
    (fall-step (servers_off target now.view) (steps_left strategy target down now) (changes_pending now.view) (leader_off (situation strategy target down now.view))
    (servers_off target next.view) (steps_left strategy target down next) (changes_pending next.view) (leader_off (situation strategy target down next.view))
    (servers-same target now next running) (omega (arith, before, later, fewer)) (changes-few next.view) (off-of_a_leader (situation strategy target down next.view) lead))

-- ---- members lack less
by_lack : (strategy : Strategy) (target : Configuration) (down : Ids) (now next : Moment) → IsSamePlace now next → next.view.lead ≡ now.view.lead → next.view.running ≡ now.view.running
    → lack (record (situation strategy target down now.view) { up = up_and_caught_up down next.view; heard = heard_from next.view }) < lack (situation strategy target down now.view)
    → left strategy target down next < left strategy target down now
by_lack strategy target down now next same lead running less = grind (arith, falls-second, all-same, stay-all, changes_pending, servers-same, steps-same, changes-same, leader-stays, lack-same)

grown-by_arrival : AreKept → (strategy : Strategy) (target : Configuration) (down ids arrived : Ids) (now next : Moment) → HasArrived down ids arrived now next
    → HasGrown (situation strategy target down now.view) (up_and_caught_up down next.view) (heard_from next.view)
grown-by_arrival kept strategy target down ids arrived now next come = record {
  quorum = quorum-of_more kept.counted now.view.conf_state (up_and_caught_up down now.view) (up_and_caught_up down next.view) (λ q voter here. come.up q here);
  stay_up = come.up;
  stay_heard = λ q member here. come.heard q (sym (has-all_members now.view.conf_state q) ∙ member) here;
}

-- ---- each answer
pub nearer-by_answer : AreKept → (strategy : Strategy) (target : Configuration) (down : Ids) (now next : Moment) (answer : Action) → IsMoment strategy target now → IsMoment strategy target next → CarriedOut down now answer next
    → Says (situation strategy target down now.view) (steps_to strategy target down now.view.conf_state) answer → left strategy target down next < left strategy target down now
nearer-by_answer kept strategy target down now next (Start ids) moment moment_next carried says = grind (arith, id-of_some, fewer-once_started, by_servers)
nearer-by_answer kept strategy target down now next (Stop ids) moment moment_next carried says = grind (arith, id-of_some, fewer-once_stopped, by_servers)
nearer-by_answer kept strategy target down now next (Transfer id) moment moment_next carried says = grind (arith, leader-same, by_leader, by_change, changes-one)
nearer-by_answer kept strategy target down now next (Propose step) moment moment_next carried says = by_step kept strategy target down now next step moment moment_next says.1 carried.leads carried.running carried.leader
nearer-by_answer kept strategy target down now next (Wait NoLeader ids) moment moment_next carried says =
    let before = off-of_none (situation strategy target down now.view) says in
    let later = off-of_a_leader (situation strategy target down next.view) carried.leader in
    by_leader kept strategy target down now next moment_next carried.leads carried.running (omega (arith, before, later))
nearer-by_answer kept strategy target down now next (Wait Pending ids) moment moment_next carried says = grind (arith, by_change)
nearer-by_answer kept strategy target down now next (Wait Heard ids) moment moment_next carried says = absurd carried.leads
nearer-by_answer kept strategy target down now next (Wait Unheard ids) moment moment_next carried says =
    let s = situation strategy target down now.view in
    let come = carried.leads.2 in
    by_lack strategy target down now next carried.leads.0 carried.leads.1 carried.running
    (lack-less_once_heard s (up_and_caught_up down next.view) (heard_from next.view) come.one.0 (needed-are_members s (IsOfMembers-from_view kept strategy target down now.view moment.can))
    (grown-by_arrival kept strategy target down ids (heard_from next.view) now next come) (says.1.within come.one.0 come.one.1) come.one.2)
nearer-by_answer kept strategy target down now next (Wait Behind ids) moment moment_next carried says =
    let s = situation strategy target down now.view in
    let come = carried.leads.2 in
    by_lack strategy target down now next carried.leads.0 carried.leads.1 carried.running
    (lack-less_once_up s (up_and_caught_up down next.view) (heard_from next.view) come.one.0 (needed-are_members s (IsOfMembers-from_view kept strategy target down now.view moment.can))
    (grown-by_arrival kept strategy target down ids (up_and_caught_up down next.view) now next come) (says.1.within come.one.0 come.one.1) come.one.2)
nearer-by_answer kept strategy target down now next (Wait Leaving ids) moment moment_next carried says = by_step kept strategy target down now next LeaveJoint moment moment_next says.1 carried.leads carried.running carried.leader
nearer-by_answer kept strategy target down now next (Stuck why ids) moment moment_next carried says = absurd carried.leads
nearer-by_answer kept strategy target down now next Done moment moment_next carried says = absurd carried.leads
