-- What stays so while answers are carried out: the voters that are not down are a quorum, and no member of the target
-- was stopped for good.
use Rattle.std.proofs.Common.{◌≡◌, ℕ, true, false, ap, ◌∙◌, arith, inl, inr}
use Rattle.std.proofs.lemmas.Bool.{both_ways, cases_Bool}
use Rattle.quorum_sets.specs.Ids.{Ids, has}
use Rattle.quorum_sets.specs.Tolerance.{commits_without}
use Rattle.quorum_sets.proofs.Offered.{has-union}
use Rattle.conf_change.specs.Configuration.{Configuration, is_member, member_ids, voters_of}
use Rattle.conf_change.specs.declared.step.Step.{Step}
use Rattle.conf_change.specs.declared.step.Step.TheVariants.{LeaveJoint}
use Rattle.conf_change.proofs.Offered.{has-all_members}
use Rattle.conf_plan.specs.declared.strategy.Strategy.{Strategy}
use Rattle.conf_driver.specs.CarriedOut.{CarriedOut, IsReached, IsSamePlace, IsTaken}
use Rattle.conf_driver.specs.Hopeful.{IsHopeful}
use Rattle.conf_driver.specs.Moment.{IsMoment, Moment}
use Rattle.conf_driver.specs.Next.{situation}
use Rattle.conf_driver.specs.declared.action.Action.{Action}
use Rattle.conf_driver.specs.declared.action.Action.TheVariants.{Start, Stop, Transfer, Propose, Wait, Stuck, Done}
use Rattle.conf_driver.specs.declared.action.StuckReason.{StuckReason}
use Rattle.conf_driver.specs.declared.action.WaitReason.TheVariants.{NoLeader, Pending, Heard, Unheard, Behind, Leaving}
use Rattle.conf_driver.proofs.Answered.{IsFirst, Says}
use Rattle.conf_driver.proofs.Counting.{is_quorum-not_down}
use Rattle.conf_driver.proofs.IdsByMember.{in-common, in-without}
use Rattle.conf_driver.proofs.Moments.{AreKept, IsNearer-from_first}
use Rattle.conf_driver.proofs.PathStalls.{stalls_not-at_its_ends}
use Rattle.conf_driver.proofs.Sizes.{id-of_some}
use Rattle.conf_driver.proofs.StuckBy.{IsStuckBy, ByQuorum, ByStall, ByReuse}
use Rattle.conf_driver.proofs.Ways.{steps_to}

-- no member of the target was stopped for good
abbrev NoneRetired : Configuration → Ids → Type 0
NoneRetired target retired = (id : ℕ) → is_member target id ≡ true → has retired id ≡ false

none-retired : (target : Configuration) (before after : Ids) → after ≡ before → NoneRetired target before → NoneRetired target after
none-retired target before after same none id member = ap (λ r. has r id) same ∙ none id member

hopeful-same : (target : Configuration) (down : Ids) (now next : Moment) → IsHopeful target down now → IsSamePlace now next → NoneRetired target next.view.retired → IsHopeful target down next
hopeful-same target down now next hopeful same none = record {
  quorum = ap (λ c. commits_without (voters_of c) down) same.conf_state ∙ hopeful.quorum;
  quorum_then = ap (λ c. commits_without (voters_of c) down) same.becomes ∙ hopeful.quorum_then;
  quorum_there = hopeful.quorum_there;
  not_retired = none;
}

hopeful-reached : (target c : Configuration) (down : Ids) (now next : Moment) → IsHopeful target down now → commits_without (voters_of c) down ≡ true → IsReached c next → NoneRetired target next.view.retired
    → IsHopeful target down next
hopeful-reached target c down now next hopeful commits reached none = record {
  quorum = ap (λ d. commits_without (voters_of d) down) reached.conf_state ∙ commits;
  quorum_then = ap (λ d. commits_without (voters_of d) down) reached.becomes ∙ commits;
  quorum_there = hopeful.quorum_there;
  not_retired = none;
}

hopeful-taken : AreKept → (strategy : Strategy) (target : Configuration) (down : Ids) (now next : Moment) (step : Step) → IsMoment strategy target now → IsHopeful target down now
    → IsFirst (situation strategy target down now.view) (steps_to strategy target down now.view.conf_state) step → IsTaken step now next → NoneRetired target next.view.retired → IsHopeful target down next
hopeful-taken kept strategy target down now next step moment hopeful first taken none =
    let nearer = IsNearer-from_first kept strategy target down now.view taken.0 step first.rest moment.can first.is taken.1 in
    let commits = nearer.commits hopeful.quorum hopeful.quorum_there in
    elim taken.2 [
      | inl reached ↦ hopeful-reached target taken.0 down now next hopeful commits reached none
      | inr under_way ↦ record {
        quorum = ap (λ c. commits_without (voters_of c) down) under_way.conf_state ∙ hopeful.quorum;
        quorum_then = ap (λ c. commits_without (voters_of c) down) under_way.becomes ∙ commits;
        quorum_there = hopeful.quorum_there;
        not_retired = none;
      }
    ]

pub hopeful-next : AreKept → (strategy : Strategy) (target : Configuration) (down : Ids) (now next : Moment) (answer : Action) → IsMoment strategy target now → IsHopeful target down now → CarriedOut down now answer next
    → Says (situation strategy target down now.view) (steps_to strategy target down now.view.conf_state) answer → IsHopeful target down next
hopeful-next kept strategy target down now next (Start ids) moment hopeful carried says =
    hopeful-same target down now next hopeful carried.leads.0 (none-retired target now.view.retired next.view.retired carried.retired hopeful.not_retired)
hopeful-next kept strategy target down now next (Stop ids) moment hopeful carried says =
    hopeful-same target down now next hopeful carried.leads.0 (λ id member.
    let not_named : has ids id ≡ false = elim (cases_Bool (has ids id)) [
      | inl named ↦ absurd (both_ways _ (in-without now.view.running (member_ids target) id (says.1.within id named)).1 (has-all_members target id ∙ member))
      | inr other ↦ other
    ] in
    ap (λ r. has r id) carried.retired ∙ grind (arith, not_named, hopeful.not_retired id member, has-union now.view.retired ids id))
hopeful-next kept strategy target down now next (Transfer id) moment hopeful carried says =
    let none = none-retired target now.view.retired next.view.retired carried.retired hopeful.not_retired in
    elim carried.leads.1 [
      | inl same ↦ hopeful-same target down now next hopeful same none
      | inr reached ↦ hopeful-reached target now.becomes down now next hopeful hopeful.quorum_then reached.1 none
    ]
hopeful-next kept strategy target down now next (Propose step) moment hopeful carried says =
    hopeful-taken kept strategy target down now next step moment hopeful says.1 carried.leads (none-retired target now.view.retired next.view.retired carried.retired hopeful.not_retired)
hopeful-next kept strategy target down now next (Wait NoLeader ids) moment hopeful carried says =
    hopeful-same target down now next hopeful carried.leads (none-retired target now.view.retired next.view.retired carried.retired hopeful.not_retired)
hopeful-next kept strategy target down now next (Wait Pending ids) moment hopeful carried says =
    hopeful-reached target now.becomes down now next hopeful hopeful.quorum_then carried.leads (none-retired target now.view.retired next.view.retired carried.retired hopeful.not_retired)
hopeful-next kept strategy target down now next (Wait Heard ids) moment hopeful carried says = absurd carried.leads
hopeful-next kept strategy target down now next (Wait Unheard ids) moment hopeful carried says =
    hopeful-same target down now next hopeful carried.leads.0 (none-retired target now.view.retired next.view.retired carried.retired hopeful.not_retired)
hopeful-next kept strategy target down now next (Wait Behind ids) moment hopeful carried says =
    hopeful-same target down now next hopeful carried.leads.0 (none-retired target now.view.retired next.view.retired carried.retired hopeful.not_retired)
hopeful-next kept strategy target down now next (Wait Leaving ids) moment hopeful carried says =
    hopeful-taken kept strategy target down now next LeaveJoint moment hopeful says.1 carried.leads (none-retired target now.view.retired next.view.retired carried.retired hopeful.not_retired)
hopeful-next kept strategy target down now next (Stuck why ids) moment hopeful carried says = absurd carried.leads
hopeful-next kept strategy target down now next Done moment hopeful carried says = absurd carried.leads

-- ---- it is never said that the target is not reached
pub stuck-not : AreKept → (strategy : Strategy) (target : Configuration) (down : Ids) (now : Moment) (why : StuckReason) (ids : Ids) → IsMoment strategy target now → IsHopeful target down now
    → IsStuckBy (situation strategy target down now.view) why ids → ⊥
stuck-not kept strategy target down now why ids moment hopeful (ByQuorum is lost named) = both_ways _ lost (is_quorum-not_down now.view.conf_state down ∙ hopeful.quorum)
stuck-not kept strategy target down now why ids moment hopeful (ByStall is quorum stalls) = grind (arith, both_ways, stalls_not-at_its_ends)
stuck-not kept strategy target down now why ids moment hopeful (ByReuse is some named) = grind (arith, id-of_some, in-common, in-without, both_ways, has-all_members)
