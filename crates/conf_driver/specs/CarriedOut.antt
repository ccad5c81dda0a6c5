-- What it means that an answer is carried out: what is so at the moment after it. Of the progress and the indexes
-- nothing is said but what is named.
use Rattle.std.specs.Prelude.{◌≡◌, ◌≢◌, ◌⊎◌, ◌↔◌, ℕ, true, List, [], ◌∷◌}
use Rattle.quorum_sets.specs.Ids.{Ids, has}
use Rattle.conf_change.specs.Configuration.{Configuration, is_member}
use Rattle.conf_change.specs.declared.step.Step.{Step}
use Rattle.conf_change.specs.declared.step.Step.TheVariants.{LeaveJoint}
use Rattle.conf_plan.specs.Run.{Gives}
use Rattle.conf_plan.specs.declared.strategy.Strategy.{Strategy}
use Rattle.conf_driver.specs.IdSets.{◌∪◌, ◌∖◌}
use Rattle.conf_driver.specs.Moment.{Moment}
use Rattle.conf_driver.specs.Next.{next_of}
use Rattle.conf_driver.specs.View.{heard_from, up_and_caught_up}
use Rattle.conf_driver.specs.declared.action.Action.{Action}
use Rattle.conf_driver.specs.declared.action.Action.TheVariants.{Start, Stop, Transfer, Propose, Wait, Stuck, Done}
use Rattle.conf_driver.specs.declared.action.WaitReason.TheVariants.{NoLeader, Pending, Heard, Unheard, Behind, Leaving}

-- ---- servers
-- who runs once an answer is carried out
abbrev pub running_after : Action → Ids → Ids
running_after (Start ids) running = running ∪ ids
running_after (Stop ids) running = running ∖ ids
running_after answer running = running

-- who was stopped for good by then
abbrev pub retired_after : Action → Ids → Ids
retired_after (Stop ids) retired = retired ∪ ids
retired_after answer retired = retired

-- ---- configurations
-- the configuration is the same, and the same change is pending, or none is
pub record IsSamePlace (now next : Moment) : Type 0 where
  pub conf_state : next.view.conf_state ≡ now.view.conf_state
  pub becomes : next.becomes ≡ now.becomes
  pub pending : (next.view.pending_conf_index ≡ 0) ↔ (now.view.pending_conf_index ≡ 0)

-- the configuration is this one, and no change is pending
pub record IsReached (c : Configuration) (next : Moment) : Type 0 where
  pub conf_state : next.view.conf_state ≡ c
  pub becomes : next.becomes ≡ c
  pub not_pending : next.view.pending_conf_index ≡ 0

-- the configuration is the same, and the change to this one is pending
pub record IsUnderWay (c : Configuration) (now next : Moment) : Type 0 where
  pub conf_state : next.view.conf_state ≡ now.view.conf_state
  pub becomes : next.becomes ≡ c
  pub pending : next.view.pending_conf_index ≢ 0

-- the step has led to the configuration after it, or the change to that one is pending
abbrev pub IsTaken : Step → Moment → Moment → Type 0
IsTaken step now next = (after : Configuration) × Gives now.view.conf_state step after × (IsReached after next ⊎ IsUnderWay after now next)

-- ---- waits for members
-- Each member that was heard from is, and who was up and had caught up still is and has. One of these ids has arrived.
pub record HasArrived (down ids arrived : Ids) (now next : Moment) : Type 0 where
  pub heard : (id : ℕ) → is_member now.view.conf_state id ≡ true → has (heard_from now.view) id ≡ true → has (heard_from next.view) id ≡ true
  pub up : (id : ℕ) → has (up_and_caught_up down now.view) id ≡ true → has (up_and_caught_up down next.view) id ≡ true
  pub one : (id : ℕ) × (has ids id ≡ true) × (has arrived id ≡ true)

-- ---- answers
-- what each answer leads to; one that all is done, that the target is not reached, or that an id is down which is heard
-- from, leads to nothing
abbrev pub LeadsTo : Ids → Moment → Action → Moment → Type 0
LeadsTo down now (Start ids) next = IsSamePlace now next × (next.view.lead ≡ now.view.lead)
LeadsTo down now (Stop ids) next = IsSamePlace now next × (next.view.lead ≡ now.view.lead)
LeadsTo down now (Transfer id) next = (next.view.lead ≡ id) × (IsSamePlace now next ⊎ ((now.view.pending_conf_index ≢ 0) × IsReached now.becomes next))
LeadsTo down now (Propose step) next = IsTaken step now next
LeadsTo down now (Wait NoLeader ids) next = IsSamePlace now next
LeadsTo down now (Wait Pending ids) next = IsReached now.becomes next
LeadsTo down now (Wait Heard ids) next = ⊥
LeadsTo down now (Wait Unheard ids) next = IsSamePlace now next × (next.view.lead ≡ now.view.lead) × HasArrived down ids (heard_from next.view) now next
LeadsTo down now (Wait Behind ids) next = IsSamePlace now next × (next.view.lead ≡ now.view.lead) × HasArrived down ids (up_and_caught_up down next.view) now next
LeadsTo down now (Wait Leaving ids) next = IsTaken LeaveJoint now next
LeadsTo down now (Stuck why ids) next = ⊥
LeadsTo down now Done next = ⊥

-- The answer is carried out at the next moment: there is a leader, the servers that were named were started or stopped,
-- and no others.
pub record CarriedOut (down : Ids) (now : Moment) (answer : Action) (next : Moment) : Type 0 where
  pub leader : next.view.lead ≢ 0
  pub running : next.view.running ≡ running_after answer now.view.running
  pub retired : next.view.retired ≡ retired_after answer now.view.retired
  pub max_lag : next.view.max_lag ≡ now.view.max_lag
  pub leads : LeadsTo down now answer next

-- this is the answer at the one moment, and it is carried out at the other
pub record IsAnswered (strategy : Strategy) (target : Configuration) (down : Ids) (now : Moment) (answer : Action) (next : Moment) : Type 0 where
  pub answer_is : next_of strategy target down now.view ≡ answer
  pub carried_out : CarriedOut down now answer next

-- these are the answers from the one moment to the other, each carried out before the next one
abbrev pub AreAnswered : Strategy → Configuration → Ids → Moment → List Action → Moment → Type 0
AreAnswered strategy target down now [] last = now ≡ last
AreAnswered strategy target down now (answer ∷ answers) last =
    (next : Moment) × IsAnswered strategy target down now answer next × AreAnswered strategy target down next answers last
