-- The steps that are proposed on the way to a target, one after another.
use Rattle.std.specs.Prelude.{◌≡◌, ◌≢◌, ◌⊎◌, true, List}
use Rattle.quorum_sets.specs.Ids.{Ids}
use Rattle.conf_change.specs.Configuration.{Configuration}
use Rattle.conf_change.specs.declared.step.Step.{Step}
use Rattle.conf_change.specs.declared.step.Step.TheVariants.{LeaveJoint}
use Rattle.conf_plan.specs.Run.{Gives, IsChain}
use Rattle.conf_plan.specs.declared.strategy.Strategy.{Strategy}
use Rattle.conf_driver.specs.Next.{next_of}
use Rattle.conf_driver.specs.View.{ViewState}
use Rattle.conf_driver.specs.declared.action.Action.TheVariants.{Propose}

-- the step is proposed in some view of the configuration before it, and gives the one after it
pub record IsProposedIn (strategy : Strategy) (target : Configuration) (down : Ids) (before : Configuration) (step : Step) (after : Configuration) : Type 0 where
  pub view : ViewState
  pub before_is : view.conf_state ≡ before
  pub answer : next_of strategy target down view ≡ Propose step
  pub gives : Gives before step after

-- raft leaves the configuration by itself, before it is the target
pub record IsLeft (target before : Configuration) (step : Step) (after : Configuration) : Type 0 where
  pub auto_leave : before.auto_leave ≡ true
  pub other : before ≢ target
  pub step_is : step ≡ LeaveJoint
  pub gives : Gives before LeaveJoint after

-- each of the steps is proposed while these ids are down, or leaves a configuration by itself
abbrev pub IsWay : Strategy → Configuration → Ids → Configuration → List Step → Configuration → Type 0
IsWay strategy target down = IsChain (λ before step after. IsProposedIn strategy target down before step after ⊎ IsLeft target before step after)
