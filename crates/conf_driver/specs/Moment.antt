-- Moments on the way to a target.
use Rattle.std.specs.Prelude.{◌≡◌, true}
use Rattle.conf_change.specs.Configuration.{Configuration}
use Rattle.conf_plan.specs.PathBy.{has_path}
use Rattle.conf_plan.specs.Run.{IsValidWithVoter}
use Rattle.conf_plan.specs.declared.strategy.Strategy.{Strategy}
use Rattle.conf_driver.specs.Proposals.{CanAnswer}
use Rattle.conf_driver.specs.View.{ViewState}

-- what is known at one moment, and what the change that is pending makes of the configuration
pub record Moment : Type 0 where
  pub view : ViewState
  pub becomes : Configuration

-- `next` answers at the moment, and does where the pending change leads; if none is pending, that is the configuration
-- itself
pub record IsMoment (strategy : Strategy) (target : Configuration) (now : Moment) : Type 0 where
  pub can : CanAnswer strategy target now.view
  pub valid : IsValidWithVoter now.becomes
  pub path : has_path strategy now.becomes target ≡ true
  pub not_pending : now.view.pending_conf_index ≡ 0 → now.becomes ≡ now.view.conf_state
