-- When a target is reached.
use Rattle.std.specs.Prelude.{◌≡◌, ℕ, true, false}
use Rattle.quorum_sets.specs.Ids.{Ids, has}
use Rattle.quorum_sets.specs.Tolerance.{commits_without}
use Rattle.conf_change.specs.Configuration.{Configuration, is_member, voters_of}
use Rattle.conf_driver.specs.Moment.{Moment}

-- The voters that are not down are a quorum: now, after the change that is pending, and at the target. No member of the
-- target was stopped for good.
pub record IsHopeful (target : Configuration) (down : Ids) (now : Moment) : Type 0 where
  pub quorum : commits_without (voters_of now.view.conf_state) down ≡ true
  pub quorum_then : commits_without (voters_of now.becomes) down ≡ true
  pub quorum_there : commits_without (voters_of target) down ≡ true
  pub not_retired : (id : ℕ) → is_member target id ≡ true → has now.view.retired id ≡ false
