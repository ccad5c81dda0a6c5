-- The state of a tracker.
use Rattle.std.specs.Prelude.{ℕ, Bool, refl}
use Rattle.std.specs.Ordering.{nat_cmp}
use Rattle.std.specs.Coded.{Coded, coded_ℕ, coded_bool, coded×, code_by}
use Rattle.std.specs.FinMap as finite
use Rattle.conf_change.specs.Configuration.{Configuration}
use Rattle.conf_change.specs.ConfigurationCode.{configuration_code}
use Rattle.conf_change.specs.Floor.{floor_code}
use Rattle.conf_change.specs.declared.floor.Floor.{Floor}
use Rattle.conf_change.specs.declared.progress.Progress.{Progress}

-- the progress of each member, by id
abbrev pub ProgressMap : Type 0
ProgressMap = finite.FinMap nat_cmp Progress

-- a tracker: a configuration, the progress of its members, and the smallest initial next index
pub record TrackerState : Type 0 where
  pub config : Configuration
  pub progress : ProgressMap
  pub floor : Floor

-- a progress as numbers
abbrev pub progress_code : Coded Progress
progress_code =
    code_by (ℕ × (ℕ × Bool)) (coded× coded_ℕ (coded× coded_ℕ coded_bool))
    (λ p. (p.matched, (p.next, p.learner))) (λ p. record { matched = p.0; next = p.1.0; learner = p.1.1 }) (λ _. refl)

-- a tracker as numbers
abbrev pub tracker_code : Coded TrackerState
tracker_code =
    code_by (Configuration × (ProgressMap × Floor)) (coded× configuration_code (coded× (finite.code coded_ℕ progress_code) floor_code))
    (λ t. (t.config, (t.progress, t.floor))) (λ p. record { config = p.0; progress = p.1.0; floor = p.1.1 }) (λ _. refl)
