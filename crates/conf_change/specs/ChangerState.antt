-- The state of a changer.
use Rattle.std.specs.Prelude.{ℕ, refl}
use Rattle.std.specs.Coded.{Coded, coded_ℕ, coded×, code_by}
use Rattle.conf_change.specs.TrackerState.{TrackerState, tracker_code}

-- a changer: a tracker, and the last index of the log, at which new members begin
pub record ChangerState : Type 0 where
  pub tracker : TrackerState
  pub last_index : ℕ

-- a changer as numbers, the form in which the model of a type is stored
abbrev pub changer_code : Coded ChangerState
changer_code =
    code_by (TrackerState × ℕ) (coded× tracker_code coded_ℕ)
    (λ c. (c.tracker, c.last_index)) (λ p. record { tracker = p.0; last_index = p.1 }) (λ _. refl)
