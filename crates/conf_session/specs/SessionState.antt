-- The state of a session, and what holds of every session.
use Rattle.std.specs.Prelude.{◌≡◌, ℕ, ◌+◌, ◌-◌, ◌^◌, ◌≤◌, true, List, [], ◌∷◌, length, take, drop, min, Ok, ⊤, refl}
use Rattle.std.specs.List.{All}
use Rattle.std.specs.Coded.{Coded, coded_ℕ, coded_list, coded×, code_by}
use Rattle.conf_change.specs.ChangerState.{ChangerState, changer_code}
use Rattle.conf_change.specs.Changer.{IsSound, new_changer, with_last_index}
use Rattle.conf_change.specs.Configuration.{Configuration, is_restorable}
use Rattle.conf_change.specs.ConfigurationCode.{configuration_code}
use Rattle.conf_change.specs.Outcome.{outcome}
use Rattle.conf_change.specs.U64Lists.{HasU64Lists}
use Rattle.conf_change.specs.declared.floor.Floor.{Floor}
use Rattle.conf_change.specs.declared.step.Step.{Step}

-- the changer, how many earlier configurations may be kept, and those that are, the newest first
pub record SessionState : Type 0 where
  pub changer : ChangerState
  pub history : ℕ
  pub kept : List Configuration

-- the session with these parts
abbrev pub session_with : ChangerState → ℕ → List Configuration → SessionState
session_with changer history kept = record { changer = changer; history = history; kept = kept }

-- a session as its three parts, the form in which the model of a type is stored
abbrev pub session_code : Coded SessionState
session_code =
    code_by (ChangerState × (ℕ × List Configuration))
    (coded× changer_code (coded× coded_ℕ (coded_list configuration_code)))
    (λ s. (s.changer, (s.history, s.kept))) (λ p. session_with p.0 p.1.0 p.1.1) (λ _. refl)

-- the session before its first directive: an empty configuration, last index 0, and nothing kept
abbrev pub new_session : ℕ → Floor → SessionState
new_session history floor = session_with (new_changer floor 0) history []

-- the current configuration
abbrev pub current : SessionState → Configuration
current session = session.changer.tracker.config

-- ---- how it changes
-- How a session changes: not at all, or this changer replaces its own, after an acknowledgement, an accepted change, a
-- restore, or the undoing of this many changes.
pub data SessionChange : Type 0 where
  Nothing : SessionChange
  Acknowledged : ChangerState → SessionChange
  Stepped : ChangerState → SessionChange
  Restored : ChangerState → SessionChange
  Undone : ChangerState → ℕ → SessionChange

-- the changer afterwards
abbrev pub changer_afterwards : SessionState → SessionChange → ChangerState
changer_afterwards session Nothing = session.changer
changer_afterwards session (Acknowledged after) = after
changer_afterwards session (Stepped after) = after
changer_afterwards session (Restored after) = after
changer_afterwards session (Undone after count) = after

-- The configurations that are kept afterwards: the one before an accepted change is the newest, and the oldest is
-- dropped if there would be too many.
abbrev pub kept_afterwards : SessionState → SessionChange → List Configuration
kept_afterwards session Nothing = session.kept
kept_afterwards session (Acknowledged after) = session.kept
kept_afterwards session (Stepped after) = take session.history (current session ∷ session.kept)
kept_afterwards session (Restored after) = []
kept_afterwards session (Undone after count) = drop count session.kept

-- the last index after one more directive
abbrev pub index_after : ℕ → ℕ
index_after index = min (index + 1) (2 ^ 64 - 1)

-- the session after a directive that changes it in this way; the last index rises too
abbrev pub after_directive : SessionState → SessionChange → SessionState
after_directive session update =
    let left = changer_afterwards session update in
    record {
      changer = with_last_index left (index_after left.last_index);
      history = session.history;
      kept = kept_afterwards session update;
    }

-- ---- what holds of every session
-- one accepted step leads from the one configuration to the other
pub record Leads (before after : Configuration) : Type 0 where
  pub step : Step
  pub gives : outcome before step ≡ Ok after

-- each of the kept configurations can be restored, and one accepted step leads from it to the next newer one, and from
-- the newest to `now`
abbrev pub LedTo : Configuration → List Configuration → Type 0
LedTo now [] = ⊤
LedTo now (older ∷ kept) = (is_restorable older ≡ true) × Leads older now × LedTo older kept

-- The session's tracker is sound, no more configurations are kept than may be, and they lead to the current one. The ids
-- of the current and the kept configurations are numbers of 64 bits.
pub record IsSession (session : SessionState) : Type 0 where
  pub sound : IsSound session.changer.tracker
  pub few : length session.kept ≤ session.history
  pub led : LedTo (current session) session.kept
  pub u64_ids : All HasU64Lists (current session ∷ session.kept)
