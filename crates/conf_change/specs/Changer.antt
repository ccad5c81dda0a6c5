-- Changers: their steps, and what is true of every tracker.
use Rattle.std.specs.Prelude.{◌≡◌, ◌≢◌, ℕ, true, is_some, IfSome, IfOk, IfErr, OnOk, OnErr, Result, Ok, Err}
use Rattle.std.specs.FinMap as finite
use Rattle.quorum_sets.specs.Ids.{has}
use Rattle.quorum_sets.specs.Overlap.{Overlap}
use Rattle.quorum_sets.specs.Voters.{AreNeighbours}
use Rattle.conf_change.specs.Configuration.{Configuration, empty_configuration, voters_of, is_member, has_voter, is_restorable}
use Rattle.conf_change.specs.Floor.{fresh_next, IsAhead}
use Rattle.conf_change.specs.Outcome.{Outcome, outcome}
use Rattle.conf_change.specs.Progress.{progress_after, all_fresh}
pub use Rattle.conf_change.specs.TrackerState.{TrackerState, ProgressMap}
pub use Rattle.conf_change.specs.ChangerState.{ChangerState}
use Rattle.conf_change.specs.declared.floor.Floor.{Floor}
use Rattle.conf_change.specs.declared.refused.Refused.{Refused}
use Rattle.conf_change.specs.declared.refused.Refused.TheVariants.{NoMemory}
use Rattle.conf_change.specs.declared.step.Step.{Step}

-- a tracker with an empty configuration and this floor
abbrev pub empty_tracker : Floor → TrackerState
empty_tracker floor = record { config = empty_configuration; progress = finite.empty; floor = floor }

-- the tracker with this floor, this configuration and this progress
abbrev pub tracker_of : Floor → Configuration → ProgressMap → TrackerState
tracker_of floor c progress = record { config = c; progress = progress; floor = floor }

-- the changer with this tracker and this last index
abbrev pub changer_of : TrackerState → ℕ → ChangerState
changer_of tracker last_index = record { tracker = tracker; last_index = last_index }

-- a changer with an empty configuration, this floor and this last index
abbrev pub new_changer : Floor → ℕ → ChangerState
new_changer floor last_index = record { tracker = empty_tracker floor; last_index = last_index }

-- a changer with this configuration and fresh progress of its members
abbrev pub begun_with : Floor → ℕ → Configuration → ChangerState
begun_with floor last_index c = changer_of (tracker_of floor c (all_fresh (fresh_next floor last_index) c)) last_index

-- the changer with this last index
abbrev pub with_last_index : ChangerState → ℕ → ChangerState
with_last_index changer last_index = record { tracker = changer.tracker; last_index = last_index }

-- the changer after a step to a configuration; the floor and the last index do not change
abbrev pub moved_to : ChangerState → Step → Configuration → ChangerState
moved_to changer step after = record {
  tracker = tracker_of changer.tracker.floor after (progress_after changer step after);
  last_index = changer.last_index;
}

-- the changer after a step with this outcome, or why the step is refused
abbrev pub moved_by : ChangerState → Step → Outcome → Result ChangerState Refused
moved_by changer step (Ok after) = Ok (moved_to changer step after)
moved_by changer step (Err why) = Err why

-- the changer after a step, or why the step is refused
abbrev pub changer_after : ChangerState → Step → Result ChangerState Refused
changer_after changer step = moved_by changer step (outcome changer.tracker.config step)

-- what is true of every tracker: its configuration is valid, and has an incoming voter or is empty; exactly its members
-- have progress; exactly the learners are marked; and next is ahead of match
pub record IsSound (tracker : TrackerState) : Type 0 where
  pub restorable : is_restorable tracker.config ≡ true
  pub of_members : (id : ℕ) → is_some (finite.get tracker.progress id) ≡ is_member tracker.config id
  pub marked : (id : ℕ) → IfSome (finite.get tracker.progress id) (λ p. p.learner ≡ has tracker.config.learners id)
  pub ahead : (id : ℕ) → IfSome (finite.get tracker.progress id) (IsAhead tracker.floor)

-- the step is accepted: the configuration and the progress after it are the defined ones
pub record Accepts (before : ChangerState) (step : Step) (after : ChangerState) : Type 0 where
  pub configuration : outcome before.tracker.config step ≡ Ok after.tracker.config
  pub whole : after ≡ moved_to before step after.tracker.config

-- the step is refused for this reason, unless the reason is NoMemory
abbrev pub Refuses : ChangerState → Step → Refused → Type 0
Refuses before step why = why ≢ NoMemory → outcome before.tracker.config step ≡ Err why

-- the voters before and after are neighbours
abbrev pub NeighboursAcross : ChangerState → ChangerState → Type 0
NeighboursAcross before after = AreNeighbours (voters_of before.tracker.config) (voters_of after.tracker.config)

-- the quorums before and after overlap, and so do committed indexes and won votes
abbrev pub OverlapAcross : ChangerState → ChangerState → Type 0
OverlapAcross before after = Overlap (voters_of before.tracker.config) (voters_of after.tracker.config)

-- The result of a call that computes the changer after a step: the defined configuration and progress, or the defined
-- refusal (or NoMemory). The tracker is sound before and after, the voters before and after are neighbours, their
-- quorums overlap, and if there was a voter there still is one.
pub record GivesNext (before : ChangerState) (step : Step) (result : Result ChangerState Refused) : Type 0 where
  pub accepted : IfOk result (Accepts before step)
  pub refused : IfErr result (Refuses before step)
  pub sound : IsSound before.tracker
  pub sound_after : IfOk result (λ after. IsSound after.tracker)
  pub neighbours : IfOk result (NeighboursAcross before)
  pub overlap : IfOk result (OverlapAcross before)
  pub voter : has_voter before.tracker.config ≡ true → IfOk result (λ after. has_voter after.tracker.config ≡ true)

-- the result of a call that writes the changer after a step to its argument: that changer, or the refusal
abbrev pub left_in : Result (Unit {0}) Refused → ChangerState → Result ChangerState Refused
left_in (Ok _) after = Ok after
left_in (Err why) after = Err why

-- The result of a call that takes a step and overwrites the changer: as GivesNext, and a refusal (or NoMemory) changes
-- nothing.
pub record Makes (before : ChangerState) (step : Step) (result : Result (Unit {0}) Refused) (after : ChangerState) : Type 0 where
  pub accepted : OnOk result (Accepts before step after)
  pub refused : IfErr result (Refuses before step)
  pub unchanged : OnErr result (after ≡ before)
  pub sound : IsSound after.tracker
  pub neighbours : OnOk result (NeighboursAcross before after)
  pub overlap : OnOk result (OverlapAcross before after)
  pub voter : has_voter before.tracker.config ≡ true → has_voter after.tracker.config ≡ true
