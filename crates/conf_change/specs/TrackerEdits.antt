-- The tracker after a step, id by id.
use Rattle.std.specs.Prelude.{◌≡◌, ℕ, Bool, not, ◌&&◌, List, [], ◌∷◌, Option, Some, None, option_map, unwrap_or, Ok, if◌then◌else◌}
use Rattle.std.specs.FinMap as finite
use Rattle.quorum_sets.specs.Ids.{has}
use Rattle.conf_change.specs.Configuration.{Configuration, is_member}
use Rattle.conf_change.specs.Outcome.{outcome}
use Rattle.conf_change.specs.Progress.{fresh_progress, with_mark, is_replaced}
use Rattle.conf_change.specs.TrackerState.{TrackerState, ProgressMap}
use Rattle.conf_change.specs.declared.progress.Progress.{Progress}
use Rattle.conf_change.specs.declared.step.Step.{Step}

-- the entry of an id after a step: a member keeps its progress or gets fresh progress, and is marked as a learner or
-- not; any other id has none
abbrev pub entry_of : ℕ → Bool → Bool → Option Progress → Option Progress
entry_of next_index member learner had = if member then Some (with_mark learner (unwrap_or had (fresh_progress next_index learner))) else None

-- the entry of an id in a configuration after a step
abbrev pub entry_in : ℕ → Configuration → Option Progress → ℕ → Option Progress
entry_in next_index c had id = entry_of next_index (is_member c id) (has c.learners id) had

-- the progress of an id, unless it is removed and is not an outgoing voter
abbrev pub progress_left_after : Bool → Bool → Option Progress → Option Progress
progress_left_after removed is_outgoing had = if removed && not is_outgoing then None else had

-- an id with its progress, if it has any
abbrev pub entries_of : ℕ → Option Progress → List (ℕ × Progress)
entries_of id None = []
entries_of id (Some p) = (id, p) ∷ []

-- the progress that an id keeps: a member keeps all and is marked as a learner or not; any other id keeps none
abbrev pub progress_kept : Bool → Bool → Option Progress → Option Progress
progress_kept member learner had = if member then option_map (with_mark learner) had else None

-- the members of the configuration keep their progress
abbrev pub KeepsMembers : Configuration → ProgressMap → ProgressMap → Type 0
KeepsMembers c before after = (id : ℕ) → finite.get after id ≡ progress_kept (is_member c id) (has c.learners id) (finite.get before id)

-- the tracker after a step, with this initial next index for new members: a member keeps its progress, unless the step
-- removes it and it is not an outgoing voter afterwards
pub record Moves (next_index : ℕ) (step : Step) (before after : TrackerState) : Type 0 where
  pub configuration : outcome before.config step ≡ Ok after.config
  pub floor : after.floor ≡ before.floor
  pub entries : (q : ℕ) → finite.get after.progress q ≡ entry_in next_index after.config (if is_replaced step after.config q then None else finite.get before.progress q) q
