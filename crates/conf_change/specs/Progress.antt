-- The progress of the members, before and after a step (etcd's `tracker.Progress`).
use Rattle.std.specs.Prelude.{ℕ, Bool, not, ◌&&◌, map, unwrap_or, if◌then◌else◌}
use Rattle.std.specs.FinMap as finite
use Rattle.quorum_sets.specs.Ids.{has}
use Rattle.conf_change.specs.Configuration.{Configuration, is_member, members}
use Rattle.conf_change.specs.Change.{removes}
use Rattle.conf_change.specs.Floor.{fresh_next}
use Rattle.conf_change.specs.Step.{changes_of}
use Rattle.conf_change.specs.TrackerState.{ProgressMap}
use Rattle.conf_change.specs.ChangerState.{ChangerState}
use Rattle.conf_change.specs.declared.progress.Progress.{Progress}
use Rattle.conf_change.specs.declared.step.Step.{Step}

-- the initial next index of a new member
abbrev pub fresh_next_of : ChangerState → ℕ
fresh_next_of changer = fresh_next changer.tracker.floor changer.last_index

-- the progress of a new member with this initial next index
abbrev pub fresh_progress : ℕ → Bool → Progress
fresh_progress next_index learner = record { matched = 0; next = next_index; learner = learner }

-- the progress, marked as that of a learner or not
abbrev pub with_mark : Bool → Progress → Progress
with_mark learner p = record { matched = p.matched; next = p.next; learner = learner }

-- the progress of the members of a configuration, given as a function of the id
abbrev pub progress_by : Configuration → (ℕ → Progress) → ProgressMap
progress_by c of = finite.from_entries (map (λ id. (id, of id)) (members c))

-- fresh progress of all members
abbrev pub all_fresh : ℕ → Configuration → ProgressMap
all_fresh next_index c = progress_by c (λ id. fresh_progress next_index (has c.learners id))

-- the id loses its progress in the step: a change removes it, and it is not an outgoing voter afterwards; so r1 v1 in a
-- simple step makes 1 a new member
abbrev pub is_replaced : Step → Configuration → ℕ → Bool
is_replaced step after id = removes (changes_of step) id && not (has after.outgoing id)

-- the id keeps its progress in the step: it is a member before and after, and does not lose it
abbrev pub keeps_progress : Configuration → Step → Configuration → ℕ → Bool
keeps_progress before step after id = is_member before id && is_member after id && not (is_replaced step after id)

-- the progress after a step to a configuration: kept, or fresh
abbrev pub progress_after : ChangerState → Step → Configuration → ProgressMap
progress_after changer step after =
    progress_by after (λ id.
    let fresh = fresh_progress (fresh_next_of changer) (has after.learners id) in
    if keeps_progress changer.tracker.config step after id
    then with_mark (has after.learners id) (unwrap_or (finite.get changer.tracker.progress id) fresh)
    else fresh)
