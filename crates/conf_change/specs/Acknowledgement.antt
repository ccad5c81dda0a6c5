-- Acknowledgements of log indexes by members.
use Rattle.std.specs.Prelude.{ℕ, ◌+◌, max, ◌==◌, Option, Some, None, Result, Ok, Err, map, nat_lt, if◌then◌else◌}
use Rattle.std.specs.FinMap as finite
use Rattle.quorum_sets.specs.Committed.{Acks, greatest_index}
use Rattle.conf_change.specs.Changer.{TrackerState, ChangerState, tracker_of, changer_of}
use Rattle.conf_change.specs.declared.acknowledgement.AckFault.{AckFault}
use Rattle.conf_change.specs.declared.acknowledgement.AckFault.TheVariants.{NotMember, IndexTooLarge}
use Rattle.conf_change.specs.declared.progress.Progress.{Progress}

-- the progress after an acknowledgement: an index above match becomes match, and next is then at least one more; any
-- other index changes nothing (etcd's `MaybeUpdate` of `tracker.Progress`, which also raises next from 0 to 1 if a
-- member acknowledges 0)
abbrev pub acknowledged : ℕ → Progress → Progress
acknowledged index p =
    if nat_lt p.matched index then record { matched = index; next = max p.next (index + 1); learner = p.learner } else p

-- the progress of a member after an acknowledgement, or why it is refused: the id is not a member, or the index is the
-- greatest one, so no index follows it
abbrev pub acknowledged_progress : Option Progress → ℕ → Result Progress AckFault
acknowledged_progress None index = Err NotMember
acknowledged_progress (Some was) index = if index == greatest_index then Err IndexTooLarge else Ok (acknowledged index was)

-- the result of an acknowledgement by an id
abbrev pub ack_answer : TrackerState → ℕ → ℕ → Result Progress AckFault
ack_answer tracker id index = acknowledged_progress (finite.get tracker.progress id) index

-- the tracker with this progress of the id
abbrev pub with_progress : TrackerState → ℕ → Progress → TrackerState
with_progress tracker id p = tracker_of tracker.floor tracker.config (finite.insert tracker.progress id p)

-- the changer with this progress of the id
abbrev pub changer_with_progress : ChangerState → ℕ → Progress → ChangerState
changer_with_progress changer id p = changer_of (with_progress changer.tracker id p) changer.last_index

-- the index that each member has acknowledged, which is its match
abbrev pub matches : TrackerState → Acks
matches tracker = finite.from_entries (map (λ entry. (entry.0, entry.1.matched)) (finite.entries tracker.progress))
