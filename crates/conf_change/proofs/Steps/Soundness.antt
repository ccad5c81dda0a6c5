-- What an accepted step keeps: the voters stay neighbours, a voter stays, and the tracker stays sound.
use Rattle.std.proofs.Common.{◌≡◌, ℕ, ◌≤◌, Bool, true, false, cond, ◌&&◌, ◌||◌, List, sym, ap, subst, ◌∙◌, inl, inr, arith, ltb-false, is_some}
use Rattle.std.specs.Prelude.{Option, Some, None, IfSome, unwrap_or, Ok, if◌then◌else◌}
use Rattle.std.specs.FinMap as finite
use Rattle.std.proofs.lemmas.Bool.{or_cases, and_parts, and_from, or_left, not-true, not-false, true≢false}
use Rattle.quorum_sets.specs.Ids.{has, is_empty, difference_count}
use Rattle.quorum_sets.specs.Overlap.{Overlap}
use Rattle.quorum_sets.specs.Voters.{AreNeighbours}
use Rattle.quorum_sets.proofs.Offered.{has-no_ids, has-union, QuorumsMeet-from_neighbours, QuorumsMeet-from_neighbours_back, CommittedMeetsWon-from_neighbours, CommittedMeetsWon-from_neighbours_back}
use Rattle.conf_change.specs.Configuration.{Configuration, voters_of, is_joint, has_voter, is_valid, is_restorable, is_member}
use Rattle.conf_change.specs.Change.{result_of}
use Rattle.conf_change.specs.Outcome.{outcome, with_outgoing, after_leave}
use Rattle.conf_change.specs.Progress.{fresh_next_of, fresh_progress, with_mark, keeps_progress, progress_after}
use Rattle.conf_change.specs.Floor.{fresh_next, IsAhead}
use Rattle.conf_change.specs.Changer.{TrackerState, ChangerState, IsSound, begun_with, moved_to}
use Rattle.conf_change.specs.declared.change.Change.{Change}
use Rattle.conf_change.specs.declared.floor.Floor.{Floor}
use Rattle.conf_change.specs.declared.progress.Progress.{Progress}
use Rattle.conf_change.specs.declared.step.Step.{Step}
use Rattle.conf_change.specs.declared.step.Step.TheVariants.{Simple, EnterJoint, LeaveJoint}
use Rattle.conf_change.proofs.ListsOfChanges.ResultOfEach.{has-incoming_after, has-learners_after, has-next_after, last_effective-zero}
use Rattle.conf_change.proofs.Configurations.Validity.{ValidByMember, ValidByMember-from_is_valid, is_valid-from_members, has-none_in_empty}
use Rattle.conf_change.proofs.Steps.Acceptance.{SimpleTaken-from_outcome, EnterTaken-from_outcome, LeaveTaken-from_outcome, outgoing-none}
use Rattle.conf_change.proofs.MemberProgress.OfEachId.{get-progress_by}

-- ---- the voters before and after
pub outcome-are_neighbours : (c after : Configuration) (step : Step) → outcome c step ≡ Ok after → AreNeighbours (voters_of c) (voters_of after)
outcome-are_neighbours c after (Simple changes) e =
    let t = SimpleTaken-from_outcome c after changes e in
    inl (record {
      before_single = outgoing-none c t.single;
      after_single = sym (ap (λ d. d.outgoing) t.made) ∙ outgoing-none c t.single;
      one_at_most = subst (λ (d : Configuration). difference_count c.incoming d.incoming ≤ 1) t.made (ltb-false 1 _ t.one_at_most);
    })
outcome-are_neighbours c after (EnterJoint auto_leave changes) e = grind (arith, EnterTaken-from_outcome, outgoing-none)
outcome-are_neighbours c after LeaveJoint e = grind (arith, LeaveTaken-from_outcome)

-- so they overlap
pub outcome-overlaps : (c after : Configuration) (step : Step) → outcome c step ≡ Ok after → Overlap (voters_of c) (voters_of after)
outcome-overlaps c after step e =
    let near = outcome-are_neighbours c after step e in
    record {
      quorums = QuorumsMeet-from_neighbours (voters_of c) (voters_of after) near;
      quorums_back = QuorumsMeet-from_neighbours_back (voters_of c) (voters_of after) near;
      committed_before = CommittedMeetsWon-from_neighbours (voters_of c) (voters_of after) near;
      committed_after = CommittedMeetsWon-from_neighbours_back (voters_of c) (voters_of after) near;
    }

-- ---- a voter stays
has_voter-joint : (c : Configuration) → is_restorable c ≡ true → is_joint c ≡ true → has_voter c ≡ true
has_voter-joint c ok joint =
    elim (or_cases (has_voter c) _ (and_parts (is_valid c) _ ok).1) [
      | inl voter ↦ voter
      | inr empty ↦ absurd (true≢false (sym (outgoing_empty empty) ∙ not-true (is_empty c.outgoing) joint))
    ]
  where
    outgoing_empty : (is_empty c.incoming && is_empty c.outgoing && is_empty c.learners && is_empty c.learners_next) ≡ true → is_empty c.outgoing ≡ true
    outgoing_empty empty = grind arith

pub outcome-has_voter : (c after : Configuration) (step : Step) → is_restorable c ≡ true → outcome c step ≡ Ok after → has_voter after ≡ true
outcome-has_voter c after (Simple changes) ok e = let t = SimpleTaken-from_outcome c after changes e in sym (ap has_voter t.made) ∙ t.voter
outcome-has_voter c after (EnterJoint auto_leave changes) ok e = let t = EnterTaken-from_outcome c after auto_leave changes e in sym (ap has_voter t.made) ∙ t.voter
outcome-has_voter c after LeaveJoint ok e = let t = LeaveTaken-from_outcome c after e in sym (ap has_voter t.made) ∙ has_voter-joint c ok t.joint

-- ---- validity stays
-- a list of changes keeps validity
result_of-is_valid : (c : Configuration) (xs : List Change) → ValidByMember c → ValidByMember (result_of c xs)
result_of-is_valid c xs m = grind (arith, has-incoming_after, last_effective-zero, has-learners_after, has-next_after)

-- so does going joint, where there was a voter
with_outgoing-is_valid : (c : Configuration) (auto_leave : Bool) → is_joint c ≡ false → has_voter c ≡ true → ValidByMember c → ValidByMember (with_outgoing c auto_leave)
with_outgoing-is_valid c auto_leave single voter m = grind (arith, true≢false, has-none_in_empty, not-false)

pub has-after_leave : (c : Configuration) (q : ℕ) → has (after_leave c).learners q ≡ (has c.learners q || has c.learners_next q)
has-after_leave c q = has-union c.learners c.learners_next q

-- and leaving
after_leave-is_valid : (c : Configuration) → ValidByMember c → ValidByMember (after_leave c)
after_leave-is_valid c m = grind (arith, has-no_ids, has-after_leave, true≢false)

pub outcome-is_valid : (c after : Configuration) (step : Step) → ValidByMember c → outcome c step ≡ Ok after → ValidByMember after
outcome-is_valid c after (Simple changes) m e = subst ValidByMember (SimpleTaken-from_outcome c after changes e).made (result_of-is_valid c changes m)
outcome-is_valid c after (EnterJoint auto_leave changes) m e =
    let t = EnterTaken-from_outcome c after auto_leave changes e in
    subst ValidByMember t.made (result_of-is_valid (with_outgoing c auto_leave) changes (with_outgoing-is_valid c auto_leave t.single t.voter_before m))
outcome-is_valid c after LeaveJoint m e = subst ValidByMember (LeaveTaken-from_outcome c after e).made (after_leave-is_valid c m)

pub outcome-is_restorable : (c after : Configuration) (step : Step) → is_restorable c ≡ true → outcome c step ≡ Ok after → is_restorable after ≡ true
outcome-is_restorable c after step ok e = grind (arith, and_from, is_valid-from_members, outcome-is_valid, ValidByMember-from_is_valid, and_parts, or_left, outcome-has_voter)

-- ---- the tracker stays sound
-- a tracker in which each member has its own progress
sound_by_each : (t : TrackerState) (own : ℕ → Progress) → is_restorable t.config ≡ true → ((id : ℕ) → finite.get t.progress id ≡ cond (is_member t.config id) (Some (own id)) None)
    → ((id : ℕ) → (own id).learner ≡ has t.config.learners id) → ((id : ℕ) → IsAhead t.floor (own id)) → IsSound t
sound_by_each t own restorable each marked ahead = record {
  restorable = restorable;
  of_members = λ id. ap is_some (each id) ∙ is_some-cond (is_member t.config id) (own id);
  marked = λ id. let P : Option Progress → Type 0 = λ o. IfSome o (λ p. p.learner ≡ has t.config.learners id) in subst P (sym (each id)) (of_member (is_member t.config id) (own id) _ (marked id));
  ahead = λ id. let P : Option Progress → Type 0 = λ o. IfSome o (IsAhead t.floor) in subst P (sym (each id)) (of_member (is_member t.config id) (own id) _ (ahead id));
}
  where
    is_some-cond : (b : Bool) (p : Progress) → is_some (cond b (Some p) None) ≡ b
    is_some-cond b p = grind arith

    of_member : (b : Bool) (p : Progress) (P : Progress → Type 0) → P p → IfSome (cond b (Some p) None) P
    of_member b p P h = grind arith

of_kept : (b : Bool) (p q : Progress) (P : Progress → Type 0) → P p → P q → P (cond b p q)
of_kept b p q P h k = grind arith

of_default : (o : Option Progress) (p : Progress) (P : Progress → Type 0) → IfSome o P → P p → P (unwrap_or o p)
of_default o p P h k = grind arith

fresh-is_ahead : (floor : Floor) (last_index : ℕ) (learner : Bool) → IsAhead floor (fresh_progress (fresh_next floor last_index) learner)
fresh-is_ahead floor last_index learner = grind arith

-- the mark has no part in it
marked-is_ahead : (floor : Floor) (learner : Bool) (p : Progress) → IsAhead floor p → IsAhead floor (with_mark learner p)
marked-is_ahead floor learner p ahead = grind arith

-- what an id has after the step, if it is a member then
abbrev pub own_progress : ChangerState → Step → Configuration → ℕ → Progress
own_progress before step after id =
    let fresh = fresh_progress (fresh_next_of before) (has after.learners id) in
    if keeps_progress before.tracker.config step after id
    then with_mark (has after.learners id) (unwrap_or (finite.get before.tracker.progress id) fresh)
    else fresh

pub get-after : (before : ChangerState) (step : Step) (after : Configuration) (id : ℕ)
    → finite.get (progress_after before step after) id ≡ cond (is_member after id) (Some (own_progress before step after id)) None
get-after before step after id = get-progress_by after (own_progress before step after) id

own_progress-marked : (before : ChangerState) (step : Step) (after : Configuration) (id : ℕ) → (own_progress before step after id).learner ≡ has after.learners id
own_progress-marked before step after id = grind (arith, of_kept)

own_progress-ahead : (before : ChangerState) (step : Step) (after : Configuration) (id : ℕ) → IsSound before.tracker → IsAhead before.tracker.floor (own_progress before step after id)
own_progress-ahead before step after id sound = grind (arith, fresh-is_ahead, of_kept, marked-is_ahead, of_default)

pub moved_to-is_sound : (before : ChangerState) (step : Step) (after : Configuration)
    → IsSound before.tracker → outcome before.tracker.config step ≡ Ok after → IsSound (moved_to before step after).tracker
moved_to-is_sound before step after sound e =
    sound_by_each (moved_to before step after).tracker (own_progress before step after) (outcome-is_restorable before.tracker.config after step sound.restorable e)
    (get-after before step after) (own_progress-marked before step after) (λ id. own_progress-ahead before step after id sound)

-- a tracker whose progress is all fresh is sound too
pub begun_with-is_sound : (floor : Floor) (last_index : ℕ) (c : Configuration) → is_restorable c ≡ true → IsSound (begun_with floor last_index c).tracker
begun_with-is_sound floor last_index c ok = grind (arith, sound_by_each, get-progress_by, fresh-is_ahead)
