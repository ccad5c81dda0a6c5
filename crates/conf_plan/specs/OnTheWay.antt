-- What is kept on the way of a path (own): quorums, the failures that are tolerated once members have caught up, and
-- that new voters were learners before (section 4.2.1 of Ongaro's dissertation describes how a cluster stalls).
use Rattle.std.specs.Prelude.{◌≡◌, ℕ, ◌+◌, ◌≤◌, ◌⊎◌, true, false, not, ◌&&◌, ◌||◌, IsTrue, List, length, ⊤, if◌then◌else◌}
use Rattle.quorum_sets.specs.Ids.{Ids, has, ascending, size, union, ids_where}
use Rattle.quorum_sets.specs.Voters.{is_quorum}
use Rattle.quorum_sets.specs.Overlap.{Overlap}
use Rattle.quorum_sets.specs.Tolerance.{Tolerates, commits_without}
use Rattle.conf_change.specs.Configuration.{Configuration, voters_of, members, is_member, is_joint}
use Rattle.conf_change.specs.Outcome.{after_leave}
use Rattle.conf_change.specs.Progress.{keeps_progress}
use Rattle.conf_change.specs.declared.step.Step.{Step}
use Rattle.conf_change.specs.declared.step.Step.TheVariants.{Simple, EnterJoint, LeaveJoint}
use Rattle.conf_plan.specs.Best.{Preserves, IsBest}
use Rattle.conf_plan.specs.Run.{IsRun, IsRunWith}

-- the steps lead from one configuration to the other, and Holds is true of the configuration after each step
abbrev pub EachOnTheWay : (Configuration → Type 0) → Configuration → List Step → Configuration → Type 0
EachOnTheWay Holds = IsRunWith (λ before step after. Holds after)

-- ---- quorums
-- a set of ids that is a quorum of both ends is a quorum of the configuration
abbrev pub HasQuorumsOf : Configuration → Configuration → Configuration → Type 0
HasQuorumsOf now target c =
    (ids : Ids) → IsTrue (is_quorum (voters_of now) ids) → IsTrue (is_quorum (voters_of target) ids) → IsTrue (is_quorum (voters_of c) ids)

-- a set of ids that is a quorum of both ends is a quorum of each configuration on the way
abbrev pub KeepsQuorums : Configuration → List Step → Configuration → Type 0
KeepsQuorums now steps target = EachOnTheWay (HasQuorumsOf now target) now steps target

-- ---- members
-- each member of the configuration is a member of one of the ends
abbrev pub HasMembersOf : Configuration → Configuration → Configuration → Type 0
HasMembersOf now target c = (id : ℕ) → is_member c id ≡ true → (is_member now id || is_member target id) ≡ true

-- ---- failures
-- as many ids as may be down besides these at both ends may be down besides them in the configuration
abbrev pub IsAsTolerant : Ids → Configuration → Configuration → Configuration → Type 0
IsAsTolerant down now target c =
    (k : ℕ) → Tolerates (voters_of now) down k → Tolerates (voters_of target) down k → Tolerates (voters_of c) down k

-- While these ids are down, no configuration on the way tolerates fewer failures than the weaker end. With none down,
-- each from (1 2 3) to (3 4 5) tolerates one.
abbrev pub KeepsTolerance : Ids → Configuration → List Step → Configuration → Type 0
KeepsTolerance down now steps target = EachOnTheWay (IsAsTolerant down now target) now steps target

-- ---- members with an empty log
-- the members after the step that do not keep their progress in it; they begin with an empty log
abbrev pub catching_up : Configuration → Step → Configuration → Ids
catching_up before step after = ids_where (λ id. not (keeps_progress before step after id)) (members after)

-- no voter after the step, incoming or outgoing, has to catch up
abbrev pub NoVoterCatchesUp : Configuration → Step → Configuration → Type 0
NoVoterCatchesUp before step after =
    (id : ℕ) → has (catching_up before step after) id ≡ true → (has after.incoming id || has after.outgoing id) ≡ false

-- the id is a learner before the step, and keeps its progress in it
pub record IsReadyLearner (before : Configuration) (step : Step) (after : Configuration) (id : ℕ) : Type 0 where
  pub learner : has before.learners id ≡ true
  pub kept : keeps_progress before step after id ≡ true

-- each new voter of the step was a learner, and keeps its progress
abbrev pub MakesVotersOfReady : Configuration → Step → Configuration → Type 0
MakesVotersOfReady before step after =
    (id : ℕ) → has after.incoming id ≡ true → (has before.incoming id || has before.outgoing id) ≡ false → IsReadyLearner before step after id

-- the steps lead from one configuration to the other, and each new voter was a learner with progress before
abbrev pub VotersLearnFirst : Configuration → List Step → Configuration → Type 0
VotersLearnFirst = IsRunWith MakesVotersOfReady

-- ---- one member at a time
-- a simple step of one change, or leaving a joint configuration
abbrev pub IsOneChange : Step → Type 0
IsOneChange (Simple changes) = length changes ≡ 1
IsOneChange (EnterJoint auto_leave changes) = ⊥
IsOneChange LeaveJoint = ⊤

-- such a step, in which each new voter was a learner before
pub record ChangesOneLearnerFirst (before : Configuration) (step : Step) (after : Configuration) : Type 0 where
  pub one : IsOneChange step
  pub learners : (id : ℕ) → has after.incoming id ≡ true → (has before.incoming id || has before.outgoing id) ≡ false → has before.learners id ≡ true

-- ---- voters that are down leave first
-- the configuration after a joint one is left
abbrev pub left_first : Configuration → Configuration
left_first now = if is_joint now then after_leave now else now

-- where an id becomes a member, no id that is down is a voter, unless it is a voter of the target
abbrev pub AddsNoneBefore : Ids → Configuration → Configuration → Step → Configuration → Type 0
AddsNoneBefore down target before step after =
    (joiner id : ℕ) → is_member before joiner ≡ false → is_member after joiner ≡ true
    → has down id ≡ true → has target.incoming id ≡ false → (has before.incoming id || has before.outgoing id) ≡ false

-- If the configuration after a joint one is left and the target both commit while these ids are down, no id becomes a
-- member before those of them that are no voters of the target have stopped being voters.
abbrev pub DownLeaveFirst : Ids → Configuration → List Step → Configuration → Type 0
DownLeaveFirst down now steps target =
    IsTrue (commits_without (voters_of (left_first now)) down) → IsTrue (commits_without (voters_of target) down)
    → IsRunWith (AddsNoneBefore down target) now steps target

-- ---- few learners at a time
-- the learners, and the voters that are down and learners of the target
abbrev pub learners_at_first : Ids → Configuration → Configuration → Ids
learners_at_first down c target = union c.learners (ids_where (λ id. has down id && has target.learners id) (ascending c.incoming))

-- the voters and learners that are learners of the target, and the learners that are down and voters of the target
abbrev pub learners_that_stay : Ids → Configuration → Configuration → Ids
learners_that_stay down c target =
    union (ids_where (λ id. has c.incoming id || has c.learners id) (ascending target.learners))
    (ids_where (λ id. has down id && has target.incoming id) (ascending c.learners))

-- the configuration has as few learners as one of these three: those at first, those of the target, and one more than
-- those that stay
abbrev pub HasFewLearners : Ids → Configuration → Configuration → Configuration → Type 0
HasFewLearners down c target d =
    (size d.learners ≤ size (learners_at_first down c target))
    ⊎ ((size d.learners ≤ size target.learners) ⊎ (size d.learners ≤ size (learners_that_stay down c target) + 1))

-- no configuration on the way has more learners: at most one if neither end has any
abbrev pub HasFewLearnersAtATime : Ids → Configuration → List Step → Configuration → Type 0
HasFewLearnersAtATime down now steps target = EachOnTheWay (HasFewLearners down (left_first now) target) now steps target

-- ---- what each strategy promises
-- the steps preserve the progress of each id that some other run to the target preserves
abbrev pub PreservesAll : Configuration → List Step → Configuration → Type 0
PreservesAll now steps target = (other : List Step) (id : ℕ) → Preserves now other target id → Preserves now steps target id

-- The steps are the best plan, at most four. A quorum of both ends is a quorum of each configuration on the way, and
-- none of these tolerates fewer failures than the weaker end, whichever ids are down.
pub record ShortestPromises (now : Configuration) (steps : List Step) (target : Configuration) : Type 0 where
  pub best : IsBest now steps target
  pub at_most_four : length steps ≤ 4
  pub quorums : KeepsQuorums now steps target
  pub tolerance : (down : Ids) → KeepsTolerance down now steps target

-- The steps are at most one more than in any other run, and at most five. Quorums and tolerance are as for the shortest
-- path. Each new voter was a learner with progress before, no id that has to catch up is a voter, and what another run
-- preserves is preserved. The quorums before and after each step overlap.
pub record LearnersFirstPromises (now : Configuration) (steps : List Step) (target : Configuration) : Type 0 where
  pub run : IsRun now steps target
  pub one_more : (other : List Step) → IsRun now other target → length steps ≤ length other + 1
  pub at_most_five : length steps ≤ 5
  pub quorums : KeepsQuorums now steps target
  pub tolerance : (down : Ids) → KeepsTolerance down now steps target
  pub voters : VotersLearnFirst now steps target
  pub caught_up : IsRunWith NoVoterCatchesUp now steps target
  pub preserving : PreservesAll now steps target
  pub overlap : IsRunWith (λ before step after. Overlap (voters_of before) (voters_of after)) now steps target

-- Each step changes one member or leaves a joint configuration, and each new voter was a learner with progress before.
-- No other run of steps as in ChangesOneLearnerFirst is shorter. No configuration on the way tolerates fewer failures
-- than the weaker end while these ids are down. No id that has to catch up is a voter, what another run preserves is
-- preserved, and the quorums before and after each step overlap. Voters that are down leave before an id becomes a
-- member, and few ids are learners at a time.
pub record OneAtATimePromises (down : Ids) (now : Configuration) (steps : List Step) (target : Configuration) : Type 0 where
  pub run : IsRunWith ChangesOneLearnerFirst now steps target
  pub least : (other : List Step) → IsRunWith ChangesOneLearnerFirst now other target → length steps ≤ length other
  pub tolerance : KeepsTolerance down now steps target
  pub voters : VotersLearnFirst now steps target
  pub caught_up : IsRunWith NoVoterCatchesUp now steps target
  pub preserving : PreservesAll now steps target
  pub overlap : IsRunWith (λ before step after. Overlap (voters_of before) (voters_of after)) now steps target
  pub down_first : DownLeaveFirst down now steps target
  pub few_learners : HasFewLearnersAtATime down now steps target
