-- What makes a plan the best one (own): how many steps it has, whose progress it preserves, how often it names an id,
-- and that quorums overlap. Logs are not considered.
use Rattle.std.specs.Prelude.{◌≡◌, ◌≢◌, ℕ, ◌≤◌, Bool, true, ◌&&◌, ◌||◌, ◌↔◌, List, [], ◌∷◌, length, sum_by, count_by}
use Rattle.std.specs.List.{All}
use Rattle.quorum_sets.specs.Ids.{has}
use Rattle.quorum_sets.specs.Overlap.{Overlap}
use Rattle.conf_change.specs.Configuration.{Configuration, is_member, voters_of}
use Rattle.conf_change.specs.Change.{names}
use Rattle.conf_change.specs.Outcome.{after_leave}
use Rattle.conf_change.specs.Progress.{keeps_progress}
use Rattle.conf_change.specs.Step.{changes_of}
use Rattle.conf_change.specs.declared.change.Change.{Change}
use Rattle.conf_change.specs.declared.change.Kind.TheVariants.{Update}
use Rattle.conf_change.specs.declared.step.Step.{Step}
use Rattle.conf_change.specs.declared.step.Step.TheVariants.{Simple, EnterJoint, LeaveJoint}
use Rattle.conf_plan.specs.Run.{IsRun, IsRunWith}

-- ---- an id, along a run
-- the run preserves the id's progress: the id is a member before, and keeps its progress at each step
abbrev pub Preserves : Configuration → List Step → Configuration → ℕ → Type 0
Preserves before steps after id =
    (is_member before id ≡ true) × IsRunWith (λ at step next. keeps_progress at step next id ≡ true) before steps after

-- how many effective changes of the steps name the id: two for 4 in simple l4, simple v4
abbrev pub times_named : ℕ → List Step → ℕ
times_named id steps = sum_by (λ step. count_by (names id) (changes_of step)) steps

-- the id is a learner, or becomes one when the joint configuration is left
abbrev pub is_any_learner : Configuration → ℕ → Bool
is_any_learner c id = has c.learners id || has c.learners_next id

-- the id is in one of the four sets of the configuration
abbrev pub is_in : Configuration → ℕ → Bool
is_in c id = has c.incoming id || has c.outgoing id || is_any_learner c id

-- the id has the roles that it had: incoming voter, learner (now or next), or neither
pub record HasSameRoles (before after : Configuration) (id : ℕ) : Type 0 where
  pub voter : has after.incoming id ≡ has before.incoming id
  pub learner : is_any_learner after id ≡ is_any_learner before id

-- ---- the best run
-- if the first step leaves a joint configuration, the id is still a member after it
abbrev pub outlasts_leave : Configuration → List Step → ℕ → Bool
outlasts_leave now [] id = true
outlasts_leave now (Simple _ ∷ _) id = true
outlasts_leave now (EnterJoint _ _ ∷ _) id = true
outlasts_leave now (LeaveJoint ∷ _) id = is_member (after_leave now) id

-- the change names an id other than 0, and is not an update
pub record IsPlain (change : Change) : Type 0 where
  pub named : change.id ≢ 0
  pub no_update : change.kind ≢ Update

-- The steps lead to the target. No other run there is shorter, preserves the progress of a member that they reset, or
-- names an id in fewer changes. They preserve the progress of exactly those members of both configurations that are not
-- dropped when a joint one is left first. The quorums before and after each step overlap.
pub record IsBest (now : Configuration) (steps : List Step) (target : Configuration) : Type 0 where
  pub run : IsRun now steps target
  pub shortest : (other : List Step) → IsRun now other target → length steps ≤ length other
  pub preserving : (other : List Step) (id : ℕ) → Preserves now other target id → Preserves now steps target id
  pub preserved : (id : ℕ) → (Preserves now steps target id) ↔ ((is_member now id && is_member target id && outlasts_leave now steps id) ≡ true)
  pub fewest : (other : List Step) (id : ℕ) → IsRun now other target → times_named id steps ≤ times_named id other
  pub plain : All (λ step. All IsPlain (changes_of step)) steps
  pub overlap : IsRunWith (λ before step after. Overlap (voters_of before) (voters_of after)) now steps target
