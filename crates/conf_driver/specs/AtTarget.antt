-- What it means that the target is reached.
use Rattle.std.specs.Prelude.{◌≡◌, ℕ, true, false, ◌||◌}
use Rattle.quorum_sets.specs.Ids.{Ids, has}
use Rattle.quorum_sets.specs.Tolerance.{commits_without}
use Rattle.conf_change.specs.Configuration.{Configuration, is_member, voters_of}
use Rattle.conf_driver.specs.View.{ViewState, heard_from, up_and_caught_up, voter_ids}

-- The configuration is the target, and no change is pending. The leader votes, and is not named as down. The voters that
-- are not down are a quorum. No member that is named as down is heard from. Each incoming voter and learner that is not
-- down is up and has caught up, and each learner that is not down runs. No learner was stopped for good. Only members run.
pub record IsDone (target : Configuration) (down : Ids) (view : ViewState) : Type 0 where
  pub reached : view.conf_state ≡ target
  pub not_pending : view.pending_conf_index ≡ 0
  pub leader : has (voter_ids target) view.lead ≡ true
  pub leader_up : has down view.lead ≡ false
  pub quorum : commits_without (voters_of target) down ≡ true
  pub silent : (id : ℕ) → has down id ≡ true → is_member target id ≡ true → has (heard_from view) id ≡ false
  pub caught_up : (id : ℕ) → (has target.incoming id || has target.learners id) ≡ true → has down id ≡ false → has (up_and_caught_up down view) id ≡ true
  pub learners_run : (id : ℕ) → has target.learners id ≡ true → has down id ≡ false → has view.running id ≡ true
  pub not_retired : (id : ℕ) → has target.learners id ≡ true → has view.retired id ≡ false
  pub others_stopped : (id : ℕ) → has view.running id ≡ true → is_member target id ≡ true
