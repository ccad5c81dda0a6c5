-- When a step is proposed.
use Rattle.std.specs.Prelude.{◌≡◌, ◌≢◌, ◌<◌, ◌⊎◌, ℕ, true, false, ◌||◌}
use Rattle.quorum_sets.specs.Ids.{Ids, has}
use Rattle.quorum_sets.specs.Tolerance.{commits_without}
use Rattle.quorum_sets.specs.Voters.{is_quorum}
use Rattle.conf_change.specs.Configuration.{Configuration, is_joint, is_member, voters_of}
use Rattle.conf_driver.specs.Situation.{is_less, tolerance}
use Rattle.conf_driver.specs.View.{ViewState, heard_from, match_of, up_and_caught_up}

-- Nothing holds up the step to this configuration. No change is pending, the target is another configuration, and raft
-- does not leave this one by itself. The leader votes before and after the step. The voters that are not down are a
-- quorum, now and at the target; neither the leader nor a member that is heard from is down. The target makes no member
-- of an id that was stopped for good. Its members that are members, or are after the step, do run. No server is to be
-- stopped that each member knows to be none. New voters have caught up, and so have the voters after the step that are
-- heard from. Who is up is a quorum. All voters after the step are heard from, or the step enters no joint
-- configuration and no fewer may fail after it.
pub record MayPropose (target : Configuration) (down : Ids) (view : ViewState) (after : Configuration) : Type 0 where
  pub not_pending : view.pending_conf_index ≡ 0
  pub other : view.conf_state ≢ target
  pub not_left : view.conf_state.auto_leave ≡ false
  pub leader : (has view.conf_state.incoming view.lead || has view.conf_state.outgoing view.lead) ≡ true
  pub leader_after : (has after.incoming view.lead || has after.outgoing view.lead) ≡ true
  pub leader_up : has down view.lead ≡ false
  pub quorum : commits_without (voters_of view.conf_state) down ≡ true
  pub target_quorum : commits_without (voters_of target) down ≡ true
  pub silent : (id : ℕ) → has down id ≡ true → is_member view.conf_state id ≡ true → has (heard_from view) id ≡ false
  pub not_reused : (id : ℕ) → is_member target id ≡ true → (has view.conf_state.incoming id || has view.conf_state.outgoing id) ≡ false
      → has view.retired id ≡ false
  pub started : (id : ℕ) → (is_member after id || is_member view.conf_state id) ≡ true → is_member target id ≡ true
      → (has view.conf_state.incoming id || has view.conf_state.outgoing id) ≡ false → has down id ≡ false → has view.running id ≡ true
  pub stopped : ((id : ℕ) → has view.running id ≡ true → (is_member view.conf_state id || is_member target id) ≡ true)
      ⊎ ((id : ℕ) × (is_member view.conf_state id ≡ true) × (has down id ≡ false) × (match_of view id < view.conf_index))
  pub new_voters : (id : ℕ) → (has after.incoming id || has after.outgoing id) ≡ true
      → (has view.conf_state.incoming id || has view.conf_state.outgoing id) ≡ false → has down id ≡ false → has (up_and_caught_up down view) id ≡ true
  pub caught_up : (id : ℕ) → (has after.incoming id || has after.outgoing id) ≡ true → has (heard_from view) id ≡ true → has down id ≡ false
      → has (up_and_caught_up down view) id ≡ true
  pub quorum_up : is_quorum (voters_of view.conf_state) (up_and_caught_up down view) ≡ true
  pub heard : ((id : ℕ) → (has after.incoming id || has after.outgoing id) ≡ true → has down id ≡ false → has (heard_from view) id ≡ true)
      ⊎ ((is_joint after ≡ false) × (is_less (tolerance after (up_and_caught_up down view)) (tolerance view.conf_state (up_and_caught_up down view)) ≡ false))
