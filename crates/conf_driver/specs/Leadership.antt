-- Who is made the leader, and why leadership moves.
use Rattle.std.specs.Prelude.{◌≡◌, ◌≢◌, ◌⊎◌, ℕ, true, false, ◌||◌}
use Rattle.quorum_sets.specs.Ids.{Ids, has}
use Rattle.conf_change.specs.Configuration.{Configuration, is_joint}
use Rattle.conf_plan.specs.OneChangeEach.{one_change_each}
use Rattle.conf_plan.specs.PathBy.{path_by}
use Rattle.conf_plan.specs.declared.strategy.Strategy.{Strategy}
use Rattle.conf_driver.specs.Situation.{after_first}
use Rattle.conf_driver.specs.View.{ViewState, up_and_caught_up, voter_ids}

-- the configuration after the first step of the path, or the same if it has none
abbrev pub after_first_step : Strategy → Configuration → Ids → ViewState → Configuration
after_first_step strategy target down view = after_first view.conf_state (one_change_each (path_by strategy down view.conf_state target))

-- Why leadership has to move: the leader does not vote; or a change is pending, and in a joint configuration it is not an
-- incoming voter, or the target drops it; or no change is pending, and it does not vote after the step.
abbrev pub HasToMove : Configuration → ViewState → Configuration → Type 0
HasToMove target view after =
    (has (voter_ids view.conf_state) view.lead ≡ false)
    ⊎ ((view.pending_conf_index ≢ 0) × (is_joint view.conf_state ≡ true) × (has view.conf_state.incoming view.lead ≡ false))
    ⊎ ((view.pending_conf_index ≢ 0) × (has (voter_ids target) view.lead ≡ false))
    ⊎ ((view.pending_conf_index ≡ 0) × (has (voter_ids after) view.lead ≡ false))

-- The id is up and has caught up, votes, and does not lead, and leadership has to move. While a change is pending, or if
-- the leader does not vote, it is an incoming voter; otherwise it votes after the step.
pub record MayTakeOver (target : Configuration) (down : Ids) (view : ViewState) (after : Configuration) (id : ℕ) : Type 0 where
  pub up : has (up_and_caught_up down view) id ≡ true
  pub votes : (has view.conf_state.incoming id || has view.conf_state.outgoing id) ≡ true
  pub other : id ≢ view.lead
  pub pending : (view.pending_conf_index ≢ 0) ⊎ (has (voter_ids view.conf_state) view.lead ≡ false) → has view.conf_state.incoming id ≡ true
  pub may_lead : view.pending_conf_index ≡ 0 → has (voter_ids view.conf_state) view.lead ≡ true → has (voter_ids after) id ≡ true
  pub had_to : HasToMove target view after
