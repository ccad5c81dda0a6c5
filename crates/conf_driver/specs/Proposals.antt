-- What is true of a step that `next` proposes.
use Rattle.std.specs.Prelude.{◌≡◌, ◌≢◌, ℕ, true, false, ◌||◌, List, ◌∷◌, Ok}
use Rattle.std.specs.Result.{result_ok}
use Rattle.quorum_sets.specs.Ids.{Ids, has}
use Rattle.quorum_sets.specs.Tolerance.{Tolerates}
use Rattle.quorum_sets.specs.Voters.{is_quorum}
use Rattle.conf_change.specs.Configuration.{Configuration, is_joint, voters_of}
use Rattle.conf_change.specs.Outcome.{outcome}
use Rattle.conf_change.specs.declared.step.Step.{Step}
use Rattle.conf_plan.specs.OneChangeEach.{one_change_each, LeadsChangeByChange}
use Rattle.conf_plan.specs.PathBy.{has_path, path_by, KeepsPromises}
use Rattle.conf_plan.specs.Run.{Gives, IsRun, IsValidWithVoter}
use Rattle.conf_plan.specs.declared.strategy.Strategy.{Strategy}
use Rattle.conf_plan.specs.declared.strategy.Strategy.TheVariants.{Shortest}
use Rattle.raft_json.specs.Proposal.{after_auto_leave, carried_out, proposal_of, proposed_step}
use Rattle.conf_driver.specs.IdSets.{◌∖◌}
use Rattle.conf_driver.specs.View.{ViewState, voter_ids}

-- `next` answers: the configurations are valid and have voters, the target has no auto-leave, and the strategy is not the
-- shortest one and has a path
pub record CanAnswer (strategy : Strategy) (target : Configuration) (view : ViewState) : Type 0 where
  pub not_shortest : strategy ≢ Shortest
  pub valid_now : IsValidWithVoter view.conf_state
  pub valid_target : IsValidWithVoter target
  pub stays : target.auto_leave ≡ false
  pub path : has_path strategy view.conf_state target ≡ true

-- The step is the first of the path, which keeps what its strategy promises, also with a step for each change of a
-- simple one. Raft does not leave the configuration by itself. What is proposed for the step is carried out by etcd's
-- raft: the step that raft takes leads to the configuration after it, from which the other steps lead to the target.
pub record IsFirstOfPath (strategy : Strategy) (down : Ids) (now target : Configuration) (step : Step) : Type 0 where
  pub rest : List Step
  pub after : Configuration
  pub path : one_change_each (path_by strategy down now target) ≡ step ∷ rest
  pub promises : KeepsPromises strategy down now (path_by strategy down now target) target
  pub each : LeadsChangeByChange now (path_by strategy down now target) target
  pub not_left : now.auto_leave ≡ false
  pub gives : Gives now step after
  pub leads : IsRun after rest target
  pub taken : outcome now (proposed_step now step) ≡ Ok after
  pub carried_out : carried_out now (proposal_of now step) ≡ result_ok (after_auto_leave (Ok after))

-- Who is up and has caught up is a quorum before the step and after it. As many of them may fail after it as both before
-- it and at the target, where those that are down do not count. A new voter was a learner, and if it is not down, is up and
-- has caught up. A voter after the step that is heard from and not down has caught up, and if the step enters a joint
-- configuration, each that is not down has.
pub record KeepsQuorum (down heard up : Ids) (now target after : Configuration) : Type 0 where
  pub before : is_quorum (voters_of now) up ≡ true
  pub then : is_quorum (voters_of after) up ≡ true
  pub tolerance : (k : ℕ) → Tolerates (voters_of now) (voter_ids now ∖ up) k → Tolerates (voters_of target) down k
      → Tolerates (voters_of after) (voter_ids after ∖ up) k
  pub learners : (id : ℕ) → has after.incoming id ≡ true → (has now.incoming id || has now.outgoing id) ≡ false → has now.learners id ≡ true
  pub new_voters : (id : ℕ) → (has after.incoming id || has after.outgoing id) ≡ true → (has now.incoming id || has now.outgoing id) ≡ false → has down id ≡ false → has up id ≡ true
  pub caught_up : (id : ℕ) → (has after.incoming id || has after.outgoing id) ≡ true → has heard id ≡ true → has down id ≡ false → has up id ≡ true
  pub joint : is_joint after ≡ true → (id : ℕ) → (has after.incoming id || has after.outgoing id) ≡ true → has down id ≡ false → has up id ≡ true
