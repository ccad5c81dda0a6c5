-- Which servers are started and stopped.
use Rattle.std.specs.Prelude.{◌≡◌, ℕ, ◌≤◌, true, false, ◌||◌}
use Rattle.quorum_sets.specs.Ids.{Ids, has}
use Rattle.quorum_sets.specs.Voters.{is_quorum}
use Rattle.conf_change.specs.Configuration.{Configuration, is_member, voters_of}
use Rattle.conf_plan.specs.OneChangeEach.{one_change_each}
use Rattle.conf_plan.specs.OnTheWay.{EachOnTheWay}
use Rattle.conf_plan.specs.PathBy.{has_path, path_by}
use Rattle.conf_plan.specs.Run.{IsValidWithVoter}
use Rattle.conf_plan.specs.declared.strategy.Strategy.{Strategy}
use Rattle.conf_driver.specs.IdSets.{◌∩◌, ◌∖◌}
use Rattle.conf_driver.specs.View.{ViewState, heard_from, match_of, voter_ids}

-- the id is a member of no configuration on the way of any path to the target, whichever ids are down
abbrev pub IsNeverMember : Configuration → Configuration → ℕ → Type 0
IsNeverMember now target id =
    (strategy : Strategy) (down : Ids) → IsValidWithVoter now → IsValidWithVoter target → has_path strategy now target ≡ true
    → EachOnTheWay (λ c. is_member c id ≡ false) now (one_change_each (path_by strategy down now target)) target

-- The id runs, is a member of neither configuration and of none on the way, and each member that is not down knows the
-- configuration in force. The voters that are heard from and not down are a quorum of it.
pub record MayStop (target : Configuration) (down : Ids) (view : ViewState) (id : ℕ) : Type 0 where
  pub runs : has view.running id ≡ true
  pub not_now : is_member view.conf_state id ≡ false
  pub not_target : is_member target id ≡ false
  pub not_on_the_way : IsNeverMember view.conf_state target id
  pub known : (member : ℕ) → is_member view.conf_state member ≡ true → has down member ≡ false → view.conf_index ≤ match_of view member
  pub heard : is_quorum (voters_of view.conf_state) (voter_ids view.conf_state ∩ heard_from view ∖ down) ≡ true

-- the id is a member of the target, does not run, does not vote, is not down, and was not stopped for good
pub record MayStart (target : Configuration) (down : Ids) (view : ViewState) (id : ℕ) : Type 0 where
  pub of_target : is_member target id ≡ true
  pub runs_not : has view.running id ≡ false
  pub votes_not : (has view.conf_state.incoming id || has view.conf_state.outgoing id) ≡ false
  pub not_down : has down id ≡ false
  pub not_retired : has view.retired id ≡ false
