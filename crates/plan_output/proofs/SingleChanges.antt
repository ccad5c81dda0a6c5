-- Steps that etcd's raft takes as they are: what is proposed for them leads to the configuration after the step.
use Rattle.std.proofs.Common.{◌≡◌, Bool, true, false, List, [], ◌∷◌, ◌++◌, map, refl, ◌∙◌}
use Rattle.std.specs.List.{list_all}
use Rattle.std.specs.Prelude.{Ok}
use Rattle.conf_change.specs.Configuration.{Configuration}
use Rattle.conf_change.specs.Outcome.{outcome}
use Rattle.conf_change.specs.declared.change.Change.{Change}
use Rattle.conf_change.specs.declared.step.Step.{Step}
use Rattle.conf_change.specs.declared.step.Step.TheVariants.{Simple, EnterJoint, LeaveJoint}
use Rattle.conf_plan.specs.OneChangeEach.{one_change_each}
use Rattle.raft_json.specs.Proposal.{proposed_step}
use Rattle.raft_json.proofs.Offered.{enter-proposed}

-- whether a step is no simple one of several changes, or of none
abbrev pub is_taken_as_it_is : Step → Bool
is_taken_as_it_is (Simple []) = false
is_taken_as_it_is (Simple (change ∷ [])) = true
is_taken_as_it_is (Simple (change ∷ other ∷ changes)) = false
is_taken_as_it_is (EnterJoint auto_leave changes) = true
is_taken_as_it_is LeaveJoint = true

of_changes : (changes : List Change) (steps : List Step) → list_all is_taken_as_it_is steps ≡ true
    → list_all is_taken_as_it_is (map (λ change. Simple (change ∷ [])) changes ++ steps) ≡ true
of_changes [] steps e = e
of_changes (change ∷ changes) steps e = of_changes changes steps e

pub is_taken_as_it_is-one_change_each : (steps : List Step) → list_all is_taken_as_it_is (one_change_each steps) ≡ true
is_taken_as_it_is-one_change_each [] = refl
is_taken_as_it_is-one_change_each (Simple changes ∷ steps) = of_changes changes (one_change_each steps) (is_taken_as_it_is-one_change_each steps)
is_taken_as_it_is-one_change_each (EnterJoint auto_leave changes ∷ steps) = is_taken_as_it_is-one_change_each steps
is_taken_as_it_is-one_change_each (LeaveJoint ∷ steps) = is_taken_as_it_is-one_change_each steps

pub outcome-taken_as_it_is : (before after : Configuration) (step : Step) → is_taken_as_it_is step ≡ true → outcome before step ≡ Ok after
    → outcome before (proposed_step before step) ≡ Ok after
outcome-taken_as_it_is before after (Simple []) taken e = cc
outcome-taken_as_it_is before after (Simple (change ∷ [])) taken e = e
outcome-taken_as_it_is before after (Simple (change ∷ other ∷ changes)) taken e = cc
outcome-taken_as_it_is before after (EnterJoint auto_leave changes) taken e = enter-proposed before auto_leave changes ∙ e
outcome-taken_as_it_is before after LeaveJoint taken e = e
