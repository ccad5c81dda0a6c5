-- Which entries count as changes of the voters.
use Rattle.std.proofs.Common.{◌≡◌, List, [], ◌∷◌, refl, arith}
use Rattle.std.specs.Prelude.{Ok}
use Rattle.std.proofs.lemmas.Bool.Decides.{nat_tests}
use Rattle.quorum_sets.specs.Ids.{ids_of}
use Rattle.quorum_sets.proofs.Offered.{written_out, has-ids_of, has-no_ids}
use Rattle.conf_change.specs.Configuration.{Configuration}
use Rattle.conf_change.specs.Change.{result_of}
use Rattle.conf_change.specs.Outcome.{outcome}
use Rattle.conf_change.specs.declared.change.Change.{Change}
use Rattle.conf_change.specs.declared.change.Kind.TheVariants.{Voter, Learner}
use Rattle.conf_change.specs.declared.step.Step.TheVariants.{Simple, LeaveJoint}
use Rattle.conf_change.proofs.Offered.{configuration-by_members, has-incoming_after, has-learners_after, has-next_after, last_effective-one, outcome-simple_accepted}
use Rattle.raft_safety.specs.Logs.{ConfChange}
use Rattle.raft_safety.specs.Configurations.{configuration_after, voters_after, voter_changes}
use Rattle.safety_examples.proofs.ListedVoters.{configuration_of, changes-listed}
use Rattle.safety_examples.proofs.Beginnings.{one_change}
use Rattle.safety_examples.proofs.Beginnings as beginnings

abbrev three : Configuration
three = configuration_of beginnings.three

-- a step that adds a voter
added_counts_one : voter_changes three (one_change 1 Voter 4 ∷ []) ≡ 1
added_counts_one = changes-listed beginnings.three (one_change 1 Voter 4 ∷ []) refl

-- a step that adds a learner
abbrev learner : List Change
learner = record { kind = Learner; id = 4 } ∷ []

abbrev with_learner : Configuration
with_learner = record three { learners = ids_of (4 ∷ []) }

made : result_of three learner ≡ with_learner
made = configuration-by_members (result_of three learner) with_learner
    (λ q. grind (arith, nat_tests, has-incoming_after three learner q, last_effective-one (record { kind = Learner; id = 4 }) q, has-ids_of (1 ∷ 2 ∷ 3 ∷ []) q))
    refl
    (λ q. grind (arith, nat_tests, has-learners_after three learner q, last_effective-one (record { kind = Learner; id = 4 }) q, has-no_ids q, has-ids_of (4 ∷ []) q))
    (λ q. grind (arith, nat_tests, has-next_after three learner q, last_effective-one (record { kind = Learner; id = 4 }) q, has-no_ids q))
    refl

accepted : outcome three (Simple learner) ≡ Ok with_learner
accepted = outcome-simple_accepted three with_learner learner (simp written_out refl) made (simp written_out refl) (simp written_out (omega arith))

learner_counts_none : voter_changes three (one_change 1 Learner 4 ∷ []) ≡ 0
unfolding voter_changes voters_after configuration_after
learner_counts_none = grind (arith, accepted, written_out)

-- a step that is refused: the configuration is not joint, so it cannot be left
refused_counts_none : voter_changes three (record { term = 1; payload = ConfChange LeaveJoint } ∷ []) ≡ 0
unfolding voter_changes voters_after configuration_after
refused_counts_none = simp written_out refl
