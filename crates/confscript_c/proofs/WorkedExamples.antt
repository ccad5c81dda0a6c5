-- Small cases, worked out by hand.
use Rattle.std.proofs.Common.{◌≡◌, ℕ, false, List, [], ◌∷◌, ◌++◌, length, refl, ap, ◌∙◌}
use Rattle.std.specs.Prelude.{None, Some}
use Rattle.quorum_sets.specs.Ids.{ascending, ids_of, no_ids}
use Rattle.quorum_sets.proofs.Offered.{written_out}
use Rattle.conf_change.specs.Configuration.{Configuration}
use Rattle.conf_change.specs.declared.change.Kind.{Kind}
use Rattle.conf_change.specs.declared.change.Kind.TheVariants.{Learner, Remove}
use Rattle.conf_change.specs.declared.step.Step.{Step}
use Rattle.conf_change.specs.declared.step.Step.TheVariants.{Simple}
use Rattle.plan_output.specs.Stages.{StageState, may_be_down_besides, stage_after, stage_may_be_down, while_catching_up}
use Rattle.confscript_c.specs.Stages.{count_number, stage_numbers, stages_array}

-- ---- stages
-- a stage with voters and learners that is not joint, and its members that are catching up
abbrev stage : List ℕ → List ℕ → List ℕ → StageState
stage voters learners late = record {
  config = record { incoming = ids_of voters; outgoing = ids_of []; learners = ids_of learners; learners_next = ids_of []; auto_leave = false };
  catching_up = ids_of late;
}

-- the simple step of one change
abbrev one : Kind → ℕ → Step
one kind id = Simple (record { kind = kind; id = id } ∷ [])

-- (1 2), then (1 2) learners=(3), where 3 is catching up, then (2) learners=(3)
abbrev first : StageState
first = stage (1 ∷ 2 ∷ []) [] []

abbrev second : StageState
second = stage (1 ∷ 2 ∷ []) (3 ∷ []) (3 ∷ [])

abbrev third : StageState
third = stage (2 ∷ []) (3 ∷ []) []

to_second : stage_after first.config (one Learner 3) ≡ second
to_second = simp written_out refl

to_third : stage_after second.config (one Remove 1) ≡ third
to_third = simp written_out refl

second_tolerates : (stage_may_be_down second ≡ Some 0) × (while_catching_up second ≡ Some 0) × (may_be_down_besides second no_ids ≡ Some 0)
second_tolerates = (simp written_out refl, simp written_out refl, simp written_out refl)

third_tolerates : (stage_may_be_down third ≡ Some 0) × (while_catching_up third ≡ Some 0) × (may_be_down_besides third no_ids ≡ Some 0)
third_tolerates = (simp written_out refl, simp written_out refl, simp written_out refl)

-- the ids of the parts
none : ascending (ids_of []) ≡ []
none = simp written_out refl

of_3 : ascending (ids_of (3 ∷ [])) ≡ 3 ∷ []
of_3 = simp written_out refl

of_2 : ascending (ids_of (2 ∷ [])) ≡ 2 ∷ []
of_2 = simp written_out refl

of_1_and_2 : ascending (ids_of (1 ∷ 2 ∷ [])) ≡ 1 ∷ 2 ∷ []
of_1_and_2 = simp written_out refl

two_stages : stages_array None first.config (one Learner 3 ∷ one Remove 1 ∷ [])
    ≡ 0 ∷ 2
    ∷ 0 ∷ 0 ∷ 0 ∷ 0 ∷ 1 ∷ 3 ∷ 3 ∷ 0 ∷ 2 ∷ 0 ∷ 1 ∷ 0 ∷ 1 ∷ 1 ∷ 2 ∷ 3 ∷ 3
    ∷ 0 ∷ 0 ∷ 0 ∷ 0 ∷ 1 ∷ 1 ∷ 1 ∷ 0 ∷ 1 ∷ 0 ∷ 1 ∷ 0 ∷ 0 ∷ 2 ∷ 3 ∷ []
two_stages =
    ap (λ (next : StageState). 0 ∷ 2 ∷ (stage_numbers no_ids first (one Learner 3) next
    ++ (stage_numbers no_ids next (one Remove 1) (stage_after next.config (one Remove 1)) ++ []))) to_second
    ∙ ap (λ last. 0 ∷ 2 ∷ (stage_numbers no_ids first (one Learner 3) second ++ (stage_numbers no_ids second (one Remove 1) last ++ []))) to_third
    ∙ (λ k. 0 ∷ 2
    ∷ ((0 ∷ count_number (second_tolerates.0 k) ∷ count_number (second_tolerates.1 k) ∷ count_number (second_tolerates.2 k) ∷ 1 ∷ 3 ∷ 3 ∷ []
    ++ (0 ∷ length (of_1_and_2 k) ∷ length (none k) ∷ length (of_3 k) ∷ length (none k) ∷ length (of_3 k) ∷ of_1_and_2 k ++ none k ++ of_3 k ++ none k ++ of_3 k))
    ++ ((0 ∷ count_number (third_tolerates.0 k) ∷ count_number (third_tolerates.1 k) ∷ count_number (third_tolerates.2 k) ∷ 1 ∷ 1 ∷ 1 ∷ []
    ++ (0 ∷ length (of_2 k) ∷ length (none k) ∷ length (of_3 k) ∷ length (none k) ∷ length (none k) ∷ of_2 k ++ none k ++ of_3 k ++ none k ++ none k))
    ++ [])))

-- nothing to do in (1 2 3), with 3 down and with 2 and 3 down
abbrev three : Configuration
three = (stage (1 ∷ 2 ∷ 3 ∷ []) [] []).config

no_stages : (stages_array (Some (ids_of (3 ∷ []))) three [] ≡ 0 ∷ 0 ∷ []) × (stages_array (Some (ids_of (2 ∷ 3 ∷ []))) three [] ≡ 1 ∷ 0 ∷ [])
no_stages = (simp written_out refl, simp written_out refl)
