-- The configurations along a path, and how many failures the cluster tolerates at each of them (own).
use Rattle.std.specs.Prelude.{◌≡◌, ℕ, Bool, false, List, [], ◌∷◌, Option, Some, None, refl}
use Rattle.std.specs.Coded.{Coded, coded×, code_by}
use Rattle.std.specs.List.{list_any}
use Rattle.std.specs.Option.{is_none}
use Rattle.std.specs.Result.{result_unwrap_or}
use Rattle.quorum_sets.specs.Ids.{Ids, no_ids, union}
use Rattle.quorum_sets.specs.Tolerance as tolerance
use Rattle.conf_change.specs.Configuration.{Configuration, voters_of}
use Rattle.conf_change.specs.ConfigurationCode.{configuration_code, ids_code}
use Rattle.conf_change.specs.Outcome.{outcome}
use Rattle.conf_change.specs.declared.step.Step.{Step}
use Rattle.conf_plan.specs.OnTheWay.{catching_up}
use Rattle.conf_plan.specs.Run.{Gives}

-- A configuration on the way, and its members that have to catch up, since they did not keep their progress in the step
-- that led there.
pub record StageState : Type 0 where
  pub config : Configuration
  pub catching_up : Ids

-- a stage is encoded as its two parts
abbrev pub stage_code : Coded StageState
stage_code =
    code_by (Configuration × Ids) (coded× configuration_code ids_code)
    (λ s. (s.config, s.catching_up)) (λ p. record { config = p.0; catching_up = p.1 }) (λ _. refl)

-- ---- which stages there are
-- the configuration with which a path begins, where no member has to catch up
abbrev pub first_stage : Configuration → StageState
first_stage now = record { config = now; catching_up = no_ids }

-- the configuration after a step; a step that is refused changes nothing
abbrev pub configuration_after_step : Configuration → Step → Configuration
configuration_after_step before step = result_unwrap_or (outcome before step) before

-- the stage that a step leads to
abbrev pub stage_after : Configuration → Step → StageState
stage_after before step = record { config = configuration_after_step before step; catching_up = catching_up before step (configuration_after_step before step) }

-- the stages after each of the steps, in order
abbrev pub stages_after : Configuration → List Step → List StageState
stages_after before [] = []
stages_after before (step ∷ steps) = stage_after before step ∷ stages_after (configuration_after_step before step) steps

-- the stages of a path: one more than it has steps
abbrev pub stages : Configuration → List Step → List StageState
stages now steps = first_stage now ∷ stages_after now steps

-- The stages are on the way of the steps to a target: each step is accepted in the configuration of one stage and gives
-- that of the next, where the members catch up that do not keep their progress in it. The last one is the target.
abbrev pub AreOnTheWay : List StageState → List Step → Configuration → Type 0
AreOnTheWay [] steps target = ⊥
AreOnTheWay (last ∷ []) [] target = last.config ≡ target
AreOnTheWay (last ∷ []) (step ∷ steps) target = ⊥
AreOnTheWay (before ∷ after ∷ all) [] target = ⊥
AreOnTheWay (before ∷ after ∷ all) (step ∷ steps) target =
    Gives before.config step after.config × (after.catching_up ≡ catching_up before.config step after.config) × AreOnTheWay (after ∷ all) steps target

-- ---- the failures that it tolerates
-- how many ids may be down, whichever they are, while the others are still a quorum; every member counts
abbrev pub stage_may_be_down : StageState → Option ℕ
stage_may_be_down stage = tolerance.may_be_down (voters_of stage.config) no_ids

-- how many ids may be down until the members that have to catch up have done so; these do not count, be they down or
-- not
abbrev pub while_catching_up : StageState → Option ℕ
while_catching_up stage = tolerance.may_be_down (voters_of stage.config) stage.catching_up

-- how many ids may be down besides these, while the members that have to catch up do not count either
abbrev pub may_be_down_besides : StageState → Ids → Option ℕ
may_be_down_besides stage down = tolerance.may_be_down (voters_of stage.config) (union down stage.catching_up)

-- whether some stage stalls with these ids down: the voters that count are not a quorum even with all others up
abbrev pub some_stalls : List StageState → Ids → Bool
some_stalls all down = list_any (λ stage. is_none (may_be_down_besides stage down)) all

-- Whether a path stalls with these ids down: the configuration with which it begins does, or one after a step. A step
-- is committed by the configuration before it, so the cluster gets to the end, and serves there, only if none stalls.
abbrev pub stalls : Configuration → List Step → Ids → Bool
stalls now steps down = some_stalls (stages now steps) down

-- whether ids are given that are down, and one of these stages stalls then
abbrev pub stalls_at : Option Ids → List StageState → Bool
stalls_at None all = false
stalls_at (Some down) all = some_stalls all down

-- whether ids are given that are down, and a path stalls then
abbrev pub stalls_with : Option Ids → Configuration → List Step → Bool
stalls_with down now steps = stalls_at down (stages now steps)
