-- The JSON lines of a path, step by step.
use Rattle.std.proofs.Common.{◌≡◌, ℕ, ◌+◌, ◌<◌, Bool, false, List, [], ◌∷◌, ◌++◌, length, drop, get_or, refl, sym, ap, ◌∙◌, arith, append_assoc}
use Rattle.std.specs.Prelude.{Option, Some, None, flat_map, option_map, slice_get, unwrap_or}
use Rattle.std.proofs.lemmas.List.{drop_more}
use Rattle.quorum_sets.specs.Ids.{Ids, ascending}
use Rattle.conf_change.specs.Configuration.{Configuration}
use Rattle.conf_change.specs.ConfState.{lists_of}
use Rattle.conf_change.specs.declared.step.Step.{Step}
use Rattle.conf_plan.specs.OneChangeEach.{one_change_each}
use Rattle.serde_json.specs.Data.{Data}
use Rattle.serde_json.specs.Written.{has_float, members_have_float}
use Rattle.raft_json.specs.Proposal.{proposed_changes, transition_of}
use Rattle.raft_json.proofs.Offered.{has_float-conf_change_json, has_float-conf_state_json, has_float-ids_json}
use Rattle.plan_output.specs.Stages.{StageState, first_stage, stage_after, stage_may_be_down, while_catching_up, may_be_down_besides, stalls}
use Rattle.plan_output.specs.Json.{count_json, step_keys, step_json, steps_json, value_line, no_steps_json, each_json, path_json}

-- ---- an object of a step has no float
has_float-count_json : (count : Option ℕ) → has_float (count_json count) ≡ false
has_float-count_json count = grind arith

plain_keys-no_float : (plan count number : ℕ) (before : StageState) (step : Step) (after : StageState) → members_have_float (step_keys None None plan count number before step after) ≡ false
plain_keys-no_float plan count number before step after =
    rw (
      has_float-conf_change_json (transition_of step) (proposed_changes before.config step),
      has_float-conf_state_json (lists_of after.config),
      has_float-count_json (stage_may_be_down after),
      has_float-count_json (while_catching_up after),
    ) refl

step_keys-no_float : (down : Option Ids) (flag : Option Bool) (plan count number : ℕ) (before : StageState) (step : Step) (after : StageState)
    → members_have_float (step_keys down flag plan count number before step after) ≡ false
step_keys-no_float None None plan count number before step after = plain_keys-no_float plan count number before step after
step_keys-no_float None (Some stalls) plan count number before step after = plain_keys-no_float plan count number before step after
step_keys-no_float (Some down) None plan count number before step after =
    rw (has_float-ids_json (ascending down), has_float-count_json (may_be_down_besides after down)) (plain_keys-no_float plan count number before step after)
step_keys-no_float (Some down) (Some stalls) plan count number before step after =
    rw (has_float-ids_json (ascending down), has_float-count_json (may_be_down_besides after down)) (plain_keys-no_float plan count number before step after)

pub has_float-step_json : (down : Option Ids) (flag : Option Bool) (plan count number : ℕ) (before : StageState) (step : Step) (after : StageState)
    → has_float (step_json down flag plan count number before step after) ≡ false
has_float-step_json down flag plan count number before step after =
    rw (has_float-ids_json (ascending after.catching_up)) (step_keys-no_float down flag plan count number before step after)

pub has_float-no_steps_json : (down : Option Ids) (stalls : Option Bool) (plan : ℕ) → has_float (no_steps_json down stalls plan) ≡ false
has_float-no_steps_json None None plan = refl
has_float-no_steps_json None (Some stalls) plan = refl
has_float-no_steps_json (Some down) None plan = rw (has_float-ids_json (ascending down)) refl
has_float-no_steps_json (Some down) (Some stalls) plan = rw (has_float-ids_json (ascending down)) refl

-- ---- the first line
first_of_each : (down : Option Ids) (flag : Option Bool) (plan : ℕ) (now : Configuration) (each : List Step) (step : Step) → slice_get each 0 ≡ Some step
    → slice_get (each_json down flag plan now each) 0 ≡ Some (step_json down flag plan (length each) 1 (first_stage now) step (stage_after now step))
first_of_each down flag plan now [] step is = cc
first_of_each down flag plan now (first ∷ steps) step is =
    ap (λ s. Some (step_json down flag plan (length (first ∷ steps)) 1 (first_stage now) s (stage_after now s))) (ap (λ found. unwrap_or found step) is)

-- of a path with a step
pub first_line-step : (down : Option Ids) (flag : Option Bool) (plan count : ℕ) (now : Configuration) (path each : List Step) (step : Step) (before after : StageState) (d : Data)
    → each ≡ one_change_each path → flag ≡ option_map (stalls now path) down → count ≡ length each → slice_get each 0 ≡ Some step → before ≡ first_stage now → after ≡ stage_after before.config step
    → d ≡ step_json down flag plan count 1 before step after → slice_get (path_json plan now path down) 0 ≡ Some d
first_line-step down flag plan count now path each step before after d each_is flag_is count_is step_is before_is after_is d_is =
    first_of_each down (option_map (stalls now path) down) plan now (one_change_each path) step (ap (λ steps. slice_get steps 0) (sym each_is) ∙ step_is)
    ∙ sym (ap Some (d_is ∙ ap (step_json down flag plan count 1 before step) after_is ∙ ap (λ (stage : StageState). step_json down flag plan count 1 stage step (stage_after stage.config step)) before_is
    ∙ ap (λ n. step_json down flag plan n 1 (first_stage now) step (stage_after now step)) (count_is ∙ ap length each_is)
    ∙ ap (λ f. step_json down f plan (length (one_change_each path)) 1 (first_stage now) step (stage_after now step)) flag_is))

-- ---- the lines of the steps, the first of which has this number and leads from this stage
abbrev pub lines : Option Ids → Option Bool → ℕ → ℕ → ℕ → StageState → List Step → List ℕ
lines down stalls plan count number before steps = flat_map value_line (steps_json down stalls plan count number before steps)

-- the line of one more step, and those after it
pub lines-next : (down : Option Ids) (flag : Option Bool) (plan count i : ℕ) (before : StageState) (step : Step) (after : StageState) (steps : List Step) (so_far text : List ℕ)
    → i < length steps → step ≡ get_or steps i step → after ≡ stage_after before.config step → text ≡ so_far ++ value_line (step_json down flag plan count (i + 1) before step after)
    → text ++ lines down flag plan count (i + 1 + 1) after (drop (i + 1) steps) ≡ so_far ++ lines down flag plan count (i + 1) before (drop i steps)
lines-next down flag plan count i before step after steps so_far text within step_is after_is is =
    let later = drop (i + 1) steps in
    ap (λ t. t ++ lines down flag plan count (i + 1 + 1) after later) is
    ∙ append_assoc so_far _ _
    ∙ ap (λ (stage : StageState). so_far ++ (value_line (step_json down flag plan count (i + 1) before step stage) ++ lines down flag plan count (i + 1 + 1) stage later)) after_is
    ∙ sym (ap (λ all. so_far ++ lines down flag plan count (i + 1) before all) (drop_more steps i step within ∙ ap (λ s. s ∷ later) (sym step_is)))

pub lines-all : (down : Option Ids) (flag : Option Bool) (plan : ℕ) (now : Configuration) (steps : List Step) → 0 < length steps
    → lines down flag plan (length steps) 1 (first_stage now) steps ≡ flat_map value_line (each_json down flag plan now steps)
lines-all down flag plan now steps some = grind arith
