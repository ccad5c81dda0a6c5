-- The JSON lines of a run, read back and carried out one after another.
use Rattle.std.proofs.Common.{◌≡◌, ℕ, ◌+◌, Bool, true, false, List, [], ◌∷◌, length, refl, sym, ap, subst, ◌∙◌, inl, inr, arith}
use Rattle.std.specs.Prelude.{Option, Some, None, Ok, option_and_then, if◌then◌else◌}
use Rattle.std.specs.List.{list_all}
use Rattle.std.specs.Result.{result_ok, result_unwrap_or}
use Rattle.std.proofs.lemmas.Bool.{and_parts}
use Rattle.quorum_sets.specs.Ids.{Ids}
use Rattle.conf_change.specs.Configuration.{Configuration, is_restorable, is_valid}
use Rattle.conf_change.specs.ConfState.{lists_of, restored}
use Rattle.conf_change.specs.Outcome.{Outcome, after_leave, outcome}
use Rattle.conf_change.specs.declared.step.Step.{Step}
use Rattle.conf_change.specs.declared.step.Step.TheVariants.{Simple, EnterJoint, LeaveJoint}
use Rattle.conf_change.proofs.Offered.{EnterTaken-from_outcome, LeaveTaken-from_outcome, SimpleTaken-from_outcome, ValidByMember-from_is_valid}
use Rattle.conf_plan.specs.Run.{IsRun, IsValidWithVoter}
use Rattle.raft_json.specs.Proposal.{after_auto_leave, proposal_of}
use Rattle.raft_json.proofs.Offered.{carried_out-step, conf_change_of_json-conf_change_json, conf_state_of_json-conf_state_json}
use Rattle.plan_output.specs.CarriedOut.{IsNoStep, LineLeads, LinesLead, configuration_in, proposal_in}
use Rattle.plan_output.specs.Json.{each_json, no_steps_json, step_json, steps_json}
use Rattle.plan_output.specs.Stages.{StageState, first_stage, stage_after}
use Rattle.plan_output.proofs.SingleChanges.{is_taken_as_it_is, outcome-taken_as_it_is}
use Rattle.plan_output.proofs.AutoLeave.{leaves_by_itself, stays_till_last, stays_till_last-first, stays_till_last-rest}

-- what the laws of the crates below say: a saved configuration is restored, and a run ends at a valid configuration
-- with a voter
pub record IsGiven : Type 0 where
  pub restored : (c : Configuration) → is_restorable c ≡ true → restored (lists_of c) ≡ Some c
  pub valid : (before after : Configuration) (steps : List Step) → IsValidWithVoter before → IsRun before steps after → IsValidWithVoter after

-- ---- a configuration that a line names
is_restorable-valid : (c : Configuration) → IsValidWithVoter c → is_restorable c ≡ true
is_restorable-valid c is = rw (is.valid, is.voter) refl

configuration_in-step_json : IsGiven → (down : Option Ids) (flag : Option Bool) (plan count number : ℕ) (before : StageState) (step : Step) (after : StageState)
    → IsValidWithVoter after.config → configuration_in (step_json down flag plan count number before step after) ≡ Some after.config
configuration_in-step_json given down flag plan count number before step after is =
    ap (option_and_then restored) (conf_state_of_json-conf_state_json (lists_of after.config)) ∙ given.restored after.config (is_restorable-valid after.config is)

proposal_in-step_json : (down : Option Ids) (flag : Option Bool) (plan count number : ℕ) (before : StageState) (step : Step) (after : StageState)
    → proposal_in (step_json down flag plan count number before step after) ≡ Some (proposal_of before.config step)
proposal_in-step_json down flag plan count number before step after = grind (arith, conf_change_of_json-conf_change_json)

-- ---- where etcd ends
-- a valid configuration stays, or is left
ended : (c : Configuration) → is_valid c ≡ true → after_auto_leave (Ok c) ≡ Ok (if c.auto_leave then after_leave c else c)
ended c valid = grind (arith, (ValidByMember-from_is_valid c valid).auto_leave)

after_auto_leave-stays : (c : Configuration) → c.auto_leave ≡ false → after_auto_leave (Ok c) ≡ Ok c
after_auto_leave-stays c flag = rw flag refl

-- the configuration after a step that is not left automatically
auto_leave-after : (before after : Configuration) (step : Step) → is_valid before ≡ true → outcome before step ≡ Ok after → leaves_by_itself step ≡ false
    → after.auto_leave ≡ false
auto_leave-after before after (Simple changes) valid e stays = grind (arith, SimpleTaken-from_outcome, ValidByMember-from_is_valid, valid)
auto_leave-after before after (EnterJoint auto_leave changes) valid e stays = grind (arith, EnterTaken-from_outcome)
auto_leave-after before after LeaveJoint valid e stays = grind (arith, LeaveTaken-from_outcome)

-- ---- a line
LineLeads-step : IsGiven → (down : Option Ids) (flag : Option Bool) (plan count number : ℕ) (before : StageState) (step : Step) (after : StageState) (end : Configuration)
    → IsValidWithVoter before.config → IsValidWithVoter after.config → outcome before.config step ≡ Ok after.config → is_taken_as_it_is step ≡ true
    → after_auto_leave (Ok after.config) ≡ Ok end → LineLeads before.config (step_json down flag plan count number before step after) after.config end
LineLeads-step given down flag plan count number before step after end is_before is_after e as_it_is leaves = record {
  proposal = proposal_of before.config step;
  proposes = proposal_in-step_json down flag plan count number before step after;
  names = configuration_in-step_json given down flag plan count number before step after is_after;
  takes = outcome-taken_as_it_is before.config after.config step as_it_is e;
  leaves = leaves;
  ends = carried_out-step before.config after.config step is_before.valid is_before.voter e ∙ ap result_ok leaves;
}

-- ---- all lines
-- where etcd ends after a step, the lines of the other steps lead on
ended_then : (down : Option Ids) (flag : Option Bool) (plan count number : ℕ) (before target : Configuration) (step : Step) (after : StageState) (steps : List Step)
    → is_valid before ≡ true → is_valid after.config ≡ true → outcome before step ≡ Ok after.config → stays_till_last (step ∷ steps) ≡ true
    → LinesLead after.config after.config (steps_json down flag plan count number after steps) target
    → (end : Configuration) × (after_auto_leave (Ok after.config) ≡ Ok end) × LinesLead end after.config (steps_json down flag plan count number after steps) target
ended_then down flag plan count number before target step after [] valid is_after e stays rest =
    (if after.config.auto_leave then after_leave after.config else after.config, ended after.config is_after, rest)
ended_then down flag plan count number before target step after (other ∷ steps) valid is_after e stays rest =
    (after.config, after_auto_leave-stays after.config (auto_leave-after before after.config step valid e (stays_till_last-first step other steps stays)), rest)

LinesLead-steps : IsGiven → (down : Option Ids) (flag : Option Bool) (plan count number : ℕ) (stage : StageState) (steps : List Step) (target : Configuration)
    → IsValidWithVoter stage.config → IsRun stage.config steps target → stays_till_last steps ≡ true → list_all is_taken_as_it_is steps ≡ true
    → LinesLead stage.config stage.config (steps_json down flag plan count number stage steps) target
LinesLead-steps given down flag plan count number stage [] target is run stays taken = run
LinesLead-steps given down flag plan count number stage (step ∷ steps) target is run stays taken =
    let after = stage_after stage.config step in
    let same : run.0 ≡ after.config = sym (ap (λ (o : Outcome). result_unwrap_or o stage.config) run.1) in
    let gives = run.1 ∙ ap Ok same in
    let is_after = given.valid stage.config after.config (step ∷ []) is (after.config, gives, refl) in
    let each = and_parts (is_taken_as_it_is step) (list_all is_taken_as_it_is steps) taken in
    let rest =
    LinesLead-steps given down flag plan count (number + 1) after steps target is_after (subst (λ (c : Configuration). IsRun c steps target) same run.2) (stays_till_last-rest step steps stays)
    each.1 in
    let end = ended_then down flag plan count (number + 1) stage.config target step after steps is.valid is_after.valid gives stays rest in
    inr (after.config, end.0, LineLeads-step given down flag plan count number stage step after end.0 is is_after gives each.0 end.1, end.2)

IsNoStep-no_steps_json : (down : Option Ids) (flag : Option Bool) (plan : ℕ) → IsNoStep (no_steps_json down flag plan)
IsNoStep-no_steps_json None None plan = record { nothing = refl; nowhere = refl }
IsNoStep-no_steps_json None (Some flag) plan = record { nothing = refl; nowhere = refl }
IsNoStep-no_steps_json (Some down) None plan = record { nothing = refl; nowhere = refl }
IsNoStep-no_steps_json (Some down) (Some flag) plan = record { nothing = refl; nowhere = refl }

pub LinesLead-each_json : IsGiven → (down : Option Ids) (flag : Option Bool) (plan : ℕ) (now : Configuration) (steps : List Step) (target : Configuration)
    → IsValidWithVoter now → IsRun now steps target → stays_till_last steps ≡ true → list_all is_taken_as_it_is steps ≡ true
    → LinesLead now now (each_json down flag plan now steps) target
LinesLead-each_json given down flag plan now [] target is run stays taken = inl (IsNoStep-no_steps_json down flag plan, run)
LinesLead-each_json given down flag plan now (step ∷ steps) target is run stays taken =
    LinesLead-steps given down flag plan (length (step ∷ steps)) 1 (first_stage now) (step ∷ steps) target is run stays taken
