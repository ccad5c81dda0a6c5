use Rattle.conf_plan.specs.OneChangeEach.{one_change_each}
use Rattle.plan_output.specs.Stages.{first_stage}
use Rattle.confscript_c.proofs.StagesStepped.{AreStepped-run, IsOneProposal-one_change_each, IsStepped-by_proposal, is_restorable-valid}
use Rattle.confscript_c.proofs.laws.stages_are_steps.Goals as goal

pub returns-clause-one : goal.returns-clause-one
returns-clause-one c before after step one valid voter gives catching_up =
    IsStepped-by_proposal c.proposed_step_leads_alike.ensures.enter before after step one
    (c.written_arrays_are_taken.ensures.again before.config before.catching_up (is_restorable-valid before.config (record { valid = valid; voter = voter }))) gives catching_up

pub returns-clause-each : goal.returns-clause-each
returns-clause-each c = IsOneProposal-one_change_each

pub returns-clause-run : goal.returns-clause-run
returns-clause-run c now target steps is run =
    AreStepped-run (record {
      enters = c.proposed_step_leads_alike.ensures.enter;
      again = c.written_arrays_are_taken.ensures.again;
      valid = c.run_stays_valid.ensures;
    }) (first_stage now) (one_change_each steps) target is run (IsOneProposal-one_change_each steps)
