use Rattle.std.specs.Prelude.{map}
use Rattle.std.specs.List.{join_with_byte}
use Rattle.conf_change.specs.Step.{changes_of}
use Rattle.conf_plan.specs.PlanText.{change_text}
use Rattle.conf_tool.proofs.Theorems.PlanScriptLeads.{script-leads}
use Rattle.conf_tool.proofs.Theorems.PromisedPaths.{paths-run}
use Rattle.conf_tool.proofs.laws.plan_script_leads.Goals as goal

pub returns : goal.returns
returns c =
    script-leads c.written_script.ensures c.directive_is_well_formed.ensures c.actual_output_is_valid.ensures c.restored_is_described.ensures c.conf_state_describes.ensures.own
    (λ step small. (c.one_list_per_text.ensures.ok (join_with_byte 32 (map change_text (changes_of step))) (changes_of step)).0 (c.one_plan_per_text.ensures.changes step small)) (paths-run c.paths_keep_promises.ensures.promises)
    c.one_config_per_text.ensures.some
