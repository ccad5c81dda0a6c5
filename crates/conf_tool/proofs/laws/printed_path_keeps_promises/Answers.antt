use Rattle.conf_tool.proofs.Theorems.PromisedPaths.{printed-keeps_promises}
use Rattle.conf_tool.proofs.laws.printed_path_keeps_promises.Goals as goal

pub returns : goal.returns
returns c =
    printed-keeps_promises (record {
      promised = c.paths_keep_promises.ensures.promises;
      change_by_change = c.one_change_each_leads.ensures;
      stages = c.stages_are_on_the_way.ensures;
      lines = c.json_lines_lead_to_the_target.ensures;
    })
