use Rattle.conf_session.proofs.Kept.{UndoLaw, planned-leads_back}
use Rattle.conf_session.proofs.laws.undo_plan_leads_back.Goals as goal

pub returns : goal.returns
returns c =
    let law : UndoLaw = record { back = c.undo_of_run.ensures.back; at_most_four = c.undo_of_run.ensures.at_most_four; at_most_three = c.undo_of_run.ensures.at_most_three } in
    planned-leads_back law c.kept_lead_to_now.ensures
