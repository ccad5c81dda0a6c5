use Rattle.conf_plan.proofs.OnTheWay.ChangeByChange.{one_change_each-leads}
use Rattle.conf_plan.proofs.laws.one_change_each_leads.Goals as goal

pub returns : goal.returns
returns c = one_change_each-leads
