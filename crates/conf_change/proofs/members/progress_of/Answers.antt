use Rattle.conf_change.proofs.MemberProgress.Entries.{get-standing, get-missing}
use Rattle.conf_change.proofs.members.progress_of.Goals as goal

pub returns-in-Ok : goal.returns-in-Ok
returns-in-Ok c = get-standing c.args.members.now c.args.id c.in-Ok.position _ c.requires c.in-Ok.ensures

pub returns-in-Err : goal.returns-in-Err
returns-in-Err c = get-missing c.args.members.now c.args.id c.in-Err.field-0 c.in-Err.ensures
