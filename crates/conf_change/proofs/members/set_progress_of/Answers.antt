use Rattle.std.proofs.Common.{◌∙◌, ap, is_some}
use Rattle.std.proofs.lemmas.Bool.{false≢true}
use Rattle.conf_change.proofs.MemberProgress.Entries.{get-set, keys-set, get-missing}
use Rattle.conf_change.proofs.members.set_progress_of.Goals as goal

pub returns-in-Ok-clause-keys : goal.returns-in-Ok-clause-keys
returns-in-Ok-clause-keys c = keys-set c.args.members.now c.args.id c.in-Ok.position c.args.progress c.in-Ok.ensures

pub returns-in-Ok-clause-gets : goal.returns-in-Ok-clause-gets
returns-in-Ok-clause-gets c = λ had q. get-set c.args.members.now c.args.id c.in-Ok.position c.args.progress c.requires c.in-Ok.ensures q

pub returns-in_default-clause-gets : goal.returns-in_default-clause-gets
returns-in_default-clause-gets c = λ had q.
    absurd (false≢true (ap is_some (get-missing c.args.members.now c.args.id c.in_default.field-0 c.in_default.ensures) ∙ had))
