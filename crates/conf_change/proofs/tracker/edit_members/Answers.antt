use Rattle.std.proofs.Common.{arith}
use Rattle.conf_change.proofs.ListsOfChanges.EditedTracker.{get-edited}
use Rattle.std.proofs.lemmas.Result.{on_ok_weaker}
use Rattle.conf_change.proofs.tracker.edit_members.Goals as goal

pub returns-clause-edited : goal.returns-clause-edited
returns-clause-edited c = grind (arith, on_ok_weaker, get-edited)
