use Rattle.std.proofs.Common.{take}
use Rattle.conf_change.specs.Edits.{AreEdits}
use Rattle.conf_change.proofs.edit_list.add_each.Given as goal

abbrev pub invariant-loop-change : goal.invariant-loop-change
invariant-loop-change g l = AreEdits (take l.change-index l.changes) (g.S.MemberSet.ids l.outgoing) l.edits.items
