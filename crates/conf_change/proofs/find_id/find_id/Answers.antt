use Rattle.std.proofs.Common.{sym, ◌∙◌, arith}
use Rattle.quorum_sets.proofs.Offered.{slice_get-not_past}
use Rattle.conf_change.proofs.SetWalks.FindId.{find-here, find-later}
use Rattle.conf_change.proofs.find_id.find_id.Goals as goal
use Rattle.conf_change.proofs.find_id.find_id.Goals.{in-Some+else-test, in_default}

pub returns-then-test : goal.returns-then-test
returns-then-test g c = grind (arith, find-here, c.loop-position.invariant, c.in-Some.ensures, c.test.ensures, c.if-test.true)

pub loop-position-preserved : goal.loop-position-preserved
loop-position-preserved g c = elim c.match-at.branch [
  | in-Some+else-test w ↦ λ passes answers.
      c.loop-position.invariant passes answers ∙ find-later passes _ c.loop-position.position w.in-Some.id (sym w.in-Some.ensures) (sym (answers _ _ w.test.ensures) ∙ w.if-test.false)
  | in_default w ↦ slice_get-not_past _ _ _ (sym w.in_default.is ∙ c.at.ensures) c.len-position-end.ensures c.loop-position-test.true
]
