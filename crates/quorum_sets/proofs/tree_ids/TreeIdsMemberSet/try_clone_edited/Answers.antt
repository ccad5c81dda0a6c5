use Rattle.std.proofs.Common.{sym, ◌∙◌}
use Rattle.quorum_sets.proofs.KeptSets.Merged.{has-one_in, has-one_out}
use Rattle.quorum_sets.proofs.tree_ids.TreeIdsMemberSet.try_clone_edited.Goals as goal
use Rattle.quorum_sets.proofs.tree_ids.TreeIdsMemberSet.try_clone_edited.Goals.{then-is_in+in_ok-insert, else-is_in}

pub loop-id-preserved : goal.loop-id-preserved
loop-id-preserved g c =
    elim c.if-is_in.branch [
      | then-is_in+in_ok-insert w ↦
          has-one_in (λ e. g.E.IdEdit.is_in e c.args.set.now) c.args.other.now c.loop-id.self c.if-is_in.self c.args.edits.now c.loop-id.id-index _ c.requires c.loop-id-test.true c.loop-id-item.is c.loop-id.invariant
          (sym c.is_in.ensures ∙ w.if-is_in.true) (w.self-is ∙ w.in_ok-insert.ensures.ok)
      | else-is_in w ↦
          has-one_out (λ e. g.E.IdEdit.is_in e c.args.set.now) c.args.other.now c.loop-id.self c.if-is_in.self c.args.edits.now c.loop-id.id-index _ c.requires c.loop-id-test.true c.loop-id-item.is c.loop-id.invariant
          (sym c.is_in.ensures ∙ w.if-is_in.false) (w.self-is ∙ w.remove.ensures.after)
    ]
