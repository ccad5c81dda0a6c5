use Rattle.std.proofs.Common.{◌≡◌, ℕ, take}
use Rattle.quorum_sets.specs.Ids.{has}
use Rattle.quorum_sets.specs.Edits.{edited}
use Rattle.quorum_sets.proofs.tree_ids.TreeIdsMemberSet.try_clone_edited.Given as goal

abbrev pub invariant-loop-id : goal.invariant-loop-id
invariant-loop-id g l = (q : ℕ) → has l.self q ≡ edited (λ e _. g.E.IdEdit.is_in e l.set) (take l.id-index l.edits) q (has l.other q)
