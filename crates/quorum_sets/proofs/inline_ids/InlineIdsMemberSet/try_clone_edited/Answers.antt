use Rattle.std.proofs.Common.{ap, ◌∙◌, arith}
use Rattle.std.proofs.lemmas.List.{map-id}
use Rattle.std.proofs.lemmas.Result.{on_ok_weaker}
use Rattle.quorum_sets.specs.Ids.{has, ids_of}
use Rattle.quorum_sets.specs.Edits.{edited}
use Rattle.quorum_sets.proofs.KeptSets.Merged.{IsEditedList, has-edited_list}
use Rattle.quorum_sets.proofs.inline_ids.InlineIdsMemberSet.try_clone_edited.Goals as goal

pub invariant_of-self : goal.invariant_of-self
invariant_of-self g c = grind (arith, map-id, c.merge.ensures.ascends, c.self.invariant.room, c.merge.ensures.capacity)

pub returns : goal.returns
returns g c =
    on_ok_weaker c.merge.result (λ (merged : IsEditedList (λ e. g.E.IdEdit.is_in e c.args.set.now) c.as_slice.result.now c.merge.new.items.items c.args.edits.now) id.
    has-edited_list (λ e. g.E.IdEdit.is_in e c.args.set.now) c.as_slice.result.now c.merge.new.items.items c.args.edits.now id (merged id)
    ∙ ap (λ s. edited (λ e _. g.E.IdEdit.is_in e c.args.set.now) c.args.edits.now id (has s id)) (ap ids_of c.as_slice.ensures ∙ c.other.view_is)) c.merge.ensures.merged
