use Rattle.std.proofs.Common.{ap, sym, subst, ◌∙◌, ◌++◌, map, arith}
use Rattle.std.proofs.lemmas.List.{append-nil}
use Rattle.std.specs.Option.{option_to_list}
use Rattle.quorum_sets.specs.AscendingLists.{IsAscending}
use Rattle.quorum_sets.proofs.KeptSets.Merged.{ascends-so_far, ascends-merged, ascends-filter, item_of-merged, merged-copied, merged-pushed, merged-end, rises-from_ascending}
use Rattle.quorum_sets.proofs.merging.merge.Goals as goal
use Rattle.quorum_sets.proofs.merging.merge.Goals.{in-Some+in_ok-push, in_default}

pub returns-in_err-append-clause-ascends : goal.returns-in_err-append-clause-ascends
returns-in_err-append-clause-ascends g c =
    ascends-so_far g.T.Item.key (λ e. g.E.ItemEdit.item_after e c.args.context.now) (λ e. g.met.E.ItemEdit.has_id e c.args.context.now) c.args.others.now c.args.edits.now c.requires.others c.requires.edits
    _ _ _ c.loop-id.invariant.all c.in_err-append.ensures.err

pub returns-in_err-push-clause-ascends : goal.returns-in_err-push-clause-ascends
returns-in_err-push-clause-ascends g c =
    ascends-so_far g.T.Item.key (λ e. g.E.ItemEdit.item_after e c.args.context.now) (λ e. g.met.E.ItemEdit.has_id e c.args.context.now) c.args.others.now c.args.edits.now c.requires.others c.requires.edits
    _ _ _
    (merged-copied g.T.Item.key (λ e. g.E.ItemEdit.item_after e c.args.context.now) _ _ _ _ _ c.append.new.items.items c.args.edits.now c.loop-id.id-index _ _ _
    c.loop-id-test.true c.loop-id-item.is c.cut-item.ensures.below c.cut-item.ensures.item c.cut-item.ensures.above c.item_after.ensures c.loop-id.invariant.all c.in_ok-append.ensures.ok)
    (ap (λ v. v.items) c.in_err-push.ensures.err)

pub loop-id-preserved : goal.loop-id-preserved
loop-id-preserved g c =
    let ascends = ascends-filter g.T.Item.key _ c.loop-id.rest.now c.cut-item.result.2.now c.loop-id.invariant.rest_ascends c.cut-item.ensures.above in
    let copied =
    merged-copied g.T.Item.key (λ e. g.E.ItemEdit.item_after e c.args.context.now) _ _ _ _ _ c.append.new.items.items c.args.edits.now c.loop-id.id-index _ _ _
    c.loop-id-test.true c.loop-id-item.is c.cut-item.ensures.below c.cut-item.ensures.item c.cut-item.ensures.above c.item_after.ensures c.loop-id.invariant.all c.in_ok-append.ensures.ok in
    let a = c.append.ensures.capacity in
    let h = c.loop-id.invariant.capacity in
    elim c.match-item_after.branch [
      | in-Some+in_ok-push w ↦ record {
        capacity = (let is = ap (λ v. v.capacity) w.items-is in let b = w.push.ensures.capacity in omega arith);
        rest_ascends = ascends;
        all =
            merged-pushed g.T.Item.key (λ e. g.E.ItemEdit.item_after e c.args.context.now) c.cut-item.result.2.now c.append.new.items.items _ _ _ _ copied
            (ap (λ v. v.items) w.items-is ∙ w.in_ok-push.ensures.ok ∙ ap (λ o. c.append.new.items.items ++ option_to_list o) (sym w.in-Some.is));
      }
      | in_default w ↦ record {
        capacity = (let is = ap (λ v. v.capacity) w.items-is in omega arith);
        rest_ascends = ascends;
        all =
            merged-pushed g.T.Item.key (λ e. g.E.ItemEdit.item_after e c.args.context.now) c.cut-item.result.2.now c.append.new.items.items _ _ _ _ copied
            (ap (λ v. v.items) w.items-is ∙ sym (append-nil c.append.new.items.items) ∙ ap (λ o. c.append.new.items.items ++ option_to_list o) (sym w.in_default.is));
      }
    ]

pub returns-in_err-append-2-clause-ascends : goal.returns-in_err-append-2-clause-ascends
returns-in_err-append-2-clause-ascends g c =
    ascends-so_far g.T.Item.key (λ e. g.E.ItemEdit.item_after e c.args.context.now) (λ e. g.met.E.ItemEdit.has_id e c.args.context.now) c.args.others.now c.args.edits.now c.requires.others c.requires.edits
    _ _ _ c.loop-id.invariant.all c.in_err-append-2.ensures.err

pub returns-clause-ascends : goal.returns-clause-ascends
returns-clause-ascends g c =
    let all = merged-end g.T.Item.key (λ e. g.E.ItemEdit.item_after e c.args.context.now) _ _ _ c.append-2.new.items.items c.args.edits.now c.loop-id.id-index c.loop-id-test.false c.loop-id.invariant.all c.in_ok-append-2.ensures.ok in
    subst (λ xs. IsAscending (map g.T.Item.key xs)) (sym all)
    (ascends-merged g.T.Item.key (λ e. g.E.ItemEdit.item_after e c.args.context.now) (λ e. g.met.E.ItemEdit.has_id e c.args.context.now) c.args.others.now c.args.edits.now c.requires.others c.requires.edits)

pub returns-clause-merged : goal.returns-clause-merged
returns-clause-merged g c = grind (arith, merged-end, item_of-merged, rises-from_ascending, c.loop-id-test.false, c.loop-id.invariant.all, c.in_ok-append-2.ensures.ok, c.requires.edits)
