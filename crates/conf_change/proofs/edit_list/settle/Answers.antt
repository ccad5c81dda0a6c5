use Rattle.std.proofs.Common.{rules, ◌≡◌, List, sym, subst, ◌∙◌}
use Rattle.std.specs.Ordering.{nat_cmp}
use Rattle.std.specs.List.Sorted.{IsStableByKey}
use Rattle.std.proofs.lemmas.List.Sorted.{answers_always}
use Rattle.std.proofs.lemmas.Result.{on_ok_weaker}
use Rattle.smallvec.proofs.SmallVecLemmas.{items-with_items}
use Rattle.conf_change.specs.declared.change.Change.{Change}
use Rattle.conf_change.proofs.ListsOfChanges.EditOfEach.{AreEdits-sorted}
use Rattle.conf_change.proofs.edit_list.settle.Goals as goal

pub returns : goal.returns
returns g c =
    let changes = c.args.changes.now in
    let copied : c.as_mut_slice.result.now ≡ changes = c.as_mut_slice.ensures.value ∙ c.in_ok-sorted.ensures.ok in
    let sorted : c.as_slice.result.now ≡ c.sort_by_key.new.self = c.as_slice.ensures ∙ items-with_items c.in_ok-sorted.sorted c.sort_by_key.new.self (search rules) in
    let stable = c.sort_by_key.ensures.stable (λ x. x.id) (answers_always _ _ _ (λ f a r next called. search rules)) in
    let From : List Change → Type 0 = λ xs. IsStableByKey (λ x. x.id) nat_cmp xs c.sort_by_key.new.self in
    let To : List Change → Type 0 = IsStableByKey (λ x. x.id) nat_cmp changes in
    on_ok_weaker c.add_each-2.result (AreEdits-sorted changes c.as_slice.result.now (g.S.MemberSet.ids c.args.outgoing.now) c.add_each-2.new.edits.items (subst To (sym sorted) (subst From copied stable))) c.add_each-2.ensures
