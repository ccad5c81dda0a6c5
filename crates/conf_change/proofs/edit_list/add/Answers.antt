use Rattle.std.proofs.Common.{rules, ℕ, List, cond, set, ◌==◌, ap, sym, subst, ◌∙◌, arith}
use Rattle.std.proofs.lemmas.Grind.{common_steps}
use Rattle.std.specs.Prelude.{Some, None}
use Rattle.std.specs.Ordering.{nat_cmp}
use Rattle.std.specs.FinMap.{find}
use Rattle.std.specs.List.{insert}
use Rattle.smallvec.proofs.SmallVecLemmas.{items-with_items}
use Rattle.quorum_sets.specs.AscendingLists.{IsAtPosition, IsInsertionPoint}
use Rattle.conf_change.specs.Edits.{Adds, with_change}
use Rattle.conf_change.specs.declared.edit_list.Edit.{Edit}
use Rattle.conf_change.proofs.MemberProgress.Entries.{keys, keys-set, ascends-put, find-set, find-standing, find-missing, find-insert}
use Rattle.conf_change.proofs.edit_list.add.Goals as goal

abbrev EditList : Type 0
EditList = List (ℕ × Edit)

pub returns-in-Ok-clause-ascends : goal.returns-in-Ok-clause-ascends
returns-in-Ok-clause-ascends c = grind (arith, common_steps, keys, items-with_items, set, keys-set, c.as_slice.ensures, c.in-Ok.ensures, c.as_mut_slice.ensures.value, c.requires)

pub returns-in-Ok-clause-added : goal.returns-in-Ok-clause-added
returns-in-Ok-clause-added c =
    let es = c.args.edits.now.items in
    let x = c.args.change in
    let At : EditList → Type 0 = λ list. IsAtPosition (keys list) x.id c.in-Ok.position in
    let at = subst At c.as_slice.ensures c.in-Ok.ensures in
    rw (items-with_items c.args.edits.now (set c.as_mut_slice.result.now c.in-Ok.position (x.id, c.and.result)) (search rules), c.as_mut_slice.ensures.value)
    (λ q. find-set es x.id c.in-Ok.position c.and.result c.requires at q
    ∙ ap (λ e. cond (q == x.id) (Some e) (find nat_cmp q es)) (rw c.as_slice-in-Ok.ensures at c.and.ensures)
    ∙ ap (λ o. cond (q == x.id) (Some (with_change o x.kind c.args.outgoing)) (find nat_cmp q es)) (sym (find-standing es x.id c.in-Ok.position _ c.requires at)))

pub returns-in_ok-insert-in-Err-clause-ascends : goal.returns-in_ok-insert-in-Err-clause-ascends
returns-in_ok-insert-in-Err-clause-ascends c = grind (arith, keys, ascends-put, c.in_ok-insert-in-Err.ensures.ok, c.requires, c.as_slice.ensures, c.in-Err.ensures)

pub returns-in_ok-insert-in-Err-clause-added : goal.returns-in_ok-insert-in-Err-clause-added
returns-in_ok-insert-in-Err-clause-added c =
    let items = c.args.edits.now.items in
    let x = c.args.change in
    let G : EditList → Type 0 = λ es. IsInsertionPoint (keys es) x.id c.in-Err.position in
    let goes = subst G c.as_slice.ensures c.in-Err.ensures in
    let P : EditList → Type 0 = Adds x c.args.outgoing items in
    subst P (sym (c.in_ok-insert-in-Err.ensures.ok ∙ ap (λ e. insert items c.in-Err.position (x.id, e)) c.new-edit.ensures))
    (λ q. find-insert items x.id c.in-Err.position (with_change None x.kind c.args.outgoing) goes q
    ∙ ap (λ o. cond (q == x.id) (Some (with_change o x.kind c.args.outgoing)) (find nat_cmp q items)) (find-missing items x.id c.in-Err.position goes))
