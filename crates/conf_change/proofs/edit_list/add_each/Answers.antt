use Rattle.std.proofs.Common.{ℕ, List, [], ◌+◌, ap, sym, subst, ◌∙◌, take, take_all}
use Rattle.conf_change.specs.Edits.{AreEdits}
use Rattle.conf_change.specs.declared.change.Change.{Change}
use Rattle.conf_change.specs.declared.edit_list.Edit.{Edit}
use Rattle.conf_change.proofs.ListsOfChanges.EditOfEach.{AreEdits-none, AreEdits-added, AreEdits-passed}
use Rattle.conf_change.proofs.edit_list.add_each.Goals as goal
use Rattle.conf_change.proofs.edit_list.add_each.Goals.{then-is_effective+in_ok-add, else-is_effective}

pub loop-change-init : goal.loop-change-init
loop-change-init g c =
    let P : List (ℕ × Edit) → Type 0 = AreEdits [] (g.S.MemberSet.ids c.args.outgoing.now) in
    subst P (sym c.requires) (AreEdits-none (g.S.MemberSet.ids c.args.outgoing.now))

pub loop-change-preserved : goal.loop-change-preserved
loop-change-preserved g c =
    let out = g.S.MemberSet.ids c.args.outgoing.now in
    let P : List (ℕ × Edit) → Type 0 = AreEdits (take (c.loop-change.change-index + 1) c.args.changes.now) out in
    elim c.if-is_effective.branch [
      | then-is_effective+in_ok-add w ↦
          subst P (sym (ap (λ v. v.items) w.edits-is))
          (AreEdits-added c.args.changes.now c.loop-change.change-index _ out w.contains_from-is_outgoing.result c.loop-change.edits.items w.add.new.edits.items c.loop-change-test.true
          (sym c.is_effective.ensures ∙ w.if-is_effective.true) w.contains_from-is_outgoing.ensures c.loop-change.invariant w.in_ok-add.ensures.ascends w.in_ok-add.ensures.added)
      | else-is_effective w ↦
          subst P (sym (ap (λ v. v.items) w.edits-is))
          (AreEdits-passed c.args.changes.now c.loop-change.change-index _ out c.loop-change.edits.items c.loop-change-test.true (sym c.is_effective.ensures ∙ w.if-is_effective.false) c.loop-change.invariant)
    ]

pub returns : goal.returns
returns g c =
    let P : List Change → Type 0 = λ xs. AreEdits xs (g.S.MemberSet.ids c.args.outgoing.now) c.loop-change.edits.items in
    subst P (take_all _ c.args.changes.now c.loop-change-test.false) c.loop-change.invariant
