use Rattle.std.proofs.Common.{◌≡◌, false, get_or, refl, sym, ap, ◌∙◌}
use Rattle.quorum_sets.specs.Ids.{has}
use Rattle.quorum_sets.proofs.Offered.{has-with_id}
use Rattle.conf_change.specs.Change.{is_removal}
use Rattle.conf_change.specs.declared.change.Kind.{Kind}
use Rattle.conf_change.specs.declared.change.Kind.TheVariants.{Voter, Learner, Remove, Update}
use Rattle.conf_plan.proofs.OnTheWay.CatchingUp.{RemovedSoFar-more}
use Rattle.conf_plan.proofs.catching.add_removed.Goals as goal
use Rattle.conf_plan.proofs.catching.add_removed.Goals.{in-Remove, in_default, then-matches+in_ok-insert, else-matches}

-- a change of another kind
removes_none : (kind : Kind) → (kind ≡ Remove → ⊥) → is_removal kind ≡ false
removes_none Voter other = refl
removes_none Learner other = refl
removes_none Remove other = absurd (other refl)
removes_none Update other = refl

pub loop-change-preserved : goal.loop-change-preserved
loop-change-preserved g c =
    let now = c.loop-change in
    let so_far = g.S.MemberSet.ids now.removed in
    let after = g.S.MemberSet.ids c.if-matches.removed in
    let is : is_removal (get_or c.args.changes.now now.change-index (record { kind = Voter; id = 0 })).kind ≡ c.match-matches.matches = elim c.match-matches.branch [
      | in-Remove w ↦ ap is_removal w.in-Remove.is ∙ sym w.matches-is
      | in_default w ↦ removes_none _ w.in_default.not-Remove ∙ sym w.matches-is
    ] in
    elim c.if-matches.branch [
      | then-matches+in_ok-insert w ↦
          RemovedSoFar-more _ so_far after c.args.changes.now now.change-index _ _ c.loop-change-test.true (is ∙ w.if-matches.true)
          (λ id. ap (λ s. has (g.S.MemberSet.ids s) id) w.removed-is ∙ ap (λ s. has s id) w.in_ok-insert.ensures.ok ∙ has-with_id so_far _ id) now.invariant
      | else-matches w ↦
          RemovedSoFar-more _ so_far after c.args.changes.now now.change-index _ _ c.loop-change-test.true (is ∙ w.if-matches.false)
          (λ id. ap (λ s. has (g.S.MemberSet.ids s) id) w.removed-is) now.invariant
    ]
