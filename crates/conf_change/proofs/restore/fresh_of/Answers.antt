use Rattle.std.proofs.Common.{ℕ, [], ◌∷◌, ◌++◌, map, sym, ap, ◌∙◌}
use Rattle.std.proofs.lemmas.List.{map-append}
use Rattle.quorum_sets.specs.Ids.{has}
use Rattle.quorum_sets.proofs.Offered.{slice_get-not_past, take-one_more}
use Rattle.conf_change.specs.Progress.{fresh_progress, with_mark}
use Rattle.conf_change.specs.declared.progress.Progress.{Progress}
use Rattle.conf_change.proofs.restore.fresh_of.Goals as goal
use Rattle.conf_change.proofs.restore.fresh_of.Goals.{in-Some+in_ok-push, in_default}

pub loop-position-preserved : goal.loop-position-preserved
loop-position-preserved g c = elim c.match-at.branch [
  | in-Some+in_ok-push w ↦
      let entry : ℕ → ℕ × Progress = λ id. (id, fresh_progress c.args.next_index (has (g.S.MemberSet.ids c.args.learners.now) id)) in
      ap (λ members. members.items) w.members-is ∙ w.in_ok-push.ensures.ok
      ∙ (λ i. c.loop-position.invariant i ++ (w.in-Some.id, with_mark (w.contains_from-learner.ensures i) (c.fresh-fresh.ensures i)) ∷ [])
      ∙ sym (ap (map entry) (take-one_more _ c.loop-position.position w.in-Some.id (sym w.in-Some.ensures)) ∙ map-append entry _ (w.in-Some.id ∷ []))
  | in_default w ↦ slice_get-not_past _ _ _ (sym w.in_default.is ∙ c.at.ensures) c.len-position-end.ensures c.loop-position-test.true
]
