use Rattle.std.proofs.Common.{◌≡◌, refl, sym, ap, subst, ◌∙◌}
use Rattle.std.specs.Prelude.{Ok}
use Rattle.std.specs.Ordering.{nat_cmp}
use Rattle.std.specs.FinMap as finite
use Rattle.quorum_sets.specs.Ids.{has}
use Rattle.quorum_sets.specs.Edits.{edited}
use Rattle.conf_change.specs.Configuration.{is_member}
use Rattle.conf_change.specs.Edits.{entry_after}
use Rattle.conf_change.specs.Outcome.{outcome}
use Rattle.conf_change.specs.TrackerEdits.{Moves, progress_kept}
use Rattle.conf_change.specs.TrackerState.{TrackerState}
use Rattle.conf_change.specs.Transition.{step_of}
use Rattle.conf_change.specs.Changer.{IsSound, tracker_of}
use Rattle.conf_change.specs.declared.step.StepKind.{StepKind}
use Rattle.conf_change.proofs.Steps.Moved.{Moves-changed, Moves-leave}
use Rattle.conf_change.proofs.tracker.Tracker.become_next.Goals as goal
use Rattle.conf_change.proofs.tracker.Tracker.become_next.Goals.{in-Leave+in_ok-keep_members-in-Leave, in-Simple+in_ok-edit_members-in-Simple}

pub returns-clause-accepted : goal.returns-clause-accepted
returns-clause-accepted g c =
    let next = c.args.next_index in
    let changes = c.args.changes.now in
    let config = c.become_next.new.next in
    let old = c.before-2.inside in
    let before : TrackerState = tracker_of old.floor old.config (finite.from_entries old.members.items) in
    let Sound : TrackerState → Type 0 = IsSound in
    let sound = subst Sound (sym c.before-2.view_is) c.requires in
    let From : TrackerState → Type 0 = λ b. Moves next (step_of c.args.kind changes) b c.match-kind.self in
    let To : TrackerState → Type 0 = Moves next (step_of c.args.kind changes) before in
    subst From c.before-2.view_is (elim c.match-kind.branch [
      | in-Leave+in_ok-keep_members-in-Leave w ↦ (
          let after : TrackerState = tracker_of old.floor config (finite.from_entries w.keep_members.new.members.items) in
          let Accepted : StepKind → Type 0 = λ kind. outcome old.config (step_of kind changes) ≡ Ok config in
          let MovesBy : StepKind → Type 0 = λ kind. Moves next (step_of kind changes) before after in
          subst To (sym w.self-is) (subst MovesBy (sym w.in-Leave.is) (Moves-leave next before after sound (subst Accepted w.in-Leave.is c.in_ok-become_next.ensures.accepted) refl
          (λ q. w.in_ok-keep_members-in-Leave.ensures.kept q
          ∙ ap (λ es. progress_kept (is_member config q) (has config.learners q) (finite.get (finite.from_entries {R = nat_cmp} es) q)) c.as_slice-others.ensures))))
      | in-Simple+in_ok-edit_members-in-Simple w ↦ (
          let after : TrackerState = tracker_of old.floor config (finite.from_entries w.edit_members.new.members.items) in
          subst To (sym w.self-is) (Moves-changed next before after c.args.kind changes c.become_next.new.edits.items w.in-Simple.is sound c.in_ok-become_next.ensures.accepted c.in_ok-become_next.ensures.edits refl
          (λ q. w.in_ok-edit_members-in-Simple.ensures.edited q
          ∙ (λ i. edited (λ e. entry_after e next) (w.as_slice.ensures i) q (finite.get (finite.from_entries {R = nat_cmp} (c.as_slice-others.ensures i)) q)))))
    ])
