use Rattle.std.proofs.Common.{sym, ap, subst, ◌∙◌}
use Rattle.std.specs.FinMap as finite
use Rattle.conf_change.specs.ChangerState.{ChangerState}
use Rattle.conf_change.specs.Changer.{TrackerState, IsSound}
use Rattle.conf_change.proofs.MemberProgress.Acknowledged.{ack-is_sound}
use Rattle.conf_change.proofs.changer.Changer.ack.Goals as goal

pub invariant_of-self : goal.invariant_of-self
invariant_of-self g c =
    let P : TrackerState → Type 0 = IsSound in
    let known = c.in_ok-progress.ensures.acknowledged in
    subst P (sym c.set_progress.ensures)
    (ack-is_sound c.self.inside.tracker c.args.id c.args.index known.0 c.in_ok-progress.progress c.self.invariant
    (ap (λ (s : ChangerState). finite.get s.tracker.progress c.args.id) c.self.view_is ∙ known.1) known.2)

pub returns-clause-sound : goal.returns-clause-sound
returns-clause-sound g c = invariant_of-self g c
