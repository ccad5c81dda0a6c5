use Rattle.std.proofs.Common.{ℕ, ap, subst, ◌∙◌}
use Rattle.std.specs.Prelude.{Ok}
use Rattle.conf_change.specs.Floor.{fresh_next}
use Rattle.conf_change.specs.TrackerEdits.{Moves}
use Rattle.conf_change.specs.Transition.{step_of}
use Rattle.conf_change.specs.Changer.{ChangerState, GivesNext, changer_of}
use Rattle.conf_change.proofs.Steps.OwedByCalls.{GivesNext-moved}
use Rattle.conf_change.proofs.changer.Changer.become_next.Goals as goal

pub returns-in-Ok-clause-next : goal.returns-in-Ok-clause-next
returns-in-Ok-clause-next g c =
    let old = c.before-2.inside in
    let before : ChangerState = changer_of old.tracker old.last_index in
    let step = step_of c.args.kind c.args.changes.now in
    let after = c.become_next.new.self in
    let By : ℕ → Type 0 = λ next. Moves next step old.tracker after in
    let Gives : ChangerState → Type 0 = λ b. GivesNext b step (Ok (changer_of after old.last_index)) in
    subst Gives c.before-2.view_is
    (GivesNext-moved before step after c.before-2.invariant (subst By (c.fresh_next-next_index.ensures ∙ ap (λ floor. fresh_next floor old.last_index) c.floor.ensures) c.in-Ok.ensures.accepted))

pub invariant_of-self : goal.invariant_of-self
invariant_of-self g c = (returns-in-Ok-clause-next g c).sound_after

pub returns-in-Ok-clause-sound : goal.returns-in-Ok-clause-sound
returns-in-Ok-clause-sound g c = (returns-in-Ok-clause-next g c).sound_after
